pub mod SortNumbering
