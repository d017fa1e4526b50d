pub mod BuiltLists
pub mod SortCells
pub mod CellCodes
pub mod SortAdding
