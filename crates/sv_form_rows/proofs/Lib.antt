pub mod RowNumbers
pub mod NormalRows
pub mod KeptForms
pub mod JoinedRows
pub mod Spreading
pub mod Answering
