pub mod FormMarks
