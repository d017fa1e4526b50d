pub mod FormLists
