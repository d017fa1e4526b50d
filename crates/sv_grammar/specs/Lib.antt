pub mod Grammar
pub mod ListTrees
pub mod Reach
pub mod Named
pub mod Reading
