pub mod Items
pub mod Forms
