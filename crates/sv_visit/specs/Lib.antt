pub mod Sites
pub mod ExprSites
