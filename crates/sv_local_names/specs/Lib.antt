pub mod LocalScopes
pub mod ScopeLaws
