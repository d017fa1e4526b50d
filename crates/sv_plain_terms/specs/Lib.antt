pub mod PlainFlags
