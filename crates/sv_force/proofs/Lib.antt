pub mod Storing
pub mod Seeking
