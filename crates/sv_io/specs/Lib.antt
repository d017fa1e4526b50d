pub mod Calls
pub mod Mem
pub mod Moved
pub mod Moves
pub mod Moving
pub mod Streams
