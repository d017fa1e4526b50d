pub mod Writes
pub mod Sums
pub mod Copies
pub mod Tests
pub mod Into
