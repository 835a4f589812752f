pub mod Counts
pub mod Pieces
pub mod Whole
pub mod Memory
pub mod Stored
