pub mod Rank
pub mod Stored
