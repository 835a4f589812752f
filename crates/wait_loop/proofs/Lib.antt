pub mod Counts
pub mod Own
