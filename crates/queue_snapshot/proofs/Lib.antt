pub mod Repeating
pub mod Following
