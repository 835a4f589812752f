pub mod Stores
pub mod Calls
pub mod Rows
pub mod Kept
pub mod Laws
