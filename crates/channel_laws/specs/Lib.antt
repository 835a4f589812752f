pub mod Twin
pub mod Reached
pub mod Laws
pub mod Kinds
