pub mod Files
pub mod Comings
pub mod Leavings
