pub mod Lanes
pub mod Shares
