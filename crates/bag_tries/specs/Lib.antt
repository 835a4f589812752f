pub mod Causes
pub mod Seats
pub mod Adds
pub mod Takes
pub mod Snaps
