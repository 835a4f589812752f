pub mod Snapshots
pub mod Observing
