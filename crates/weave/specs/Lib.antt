pub mod Parts
pub mod Places
pub mod Order
pub mod Queues
pub mod Laws
pub mod Cursors
pub mod Aheads
