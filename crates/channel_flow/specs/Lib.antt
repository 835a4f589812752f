pub mod Items
pub mod Ends
pub mod Laws
pub mod Rows
-- what the laws cite from below
pub use Rattle.channel_laws.specs.Reached
