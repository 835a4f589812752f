pub mod Begun
pub mod Ends
pub mod Open
pub mod Standing
pub mod Waits
-- what the clauses of the public calls cite from below
pub use Rattle.turn_lock.specs.Passes
pub use Rattle.turn_lock.specs.PassCalls
pub use Rattle.turn_lock.specs.Calls as LockCalls
pub use Rattle.channel_core.specs.Kept
pub use Rattle.channel_core.specs.Marks
pub use Rattle.channels.specs.Calls
pub use Rattle.cancel_flag.specs.Seen as Tokens
pub use Rattle.cancel_flag.specs.Looks
pub use Rattle.wait_loop.specs.Own
