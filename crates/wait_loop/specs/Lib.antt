pub mod Standing
pub mod Own
pub mod Loops
-- what the clauses of the public calls cite from below
pub use Rattle.turn_lock.specs.Calls
pub use Rattle.turn_lock.specs.Passes
pub use Rattle.turn_lock.specs.PassCalls
pub use Rattle.cancel_flag.specs.Seen
pub use Rattle.cancel_flag.specs.Looks
