pub mod Singles
pub mod Own
pub mod Tries
pub mod Waits
pub mod Several
pub mod SeveralWaits
-- what the clauses of the public calls cite from below
pub use Rattle.ho_base.specs.Marks
pub use Rattle.ho_model.specs.Entries
pub use Rattle.ho_model.specs.declared.marks.CallMark.TheVariants as CallMarks
pub use Rattle.ho_model.specs.declared.marks.ReplyMark.TheVariants as ReplyMarks
pub use Rattle.ho_model.specs.declared.objects.Object.TheVariants as Objects
pub use Rattle.passes.specs.Numbers
pub use Rattle.passes.specs.Views as PassViews
pub use Rattle.passes.specs.Calls as PassCalls
pub use Rattle.turn_lock.specs.Passes as LockPasses
pub use Rattle.turn_lock.specs.Calls as LockCalls
pub use Rattle.blocking_core.specs.Calls
pub use Rattle.blocking_core.specs.Kept
pub use Rattle.cancel_flag.specs.Seen as Tokens
pub use Rattle.cancel_flag.specs.Looks
