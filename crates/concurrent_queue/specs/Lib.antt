pub mod Calls
pub mod Kept
pub mod Passes
pub mod Telling
pub mod Queues
pub mod Segments
pub mod Tries
pub mod Windows
-- what the clauses of the public calls cite from below
pub use Rattle.ho_base.specs.Marks
pub use Rattle.ho_model.specs.Entries
pub use Rattle.ho_model.specs.declared.marks.CallMark.TheVariants as CallMarks
pub use Rattle.ho_model.specs.declared.marks.ReplyMark.TheVariants as ReplyMarks
pub use Rattle.ho_model.specs.declared.objects.Object.TheVariants as Objects
pub use Rattle.ho_model.specs.Tallies
pub use Rattle.ho_model.specs.QueueReceipts
pub use Rattle.passes.specs.Numbers
pub use Rattle.passes.specs.Views as PassViews
pub use Rattle.passes.specs.Calls as PassCalls
pub use Rattle.passes.specs.Repeats
pub use Rattle.queue_tries.specs.Causes
