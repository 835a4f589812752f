pub mod Views
pub mod Rule
pub mod Plays
pub mod Seats
pub mod Turns
pub mod Passes
pub mod Attempts
pub mod Calls
-- what the clauses of the public calls cite from below
pub use Rattle.ho_base.specs.Marks
pub use Rattle.ho_model.specs.Entries
pub use Rattle.ho_model.specs.Histories
pub use Rattle.passes.specs.Numbers
pub use Rattle.passes.specs.Seen
pub use Rattle.passes.specs.Views as PassViews
pub use Rattle.passes.specs.Calls as PassCalls
