pub mod Answers
pub mod Calls
pub mod Causes
pub mod Checks
pub mod Driving
pub mod Histories
pub mod Numbers
pub mod Objects
pub mod Parts
pub mod Plans
pub mod Playing
pub mod Replies
pub mod Scripts
pub mod TextLaws
-- what the clauses of the public calls cite from below
pub use Rattle.ho_model.specs.Histories as LegalHistories
pub use Rattle.ho_model.specs.Written
pub use Rattle.passes.specs.Views as PassViews
