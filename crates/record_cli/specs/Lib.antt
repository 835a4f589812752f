pub mod Statuses
pub mod Commands
pub mod Reading
pub mod Answers
pub mod Inputs
pub mod Check
pub mod Tasks
pub mod Leaves
-- what the clauses of the top calls cite from below
pub use Rattle.ho_io.specs.Counts
pub use Rattle.ho_io.specs.Whole
pub use Rattle.drive_kit.specs.Checks
pub use Rattle.drive_kit.specs.Driving
pub use Rattle.drive_kit.specs.Histories
pub use Rattle.stage_pipeline.specs.Made
pub use Rattle.stage_pipeline.specs.Runs
