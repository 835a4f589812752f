pub mod Made
pub mod Callers
pub mod Joints
pub mod Works
pub mod Crews
pub mod Seats
pub mod Flows
pub mod Runs
pub mod Starts
pub mod Gathered
pub mod Meetings
pub mod Tellings
pub mod Orders
-- what the laws and clauses cite from below
pub use Rattle.channel_flow.specs.Items
pub use Rattle.channel_flow.specs.Ends
pub use Rattle.passes.specs.Seen
pub use Rattle.passes.specs.Views as PassViews
pub use Rattle.record_lang.specs.Guards
pub use Rattle.record_lang.specs.Marks
pub use Rattle.record_lang.specs.Texts
pub use Rattle.joint_reports.specs.Reports
pub use Rattle.joint_reports.specs.Through
