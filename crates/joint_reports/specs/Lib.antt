pub mod Reports
pub mod Through
pub mod Laws
pub mod Rows
-- what the definitions cite from below
pub use Rattle.record_lang.specs.Marks
pub use Rattle.record_lang.specs.Outcomes
pub use Rattle.record_lang.specs.Records
pub use Rattle.record_lang.specs.Texts
