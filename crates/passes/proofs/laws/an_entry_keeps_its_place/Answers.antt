use Rattle.passes.proofs.Places.{receipt_stands, receipt_keeps, begins_others, begins_entry, begins_own}
use Rattle.passes.proofs.laws.an_entry_keeps_its_place.Goals as goal

pub returns-clause-stands : goal.returns-clause-stands
returns-clause-stands c = receipt_stands

pub returns-clause-keeps : goal.returns-clause-keeps
returns-clause-keeps c = receipt_keeps

pub returns-clause-others : goal.returns-clause-others
returns-clause-others c = begins_others

pub returns-clause-entry : goal.returns-clause-entry
returns-clause-entry c = begins_entry

pub returns-clause-own : goal.returns-clause-own
returns-clause-own c = begins_own
