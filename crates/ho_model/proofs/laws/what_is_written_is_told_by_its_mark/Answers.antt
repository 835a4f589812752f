use Rattle.ho_model.proofs.Written.{calls_are_told, replies_are_told, entries_are_told, histories_are_told}
use Rattle.ho_model.proofs.laws.what_is_written_is_told_by_its_mark.Goals as goal

pub returns-clause-calls : goal.returns-clause-calls
returns-clause-calls c = calls_are_told

pub returns-clause-replies : goal.returns-clause-replies
returns-clause-replies c = replies_are_told

pub returns-clause-entries : goal.returns-clause-entries
returns-clause-entries c = entries_are_told

pub returns-clause-histories : goal.returns-clause-histories
returns-clause-histories c = histories_are_told
