use Rattle.record_lang.proofs.MarkLemmas.{marks_tell}
use Rattle.record_lang.proofs.laws.marks_tell_records.Goals as goal

pub returns : goal.returns
returns c = marks_tell
