use Rattle.record_lang.proofs.FirstRowLemmas.{first_rows}
use Rattle.record_lang.proofs.laws.refused_rows_are_first.Goals as goal

pub returns : goal.returns
returns c = first_rows
