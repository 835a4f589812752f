use Rattle.record_lang.proofs.RefusalLemmas.{refused_first}
use Rattle.record_lang.proofs.laws.refused_lines_are_first.Goals as goal

pub returns : goal.returns
returns c = refused_first
