use Rattle.record_lang.proofs.PrintedLemmas.{read_back}
use Rattle.record_lang.proofs.laws.pipelines_are_read_back.Goals as goal

pub returns : goal.returns
returns c = read_back
