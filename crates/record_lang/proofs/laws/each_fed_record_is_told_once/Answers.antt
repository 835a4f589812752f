use Rattle.record_lang.proofs.AccountLemmas.{each_told_once}
use Rattle.record_lang.proofs.laws.each_fed_record_is_told_once.Goals as goal

pub returns : goal.returns
returns c = each_told_once
