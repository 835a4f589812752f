use Rattle.passes.proofs.Calls.{whole_misses, whole_enters}
use Rattle.passes.proofs.laws.a_whole_pass_has_seen_all.Goals as goal

pub returns-clause-refusals : goal.returns-clause-refusals
returns-clause-refusals g c = whole_misses _

pub returns-clause-entries : goal.returns-clause-entries
returns-clause-entries g c = whole_enters _
