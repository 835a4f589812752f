use Rattle.passes.proofs.Calls.{whole_adds}
use Rattle.passes.proofs.laws.a_whole_pass_adds_only_its_own.Goals as goal

pub returns : goal.returns
returns g c = whole_adds _
