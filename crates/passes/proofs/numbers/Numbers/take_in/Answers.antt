use Rattle.std.proofs.Common.{subst, sym, List, Bool}
use Rattle.passes.specs.Numbers.{HasNumber}
use Rattle.passes.proofs.Flags.{both_left}
use Rattle.passes.proofs.numbers.Numbers.take_in.Goals as goal

pub invariant_of-self : goal.invariant_of-self
invariant_of-self c =
    let own = both_left c.self.inside.held c.other.inside.held c.self.inside.caller c.self.invariant.0 in
    (subst (λ (held : List Bool). HasNumber held c.self.inside.caller) (sym c.merge.ensures.held) own, c.self.invariant.1, c.self.invariant.2)
