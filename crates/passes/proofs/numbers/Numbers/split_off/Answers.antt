use Rattle.std.proofs.Common.{subst, sym, List, Bool}
use Rattle.passes.specs.Numbers.{HasNumber}
use Rattle.passes.proofs.Flags.{only_has}
use Rattle.passes.proofs.numbers.Numbers.split_off.Goals as goal

pub invariant_of-result : goal.invariant_of-result
invariant_of-result c =
    let number = c.least_spare-number.result in let low = c.least_spare-number.ensures.inside in
    (subst (λ (held : List Bool). HasNumber held number) (sym c.only_number.ensures) (only_has number low), low, c.self.invariant.2)
