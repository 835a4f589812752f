use Rattle.std.proofs.Common.{rules, ap, ◌∙◌}
use Rattle.cancel_flag.specs.declared.rule.View.{View}
use Rattle.cancel_flag.proofs.Steps.{rule_after_look_back}
use Rattle.cancel_flag.proofs.flag.CancelSource.tell.Goals as goal

pub load_as-requires : goal.load_as-requires
load_as-requires g c =
    let owner = ap (λ (v : View). v.is_source) c.join_pass.ensures.1 ∙ c.self.invariant.1 in
    (search rules, (search rules, (search rules, rule_after_look_back _ _ owner)))
