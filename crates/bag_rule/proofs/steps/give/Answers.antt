use Rattle.std.proofs.Common.{rules, arith, sym, subst, ℕ}
use Rattle.passes.specs.Numbers.{IsSpare}
use Rattle.bag_rule.proofs.Joining.{splits}
use Rattle.bag_rule.proofs.steps.give.Goals as goal

pub split_seat-requires : goal.split_seat-requires
split_seat-requires g c = let v = c.args.seat.now.me.0 in
    (search rules, search (rules, arith), splits _ _ _ _ _ c.requires.idle.0 c.requires.idle.1 (subst (λ (k : ℕ). IsSpare v.held v.caller k) (sym c.requires.number) c.requires.spare))
