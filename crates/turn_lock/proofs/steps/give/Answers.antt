use Rattle.std.proofs.Common.{rules, sym, subst, ℕ}
use Rattle.passes.specs.Numbers.{IsSpare}
use Rattle.turn_lock.proofs.Joining.{splits}
use Rattle.turn_lock.proofs.steps.give.Goals as goal

pub split_seat-requires : goal.split_seat-requires
split_seat-requires g c = let v = c.args.seat.now.me.0 in
    (search rules, search rules, splits _ _ _ _ _ _ _ c.requires.idle (subst (λ (k : ℕ). IsSpare v.held v.caller k) (sym c.requires.number) c.requires.spare))
