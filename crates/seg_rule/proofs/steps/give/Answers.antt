use Rattle.std.proofs.Common.{ℕ, sym, subst, ◌<◌}
use Rattle.passes.specs.Numbers.{IsSpare}
use Rattle.seg_rule.proofs.Handing.{splits}
use Rattle.seg_rule.proofs.Words.{some_words}
use Rattle.seg_rule.proofs.steps.give.Goals as goal

pub split_seat-requires : goal.split_seat-requires
split_seat-requires g c = let b = c.args.board.now in let m = c.args.seat.now in let t = c.requires.table in (
  t.0,
  subst (λ (z : ℕ). 0 < z) (sym t.1) (some_words b.key.places b.key.slots),
  splits b.key m.id m.me.0 c.requires.rest g.N.Numbered.number (subst (λ (z : ℕ). IsSpare m.me.0.held m.me.0.caller z) (sym c.requires.number) c.requires.spare),
)
