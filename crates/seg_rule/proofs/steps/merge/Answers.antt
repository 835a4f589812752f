use Rattle.std.proofs.Common.{ℕ, sym, subst, ◌<◌}
use Rattle.atomic_table.specs.Table.{Joins}
use Rattle.seg_rule.specs.declared.view.View.{View}
use Rattle.seg_rule.specs.Rule.{Rule}
use Rattle.seg_rule.specs.Steps.{joined, gone}
use Rattle.seg_rule.proofs.Handing.{joins}
use Rattle.seg_rule.proofs.Words.{some_words}
use Rattle.seg_rule.proofs.steps.merge.Goals as goal

pub join_seat-requires : goal.join_seat-requires
join_seat-requires g c = let b = c.args.board.now in let m = c.args.seat.now in let o = c.args.other in let t = c.requires.table in (
  t.0.0,
  t.1.0,
  c.requires.rest.2,
  subst (λ (z : ℕ). 0 < z) (sym t.0.1) (some_words b.key.places b.key.slots),
  subst (λ (z : View). Joins (Rule b.key) m.id m.me.0 o.id o.me.0 (joined m.me.0 o.me.0) (gone z)) (sym c.requires.last) (joins b.key m.id m.me.0 c.requires.rest.0 o.id o.me.0 c.requires.rest.1),
)
