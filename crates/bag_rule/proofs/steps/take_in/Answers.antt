use Rattle.std.proofs.Common.{rules, arith, sym, refl, subst, ◌≡◌}
use Rattle.std.specs.Prelude.{Some}
use Rattle.atomic_table.specs.Table.{Joins}
use Rattle.passes.specs.Holders.{Meet}
use Rattle.bag_rule.specs.declared.view.View.{View}
use Rattle.bag_rule.specs.declared.view.Joint.{Joint}
use Rattle.bag_rule.specs.Rule.{Stands}
use Rattle.bag_rule.specs.Views.{joined, gone}
use Rattle.bag_rule.specs.Plays.{Sits, SeesLaw}
use Rattle.bag_rule.proofs.Joining.{joins}
use Rattle.bag_rule.proofs.steps.take_in.Goals as goal

pub join_seat-requires : goal.join_seat-requires
join_seat-requires g c = let v = c.args.seat.now.me.0 in let w = c.args.other.me.0 in let i = c.requires.idle in (
  search rules,
  search rules,
  search rules,
  search (rules, arith),
  subst (λ (z : View). Joins (Stands g.T.Item.priority_of c.args.board.now.key) c.args.seat.now.id v c.args.other.id w (joined v w) (gone z)) (sym c.requires.last) (joins _ _ _ _ _ _ i.1 i.0 i.2),
)

pub returns-clause-told : goal.returns-clause-told
returns-clause-told g c =
    let v = c.args.seat.now.me.0 in let w = c.args.other.me.0 in let me = c.join_seat.ensures.2 in
    let t = c.tell.ensures in
    let told = subst (λ (m : Sits). ((j : Joint) → m.0.joint ≡ Some j → Meet j.first_held j.second_held j.first j.second m.0.seen) × SeesLaw g.T.Item.priority_of m.0) me (t.joined, t.lawful) in
    (told.0 record { first = v.seen; second = w.seen; first_held = v.held; second_held = w.held } refl, told.1)
