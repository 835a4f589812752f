use Rattle.std.proofs.Common.{rules, sym, refl, subst, ◌≡◌, List, Bool}
use Rattle.atomic_table.specs.Table.{Me, Joins}
use Rattle.ho_model.specs.declared.marks.EntryMark.{EntryMark}
use Rattle.ho_model.specs.Histories.{StandsFor}
use Rattle.passes.specs.Holders.{Meet}
use Rattle.passes.specs.Seen.{IsLawful}
use Rattle.turn_lock.specs.declared.view.View.{View}
use Rattle.turn_lock.specs.declared.view.Turn.TheVariants.{Joined}
use Rattle.turn_lock.specs.Rule.{Kept}
use Rattle.turn_lock.specs.Views.{HasTicket, joined, gone}
use Rattle.turn_lock.proofs.Joining.{joins}
use Rattle.turn_lock.proofs.steps.take_in.Goals as goal

pub join_seat-requires : goal.join_seat-requires
join_seat-requires g c = let m = g.M.Stepper in let key = c.args.board.now.key in let v = c.args.seat.now.me.0 in let w = c.args.other.me.0 in (
  search rules,
  search rules,
  search rules,
  search rules,
  subst (λ (z : View). Joins (Kept m.priority (StandsFor m.priority m.object m.callers m.state m.steps m.tally) (m.object key.0.value) key.1) c.args.seat.now.id v c.args.other.id w (joined v w) (gone z)) (sym c.requires.last)
      (joins _ _ _ _ _ _ _ _ c.requires.idle.0 c.requires.idle.1),
)

pub tell-requires-clause-free : goal.tell-requires-clause-free
tell-requires-clause-free g c = let me = c.join_seat.ensures.2 in λ t h. subst (λ (m : Me g.row.M.Denot View). HasTicket m.0.turn t) me h

pub returns-clause-told : goal.returns-clause-told
returns-clause-told g c =
    let v = c.args.seat.now.me.0 in let w = c.args.other.me.0 in let me = c.join_seat.ensures.2 in
    let t = c.tell.ensures in
    let told = subst (λ (m : Me g.row.M.Denot View). ((p q : List EntryMark) (h h' : List Bool) → m.0.turn ≡ Joined p q h h' → Meet h h' p q m.0.seen) × IsLawful g.M.Stepper.priority m.0.object m.0.callers m.0.seen) me (t.joined, t.lawful) in
    (told.0 v.seen w.seen v.held w.held refl, told.1)
