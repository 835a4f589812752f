use Rattle.std.proofs.Common.{List, sym, ap, ◌∙◌, subst}
use Rattle.std.proofs.Common.{◌≡◌}
use mathlib.Core.Option.{some-injective}
use Rattle.ho_model.specs.Histories.{StandsFor}
use Rattle.passes.specs.Views.{IsWhole}
use Rattle.turn_lock.specs.declared.view.View.{View}
use Rattle.turn_lock.specs.declared.view.Turn.TheVariants.{Idle}
use Rattle.turn_lock.specs.Passes.{LockPass, pass_view, the_view}
use Rattle.turn_lock.specs.Calls.{MetTicketsOut}
use Rattle.turn_lock.proofs.Ends.{ends, met_out}
use Rattle.turn_lock.proofs.shared.Shared.close.Goals as goal

pub returns-clause-stands : goal.returns-clause-stands
returns-clause-stands g c =
    let m = g.M.Stepper in
    let stands = StandsFor m.priority m.object m.callers m.state m.steps m.tally in
    let f = c.close_with-closed.ensures.values.2 in
    let v = c.into_seat.result.me.0 in
    let one = c.into_seat.ensures.2 in
    let table = c.pass.inside.badge.table_id in
    let is : c.args.pass ≡ pass_view table v = sym c.pass.view_is ∙ ap (λ (l : List View). pass_view table (the_view l)) one in
    let e = ends m.priority stands _ _ f.0 f.1.0 c.into_seat.result.id v f.1.1 (subst (λ (l : List View). (the_view l).turn ≡ Idle) one c.pass.invariant.idle) (subst IsWhole is c.requires.whole) in
    let same : e.0 ≡ c.take-machine.result = some-injective e.0 c.take-machine.result (sym (f.4 0 e.0 e.1) ∙ c.take-machine.ensures.value) in
    subst (λ (w : LockPass). stands w.object w.callers c.take-machine.result w.seen) (sym is) (subst (λ x. stands v.object v.callers x v.seen) same e.2)

pub returns-clause-obstacles : goal.returns-clause-obstacles
returns-clause-obstacles g c =
    let m = g.M.Stepper in let f = c.close_with-closed.ensures.values.2 in let v = c.into_seat.result.me.0 in
    let is : c.args.pass ≡ pass_view c.pass.inside.badge.table_id v = sym c.pass.view_is ∙ ap (λ (l : List View). pass_view c.pass.inside.badge.table_id (the_view l)) c.into_seat.ensures.2 in
    subst MetTicketsOut (sym is) (met_out m.priority (StandsFor m.priority m.object m.callers m.state m.steps m.tally) _ _ f.0 f.1.0 c.into_seat.result.id v f.1.1 (subst IsWhole is c.requires.whole))
