use Rattle.std.proofs.Common.{sym, ap, ◌∙◌, ◌∷◌, []}
use Rattle.atomic_table.specs.declared.badge.Badge.{Badge}
use Rattle.turn_lock.specs.declared.view.View.{View}
use Rattle.turn_lock.proofs.Halves.{joined_pass}
use Rattle.turn_lock.proofs.shared.Shared.join.Goals as goal

pub invariant_of-pass : goal.invariant_of-pass
invariant_of-pass g c =
    joined_pass c.pass.inside.badge.views c.other.inside.badge.views c.into_badge.result.views c.into_seat-seat.result.me.0 c.into_seat.result.me.0
    c.pass.inside.numbers c.other.inside.numbers c.take_in-2.new.self c.pass.invariant c.other.invariant
    (ap (λ (b : Badge View). b.views) (sym c.replace.ensures.value) ∙ c.into_seat-seat.ensures.2) c.into_seat.ensures.2
    (c.into_badge.ensures.2 ∙ ap (λ m. m.0 ∷ []) c.take_in.ensures.same.1) c.take_in-2.ensures
