use Rattle.std.proofs.Common.{ℕ, sym, ap, ◌∙◌, ◌∷◌, []}
use Rattle.atomic_table.specs.declared.badge.Badge.{Badge}
use Rattle.turn_lock.specs.declared.view.View.{View}
use Rattle.turn_lock.specs.Views.{alone}
use Rattle.turn_lock.proofs.Halves.{right_pass}
use Rattle.turn_lock.proofs.shared.Shared.split.Goals as goal

pub invariant_of-result : goal.invariant_of-result
invariant_of-result g c =
    right_pass c.pass.inside.badge.views c.into_badge-2.result.views c.into_seat-seat.result.me.0 c.pass.inside.numbers c.split_off-numbers.result c.pass.invariant
    (ap (λ (b : Badge View). b.views) (sym c.replace.ensures.value) ∙ c.into_seat-seat.ensures.2)
    (c.into_badge-2.ensures.2 ∙ (ap (λ m. m.0 ∷ []) c.give-other.ensures.right.1 ∙ ap (λ (number : ℕ). alone c.into_seat-seat.result.me.0 number ∷ []) c.caller-number.ensures.caller)) c.split_off-numbers.ensures.given
