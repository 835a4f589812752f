-- Positions of one slot, and the first of them from a start on.
use Rattle.std.proofs.Common.{◌≡◌, ℕ, ◌+◌, ◌-◌, ◌*◌, ◌/◌, ◌%◌, ◌<◌, ◌≤◌, ⊎_elim, refl, sym, ap, ◌∙◌, arith, mod-lt, div-add-mod'}
use Rattle.std.proofs.Math.Nat.{mul-le-mul_right, add-mod_right}
use Rattle.std.proofs.lemmas.Bool.{cases_lt}
use Rattle.std.proofs.lemmas.Nat.{mod-mul-add}
use Rattle.seg_layout.specs.Numbers.{slot_at, IsOpeningNumber}
use Rattle.seg_layout.specs.Laws.{NearPositionsDiffer, ReleasedServesNext, FirstsAreOne, FirstsAreInside}

pub near_positions : NearPositionsDiffer
near_positions len p q less near same =
    let below = div-add-mod' p len in
    let above = div-add-mod' q len in
    ⊎_elim
    (λ (more : p / len < q / len). absurd (let turn = mul-le-mul_right len more in omega arith))
    (λ (least : q / len ≤ p / len). let turn = mul-le-mul_right len least in omega arith)
    (cases_lt (p / len) (q / len))

-- no position of the slot of p stands strictly between p and the next
between : (len p q : ℕ) → p + 1 ≤ q → slot_at q len ≡ slot_at p len → p + len ≤ q
between len p q after same =
    ⊎_elim
    (λ (near : q < p + len). absurd (let one : p ≡ q = near_positions len p q (omega arith) near (sym same) in omega arith))
    (λ (far : p + len ≤ q). far)
    (cases_lt q (p + len))

pub released_serves_next : ReleasedServesNext
released_serves_next len p some = (omega arith, add-mod_right p len, between len p)

pub firsts_are_one : FirstsAreOne
firsts_are_one start len slot p q first second =
    let low = first.2 q second.0 second.1 in let high = second.2 p first.0 first.1 in omega arith

pub firsts_are_inside : FirstsAreInside
firsts_are_inside start len slot p some first =
    ⊎_elim
    (λ (inside : p < start + len). inside)
    (λ (far : start + len ≤ p).
    let whole : p - len + len ≡ p = omega arith in
    let lies : slot_at (p - len) len ≡ slot = sym (add-mod_right (p - len) len) ∙ (ap (λ z. slot_at z len) whole ∙ first.1) in
    absurd (let least = first.2 (p - len) (omega arith) lies in omega arith))
    (cases_lt p (start + len))

-- the position of a slot in the turn in which the start lies
module _ (start len slot : ℕ) (near : slot < len) where
  abbrev here : ℕ
  here = start - start % len + slot

  turn_is : start - start % len ≡ start / len * len
  turn_is = let parts = div-add-mod' start len in omega arith

  lies : slot_at here len ≡ slot
  lies = ap (λ z. slot_at (z + slot) len) turn_is ∙ mod-mul-add (start / len) len slot near

  pub in_the_next_turn : here < start → IsOpeningNumber start len slot (2 * (here + len))
  in_the_next_turn before =
      let rest : start % len < len = mod-lt start (omega arith) in
      (here + len, refl, (omega arith, add-mod_right here len ∙ lies, λ q after same. between len here q (omega arith) (same ∙ sym lies)))

  pub in_this_turn : start ≤ here → IsOpeningNumber start len slot (2 * here)
  in_this_turn from = (
    here,
    refl,
    (
      from,
      lies,
      λ q after same.
          ⊎_elim
          (λ (before : q < here).
          let rest : start % len < len = mod-lt start (omega arith) in
          absurd (let one : q ≡ here = near_positions len q here (omega arith) (omega arith) (same ∙ sym lies) in omega arith))
          (λ (least : here ≤ q). least)
          (cases_lt q here),
    ),
  )
