-- Powers of two are the numbers with one bit set, and lengths are such.
use Rattle.std.proofs.Common.{◌≡◌, ℕ, zero, suc, ◌*◌, ◌/◌, ◌%◌, ◌^◌, ◌<◌, ◌≤◌, inl, inr, min, refl, sym, ap, ◌∙◌, subst, arith, ⊎_elim, eq-eqb, Bool, true, false, IsTrue}
use Rattle.std.proofs.Math.Nat.{pow-succ'}
use Rattle.std.proofs.lemmas.Bool.{cases_lt, cases_eq, eqb-true}
use Rattle.std.proofs.lemmas.Nat.{zero_from_ones}
use Rattle.std.specs.Int.Count.{ones, ones_step}
use Rattle.std.specs.Int.{is_power_of_two, IsPowerOfTwo}
use Rattle.seg_layout.specs.Lengths.{IsFirstLength, IsSegmentLength, longest_of, next_len_of}
use Rattle.seg_layout.specs.Laws.{PowersOfTwo, LengthsAreBounded}

ones_twice : (n : ℕ) → ones (2 * n) ≡ ones n
ones_twice n = ones_step (2 * n) ∙ (let even : (2 * n) % 2 ≡ 0 = omega arith in let half : (2 * n) / 2 ≡ n = omega arith in let rest = ap ones half in omega arith)

ones_of_power : (k : ℕ) → ones (2 ^ k) ≡ 1
unfolding ones
ones_of_power zero = refl
ones_of_power (suc k) = ap ones (pow-succ' 2 k) ∙ (ones_twice (2 ^ k) ∙ ones_of_power k)

-- fuel bounds n
power_from_ones : (fuel n : ℕ) → n ≤ fuel → ones n ≡ 1 → IsPowerOfTwo n
unfolding ones
power_from_ones zero n small one = absurd (let none : n ≡ 0 = omega arith in let o : ones 0 ≡ 1 = ap ones (sym none) ∙ one in let z : ones 0 ≡ 0 = refl in omega arith)
power_from_ones (suc fuel) n small one =
    let step = ones_step n in
    ⊎_elim
    (λ (even : n % 2 ≡ 0).
    let half : ones (n / 2) ≡ 1 = omega arith in
    ⊎_elim
    (λ (none : n ≡ 0). absurd (let o : ones 0 ≡ 1 = ap ones (sym none) ∙ one in let z : ones 0 ≡ 0 = refl in omega arith))
    (λ some. let power = power_from_ones fuel (n / 2) (omega arith) half in let next = pow-succ' 2 power.0 in let is = power.1 in (suc power.0, (let twice : n ≡ 2 * (n / 2) = omega arith in twice ∙ (ap (λ z. 2 * z) is ∙ sym next))))
    (cases_eq n 0))
    (λ odd. let none : n / 2 ≡ 0 = zero_from_ones (n / 2) (omega arith) in (0, omega arith))
    (cases_eq (n % 2) 0)

pub powers_of_two : PowersOfTwo
powers_of_two n = (
  λ set. power_from_ones n n (omega arith) (eqb-true (ones n) 1 set),
  λ power. eq-eqb (ones n) 1 (ap ones power.1 ∙ ones_of_power power.0),
)

pub twice_is_power : (n : ℕ) → IsTrue (is_power_of_two n) → IsTrue (is_power_of_two (2 * n))
twice_is_power n set = eq-eqb (ones (2 * n)) 1 (ones_twice n ∙ eqb-true (ones n) 1 set)

-- of two lengths that are powers of two the lesser is one
lesser_is_power : (m n : ℕ) → IsTrue (is_power_of_two m) → IsTrue (is_power_of_two n) → IsTrue (is_power_of_two (min m n))
lesser_is_power m n one other =
    ⊎_elim
    (λ (less : m ≤ n). subst (λ z. IsTrue (is_power_of_two z)) (let is : m ≡ min m n = omega arith in is) one)
    (λ (more : n < m). subst (λ z. IsTrue (is_power_of_two z)) (let is : n ≡ min m n = omega arith in is) other)
    (⊎_elim (λ less. inr less) (λ more. inl more) (cases_lt n m))

pub longest_is_length : (first_len : ℕ) → IsFirstLength first_len → IsSegmentLength first_len (longest_of first_len)
unfolding ones
longest_is_length f first = (
  omega (arith, first.1),
  omega arith,
  lesser_is_power (32 * f) 1024
      (subst (λ z. IsTrue (is_power_of_two z)) (let is : 2 * (2 * (2 * (2 * (2 * f)))) ≡ 32 * f = omega arith in is)
      (twice_is_power _ (twice_is_power _ (twice_is_power _ (twice_is_power _ (twice_is_power f first.2)))))) refl,
)

pub next_is_length : (first_len len : ℕ) (observed : Bool) → IsFirstLength first_len → IsSegmentLength first_len len → IsSegmentLength first_len (next_len_of first_len len observed)
next_is_length f len true first length = (omega arith, (longest_is_length f first).0, first.2)
next_is_length f len false first length = (
  let low = length.0 in let high = (longest_is_length f first).0 in omega arith,
  omega arith,
  lesser_is_power (2 * len) (longest_of f) (twice_is_power len length.2) (longest_is_length f first).2,
)

pub lengths_are_bounded : LengthsAreBounded
lengths_are_bounded f len first = ((omega arith, (longest_is_length f first).0, first.2), λ length. (let a = first.0 in let b = length.0 in omega arith, let a = length.1 in omega arith))
