-- The first pass.
use Rattle.std.proofs.Common.{◌≡◌, ℕ, suc, zero, ◌-◌, ◌<◌, [], ◌++◌, length, get_or, replicate, true, false, true≢false, sym, refl, ap, ◌∙◌, arith}
use Rattle.passes.specs.Numbers.{HasNumber, HasAll, first_held}
use Rattle.passes.specs.Holders.{Holder}
use Rattle.passes.proofs.Flags.{flag_none}
use Rattle.passes.proofs.Seen.{sees_same}

pub zero_counts : (n c : ℕ) → ◌≡◌ {A = ℕ} (get_or (replicate n 0) c 0) 0
zero_counts zero c = refl
zero_counts (suc n) zero = refl
zero_counts (suc n) (suc c) = zero_counts n c

pub length-replicate : {A : Type 0} (n : ℕ) (a : A) → length (replicate n a) ≡ n
length-replicate zero a = refl
length-replicate (suc n) a = ap suc (length-replicate n a)

pub first_below : (n m c : ℕ) → HasNumber (replicate n true ++ replicate m false) c → c < n
first_below zero m c e = absurd (true≢false (sym e ∙ flag_none m c))
first_below (suc n) m zero e = omega arith
first_below (suc n) m (suc c) e = let h = first_below n m c e in omega arith

first_up : (n m c : ℕ) → c < n → HasNumber (replicate n true ++ replicate m false) c
first_up zero m c h = absurd (omega arith)
first_up (suc n) m zero h = refl
first_up (suc n) m (suc c) h = first_up n m c (omega arith)

pub first_whole : (n : ℕ) → HasAll n (first_held n)
first_whole n c lt = first_up n (64 - n) c lt

pub first_holder : (n : ℕ) → Holder n [] (replicate n 0) (λ _. 0) 0 (first_held n) (replicate 64 0) []
first_holder n = record {
  behind = sees_same (first_held n) [];
  owns = λ c up. (refl, first_below n (64 - n) c up);
  agrees = λ c up. zero_counts 64 c ∙ sym (zero_counts n c);
  wide = length-replicate {A = ℕ} 64 0;
}
