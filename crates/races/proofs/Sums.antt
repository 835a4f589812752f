-- The sum of the numbers below a count, and the last of the shares.
use Rattle.std.proofs.Common.{◌≡◌, ℕ, zero, suc, ◌+◌, ◌*◌, ◌-◌, ◌<◌, refl, sym, ap, ◌∙◌, arith}
use Rattle.std.specs.Prelude.{◌/◌}
use Rattle.std.proofs.Math.Nat.{mul-div_cancel}
use Rattle.races.specs.Shares.{sum_below}

twice_up_to : (n : ℕ) → sum_below (suc n) * 2 ≡ suc n * n
unfolding sum_below
twice_up_to zero = refl
twice_up_to (suc n) = let before = twice_up_to n in grind arith

pub half_product_is_sum : (n : ℕ) → n * (n - 1) / 2 ≡ sum_below n
unfolding sum_below
half_product_is_sum zero = refl
half_product_is_sum (suc n) =
    let less : suc n - 1 ≡ n = omega arith in
    let some : 0 < 2 = omega arith in
    rw (less, sym (twice_up_to n)) (mul-div_cancel (sum_below (suc n)) some)

pub last_share_ends_at_count : (count workers worker : ℕ) → worker + 1 ≡ workers → count * (worker + 1) / workers ≡ count
last_share_ends_at_count count workers worker e =
    let some : 0 < worker + 1 = omega arith in
    rw (sym e) (mul-div_cancel count some)
