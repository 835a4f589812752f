-- Numbers of 64 bits.
use Rattle.std.proofs.Common.{◌≡◌, ltb, ◌^◌, true, false, Option, Some, None, ℤ, pos, negsuc, FitsSigned, w64, refl, arith}
use Rattle.std.proofs.lemmas.Bool.Decides.{nat_tests}
use Rattle.std.specs.Prelude.{SomeIff}
use Rattle.record_lang.specs.Numbers.{within_64_bits}

-- what is found exactly where a number has 64 bits
pub fits_or_not : (found : Option ℤ) (z : ℤ) → SomeIff found (FitsSigned w64 z) z → found ≡ within_64_bits z
fits_or_not None (pos n) h = let big : ltb n (2 ^ 63) ≡ false = grind (arith, nat_tests) in rw big refl
fits_or_not None (negsuc n) h = let big : ltb n (2 ^ 63) ≡ false = grind (arith, nat_tests) in rw big refl
fits_or_not (Some x) (pos n) h = let small : ltb n (2 ^ 63) ≡ true = grind (arith, nat_tests) in rw (small, h.1) refl
fits_or_not (Some x) (negsuc n) h = let small : ltb n (2 ^ 63) ≡ true = grind (arith, nat_tests) in rw (small, h.1) refl
