-- A number that is written is read back.
use Rattle.std.proofs.Common.{◌≡◌, ◌≤◌, ◌<◌, ◌^◌, ◌+◌, ◌*◌, ◌-◌, ℕ, List, [], ◌∷◌, length, leb, true, Some, refl, sym, arith, rules}
use Rattle.std.specs.Fmt.{decimal}
use Rattle.std.specs.Str.{all_ascii_digits}
use Rattle.std.proofs.lemmas.Bool.Decides.{nat_tests}
use Rattle.std.proofs.lemmas.Fmt.{decimal_is_IsNumeral, digits_decimal, length-decimal-le}
use Rattle.std.proofs.lemmas.Str.Parse.{IsNumeralModel, numerals_by_fold}
use Rattle.ho_base.proofs.NumberLemmas.{a_number}
use Rattle.drive_kit.specs.Numbers.{caller_in, fault_in, number_in, number_within}

abbrev read_on : ℕ → List ℕ → ℕ
read_on n [] = n
read_on n (c ∷ cs) = read_on (10 * n + (c - 48)) cs

own : IsNumeralModel (λ ds. all_ascii_digits ds ≡ true) (read_on 0)
own = numerals_by_fold _ (search rules) read_on (search rules)

pub number_back : (n : ℕ) → n < 2 ^ 64 → number_in (decimal n) ≡ Some n
number_back n small =
    let numeral = decimal_is_IsNumeral n small in
    let short : length (decimal n) ≤ 20 = length-decimal-le 20 n (omega arith) (omega arith) small in
    let test : leb (length (decimal n)) 20 ≡ true = grind (arith, nat_tests) in
    rw test (a_number (decimal n) n numeral.0.0 (digits_decimal own n small) (sym numeral.1) small)

pub within_back : (least most n : ℕ) → least ≤ n → n ≤ most → most < 2 ^ 64 → number_within least most (decimal n) ≡ Some n
unfolding number_within
within_back least most n low high small =
    let back = number_back n (omega arith) in
    let above : leb least n ≡ true = grind (arith, nat_tests) in
    let below : leb n most ≡ true = grind (arith, nat_tests) in
    rw back (rw (above, below) refl)

pub fault_back : (fault : ℕ) → fault ≤ 65535 → fault_in (decimal fault) ≡ Some fault
fault_back fault small = within_back 0 65535 fault (omega arith) small (omega arith)

pub caller_back : (caller : ℕ) → caller ≤ 15 → caller_in (decimal caller) ≡ Some caller
caller_back caller small = within_back 0 15 caller (omega arith) small (omega arith)
