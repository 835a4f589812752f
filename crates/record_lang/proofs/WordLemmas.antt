-- Words that are written, and read again.
use Rattle.std.proofs.Common.{◌≡◌, ◌<◌, ◌≤◌, ◌+◌, ◌-◌, ◌*◌, ◌^◌, ◌∙◌, ◌==◌, ◌&&◌, ℕ, suc, ℤ, pos, negsuc, List, [], ◌∷◌, All, length, filter, nat_lt, nat_le, decimal, Bool, true, false, Some, Ok, refl, ap, arith, rules}
use Rattle.std.specs.Char.{is_ascii_digit}
use Rattle.std.specs.Fmt.{signed_decimal}
use Rattle.std.specs.List.{list_all, slice_split}
use Rattle.std.specs.Str.{all_ascii_digits}
use Rattle.std.specs.Str.Parse.{digits_value}
use Rattle.std.proofs.lemmas.Bool.Decides.{nat_tests}
use Rattle.std.proofs.lemmas.Fmt.{decimal_is_IsNumeral, decimal_nonempty, digits_decimal, length-decimal-le}
use Rattle.std.proofs.lemmas.List.Folds.{list_all-append}
use Rattle.std.proofs.lemmas.List.Splits.{slice_split_at, slice_split_none}
use Rattle.std.proofs.lemmas.List.Sums.{AllPass-from_list_all}
use Rattle.std.proofs.lemmas.Str.Parse.{IsNumeralModel, numerals_by_fold}
use Rattle.ho_base.specs.Numbers.{magnitude_of}
use Rattle.ho_base.proofs.NumberLemmas.{ascii_range}
use Rattle.record_lang.specs.Lines.{is_printable}
use Rattle.record_lang.specs.Numbers.{field_number, fits_64_bits, within_64_bits}
use Rattle.record_lang.specs.Printed.{is_word, is_word_byte, line_text}
use Rattle.record_lang.specs.Words.{capacity_of, code_of, in_range, is_digits, number_within, operand_of, place_of, without_minus, words_of}

-- 1. Tests

pub left_of : (a b : Bool) → (a && b) ≡ true → a ≡ true
left_of true b h = refl
left_of false b h = h

pub right_of : (a b : Bool) → (a && b) ≡ true → b ≡ true
right_of true b h = h
right_of false b h = cc

pub both_of : (a b : Bool) → a ≡ true → b ≡ true → (a && b) ≡ true
both_of true b ha hb = hb
both_of false b ha hb = ha

word-byte : (b : ℕ) → is_word_byte b ≡ true → (33 ≤ b) × (b ≤ 126)
word-byte b h =
    let low = left_of (nat_le 33 b) (nat_le b 126) h in
    let high = right_of (nat_le 33 b) (nat_le b 126) h in
    (grind (arith, nat_tests), grind (arith, nat_tests))

no-space : (b : ℕ) → is_word_byte b ≡ true → (b == 32) ≡ false
no-space b h = let low = (word-byte b h).0 in grind (arith, nat_tests)

shown : (b : ℕ) → is_word_byte b ≡ true → is_printable b ≡ true
shown b h =
    let low : nat_le 32 b ≡ true = let l = (word-byte b h).0 in grind (arith, nat_tests) in
    both_of (nat_le 32 b) (nat_le b 126) low (right_of (nat_le 33 b) (nat_le b 126) h)

-- 2. Words of a line

bytes-of : (w : List ℕ) → is_word w ≡ true → list_all is_word_byte w ≡ true
bytes-of w h = right_of (nat_lt 0 (length w)) (list_all is_word_byte w) h

all-shown : (bs : List ℕ) → list_all is_word_byte bs ≡ true → list_all is_printable bs ≡ true
all-shown [] h = refl
all-shown (b ∷ bs) h = both_of (is_printable b) (list_all is_printable bs) (shown b (left_of (is_word_byte b) (list_all is_word_byte bs) h)) (all-shown bs (right_of (is_word_byte b) (list_all is_word_byte bs) h))

pub line_shown : (ws : List (List ℕ)) → list_all is_word ws ≡ true → list_all is_printable (line_text ws) ≡ true
line_shown [] h = refl
line_shown (w ∷ []) h = all-shown w (bytes-of w (left_of (is_word w) true h))
line_shown (w ∷ v ∷ ws) h =
    list_all-append is_printable w (32 ∷ line_text (v ∷ ws))
    ∙ both_of (list_all is_printable w) (list_all is_printable (line_text (v ∷ ws))) (all-shown w (bytes-of w (left_of (is_word w) (list_all is_word (v ∷ ws)) h))) (line_shown (v ∷ ws) (right_of (is_word w) (list_all is_word (v ∷ ws)) h))

without-space : (w : List ℕ) → is_word w ≡ true → All (λ b. (b == 32) ≡ false) w
without-space w h = λ k d lt. no-space _ (AllPass-from_list_all is_word_byte w (bytes-of w h) k d lt)

parts : (w : List ℕ) (ws : List (List ℕ)) → list_all is_word (w ∷ ws) ≡ true → slice_split (λ b. b == 32) (line_text (w ∷ ws)) ≡ w ∷ ws
parts w [] h = slice_split_none (λ b. b == 32) w (without-space w (left_of (is_word w) true h))
parts w (v ∷ ws) h =
    slice_split_at (λ b. b == 32) w 32 (line_text (v ∷ ws)) (without-space w (left_of (is_word w) (list_all is_word (v ∷ ws)) h)) refl
    ∙ ap (λ (z : List (List ℕ)). w ∷ z) (parts v ws (right_of (is_word w) (list_all is_word (v ∷ ws)) h))

kept : (ws : List (List ℕ)) → list_all is_word ws ≡ true → filter (λ word. nat_lt 0 (length word)) ws ≡ ws
kept [] h = refl
kept (w ∷ ws) h =
    let some : nat_lt 0 (length w) ≡ true = left_of (nat_lt 0 (length w)) (list_all is_word_byte w) (left_of (is_word w) (list_all is_word ws) h) in
    rw some (ap (λ (z : List (List ℕ)). w ∷ z) (kept ws (right_of (is_word w) (list_all is_word ws) h)))

pub words_back : (w : List ℕ) (ws : List (List ℕ)) → list_all is_word (w ∷ ws) ≡ true → words_of (line_text (w ∷ ws)) ≡ w ∷ ws
words_back w ws h = ap (filter (λ (word : List ℕ). nat_lt 0 (length word))) (parts w ws h) ∙ kept (w ∷ ws) h

-- 3. Numbers

abbrev read_on : ℕ → List ℕ → ℕ
read_on n [] = n
read_on n (c ∷ cs) = read_on (10 * n + (c - 48)) cs

own : IsNumeralModel (λ ds. all_ascii_digits ds ≡ true) (read_on 0)
own = numerals_by_fold _ (search rules) read_on (search rules)

decimal-digits : (n : ℕ) → n < 2 ^ 64 → all_ascii_digits (decimal n) ≡ true
decimal-digits n h = digits_decimal own n h

digits-word : (ds : List ℕ) → all_ascii_digits ds ≡ true → list_all is_word_byte ds ≡ true
digits-word [] h = refl
digits-word (d ∷ ds) h =
    let range = ascii_range d (left_of (is_ascii_digit d) (all_ascii_digits ds) h) in
    let low : nat_le 33 d ≡ true = let l = range.0 in grind (arith, nat_tests) in
    let high : nat_le d 126 ≡ true = let l = range.1 in grind (arith, nat_tests) in
    both_of (is_word_byte d) (list_all is_word_byte ds) (both_of (nat_le 33 d) (nat_le d 126) low high) (digits-word ds (right_of (is_ascii_digit d) (all_ascii_digits ds) h))

pub decimal_word : (n : ℕ) → n < 2 ^ 64 → is_word (decimal n) ≡ true
decimal_word n h =
    let some : nat_lt 0 (length (decimal n)) ≡ true = let l = decimal_nonempty n h in grind (arith, nat_tests) in
    both_of (nat_lt 0 (length (decimal n))) (list_all is_word_byte (decimal n)) some (digits-word (decimal n) (decimal-digits n h))

is_digits-decimal : (n : ℕ) → n < 2 ^ 64 → is_digits (decimal n) ≡ true
is_digits-decimal n h =
    let some : nat_le 1 (length (decimal n)) ≡ true = let l = decimal_nonempty n h in grind (arith, nat_tests) in
    let few : nat_le (length (decimal n)) 20 ≡ true = let l = length-decimal-le 20 n (omega arith) (omega (arith, h)) h in grind (arith, nat_tests) in
    both_of (nat_le 1 (length (decimal n)) && nat_le (length (decimal n)) 20) (all_ascii_digits (decimal n)) (both_of (nat_le 1 (length (decimal n))) (nat_le (length (decimal n)) 20) some few) (decimal-digits n h)

in-range : (least most n : ℕ) → least ≤ n → n ≤ most → in_range least most n ≡ Ok n
in-range least most n low high =
    let l : nat_le least n ≡ true = grind (arith, nat_tests) in
    let m : nat_le n most ≡ true = grind (arith, nat_tests) in
    rw (l, m) refl

number-back : (least most n : ℕ) → least ≤ n → n ≤ most → n < 2 ^ 64 → number_within least most (decimal n) ≡ Ok n
number-back least most n low high h =
    let digits = is_digits-decimal n h in
    let value = (decimal_is_IsNumeral n h).1 in
    rw (digits, value) (in-range least most n low high)

pub place_back : (f : ℕ) → f ≤ 99 → place_of (decimal f) ≡ Ok f
unfolding place_of
place_back f h = number-back 0 99 f (omega arith) h (omega (arith, h))

pub capacity_back : (c : ℕ) → 1 ≤ c → c ≤ 65536 → capacity_of (decimal c) ≡ Ok c
unfolding capacity_of
capacity_back c low high = number-back 1 65536 c low high (omega (arith, high))

pub code_back : (c : ℕ) → 1 ≤ c → c ≤ 65535 → code_of (decimal c) ≡ Ok c
unfolding code_of
code_back c low high = number-back 1 65535 c low high (omega (arith, high))

-- 4. Numbers with a sign

magnitude-back : (ds : List ℕ) → 0 < length ds → all_ascii_digits ds ≡ true → magnitude_of ds ≡ Some (digits_value 10 ds)
magnitude-back [] some digits = absurd (omega (arith, some))
magnitude-back (d ∷ ds) some digits = rw digits refl

no-minus : (d : ℕ) → is_ascii_digit d ≡ true → (d == 45) ≡ false
no-minus d h = let low = (ascii_range d h).0 in grind (arith, nat_tests)

plain-digits : (ds : List ℕ) → 0 < length ds → all_ascii_digits ds ≡ true → (without_minus ds ≡ ds) × (field_number ds ≡ within_64_bits (pos (digits_value 10 ds)))
plain-digits [] some digits = absurd (omega (arith, some))
plain-digits (d ∷ ds) some digits =
    let no = no-minus d (left_of (is_ascii_digit d) (all_ascii_digits ds) digits) in
    let size = magnitude-back (d ∷ ds) some digits in
    (rw no refl, rw (no, size) refl)

pub operand_back : (z : ℤ) → fits_64_bits z ≡ true → operand_of (signed_decimal z) ≡ Ok z
unfolding operand_of
operand_back (pos n) fits =
    let small : n < 2 ^ 64 = let f : nat_lt n (2 ^ 63) ≡ true = fits in grind (arith, nat_tests) in
    let plain = plain-digits (decimal n) (decimal_nonempty n small) (decimal-digits n small) in
    let value = (decimal_is_IsNumeral n small).1 in
    rw (plain.0, is_digits-decimal n small, plain.1, value, fits) refl
operand_back (negsuc n) fits =
    let small : suc n < 2 ^ 64 = let f : nat_lt n (2 ^ 63) ≡ true = fits in grind (arith, nat_tests) in
    let size = magnitude-back (decimal (suc n)) (decimal_nonempty (suc n) small) (decimal-digits (suc n) small) in
    let value = (decimal_is_IsNumeral (suc n) small).1 in
    rw (is_digits-decimal (suc n) small, size, value, fits) refl

pub signed_word : (z : ℤ) → fits_64_bits z ≡ true → is_word (signed_decimal z) ≡ true
signed_word (pos n) fits = let f : nat_lt n (2 ^ 63) ≡ true = fits in decimal_word n (grind (arith, nat_tests))
signed_word (negsuc n) fits =
    let f : nat_lt n (2 ^ 63) ≡ true = fits in
    let small : suc n < 2 ^ 64 = grind (arith, nat_tests) in
    let some : nat_lt 0 (length (45 ∷ decimal (suc n))) ≡ true = grind (arith, nat_tests) in
    both_of (nat_lt 0 (length (45 ∷ decimal (suc n)))) (list_all is_word_byte (45 ∷ decimal (suc n))) some (bytes-of (decimal (suc n)) (decimal_word (suc n) small))
