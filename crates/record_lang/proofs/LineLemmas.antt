-- The first line of a text, and the lines after it.
use Rattle.std.proofs.Common.{◌≡◌, ◌<◌, ◌≤◌, ◌+◌, ◌∙◌, ◌==◌, inl, inr, ltb, ℕ, List, [], ◌∷◌, length, take, drop, Bool, false, Option, Some, None, refl, ap, arith}
use Rattle.std.specs.List.{onto_first, position, position_or_len, slice_split}
use Rattle.std.specs.Str.Lines.{lines_of_parts, strip_carriage_return}
use Rattle.std.proofs.lemmas.Bool.{cases_Bool}
use Rattle.std.proofs.lemmas.Bool.Decides.{nat_tests}
use Rattle.std.proofs.lemmas.List.{length-drop}
use Rattle.std.proofs.lemmas.List.Splits.{slice_split_first, slice_split-cons_no, slice_split-cons_yes}
use borrow.Author.Tests.{ltb-false, ltb-true}
use Rattle.record_lang.specs.Parsing.{IsFirstLine}

-- there is always a first part
onto_first-some : (x : ℕ) (parts : List (List ℕ)) → (y : List ℕ) × (ys : List (List ℕ)) × (onto_first x parts ≡ y ∷ ys)
onto_first-some x [] = (x ∷ [], [], refl)
onto_first-some x (part ∷ parts) = (x ∷ part, parts, refl)

slice_split-some : (p : ℕ → Bool) (xs : List ℕ) → (y : List ℕ) × (ys : List (List ℕ)) × (slice_split p xs ≡ y ∷ ys)
slice_split-some p [] = ([], [], refl)
slice_split-some p (x ∷ xs) = elim (cases_Bool (p x)) [
  | inl is ↦ ([], slice_split p xs, slice_split-cons_yes p x xs is)
  | inr not ↦ let some = onto_first-some x (slice_split p xs) in (some.0, some.1, slice_split-cons_no p x xs not ∙ some.2)
]

-- a part that another follows is a line before a line feed
pub lines_of_parts-cons : (part : List ℕ) (p : ℕ → Bool) (rest : List ℕ) → lines_of_parts (part ∷ slice_split p rest) ≡ strip_carriage_return part ∷ lines_of_parts (slice_split p rest)
lines_of_parts-cons part p rest = let some = slice_split-some p rest in rw (some.2) refl

-- where a part ends
slice_split-found : (p : ℕ → Bool) (xs : List ℕ) (n : ℕ) → position p xs ≡ Some n → (n < length xs) × (slice_split p xs ≡ take n xs ∷ slice_split p (drop (n + 1) xs))
slice_split-found p xs n is =
    elim (cases_Bool (ltb (position_or_len p xs) (length xs))) [
      | inl lt ↦
          let same : ◌≡◌ {A = Option ℕ} (Some (position_or_len p xs)) (Some n) = rw lt at is in
          let e : position_or_len p xs ≡ n = cc in
          let small : position_or_len p xs < length xs = ltb-true (position_or_len p xs) (length xs) lt in
          (rw e at small, rw e at (slice_split_first p xs 0 small))
      | inr ge ↦ let none : ◌≡◌ {A = Option ℕ} None (Some n) = rw ge at is in absurd (cc)
    ]

slice_split-past : (p : ℕ → Bool) (xs : List ℕ) → length xs ≤ position_or_len p xs → slice_split p xs ≡ xs ∷ []
slice_split-past p [] h = refl
slice_split-past p (x ∷ xs) h = elim (cases_Bool (p x)) [
  | inl is ↦ let h1 = rw is at h in absurd (omega (arith, h1))
  | inr not ↦ let h1 = rw not at h in let h2 : length xs ≤ position_or_len p xs = omega (arith, h1) in slice_split-cons_no p x xs not ∙ ap (onto_first x) (slice_split-past p xs h2)
]

slice_split-none : (p : ℕ → Bool) (xs : List ℕ) → position p xs ≡ None → slice_split p xs ≡ xs ∷ []
slice_split-none p xs is =
    elim (cases_Bool (ltb (position_or_len p xs) (length xs))) [
      | inl lt ↦ let some : ◌≡◌ {A = Option ℕ} (Some (position_or_len p xs)) None = rw lt at is in absurd (cc)
      | inr ge ↦ slice_split-past p xs (ltb-false (position_or_len p xs) (length xs) ge)
    ]

-- the first line ends at the first line feed
pub IsFirstLine-ended : (text : List ℕ) (n : ℕ) → position (λ b. b == 10) text ≡ Some n → (n < length text) × IsFirstLine (strip_carriage_return (take n text)) (drop (n + 1) text) text
IsFirstLine-ended text n is =
    let found = slice_split-found (λ b. b == 10) text n is in (
      found.0,
      record {
        first_of = ap lines_of_parts found.1 ∙ lines_of_parts-cons (take n text) (λ b. b == 10) (drop (n + 1) text);
        shorter = omega (arith, length-drop (n + 1) text, found.0);
      },
    )

last_line : (c : ℕ) (rest : List ℕ) → lines_of_parts ((c ∷ rest) ∷ []) ≡ (c ∷ rest) ∷ []
last_line c rest =
    let some : (length (c ∷ rest) == 0) ≡ false = grind (arith, nat_tests) in
    rw some refl

-- with no line feed, what is left is the last line
pub IsFirstLine-last : (text : List ℕ) → position (λ b. b == 10) text ≡ None → 0 < length text → IsFirstLine text [] text
IsFirstLine-last [] is some = absurd (omega (arith, some))
IsFirstLine-last (c ∷ rest) is some = record { first_of = ap lines_of_parts (slice_split-none (λ b. b == 10) (c ∷ rest) is) ∙ last_line c rest; shorter = some }
