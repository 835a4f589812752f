-- The records before the first that meets the guard.
use Rattle.std.proofs.Common.{◌≡◌, ◌≤◌, ◌+◌, ◌∙◌, ℕ, suc, List, [], ◌∷◌, length, take, Bool, true, false, Option, Some, None, ltb, refl, ap, sym, arith, inl, inr, if◌then◌else◌}
use Rattle.std.specs.List.{position, position_or_len}
use Rattle.std.proofs.lemmas.Bool.{cases_Bool}
use Rattle.std.proofs.lemmas.Bool.Decides.{nat_tests}
use Rattle.std.proofs.lemmas.List.{take_all}
use Rattle.record_lang.specs.Guards.{fed_rows, is_stopped, meets}
use Rattle.record_lang.specs.Records.{Row}
use Rattle.record_lang.specs.declared.pipelines.Guard.{Guard}

fed-take : (g : Option Guard) (rows : List Row) → take (position_or_len (meets g) rows) rows ≡ fed_rows g rows
fed-take g [] = refl
fed-take g (row ∷ rows) =
    elim (cases_Bool (meets g row)) [
      | inl is ↦ rw is refl
      | inr not ↦
          let more : 1 + position_or_len (meets g) rows ≡ suc (position_or_len (meets g) rows) = omega arith in
          rw (not, more) (ap (λ (z : List Row). row ∷ z) (fed-take g rows))
    ]

stopped-before : (g : Option Guard) (rows : List Row) → ltb (position_or_len (meets g) rows) (length rows) ≡ is_stopped g rows
stopped-before g [] = refl
stopped-before g (row ∷ rows) =
    elim (cases_Bool (meets g row)) [
      | inl is ↦ rw is (grind (arith, nat_tests))
      | inr not ↦
          let later = stopped-before g rows in
          rw not (grind (arith, nat_tests))
    ]

found : (b : Bool) (k n : ℕ) → (if b then Some k else None) ≡ Some n → (b ≡ true) × (k ≡ n)
found true k n h = (refl, cc)
found false k n h = cc

not-found : (b : Bool) (k : ℕ) → (if b then Some k else None) ≡ None → b ≡ false
not-found true k h = cc
not-found false k h = refl

pub fed_some : (g : Option Guard) (rows : List Row) (n : ℕ) → position (meets g) rows ≡ Some n → take n rows ≡ fed_rows g rows
fed_some g rows n h =
    let at = found (ltb (position_or_len (meets g) rows) (length rows)) (position_or_len (meets g) rows) n h in
    ap (λ (k : ℕ). take k rows) (sym at.1) ∙ fed-take g rows

pub stopped_some : (g : Option Guard) (rows : List Row) (n : ℕ) → position (meets g) rows ≡ Some n → is_stopped g rows ≡ true
stopped_some g rows n h =
    let at = found (ltb (position_or_len (meets g) rows) (length rows)) (position_or_len (meets g) rows) n h in
    sym (stopped-before g rows) ∙ at.0

pub stopped_none : (g : Option Guard) (rows : List Row) → position (meets g) rows ≡ None → is_stopped g rows ≡ false
stopped_none g rows h = sym (stopped-before g rows) ∙ not-found (ltb (position_or_len (meets g) rows) (length rows)) (position_or_len (meets g) rows) h

pub fed_none : (g : Option Guard) (rows : List Row) → position (meets g) rows ≡ None → rows ≡ fed_rows g rows
fed_none g rows h =
    let past = not-found (ltb (position_or_len (meets g) rows) (length rows)) (position_or_len (meets g) rows) h in
    let all : length rows ≤ position_or_len (meets g) rows = grind (arith, nat_tests) in
    sym (take_all (position_or_len (meets g) rows) rows all) ∙ fed-take g rows
