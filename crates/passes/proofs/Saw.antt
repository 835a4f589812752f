-- The history is what some seat has seen, after each kind of step. V is the view of any object.
use Rattle.std.proofs.Common.{◌≡◌, ◌≢◌, ℕ, ◌≤◌, List, [], ◌∷◌, ◌++◌, length, set, cond, Bool, true, false, sym, refl, ap, ◌∙◌, arith, length-append, append-nil}
use Rattle.std.specs.Prelude.{nat_le}
use Rattle.std.proofs.lemmas.Bool.{leb-true, leb-false}
use Rattle.std.proofs.lemmas.List.{nil_from_length}
use mathlib.Core.Logic.{dite}
use native.Mathlib.Decide.{ℕ_discrete}
use mathlib.Core.Option.{some}
use lib.ListN.{get_elem?}
use Rattle.atomic_table.proofs.Lists.{set_here, set_else}
use Rattle.ho_model.specs.declared.marks.EntryMark.{EntryMark}
use Rattle.passes.specs.Seen.{longer}
use Rattle.passes.specs.Places.{Begins}
use Rattle.passes.specs.Seats.{SomeoneSaw}
use Rattle.passes.proofs.Seats.{at_inside, some_seat, some_longer, one_view}

-- a beginning as long as the whole is the whole
begins_all : (xs log : List EntryMark) → Begins xs log → length log ≤ length xs → xs ≡ log
begins_all xs log b le =
    let none : b.0 ≡ [] = nil_from_length b.0 (omega (arith, length-append xs b.0, ap length b.1)) in
    sym (b.1 ∙ (ap (λ (l : List EntryMark). xs ++ l) none ∙ append-nil xs))

-- of two beginnings the longer is the whole, if one of them is
longer_first : (xs ys log : List EntryMark) → xs ≡ log → Begins ys log → longer xs ys ≡ log
longer_first xs ys log is b = by_test (nat_le (length xs) (length ys)) refl
  where
    by_test : (t : Bool) → nat_le (length xs) (length ys) ≡ t → cond t ys xs ≡ log
    by_test true e = begins_all ys log b (omega (arith, leb-true (length xs) (length ys) e, ap length is))
    by_test false e = is

longer_second : (xs ys log : List EntryMark) → Begins xs log → ys ≡ log → longer xs ys ≡ log
longer_second xs ys log b is = by_test (nat_le (length xs) (length ys)) refl
  where
    by_test : (t : Bool) → nat_le (length xs) (length ys) ≡ t → cond t ys xs ≡ log
    by_test true e = is
    by_test false e = absurd (omega (arith, leb-false (length xs) (length ys) e, ap length is, ap length b.1, length-append xs b.0))

module _ {V : Type 0} (seen : V → List EntryMark) where
  -- a first seat, which has seen nothing
  pub saw_first : (v : V) → seen v ≡ [] → SomeoneSaw seen (v ∷ []) []
  saw_first v is = (0, v, refl, is)

  module _ (vs : List V) (log : List EntryMark) where
    -- a step after which its seat has seen all
    pub saw_all : (me : ℕ) (v w : V) → get_elem? vs me ≡ some v → seen w ≡ log → SomeoneSaw seen (set vs me w) log
    saw_all me v w at is = (me, w, set_here vs me w (at_inside vs me v at), is)

    -- a step that makes no entry, and after which its seat has seen no less
    pub saw_stays : (me : ℕ) (v w : V) → get_elem? vs me ≡ some v → (seen v ≡ log → seen w ≡ log) → SomeoneSaw seen vs log → SomeoneSaw seen (set vs me w) log
    saw_stays me v w at go h = let s = some_seat (λ (x : V). seen x ≡ log) vs me h.0 v w at go (h.1, h.2, h.3) in (h.0, s.0, s.1, s.2)

    -- a split
    pub saw_split : (me : ℕ) (v left right : V) → get_elem? vs me ≡ some v → seen left ≡ seen v → SomeoneSaw seen vs log → SomeoneSaw seen (set vs me left ++ right ∷ []) log
    saw_split me v left right at same h =
        let s = saw_stays me v left at (λ (is : seen v ≡ log). same ∙ is) h in
        let t = some_longer (λ (x : V). seen x ≡ log) (set vs me left) s.0 right (s.1, s.2, s.3) in (s.0, t.0, t.1, t.2)

    -- a join, whatever the seat that is spent keeps
    pub saw_join : (me other : ℕ) (v w both spent : V) → other ≢ me → get_elem? vs me ≡ some v → get_elem? vs other ≡ some w → Begins (seen v) log → Begins (seen w) log → seen both ≡ longer (seen v) (seen w)
        → SomeoneSaw seen vs log → SomeoneSaw seen (set (set vs me both) other spent) log
    saw_join me other v w both spent apart at there first second is h = dite (ℕ_discrete h.0 other) by_other by_third
      where
        here : seen both ≡ log → SomeoneSaw seen (set (set vs me both) other spent) log
        here all = (me, both, set_else (set vs me both) other me spent (λ (e : me ≡ other). apart (sym e)) ∙ set_here vs me both (at_inside vs me v at), all)

        by_other : h.0 ≡ other → SomeoneSaw seen (set (set vs me both) other spent) log
        by_other e = here (is ∙ longer_second (seen v) (seen w) log first (ap seen (sym (one_view vs h.0 other h.1 w h.2 there e)) ∙ h.3))

        by_third : h.0 ≢ other → SomeoneSaw seen (set (set vs me both) other spent) log
        by_third ne = let s = some_seat (λ (x : V). seen x ≡ log) vs me h.0 v both at (λ (all : seen v ≡ log). is ∙ longer_first (seen v) (seen w) log all second) (h.1, h.2, h.3) in
            (h.0, s.0, set_else (set vs me both) other h.0 spent ne ∙ s.1, s.2)
