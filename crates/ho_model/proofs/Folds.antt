-- Laws of histories and their folds.
use Rattle.std.proofs.Common.{◌≡◌, ℕ, List, [], ◌∷◌, ◌++◌, Option, Some, None, refl, sym, ap, ◌∙◌}
use Rattle.std.specs.Prelude.{option_and_then}
use Rattle.ho_base.specs.Marks.{Mark}
use Rattle.ho_model.specs.declared.objects.Object.{Object}
use Rattle.ho_model.specs.Entries.{EntryMark}
use Rattle.ho_model.specs.Objects.{State, empty_state, object_step}
use Rattle.ho_model.specs.Histories.{fold_from, state_after, IsLegal}
use Rattle.ho_model.specs.Tallies.{Tally, no_tally, tally_next, tally_from, tally_of}

and_some : {A : Type 0} (x : Option A) → option_and_then (λ n. Some n) x ≡ x
and_some None = refl
and_some (Some a) = refl

-- what a chain of two steps gives went by the first
pub and_then_some : {A B : Type 0} (f : A → Option B) (first : Option A) (t : B) → option_and_then f first ≡ Some t → (n : A) × (first ≡ Some n) × (f n ≡ Some t)
and_then_some f None t h = let no : None ≡ Some t = h in cc
and_then_some f (Some n) t h = (n, refl, h)

-- a fold goes on where it stopped
pub fold_append : (priority : Mark → ℕ) (o : Object) (s t : State) (es fs : List EntryMark) → fold_from priority o s es ≡ Some t → fold_from priority o s (es ++ fs) ≡ fold_from priority o t fs
fold_append priority o s t [] fs h = let e : s ≡ t = cc in ap (λ u. fold_from priority o u fs) e
fold_append priority o s t (e ∷ es) fs h =
    let by = and_then_some (λ n. fold_from priority o n es) (object_step priority o s e) t h in
    ap (option_and_then (λ n. fold_from priority o n (es ++ fs))) by.1 ∙ fold_append priority o by.0 t es fs by.2

-- one entry more
pub folded-push : (priority : Mark → ℕ) (o : Object) (h : List EntryMark) (s : State) (e : EntryMark) → state_after priority o h ≡ Some s → state_after priority o (h ++ e ∷ []) ≡ object_step priority o s e
folded-push priority o h s e is = fold_append priority o (empty_state o) s h (e ∷ []) is ∙ and_some (object_step priority o s e)

-- a beginning of entries that are accepted is accepted
pub begins_from : (priority : Mark → ℕ) (o : Object) (s t : State) (xs ys : List EntryMark) → fold_from priority o s (xs ++ ys) ≡ Some t → (u : State) × (fold_from priority o s xs ≡ Some u)
begins_from priority o s t [] ys h = (s, refl)
begins_from priority o s t (e ∷ xs) ys h =
    let by = and_then_some (λ n. fold_from priority o n (xs ++ ys)) (object_step priority o s e) t h in
    let rest = begins_from priority o by.0 t xs ys by.2 in
    (rest.0, ap (option_and_then (λ n. fold_from priority o n xs)) by.1 ∙ rest.1)

-- a beginning of a legal history is legal
pub legal_begins : (priority : Mark → ℕ) (o : Object) (xs ys : List EntryMark) → IsLegal priority o (xs ++ ys) → IsLegal priority o xs
legal_begins priority o xs ys l = begins_from priority o (empty_state o) l.0 xs ys l.1

-- the last entry of a legal history is a step from the state before it
pub legal_last : (priority : Mark → ℕ) (o : Object) (h : List EntryMark) (e : EntryMark) → IsLegal priority o (h ++ e ∷ []) → (s : State) × (t : State) × (object_step priority o s e ≡ Some t)
legal_last priority o h e l =
    let before = legal_begins priority o h (e ∷ []) l in
    (before.0, l.0, sym (folded-push priority o h before.0 e before.1) ∙ l.1)

-- the counts go on where they stopped
pub tally-append : (t : Tally) (es fs : List EntryMark) → tally_from t (es ++ fs) ≡ tally_from (tally_from t es) fs
tally-append t [] fs = refl
tally-append t (e ∷ es) fs = tally-append (tally_next t e.call e.reply) es fs

-- one entry more
pub tally_push : (h : List EntryMark) (e : EntryMark) → tally_of (h ++ e ∷ []) ≡ tally_next (tally_of h) e.call e.reply
tally_push h e = tally-append no_tally h (e ∷ [])
