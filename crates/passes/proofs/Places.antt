-- An entry keeps its place in all that is seen later.
use Rattle.std.proofs.Common.{◌≡◌, ℕ, suc, ◌+◌, List, [], ◌∷◌, ◌++◌, length, map, get_or, cond, slice_get, Bool, true, false, sym, refl, ap, ◌∙◌, subst, arith, append_assoc, append-nil}
use Rattle.std.specs.List.{AllByRecursion}
use Rattle.std.proofs.lemmas.List.{length_push}
use Rattle.std.proofs.lemmas.Option.{same_Some}
use Rattle.ho_base.specs.declared.receipts.Receipt.{Receipt}
use Rattle.ho_base.specs.declared.receipts.Receipt.TheVariants.{Place}
use Rattle.ho_model.specs.declared.marks.EntryMark.{EntryMark}
use Rattle.ho_model.proofs.Lists.{slice_get_longer, slice_get_behind}
use Rattle.passes.specs.Numbers.{HasNumber}
use Rattle.passes.specs.Seen.{AreOthers, SeesOthers, SeesEntry, own_of}
use Rattle.passes.specs.Places.{Begins, StandsAt, StandsBy, Placed, own_places}
use Rattle.passes.specs.Laws.{EntriesStandByReceipts, EntriesKeepPlaces, SeenGoesOn, EntryGoesOn, OwnGoesOn}

-- 1. What was seen begins what is seen later
pub begins_others : SeenGoesOn
begins_others held seen later s = (s.0, s.1)

pub begins_own : OwnGoesOn
begins_own held seen own later s = (s.0, s.1)

pub begins_entry : EntryGoesOn
begins_entry held seen before later e s = (s.0.0 ++ e ∷ [], s.1 ∙ (ap (λ (l : List EntryMark). l ++ e ∷ []) s.0.1 ∙ append_assoc seen s.0.0 (e ∷ [])))

pub begins_on : (xs ys zs : List EntryMark) → Begins xs ys → Begins ys zs → Begins xs zs
begins_on xs ys zs a b = (a.0 ++ b.0, b.1 ∙ (ap (λ (l : List EntryMark). l ++ b.0) a.1 ∙ append_assoc xs a.0 b.0))

-- 2. Places
pub stands_on : (seen later : List EntryMark) (place : ℕ) (e : EntryMark) → Begins seen later → StandsAt seen place e → StandsAt later place e
stands_on seen later place e b at = ap (λ (l : List EntryMark). slice_get l place) b.1 ∙ slice_get_longer seen b.0 place e at

-- the own entry of a call
pub entry_stands : (held : List Bool) (seen before later : List EntryMark) (e : EntryMark) → SeesEntry held seen before e later → StandsAt later (length before) e
entry_stands held seen before later e s = ap (λ (l : List EntryMark). slice_get l (length before)) s.1 ∙ slice_get_behind before e []

pub receipt_stands : EntriesStandByReceipts
receipt_stands held seen before later e receipt s is = subst (λ (r : Receipt). StandsBy later r e) (sym is) (entry_stands held seen before later e s)

pub receipt_keeps : EntriesKeepPlaces
receipt_keeps seen later e (Place number) at b = stands_on seen later number e b at
receipt_keeps seen later e _ at b = absurd at

-- one entry stands at a place
pub one_stands : (history : List EntryMark) (place : ℕ) (e e' : EntryMark) → StandsAt history place e → StandsAt history place e' → e ≡ e'
one_stands history place e e' a b = same_Some e e' (sym a ∙ b)

-- 3. Own entries with their places
cond_append : {A : Type 0} (b : Bool) (x : A) (both xs ys : List A) → both ≡ xs ++ ys → cond b (x ∷ both) both ≡ cond b (x ∷ xs) xs ++ ys
cond_append true x both xs ys e = ap (λ l. x ∷ l) e
cond_append false x both xs ys e = e

pub own_places-others : (held : List Bool) (place : ℕ) (es : List EntryMark) → AreOthers held es → own_places held place es ≡ []
own_places-others held place [] a = refl
own_places-others held place (e ∷ es) a =
    let rest = own_places held (place + 1) es in let here : Placed = record { place = place; entry = e } in
    ap (λ (b : Bool). cond b (here ∷ rest) rest) a.0 ∙ own_places-others held (place + 1) es a.1

pub own_places-append : (held : List Bool) (place : ℕ) (xs ys : List EntryMark) → own_places held place (xs ++ ys) ≡ own_places held place xs ++ own_places held (place + length xs) ys
own_places-append held place [] ys = let same : place ≡ place + 0 = omega arith in ap (λ (k : ℕ). own_places held k ys) same
own_places-append held place (x ∷ xs) ys =
    let on : place + 1 + length xs ≡ place + suc (length xs) = omega arith in
    cond_append (get_or held x.caller false) (let here : Placed = record { place = place; entry = x } in here) (own_places held (place + 1) (xs ++ ys)) (own_places held (place + 1) xs) (own_places held (place + suc (length xs)) ys)
    (own_places-append held (place + 1) xs ys ∙ ap (λ (k : ℕ). own_places held (place + 1) xs ++ own_places held k ys) on)

-- others' entries add none, and an own entry adds itself
pub own_places-sees : (held : List Bool) (seen later : List EntryMark) → SeesOthers held seen later → own_places held 0 later ≡ own_places held 0 seen
own_places-sees held seen later s =
    ap (own_places held 0) s.1 ∙ (own_places-append held 0 seen s.0
    ∙ (ap (λ (l : List Placed). own_places held 0 seen ++ l) (own_places-others held (0 + length seen) s.0 s.2) ∙ append-nil (own_places held 0 seen)))

pub own_places-entry : (held : List Bool) (seen before later : List EntryMark) (e : EntryMark) → HasNumber held e.caller → SeesEntry held seen before e later
    → own_places held 0 later ≡ own_places held 0 seen ++ record { place = length before; entry = e } ∷ []
own_places-entry held seen before later e has s =
    ap (own_places held 0) s.1 ∙ (own_places-append held 0 before (e ∷ []) ∙ (λ i. own_places-sees held seen before s.0 i ++ own_one i))
  where
    own_one : own_places held (0 + length before) (e ∷ []) ≡ record { place = length before; entry = e } ∷ []
    own_one = let start : 0 + length before ≡ length before = omega arith in
        ap (λ (k : ℕ). own_places held k (e ∷ [])) start ∙ ap (λ (b : Bool). cond b (record { place = length before; entry = e } ∷ []) []) has

-- without their places they are the own entries
pub own_places-entries : (held : List Bool) (place : ℕ) (es : List EntryMark) → map (λ p. p.entry) (own_places held place es) ≡ own_of held es
own_places-entries held place [] = refl
own_places-entries held place (e ∷ es) = by_number (get_or held e.caller false) (own_places held (place + 1) es) (own_of held es) (own_places-entries held (place + 1) es)
  where
    by_number : (b : Bool) (xs : List Placed) (ys : List EntryMark) → map (λ (p : Placed). p.entry) xs ≡ ys → map (λ (p : Placed). p.entry) (cond b (record { place = place; entry = e } ∷ xs) xs) ≡ cond b (e ∷ ys) ys
    by_number true xs ys is = ap (λ (l : List EntryMark). e ∷ l) is
    by_number false xs ys is = is

-- each stands at its place
stand_from : (held : List Bool) (front es : List EntryMark) → AllByRecursion (λ (p : Placed). StandsAt (front ++ es) p.place p.entry) (own_places held (length front) es)
stand_from held front [] = tt
stand_from held front (e ∷ es) = by_number (get_or held e.caller false) (own_places held (length front + 1) es)
    (subst (λ (z : ℕ × List EntryMark). AllByRecursion (λ (p : Placed). StandsAt z.1 p.place p.entry) (own_places held z.0 es))
    (λ i. (length_push front e i, append_assoc front (e ∷ []) es i)) (stand_from held (front ++ e ∷ []) es))
  where
    by_number : (b : Bool) (ps : List Placed) → AllByRecursion (λ (p : Placed). StandsAt (front ++ e ∷ es) p.place p.entry) ps
        → AllByRecursion (λ (p : Placed). StandsAt (front ++ e ∷ es) p.place p.entry) (cond b (record { place = length front; entry = e } ∷ ps) ps)
    by_number true ps all = (slice_get_behind front e es, all)
    by_number false ps all = all

pub own_places-stand : (held : List Bool) (seen : List EntryMark) → AllByRecursion (λ (p : Placed). StandsAt seen p.place p.entry) (own_places held 0 seen)
own_places-stand held seen = stand_from held [] seen
