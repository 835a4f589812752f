-- Histories by their places: the next call is the one whose place is the count of those before it.
use Rattle.std.proofs.Common.{◌≡◌, ◌++◌, ◌∙◌, ℕ, List, [], ◌∷◌, length, map, slice_get, get_or, Some, None, true, false, Bool, cond, refl, sym, ap, subst, arith, append_assoc, append-nil, length-append, inl, inr, eq-eqb}
use Rattle.std.specs.List.{position, position_or_len}
use Rattle.std.proofs.lemmas.Bool.{cases_lt, lt-ltb, eqb-true}
use Rattle.std.proofs.lemmas.List.{map_push, length-map}
use Rattle.std.proofs.lemmas.List.Quantifiers.{position-Some}
use Rattle.std.proofs.lemmas.List.Sums.{fails_before_first}
use Rattle.std.proofs.lemmas.Option.{same_Some, none-some, slice_get_within, slice_get-get_or, get_or_from_slice_get}
use Rattle.ho_base.specs.declared.receipts.Receipt.{Receipt}
use Rattle.ho_base.specs.declared.receipts.Receipt.TheVariants.{Place, Enqueued, Dequeued, Peeked, Looked}
use Rattle.ho_model.specs.declared.histories.Entry.{Entry}
use Rattle.weave.specs.declared.made.Made.{Made}
use Rattle.weave.specs.declared.cursors.Cursor.{Cursor}
use Rattle.weave.specs.Parts.{PartMade, Told, entry_told, made_by, OfDifferentCallers, HasParts}
use Rattle.weave.specs.Places.{AreAtPlaces, IsPlaced}
use Rattle.weave.specs.Cursors.{part_left, parts_left, TakesNext, is_place, begins_at}
use Rattle.weave.proofs.CallsByCaller.{first_of, fewer_parts, fewer_differ, begins_a_part}
use Rattle.weave.proofs.Lefts.{left_at, left_is}

-- 1. The part that begins with a place
abbrev pub begins : ℕ → Cursor → Bool
begins place c = begins_at place c.left.now

pub begins_there : (cursors : List Cursor) (place i : ℕ) → position (begins place) cursors ≡ Some i → (p : PartMade) × (slice_get (parts_left cursors) i ≡ Some p) × (begins_at place p.made ≡ true)
begins_there [] place i h = absurd (none-some i h)
begins_there (c ∷ cursors) place i h =
    let at = position-Some (begins place) (c ∷ cursors) i c h in
    let x = get_or (c ∷ cursors) i c in
    (part_left x, left_at (c ∷ cursors) i x (slice_get-get_or (c ∷ cursors) i c at.0), at.1)

none_begins : {X : Type 0} (test : X → Bool) (xs : List X) → position test xs ≡ None → (k : ℕ) (x : X) → slice_get xs k ≡ Some x → test x ≡ false
none_begins test xs h k x at = elim (cases_lt (position_or_len test xs) (length xs)) [
  | inl lt ↦ absurd (none-some (position_or_len test xs) (sym h ∙ ap (λ b. cond b (Some (position_or_len test xs)) None) (lt-ltb _ _ lt)))
  | inr le ↦ (let within = slice_get_within xs k x at in ap test (sym (get_or_from_slice_get xs k x x at)) ∙ fails_before_first test xs k x (omega arith))
]

pub begins_nowhere : (cursors : List Cursor) (place : ℕ) → position (begins place) cursors ≡ None → (i : ℕ) (p : PartMade) → slice_get (parts_left cursors) i ≡ Some p → begins_at place p.made ≡ false
begins_nowhere cursors place h i p at =
    let c = left_is cursors i p at in
    ap (λ (q : PartMade). begins_at place q.made) (sym c.2) ∙ none_begins (begins place) cursors h i c.0 c.1

-- its first call has that place
has_place : (place : ℕ) (r : Receipt) → is_place place r ≡ true → r ≡ Place place
has_place place (Place number) h = ap Place (eqb-true number place h)
has_place place (Enqueued p s) h = absurd (cc)
has_place place (Dequeued p) h = absurd (cc)
has_place place (Peeked p) h = absurd (cc)
has_place place (Looked head tail) h = absurd (cc)

pub first_at : (place : ℕ) (made : List Made) → begins_at place made ≡ true → (m : Made) × (ms : List Made) × (made ≡ m ∷ ms) × (m.receipt ≡ Place place)
first_at place [] h = absurd (cc)
first_at place (m ∷ ms) h = (m, ms, refl, has_place place m.receipt h)

-- 2. The calls below a place are in the history, and the others are left
pub record IsWovenUpTo (told : List Told) (left : List PartMade) (entries : List Entry) : Type 0 where
  pub done : List Told
  pub rest : List Told
  pub is : told ≡ done ++ rest
  pub entries_are : entries ≡ map entry_told done
  pub has : HasParts left rest
  pub differ : OfDifferentCallers left

pub nothing_woven : (parts left : List PartMade) (told : List Told) → left ≡ parts → OfDifferentCallers parts → IsPlaced parts told → IsWovenUpTo told left []
nothing_woven parts left told same differ placed = record {
  done = [];
  rest = told;
  is = refl;
  entries_are = refl;
  has = subst (λ (l : List PartMade). HasParts l told) (sym same) placed.has;
  differ = subst OfDifferentCallers (sym same) differ;
}

get_behind : {A : Type 0} (xs : List A) (x : A) (ys : List A) → slice_get (xs ++ x ∷ ys) (length xs) ≡ Some x
get_behind [] x ys = refl
get_behind (y ∷ xs) x ys = get_behind xs x ys

-- the first call left has the next place
next_place : (done : List Told) (t : Told) (ts : List Told) → AreAtPlaces (done ++ t ∷ ts) → t.made.receipt ≡ Place (length done)
next_place done t ts at = at (length done) t (get_behind done t ts)

-- a call left that has the next place is the first one left
first_left : (done front back : List Told) (t : Told) → AreAtPlaces (done ++ (front ++ t ∷ back)) → t.made.receipt ≡ Place (length done) → front ≡ []
first_left done [] back t at has = refl
first_left done (x ∷ front) back t at has =
    let there : t.made.receipt ≡ Place (length (done ++ x ∷ front)) = next_place (done ++ x ∷ front) t back (subst AreAtPlaces (sym (append_assoc done (x ∷ front) (t ∷ back))) at) in
    let same : Place (length done) ≡ Place (length (done ++ x ∷ front)) = sym has ∙ there in
    let number : length done ≡ length (done ++ x ∷ front) = cc in
    absurd (omega (arith, length-append done (x ∷ front), number))

module _ (parts : List PartMade) (told : List Told) (placed : IsPlaced parts told) (left : List PartMade) (entries : List Entry) (h : IsWovenUpTo told left entries) where
  many : length entries ≡ length h.done
  many = ap length h.entries_are ∙ length-map h.done entry_told

  pub one_more : (i : ℕ) (p : PartMade) → slice_get left i ≡ Some p → begins_at (length entries) p.made ≡ true → (e : Entry) (new : List PartMade) → TakesNext left i e new → IsWovenUpTo told new (entries ++ e ∷ [])
  one_more i p at begins e new takes =
      let c = takes.caller in let m = takes.next in let ms = takes.later in
      let was : p ≡ record { caller = c; made = m ∷ ms } = same_Some _ _ (sym at ∙ takes.at) in
      let first = first_at (length entries) (m ∷ ms) (subst (λ (q : PartMade). begins_at (length entries) q.made ≡ true) was begins) in
      let same : m ≡ first.0 = (let all : m ∷ ms ≡ first.0 ∷ first.1 = first.2 in cc) in
      let receipt : m.receipt ≡ Place (length h.done) = ap (λ (x : Made). x.receipt) same ∙ (first.3 ∙ ap Place many) in
      let t : Told = record { caller = c; made = m } in
      let f = first_of c m ms h.rest (h.has.each i (record { caller = c; made = m ∷ ms }) takes.at) in
      let none : f.front ≡ [] = first_left h.done f.front f.back t (subst AreAtPlaces (h.is ∙ ap (λ (l : List Told). h.done ++ l) f.is) placed.places) receipt in
      record {
        done = h.done ++ t ∷ [];
        rest = f.back;
        is = h.is ∙ (ap (λ (l : List Told). h.done ++ l) (f.is ∙ ap (λ (l : List Told). l ++ t ∷ f.back) none) ∙ sym (append_assoc h.done (t ∷ []) f.back));
        entries_are = ap (λ (z : List Entry). z ++ e ∷ []) h.entries_are ∙ (ap (λ (x : Entry). map entry_told h.done ++ x ∷ []) takes.entry ∙ sym (map_push entry_told h.done t));
        has = subst (λ (z : List PartMade × List Told). HasParts z.0 z.1) (λ j. (sym takes.left j, ap (λ (l : List Told). l ++ f.back) none j)) (fewer_parts left i c m ms takes.at h.differ h.rest h.has f);
        differ = subst OfDifferentCallers (sym takes.left) (fewer_differ left i c m ms takes.at h.differ);
      }

  -- where no part begins with the next place, nothing is left
  none_left : ((i : ℕ) (p : PartMade) → slice_get left i ≡ Some p → begins_at (length entries) p.made ≡ false) → (rest : List Told) → rest ≡ h.rest → rest ≡ []
  none_left lone [] is = refl
  none_left lone (t ∷ ts) is =
      let part = begins_a_part left t ts (subst (HasParts left) (sym is) h.has) in
      let receipt : t.made.receipt ≡ Place (length entries) = next_place h.done t ts (subst AreAtPlaces (h.is ∙ ap (λ (l : List Told). h.done ++ l) (sym is)) placed.places) ∙ ap Place (sym many) in
      let begins : is_place (length entries) t.made.receipt ≡ true = ap (is_place (length entries)) receipt ∙ same_place (length entries) in
      let not : begins_at (length entries) (t.made ∷ made_by t.caller ts) ≡ false = ap (begins_at (length entries)) (sym part.4) ∙ lone part.0 part.1 part.2 in
      let clash : true ≡ false = sym begins ∙ not in
      absurd (cc)
    where
      same_place : (n : ℕ) → is_place n (Place n) ≡ true
      same_place n = eq-eqb n n refl

  pub all_woven : ((i : ℕ) (p : PartMade) → slice_get left i ≡ Some p → begins_at (length entries) p.made ≡ false) → entries ≡ map entry_told told
  all_woven lone =
      let none = none_left lone h.rest refl in
      h.entries_are ∙ ap (map entry_told) (sym (append-nil h.done) ∙ (ap (λ (l : List Told). h.done ++ l) (sym none) ∙ sym h.is))
