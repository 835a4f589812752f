-- A heap as its items in the order of arrival.
use Rattle.std.proofs.Common.{◌≡◌, refl, ap, sym, ◌∙◌, ℕ, ◌+◌, ◌<◌, ◌≤◌, List, [], ◌∷◌, ◌++◌, Bool, true, false, ◌==◌, nat_lt, arith, length, map, remove, Some, inl, inr, IsPermutation, is_lt, nat_cmp}
use Rattle.std.specs.Ordering.{ordering_then}
use Rattle.std.specs.Prelude.{slice_index_or, slice_get}
use Rattle.std.specs.BinaryHeap.{IsHeap, IsUpperBound}
use Rattle.std.specs.declared.cmp.Reverse.{Reverse}
use Rattle.std.proofs.lemmas.Bool.{ltb-false, eqb-true, eqb-false}
use Rattle.std.proofs.lemmas.List.{length-map, map-append}
use Rattle.std.proofs.lemmas.List.Elements.{recursion_from_All, All-cons, All-tail, All-weaker}
use Rattle.std.proofs.lemmas.List.Sorted.{All-permutation, IsPermutation-refl}
use Rattle.ho_base.specs.Marks.{Mark, number_of}
use Rattle.ho_model.specs.Channel as channel
use Rattle.priority_core.specs.Rank.{IsBefore, insert_by, ordered_by}
use Rattle.priority_core.specs.Stored.{IsRanked, arrival_of, mark_of, in_order, rank_cmp}
use Rattle.priority_core.specs.declared.store.Ranked.{Ranked}
use Rattle.priority_core.proofs.Ordering.{Each, each_weaker, Distinct, distinct_cons, distinct_tail, distinct_permutation, apart, ordered_covers, one_order, ordered_push}
use Rattle.priority_core.proofs.Taking.{place_is, Before, taken}

before_step : (p a q b : ℕ) (l e k : Bool) → nat_lt q p ≡ l → (q == p) ≡ e → nat_lt b a ≡ k → is_lt (ordering_then (nat_cmp q p) (nat_cmp b a)) ≡ false → IsBefore p a q b
before_step p a q b true e k hl he hk h = let no : true ≡ false = simp hl at h in cc
before_step p a q b false true true hl he hk h = let no : true ≡ false = simp (hl, he, hk) at h in cc
before_step p a q b false true false hl he hk h = inr (sym (eqb-true q p he), ltb-false b a hk)
before_step p a q b false false k hl he hk h =
    let le : p ≤ q = ltb-false q p hl in
    let ne : q ≡ p → ⊥ = eqb-false q p he in
    inl (omega arith)

-- what the heap's order says of two ranks
pub before_from_cmp : (p a q b : ℕ) → is_lt (ordering_then (nat_cmp q p) (nat_cmp b a)) ≡ false → IsBefore p a q b
before_from_cmp p a q b h = before_step p a q b (nat_lt q p) (q == p) (nat_lt b a) refl refl refl h

length_step : {X : Type 0} (key : X → ℕ) (x y : X) (ys : List X) (m : Bool) → nat_lt (key x) (key y) ≡ m → length (insert_by key x ys) ≡ length ys + 1 → length (insert_by key x (y ∷ ys)) ≡ length (y ∷ ys) + 1
length_step key x y ys true e h = simp e (omega arith)
length_step key x y ys false e h = simp e (omega arith)

length_insert : {X : Type 0} (key : X → ℕ) (x : X) (ys : List X) → length (insert_by key x ys) ≡ length ys + 1
length_insert key x [] = omega arith
length_insert key x (y ∷ ys) = length_step key x y ys (nat_lt (key x) (key y)) refl (length_insert key x ys)

length_ordered : {X : Type 0} (key : X → ℕ) (xs : List X) → length (ordered_by key xs) ≡ length xs
length_ordered key [] = refl
length_ordered key (x ∷ xs) = let e = length_insert key x (ordered_by key xs) in let f = length_ordered key xs in omega arith

module _ {T : Type 0} (mark : T → Mark) (priority_of : Mark → ℕ) where
  pub length_in_order : (heap : List (Reverse (Ranked T))) → length (in_order mark heap) ≡ length heap
  length_in_order heap = length-map (ordered_by arrival_of heap) (mark_of mark) ∙ length_ordered arrival_of heap

  pub put_kept : (next : ℕ) (x : Reverse (Ranked T)) (old new : List (Reverse (Ranked T))) → IsRanked mark priority_of next old → arrival_of x ≡ next → x.0.priority ≡ priority_of (mark x.0.item) → IsPermutation (x ∷ old) new → IsHeap rank_cmp new → IsRanked mark priority_of (next + 1) new
  put_kept next x old new was a p h heap =
      let below : Each (λ y. arrival_of y < arrival_of x) old = each_weaker (λ y. arrival_of y < next) (λ y. arrival_of y < arrival_of x) (λ y l. omega arith) old (recursion_from_All (λ y. arrival_of y < next) old was.below) in
      record {
        heap_order = heap;
        distinct = distinct_permutation arrival_of (x ∷ old) new h (distinct_cons arrival_of x old below was.distinct);
        below = All-permutation (λ y. arrival_of y < next + 1) (x ∷ old) new h (All-cons (λ y. arrival_of y < next + 1) x old (omega arith) (All-weaker (λ y. arrival_of y < next) (λ y. arrival_of y < next + 1) (λ y l. omega arith) old was.below));
        ranked = All-permutation (λ y. y.0.priority ≡ priority_of (mark y.0.item)) (x ∷ old) new h (All-cons (λ y. y.0.priority ≡ priority_of (mark y.0.item)) x old p was.ranked);
      }

  pub put_order : (next : ℕ) (x : Reverse (Ranked T)) (old new : List (Reverse (Ranked T))) → IsRanked mark priority_of next old → arrival_of x ≡ next → IsPermutation (x ∷ old) new → in_order mark new ≡ in_order mark old ++ mark x.0.item ∷ []
  put_order next x old new was a h =
      let below : Each (λ y. arrival_of y < arrival_of x) old = each_weaker (λ y. arrival_of y < next) (λ y. arrival_of y < arrival_of x) (λ y l. omega arith) old (recursion_from_All (λ y. arrival_of y < next) old was.below) in
      ap (map (mark_of mark)) (ordered_push arrival_of x old new h was.distinct below)
      ∙ map-append (mark_of mark) (ordered_by arrival_of old) (x ∷ [])

  pub taken_kept : (next : ℕ) (x : Reverse (Ranked T)) (old new : List (Reverse (Ranked T))) → IsRanked mark priority_of next old → IsPermutation old (x ∷ new) → IsHeap rank_cmp new → IsRanked mark priority_of next new
  taken_kept next x old new was h heap =
      record {
        heap_order = heap;
        distinct = distinct_tail arrival_of x new (distinct_permutation arrival_of old (x ∷ new) h was.distinct);
        below = All-tail (λ y. arrival_of y < next) x new (All-permutation (λ y. arrival_of y < next) old (x ∷ new) h was.below);
        ranked = All-tail (λ y. y.0.priority ≡ priority_of (mark y.0.item)) x new (All-permutation (λ y. y.0.priority ≡ priority_of (mark y.0.item)) old (x ∷ new) h was.ranked);
      }

  -- what leaves is what a read takes
  pub record Leaves (x : Reverse (Ranked T)) (old new : List (Reverse (Ranked T))) : Type 0 where
    pub item : mark x.0.item ≡ channel.item_at (in_order mark old) (channel.read_place (Some priority_of) (in_order mark old))
    pub left : in_order mark new ≡ remove (in_order mark old) (channel.read_place (Some priority_of) (in_order mark old))

  ranks_before : (x y : Reverse (Ranked T)) → x.0.priority ≡ priority_of (mark x.0.item) → y.0.priority ≡ priority_of (mark y.0.item) → is_lt (rank_cmp x y) ≡ false → Before arrival_of (mark_of mark) priority_of x y
  ranks_before x y p q h = rw (← p, ← q) (before_from_cmp x.0.priority x.0.arrival y.0.priority y.0.arrival h)

  each_before : (x : Reverse (Ranked T)) (ys : List (Reverse (Ranked T))) → x.0.priority ≡ priority_of (mark x.0.item) → Each (λ y. y.0.priority ≡ priority_of (mark y.0.item)) ys → IsUpperBound rank_cmp x ys → Each (Before arrival_of (mark_of mark) priority_of x) ys
  each_before x [] p q h = tt
  each_before x (y ∷ ys) p q h = (ranks_before x y p q.0 h.0, each_before x ys p q.1 h.1)

  pub leaves : (next : ℕ) (x : Reverse (Ranked T)) (old new : List (Reverse (Ranked T))) → IsRanked mark priority_of next old → IsPermutation old (x ∷ new) → IsUpperBound rank_cmp x new → Leaves x old new
  leaves next x old new was h top =
      let distinct : Distinct arrival_of (x ∷ new) = distinct_permutation arrival_of old (x ∷ new) h was.distinct in
      let ranked : Each (λ y. y.0.priority ≡ priority_of (mark y.0.item)) (x ∷ new) = recursion_from_All (λ y. y.0.priority ≡ priority_of (mark y.0.item)) (x ∷ new) (All-permutation (λ y. y.0.priority ≡ priority_of (mark y.0.item)) old (x ∷ new) h was.ranked) in
      let others = ordered_covers arrival_of new (λ y. arrival_of y ≡ arrival_of x → ⊥) (apart arrival_of x new distinct) in
      let befores = ordered_covers arrival_of new (Before arrival_of (mark_of mark) priority_of x) (each_before x new ranked.0 ranked.1 top) in
      let t = taken arrival_of (mark_of mark) priority_of x (ordered_by arrival_of new) others befores in
      let order : in_order mark old ≡ map (mark_of mark) (insert_by arrival_of x (ordered_by arrival_of new)) = ap (map (mark_of mark)) (one_order arrival_of old (x ∷ new) h was.distinct) in
      let place : channel.read_place (Some priority_of) (map (mark_of mark) (insert_by arrival_of x (ordered_by arrival_of new))) ≡ t.place = place_is priority_of (map (mark_of mark) (insert_by arrival_of x (ordered_by arrival_of new))) ∙ ap (λ p. p.0) t.least in
      record { item = rw (order, place) (sym t.item); left = rw (order, place) (sym t.left) }

  -- the top of the heap is what a read would take
  pub on_top : (next : ℕ) (x : Reverse (Ranked T)) (heap : List (Reverse (Ranked T))) → IsRanked mark priority_of next heap → 0 < length heap → x ≡ slice_index_or heap 0 x → IsUpperBound rank_cmp x heap → mark x.0.item ≡ channel.item_at (in_order mark heap) (channel.read_place (Some priority_of) (in_order mark heap))
  on_top next x [] was some is top = absurd (omega arith)
  on_top next x (y ∷ ys) was some is top =
      let same : x ≡ y = is in
      (leaves next x (y ∷ ys) ys was (rw same (IsPermutation-refl (y ∷ ys))) top.1).item

-- the number that an item shows is the first of its mark
pub number_shown : (m : Mark) (r : ℕ) → slice_get m 0 ≡ Some r → r ≡ number_of m
number_shown [] r h = cc
number_shown (n ∷ rest) r h = cc
