-- What is left of the parts, once a call is taken.
use Rattle.std.proofs.Common.{◌≡◌, ◌<◌, ◌+◌, ◌∙◌, ℕ, zero, suc, List, [], ◌∷◌, length, set, slice_get, get_or, Option, Some, None, refl, sym, ap, arith}
use Rattle.std.specs.List.{sum_by}
use Rattle.std.proofs.lemmas.List.{map-set, length-map}
use Rattle.std.proofs.lemmas.List.Sums.{sum_by-set}
use Rattle.std.proofs.lemmas.Option.{same_Some, none-some, slice_get-map, slice_get_within, slice_get-get_or, get_or_from_slice_get}
use Rattle.ho_model.specs.declared.histories.Entry.{Entry}
use Rattle.weave.specs.declared.cursors.Cursor.{Cursor}
use Rattle.weave.specs.Parts.{PartMade}
use Rattle.weave.specs.Cursors.{part_left, parts_left, HasNext, TakesNext}

-- what is left at an index
pub left_at : (cursors : List Cursor) (i : ℕ) (c : Cursor) → slice_get cursors i ≡ Some c → slice_get (parts_left cursors) i ≡ Some (part_left c)
left_at cursors i c at = slice_get-map part_left cursors i ∙ ap (λ (o : Option Cursor). elim o [ None ↦ None | Some x ↦ Some (part_left x) ]) at

pub left_is : (cursors : List Cursor) (i : ℕ) (p : PartMade) → slice_get (parts_left cursors) i ≡ Some p → (c : Cursor) × (slice_get cursors i ≡ Some c) × (part_left c ≡ p)
left_is [] i p at = absurd (none-some p at)
left_is (c ∷ cursors) zero p at = (c, refl, same_Some (part_left c) p at)
left_is (c ∷ cursors) (suc i) p at = left_is cursors i p at

-- a call taken at an index
pub taken_at : (cursors : List Cursor) (i : ℕ) (old new : Cursor) (e : Entry) → i < length cursors → old ≡ get_or cursors i old → TakesNext (part_left old ∷ []) 0 e (part_left new ∷ []) → TakesNext (parts_left cursors) i e (parts_left (set cursors i new))
taken_at cursors i old new e lt is takes = record {
  caller = takes.caller;
  next = takes.next;
  later = takes.later;
  at = left_at cursors i old (slice_get-get_or cursors i old lt ∙ ap Some (sym is)) ∙ takes.at;
  entry = takes.entry;
  left = map-set part_left cursors i new ∙ ap (set (parts_left cursors) i) (same_Some _ _ (ap (λ (l : List PartMade). slice_get l 0) takes.left));
}

-- how many calls are left
abbrev pub calls_left : List PartMade → ℕ
calls_left parts = sum_by (λ (p : PartMade). length p.made) parts

pub fewer_left : (old new : List PartMade) (i : ℕ) (e : Entry) → TakesNext old i e new → calls_left new < calls_left old
fewer_left old new i e takes =
    let lt = slice_get_within old i _ takes.at in
    let was = get_or_from_slice_get old i _ (record { caller = takes.caller; made = [] }) takes.at in
    let sum = sum_by-set (λ (p : PartMade). length p.made) old i (record { caller = takes.caller; made = takes.later }) (record { caller = takes.caller; made = [] }) lt in
    let same : calls_left new ≡ calls_left (set old i (record { caller = takes.caller; made = takes.later })) = ap calls_left takes.left in
    let many : length (get_or old i (record { caller = takes.caller; made = [] })).made ≡ length takes.later + 1 = ap (λ (p : PartMade). length p.made) was ∙ (let one : length (takes.next ∷ takes.later) ≡ length takes.later + 1 = omega arith in one) in
    omega arith

pub inside : (cursors : List Cursor) (i : ℕ) → HasNext (parts_left cursors) i → i < length cursors
inside cursors i has = let lt = slice_get_within (parts_left cursors) i has.0 has.3 in omega (arith, length-map cursors part_left)
