-- What is ahead of a part, once its first call is taken.
use Rattle.std.proofs.Common.{◌≡◌, ◌<◌, ◌∙◌, ℕ, List, ◌∷◌, length, set, slice_get, get_or, Option, Some, None, sym, ap, subst, arith}
use Rattle.std.proofs.lemmas.List.{map-set, length-map}
use Rattle.std.proofs.lemmas.Option.{slice_get-map, slice_get_within, get_or_from_slice_get}
use Rattle.ho_model.specs.declared.histories.Entry.{Entry}
use Rattle.weave.specs.declared.made.Made.{Made}
use Rattle.weave.specs.declared.aheads.Ahead.{Ahead}
use Rattle.weave.specs.declared.cursors.Cursor.{Cursor}
use Rattle.weave.specs.Parts.{PartMade}
use Rattle.weave.specs.Cursors.{parts_left, HasNext, TakesNext}
use Rattle.weave.specs.Aheads.{ahead_of, aheads_of}
use Rattle.weave.proofs.CallsByCaller.{get_set_same}
use Rattle.weave.proofs.Lefts.{left_is}

-- what stands at an index of the cursors, if the part there is this one
left_of : (cursors : List Cursor) (i : ℕ) (p : PartMade) (c : Cursor) → slice_get (parts_left cursors) i ≡ Some p → c ≡ get_or cursors i c → c.left.now ≡ p.made
left_of cursors i p c at is =
    let found = left_is cursors i p at in
    let same : c ≡ found.0 = is ∙ get_or_from_slice_get cursors i found.0 c found.1 in
    ap (λ (x : Cursor). x.left.now) same ∙ ap (λ (x : PartMade). x.made) found.2

pub within : (cursors : List Cursor) (aheads : List Ahead) (i : ℕ) → HasNext (parts_left cursors) i → aheads ≡ aheads_of (parts_left cursors) → i < length aheads
within cursors aheads i has are =
    let lt = slice_get_within (parts_left cursors) i has.0 has.3 in
    let many : length aheads ≡ length (parts_left cursors) = ap length are ∙ length-map (parts_left cursors) (λ (p : PartMade). ahead_of p.made) in
    omega arith

module _ (cursors new : List Cursor) (aheads : List Ahead) (i : ℕ) (e : Entry) (takes : TakesNext (parts_left cursors) i e (parts_left new)) (are : aheads ≡ aheads_of (parts_left cursors)) where
  left_then : slice_get (parts_left new) i ≡ Some (record { caller = takes.caller; made = takes.later })
  left_then = ap (λ (l : List PartMade). slice_get l i) takes.left ∙ get_set_same (parts_left cursors) i _ _ takes.at

  pub later_is : (c : Cursor) → c ≡ get_or new i c → c.left.now ≡ takes.later
  later_is c is = left_of new i _ c left_then is

  ahead_was : (a : Ahead) → a ≡ get_or aheads i a → a ≡ ahead_of (takes.next ∷ takes.later)
  ahead_was a is =
      let at : slice_get aheads i ≡ Some (ahead_of (takes.next ∷ takes.later)) = ap (λ (l : List Ahead). slice_get l i) are ∙ (slice_get-map (λ (p : PartMade). ahead_of p.made) (parts_left cursors) i ∙ ap (λ (o : Option PartMade). elim o [ None ↦ None | Some p ↦ Some (ahead_of p.made) ]) takes.at) in
      is ∙ get_or_from_slice_get aheads i _ a at

  -- the call that was taken is the first, and what is ahead is of it and those behind it
  pub stood_first : (old then : Cursor) (a : Ahead) (d : Made) → old ≡ get_or cursors i old → then ≡ get_or new i then → a ≡ get_or aheads i a → (m : Made) × (m.receipt ≡ (get_or old.left.now 0 d).receipt) × (a ≡ ahead_of (m ∷ then.left.now))
  stood_first old then a d was is at = (
    takes.next,
    ap (λ (l : List Made). (get_or l 0 d).receipt) (sym (left_of cursors i _ old takes.at was)),
    subst (λ (l : List Made). a ≡ ahead_of (takes.next ∷ l)) (sym (later_is then is)) (ahead_was a at),
  )

  pub then_behind : (then : Cursor) (a : Ahead) → then ≡ get_or new i then → a ≡ ahead_of then.left.now → set aheads i a ≡ aheads_of (parts_left new)
  then_behind then a is at =
      ap (λ (l : List Ahead). set l i a) are
      ∙ (ap (set (aheads_of (parts_left cursors)) i) (at ∙ ap ahead_of (later_is then is))
      ∙ (sym (map-set (λ (p : PartMade). ahead_of p.made) (parts_left cursors) i (record { caller = takes.caller; made = takes.later }))
      ∙ ap aheads_of (sym takes.left)))
