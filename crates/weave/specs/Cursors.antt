-- What is left of each part while a history is woven.
use Rattle.std.specs.Prelude.{◌≡◌, ℕ, List, [], ◌∷◌, map, slice_get, slice_set, Some, Bool, false, ◌==◌}
use Rattle.ho_base.specs.declared.receipts.Receipt.{Receipt}
use Rattle.ho_base.specs.declared.receipts.Receipt.TheVariants.{Place}
use Rattle.ho_model.specs.declared.histories.Entry.{Entry}
use Rattle.weave.specs.declared.made.Made.{Made}
use Rattle.weave.specs.declared.cursors.Cursor.{Cursor}
use Rattle.weave.specs.Parts.{PartMade, entry_told}

abbrev pub part_left : Cursor → PartMade
part_left c = record { caller = c.caller; made = c.left.now }

abbrev pub parts_left : List Cursor → List PartMade
parts_left cursors = map part_left cursors

-- the part at i has a call left
abbrev pub HasNext : List PartMade → ℕ → Type 0
HasNext parts i = (p : PartMade) × (m : Made) × (ms : List Made) × (slice_get parts i ≡ Some p) × (p.made ≡ m ∷ ms)

-- the entry is the next call of the part at i, which is then without it
pub record TakesNext (old : List PartMade) (i : ℕ) (e : Entry) (new : List PartMade) : Type 0 where
  pub caller : ℕ
  pub next : Made
  pub later : List Made
  pub at : slice_get old i ≡ Some (record { caller = caller; made = next ∷ later })
  pub entry : e ≡ entry_told (record { caller = caller; made = next })
  pub left : new ≡ slice_set old i (record { caller = caller; made = later })

-- the receipt is this place
abbrev pub is_place : ℕ → Receipt → Bool
is_place place (Place number) = number == place
is_place place _ = false

-- the next call has this place
abbrev pub begins_at : ℕ → List Made → Bool
begins_at place [] = false
begins_at place (m ∷ ms) = is_place place m.receipt
