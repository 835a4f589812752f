-- What calls over several members do, each member by its place.
use Rattle.std.specs.Prelude.{◌≡◌, ℕ, ◌<◌, ◌++◌, List, [], ◌∷◌, length, slice_index_or, Option, Some, None, Result, Ok, Err, Bool, true, false, nat_lt, ◌==◌, if◌then◌else◌, ◌⊎◌}
use Rattle.atomic_table.specs.Seated.{TableId}
use Rattle.ho_base.specs.Marks.{Mark}
use Rattle.ho_base.specs.declared.memory.Unpaid.{Unpaid}
use Rattle.ho_model.specs.declared.marks.ReplyMark.TheVariants.{Done, Full, Closed, Item, Empty, Ended}
use Rattle.turn_lock.specs.Passes.{LockPass}
use Rattle.blocking_collection.specs.declared.any_add.AnyAdd.{AnyAdd}
use Rattle.blocking_collection.specs.declared.any_add.AnyAdd.TheVariants as add
use Rattle.blocking_collection.specs.declared.any_take.AnyTake.{AnyTake}
use Rattle.blocking_collection.specs.declared.any_take.AnyTake.TheVariants as take
use Rattle.blocking_collection.specs.Own.{OwnCall, DidOrRests, added, unpaid_add, taken, asked}

-- the pass at each place is of the collection at that place
pub record AllOf (collections : List TableId) (passes : List LockPass) : Type 0 where
  pub size : length passes ≡ length collections
  pub each : (i : ℕ) (p : LockPass) (c : TableId) → i < length collections → (slice_index_or passes i p).table ≡ slice_index_or collections i c

-- there is no member, and so nothing was done
abbrev pub NoneThere : List LockPass → List LockPass → Type 0
NoneThere old new = (length old ≡ 0) × (new ≡ old)

-- the pass at each place made these calls, or was not reached
pub record AllDid (priority : Mark → ℕ) (old : List LockPass) (calls : ℕ → List OwnCall) (new : List LockPass) : Type 0 where
  pub size : length new ≡ length old
  pub each : (i : ℕ) (p : LockPass) → i < length old → DidOrRests priority (slice_index_or old i p) (calls i) (slice_index_or new i p)

-- one call at each place before k, then the last ones at k, and none behind
abbrev pub round : ℕ → (ℕ → OwnCall) → List OwnCall → ℕ → List OwnCall
round k each last j = if nat_lt j k then each j ∷ [] else (if j == k then last else [])

-- asked whether adding has ended, which it has not; found full; without an item, and ended or not
abbrev pub still_open : ℕ → OwnCall
still_open j = asked false

abbrev pub full : Mark → ℕ → OwnCall
full x j = added x Full

abbrev pub no_item : ℕ → Bool → OwnCall
no_item j true = taken Ended
no_item j false = taken Empty

module _ (priority : Mark → ℕ) where
  -- the first that takes no more items, each before it being open
  abbrev pub Asks : List LockPass → List LockPass → Option ℕ → Type 0
  Asks old new None = AllDid priority old (λ j. still_open j ∷ []) new
  Asks old new (Some i) = (i < length old) × AllDid priority old (round i still_open (asked true ∷ [])) new

module _ {T : Type 0} (priority : Mark → ℕ) (mark : T → Mark) (x : T) where
  -- adds in order, each member before the last being full
  abbrev pub Adds : List LockPass → List LockPass → Result (AnyAdd T) (Unpaid T) → Type 0
  Adds old new (Ok (add.Index i)) = (i < length old) × AllDid priority old (round i (full (mark x)) (added (mark x) Done ∷ [])) new
  Adds old new (Ok (add.Closed i y)) = (y ≡ x) × (i < length old) × AllDid priority old (round i (full (mark x)) (added (mark x) Closed ∷ [])) new
  Adds old new (Ok (add.NoneUsed y)) = (y ≡ x) × AllDid priority old (λ j. full (mark x) j ∷ []) new
  Adds old new (Ok (add.NoCollection y)) = ⊥
  Adds old new (Ok (add.Cancelled y)) = ⊥
  Adds old new (Err u) = (u.back ≡ x) × (i : ℕ) × (i < length old) × AllDid priority old (round i (full (mark x)) (unpaid_add (mark x) ∷ [])) new

  -- One try to add x to any: each member in order is asked whether adding has ended, and if none
  -- says so, each in order is tried. Every member has done `before` in this call.
  abbrev pub TriedAdd : List OwnCall → List LockPass → List LockPass → Result (AnyAdd T) (Unpaid T) → Type 0
  TriedAdd before old new (Ok (add.NoCollection y)) = (y ≡ x) × NoneThere old new
  TriedAdd before old new (Ok (add.Closed i y)) = (y ≡ x) × (i < length old) ×
      (AllDid priority old (λ j. before ++ round i still_open (asked true ∷ []) j) new
      ⊎ AllDid priority old (λ j. before ++ still_open j ∷ round i (full (mark x)) (added (mark x) Closed ∷ []) j) new)
  TriedAdd before old new (Ok (add.Index i)) = (i < length old) × AllDid priority old (λ j. before ++ still_open j ∷ round i (full (mark x)) (added (mark x) Done ∷ []) j) new
  TriedAdd before old new (Ok (add.NoneUsed y)) = (y ≡ x) × (0 < length old) × AllDid priority old (λ j. before ++ still_open j ∷ full (mark x) j ∷ []) new
  TriedAdd before old new (Ok (add.Cancelled y)) = ⊥
  TriedAdd before old new (Err u) = (u.back ≡ x) × (i : ℕ) × (i < length old) × AllDid priority old (λ j. before ++ still_open j ∷ round i (full (mark x)) (unpaid_add (mark x) ∷ []) j) new

module _ {T : Type 0} (priority : Mark → ℕ) (mark : T → Mark) where
  -- One try to take from any, in order: each member before the last had no item, and `ended` says
  -- which of them had ended. The member at j has done `before j` in this call.
  abbrev pub TriedTake : (ℕ → List OwnCall) → List LockPass → List LockPass → AnyTake T → Type 0
  TriedTake before old new take.NoCollection = NoneThere old new
  TriedTake before old new (take.Index i y) = (ended : ℕ → Bool) × (i < length old) × AllDid priority old (λ j. before j ++ round i (λ k. no_item k (ended k)) (taken (Item (mark y)) ∷ []) j) new
  TriedTake before old new take.NoneUsed = (ended : ℕ → Bool) × (i : ℕ) × (i < length old) × (ended i ≡ false) × AllDid priority old (λ j. before j ++ no_item j (ended j) ∷ []) new
  TriedTake before old new take.Ended = (0 < length old) × AllDid priority old (λ j. before j ++ no_item j true ∷ []) new
  TriedTake before old new take.Cancelled = ⊥

-- what the member at j did in rounds of takes that gave no item
abbrev pub no_items : List (ℕ → Bool) → ℕ → List OwnCall
no_items [] j = []
no_items (ended ∷ rounds) j = no_item j (ended j) ∷ no_items rounds j
