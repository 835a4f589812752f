-- Calls over several members that try again. The token is t before, and u afterwards.
use Rattle.std.specs.Prelude.{◌≡◌, ℕ, ◌<◌, List, [], ◌∷◌, Result, Ok, Err, Bool, false, All, length}
use Rattle.ho_base.specs.Marks.{Mark}
use Rattle.ho_base.specs.declared.memory.Unpaid.{Unpaid}
use Rattle.cancel_flag.specs.Seen.{Token}
use Rattle.cancel_flag.specs.Looks.{LooksInVain, SeesAtLast}
use Rattle.turn_lock.specs.Passes.{LockPass}
use Rattle.blocking_collection.specs.declared.any_add.AnyAdd.{AnyAdd}
use Rattle.blocking_collection.specs.declared.any_add.AnyAdd.TheVariants as add
use Rattle.blocking_collection.specs.declared.any_take.AnyTake.{AnyTake}
use Rattle.blocking_collection.specs.declared.any_take.AnyTake.TheVariants as take
use Rattle.blocking_collection.specs.Own.{OwnCall}
use Rattle.blocking_collection.specs.Tries.{Tries, Stops}
use Rattle.blocking_collection.specs.Several.{AllDid, NoneThere, TriedAdd, TriedTake, no_items, still_open, full}

-- what each member did in a round that found all of them full
abbrev pub full_round : Mark → List OwnCall
full_round x = still_open 0 ∷ full x 0 ∷ []

module _ {T : Type 0} (priority : Mark → ℕ) (mark : T → Mark) (t u : Token) (x : T) (old new : List LockPass) where
  -- after any number of rounds that found all full, one came to this
  abbrev pub AddEndsBy : Result (AnyAdd T) (Unpaid T) → Type 0
  AddEndsBy result = Tries (full_round (mark x)) (λ before. TriedAdd priority mark x before old new result) t u

  abbrev pub AddedAny : Result (AnyAdd T) (Unpaid T) → Type 0
  AddedAny (Ok (add.NoneUsed y)) = ⊥
  AddedAny (Ok (add.Cancelled y)) = (y ≡ x) × (0 < length old) × Stops (full_round (mark x)) (λ before. AllDid priority old (λ j. before) new) t u
  AddedAny (Ok (add.NoCollection y)) = (y ≡ x) × NoneThere old new × (u ≡ t)
  AddedAny (Ok (add.Index i)) = AddEndsBy (Ok (add.Index i))
  AddedAny (Ok (add.Closed i y)) = AddEndsBy (Ok (add.Closed i y))
  AddedAny (Err back) = AddEndsBy (Err back)

-- a round of takes in which some member was empty and had not ended
abbrev pub SomeEmpty : ℕ → (ℕ → Bool) → Type 0
SomeEmpty n ended = (i : ℕ) × (i < n) × (ended i ≡ false)

-- Rounds of takes from n members that ended nothing, with one look after each, none of which saw 1;
-- and then what holds of these rounds. In each, a function says which members had ended.
pub record Takes (n : ℕ) (Then : List (ℕ → Bool) → Type 0) (t u : Token) : Type 0 where
  pub rounds : List (ℕ → Bool)
  pub some_empty : All (SomeEmpty n) rounds
  pub looked : LooksInVain (length rounds) t u
  pub then : Then rounds

-- At least one such round, the look after the last of which saw 1.
pub record StopsTaking (n : ℕ) (Then : List (ℕ → Bool) → Type 0) (t u : Token) : Type 0 where
  pub rounds : List (ℕ → Bool)
  pub some_empty : All (SomeEmpty n) rounds
  pub looked : SeesAtLast (length rounds) t u
  pub then : Then rounds

module _ {T : Type 0} (priority : Mark → ℕ) (mark : T → Mark) (t u : Token) (old new : List LockPass) where
  -- after any number of rounds that found no item, one came to this
  abbrev pub TakeEndsBy : AnyTake T → Type 0
  TakeEndsBy result = Takes (length old) (λ rounds. TriedTake priority mark (no_items rounds) old new result) t u

  abbrev pub TakenAny : AnyTake T → Type 0
  TakenAny take.NoneUsed = ⊥
  TakenAny take.Cancelled = StopsTaking (length old) (λ rounds. AllDid priority old (no_items rounds) new) t u
  TakenAny take.NoCollection = NoneThere old new × (u ≡ t)
  TakenAny (take.Index i y) = TakeEndsBy (take.Index i y)
  TakenAny take.Ended = TakeEndsBy take.Ended
