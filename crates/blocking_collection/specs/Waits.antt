-- An add and a take that try again. The pass is p before, and q afterwards; the token t, and u.
use Rattle.std.specs.Prelude.{◌≡◌, ℕ, ◌++◌, List, [], ◌∷◌, Result, Ok, Err}
use Rattle.ho_base.specs.Marks.{Mark}
use Rattle.ho_base.specs.declared.memory.Unpaid.{Unpaid}
use Rattle.ho_model.specs.declared.marks.ReplyMark.TheVariants.{Done, Full, Closed, Item, Empty, Ended}
use Rattle.cancel_flag.specs.Seen.{Token}
use Rattle.turn_lock.specs.Passes.{LockPass}
use Rattle.blocking_collection.specs.declared.singles.AddReply.{AddReply}
use Rattle.blocking_collection.specs.declared.singles.AddReply.TheVariants as add
use Rattle.blocking_collection.specs.declared.singles.TakeReply.{TakeReply}
use Rattle.blocking_collection.specs.declared.singles.TakeReply.TheVariants as take
use Rattle.blocking_collection.specs.Own.{OwnCall, Did, added, unpaid_add, taken}
use Rattle.blocking_collection.specs.Tries.{Tries, Stops}

-- a try that found no room, and one that found no item
abbrev pub full_add : Mark → List OwnCall
full_add x = added x Full ∷ []

abbrev pub empty_take : List OwnCall
empty_take = taken Empty ∷ []

module _ {T : Type 0} (priority : Mark → ℕ) (mark : T → Mark) (t u : Token) (p q : LockPass) where
  -- after any number of tries in vain, this call was the last
  abbrev pub EndsBy : List OwnCall → OwnCall → Type 0
  EndsBy again last = Tries again (λ before. Did priority p (before ++ last ∷ []) q) t u

  -- after some tries in vain, the token had seen 1
  abbrev pub IsCancelled : List OwnCall → Type 0
  IsCancelled again = Stops again (λ before. Did priority p before q) t u

  -- the own calls of an add of x, and the looks at its token
  abbrev pub Added : T → Result (AddReply T) (Unpaid T) → Type 0
  Added x (Ok add.Done) = EndsBy (full_add (mark x)) (added (mark x) Done)
  Added x (Ok (add.Closed y)) = (y ≡ x) × EndsBy (full_add (mark x)) (added (mark x) Closed)
  Added x (Ok (add.Full y)) = ⊥
  Added x (Ok (add.Cancelled y)) = (y ≡ x) × IsCancelled (full_add (mark x))
  Added x (Err back) = (back.back ≡ x) × EndsBy (full_add (mark x)) (unpaid_add (mark x))

  -- the own calls of a take, and the looks at its token
  abbrev pub Taken : TakeReply T → Type 0
  Taken (take.Item y) = EndsBy empty_take (taken (Item (mark y)))
  Taken take.Ended = EndsBy empty_take (taken Ended)
  Taken take.Empty = ⊥
  Taken take.Cancelled = IsCancelled empty_take
