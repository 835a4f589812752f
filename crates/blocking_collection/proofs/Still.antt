-- After a try over several members each pass is still of its collection.
use Rattle.std.proofs.Common.{List, inl, inr, sym, subst}
use Rattle.std.specs.Prelude.{Result, Ok, Err}
use Rattle.atomic_table.specs.Seated.{TableId}
use Rattle.ho_base.specs.Marks.{Mark}
use Rattle.std.proofs.Common.{ℕ}
use Rattle.ho_base.specs.declared.memory.Unpaid.{Unpaid}
use Rattle.turn_lock.specs.Passes.{LockPass}
use Rattle.blocking_collection.specs.declared.any_add.AnyAdd.{AnyAdd}
use Rattle.blocking_collection.specs.declared.any_add.AnyAdd.TheVariants as add
use Rattle.blocking_collection.specs.declared.any_take.AnyTake.{AnyTake}
use Rattle.blocking_collection.specs.declared.any_take.AnyTake.TheVariants as take
use Rattle.blocking_collection.specs.Own.{OwnCall}
use Rattle.blocking_collection.specs.Several.{AllOf, TriedAdd, TriedTake}
use Rattle.blocking_collection.proofs.Rounds.{still_of}

module _ (pr : Mark → ℕ) {T : Type 0} (mark : T → Mark) (collections : List TableId) where
  pub add_still : (x : T) (before : List OwnCall) (old new : List LockPass) (r : Result (AnyAdd T) (Unpaid T)) → AllOf collections old → TriedAdd pr mark x before old new r → AllOf collections new
  add_still x before old new (Ok (add.Index i)) of t = still_of pr collections old new _ of t.1
  add_still x before old new (Ok (add.Closed i y)) of (same, lt, inl did) = still_of pr collections old new _ of did
  add_still x before old new (Ok (add.Closed i y)) of (same, lt, inr did) = still_of pr collections old new _ of did
  add_still x before old new (Ok (add.NoneUsed y)) of t = still_of pr collections old new _ of t.2
  add_still x before old new (Ok (add.NoCollection y)) of t = subst (AllOf collections) (sym t.1.1) of
  add_still x before old new (Ok (add.Cancelled y)) of t = absurd t
  add_still x before old new (Err u) of t = still_of pr collections old new _ of t.3

  pub take_still : (before : ℕ → List OwnCall) (old new : List LockPass) (r : AnyTake T) → AllOf collections old → TriedTake pr mark before old new r → AllOf collections new
  take_still before old new take.NoCollection of t = subst (AllOf collections) (sym t.1) of
  take_still before old new (take.Index i y) of t = still_of pr collections old new _ of t.2
  take_still before old new take.NoneUsed of t = still_of pr collections old new _ of t.4
  take_still before old new take.Ended of t = still_of pr collections old new _ of t.1
  take_still before old new take.Cancelled of t = absurd t
