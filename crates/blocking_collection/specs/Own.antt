-- The calls that a pass makes within one call of the library, in order.
use Rattle.std.specs.Prelude.{◌≡◌, ℕ, suc, zero, ◌<◌, ◌++◌, List, [], ◌∷◌, length, Bool, true, ◌⊎◌}
use Rattle.ho_base.specs.Marks.{Mark}
use Rattle.ho_model.specs.declared.marks.CallMark.{CallMark}
use Rattle.ho_model.specs.declared.marks.CallMark.TheVariants as callmark
use Rattle.ho_model.specs.declared.marks.ReplyMark.{ReplyMark}
use Rattle.ho_model.specs.declared.marks.ReplyMark.TheVariants as replymark
use Rattle.ho_model.specs.declared.marks.EntryMark.{EntryMark}
use Rattle.ho_model.specs.declared.objects.Object.{Object}
use Rattle.ho_model.specs.Entries.{entry}
use Rattle.blocking_core.specs.Kept.{may_want}
use Rattle.passes.specs.Calls.{IsSamePass, AddsOwn}
use Rattle.passes.specs.Repeats.{Counts}
use Rattle.turn_lock.specs.Passes.{LockPass}
use Rattle.turn_lock.specs.Calls.{HasNoCallLeft}

-- An own call: with its reply, or handed back for want of memory, which leaves no entry.
pub data OwnCall : Type 0 where
  Answered : (call : CallMark) (reply : ReplyMark) → OwnCall
  HandedBack : (call : CallMark) → OwnCall

-- the entries of own calls
abbrev pub entries_by : ℕ → List OwnCall → List EntryMark
entries_by caller [] = []
entries_by caller (Answered call reply ∷ calls) = entry caller call reply ∷ entries_by caller calls
entries_by caller (HandedBack call ∷ calls) = entries_by caller calls

-- only calls that may want memory are handed back
abbrev pub MayWant : Object → List OwnCall → Type 0
MayWant object [] = Unit {0}
MayWant object (Answered call reply ∷ calls) = MayWant object calls
MayWant object (HandedBack call ∷ calls) = (may_want object call ≡ true) × MayWant object calls

-- From p to q a pass made these calls, of which there is at least one, and had a call left before. It is
-- of the same object, caller and numbers, and has met no obstacle. Each of the calls is counted. Its own
-- entries are theirs, and all that it has seen is legal.
pub record Did (priority : Mark → ℕ) (p : LockPass) (calls : List OwnCall) (q : LockPass) : Type 0 where
  pub some : 0 < length calls
  pub below_limit : ¬ HasNoCallLeft p
  pub same : IsSamePass p q
  pub met : q.met ≡ p.met
  pub counted : Counts (length calls) p q
  pub wanted : MayWant p.object calls
  pub owns : AddsOwn priority p (entries_by p.caller calls) q

-- The same, or no call was made by the pass, which is then as it was.
abbrev pub DidOrRests : (Mark → ℕ) → LockPass → List OwnCall → LockPass → Type 0
DidOrRests priority p calls q = ((calls ≡ []) × (q ≡ p)) ⊎ Did priority p calls q

-- the same calls n times
abbrev pub times : ℕ → List OwnCall → List OwnCall
times zero calls = []
times (suc n) calls = times n calls ++ calls

-- own calls of a blocking collection
abbrev pub added : Mark → ReplyMark → OwnCall
added x reply = Answered (callmark.Add x) reply

abbrev pub unpaid_add : Mark → OwnCall
unpaid_add x = HandedBack (callmark.Add x)

abbrev pub taken : ReplyMark → OwnCall
taken reply = Answered callmark.Take reply

abbrev pub asked : Bool → OwnCall
asked flag = Answered callmark.AddingCompleted (replymark.Flag flag)
