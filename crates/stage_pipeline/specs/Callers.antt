-- Who calls on a joint, and by which calls.
use Rattle.std.specs.Prelude.{◌≡◌, ℕ, List, Bool, true, false, cond, not, ◌&&◌, All, slice_index_or}
use Rattle.ho_model.specs.declared.marks.CallMark.{CallMark}
use Rattle.ho_model.specs.declared.marks.CallMark.TheVariants.{BeginRead, BeginWrite, Poll, CompleteWith}
use Rattle.ho_model.specs.declared.marks.EntryMark.{EntryMark}
use Rattle.ho_model.specs.declared.marks.ReplyMark.{ReplyMark}
use Rattle.ho_model.specs.declared.marks.ReplyMark.TheVariants.{Unknown}
use Rattle.passes.specs.Numbers.{HoldsBelow, held_count}
use Rattle.turn_lock.specs.Passes.{LockPass}

-- a reader begins reads, and polls them
abbrev pub is_readers_call : CallMark → Bool
is_readers_call BeginRead = true
is_readers_call (Poll number) = true
is_readers_call _ = false

-- a writer begins writes, polls them, and completes the joint
abbrev pub is_writers_call : CallMark → Bool
is_writers_call (BeginWrite item) = true
is_writers_call (Poll number) = true
is_writers_call (CompleteWith fault) = true
is_writers_call _ = false

-- there is such a wait
abbrev pub is_known : ReplyMark → Bool
is_known Unknown = false
is_known _ = true

-- a call of a reader, or else of a writer; each poll is of a wait that was begun and had not ended
abbrev pub is_call_of : Bool → EntryMark → Bool
is_call_of reader e = cond reader (is_readers_call e.call) (is_writers_call e.call) && is_known e.reply

-- any other call
abbrev pub strays : Bool → EntryMark → Bool
strays reader e = not (is_call_of reader e)

-- Of the callers so many are readers, and the others are writers. There are no calls beside theirs.
pub record IsReadBy (count : ℕ) (p : LockPass) : Type 0 where
  pub readers : List Bool
  pub many : held_count readers ≡ count
  pub below : HoldsBelow p.callers readers
  pub calls : All (λ e. is_call_of (slice_index_or readers e.caller false) e ≡ true) p.seen
