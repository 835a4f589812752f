-- What contracts see of a channel's parts, and what they say of its rows.
use Rattle.std.specs.Prelude.{◌≡◌, ℕ, List, Option, Some, None, Bool, true, false, is_none, ◌≤◌, ◌+◌, slice_index, slice_set, vec_len, vec_capacity}
use Rattle.std.specs.Option.{option_map}
use Rattle.ho_base.specs.Marks.{Mark}
use Rattle.ho_model.specs.declared.marks.CallMark.{CallMark}
use Rattle.ho_model.specs.declared.marks.CallMark.TheVariants as callmark
use Rattle.ho_model.specs.Channel as channel
use Rattle.channel_core.specs.Marks.{fault_number, reply_mark, looked_mark, waits_mark}
use Rattle.channel_core.specs.declared.calls.ChannelReply.{ChannelReply}
use Rattle.channel_core.specs.declared.waits.Looked.{Looked}
use Rattle.channel_core.specs.declared.rows.Core.{Core}
use Rattle.channel_core.specs.declared.rows.Tried.{Tried}
use Rattle.channel_core.specs.declared.rows.Tried.TheVariants.{Answer, Wait, NoMemory}

module _ {T S : Type 0} (mark : T → Mark) (items : S → List Mark) where
  abbrev pub channel_of : Core T S → channel.Channel
  channel_of c =
      record {
        buffer = items c.store;
        waits = waits_mark mark c.waits.items;
        begins = c.begins;
        completion = option_map fault_number c.completion;
      }

module _ {T S : Type 0} (capacity : S → Option ℕ) where
  abbrev pub kind_of : Option (Mark → ℕ) → Core T S → channel.Kind
  kind_of priority c = record { capacity = capacity c.store; mode = c.mode; priority = priority }

  -- no call changes the capacity or the mode
  abbrev pub IsSameKind : Core T S → Core T S → Type 0
  IsSameKind old new = (capacity new.store ≡ capacity old.store) × (new.mode ≡ old.mode)

-- the list of waits is as long and has as much room, and no begin was counted
abbrev pub HasSameRoom : {T S : Type 0} → Core T S → Core T S → Type 0
HasSameRoom old new = (vec_len new.waits ≡ vec_len old.waits) × (vec_capacity new.waits ≡ vec_capacity old.waits) × (new.begins ≡ old.begins)

-- the counts of begins once a caller has begun again
abbrev pub begun : List ℕ → ℕ → List ℕ
begun begins caller = slice_set begins caller (slice_index begins caller + 1)

-- no count of begins rises by more than one
abbrev pub BeginsRise : List ℕ → List ℕ → Type 0
BeginsRise old new = (k : ℕ) → slice_index new k ≤ slice_index old k + 1

module _ {T X : Type 0} where
  -- what was tried has this outcome, or has changed nothing and hands back what it was given
  abbrev pub IsTried : (T → Mark) → Option channel.Outcome → channel.Channel → channel.Channel → X → Tried T X → Type 0
  IsTried mark outcome old new given (Answer reply) = outcome ≡ Some (reply_mark mark reply, new)
  IsTried mark outcome old new given (Wait back) = (outcome ≡ None) × (back ≡ given) × (new ≡ old)
  IsTried mark outcome old new given (NoMemory back) = (back ≡ given) × (new ≡ old)

  -- an answer is of this form
  abbrev pub AnswersBy : (ChannelReply T → Type 0) → Tried T X → Type 0
  AnswersBy fact (Answer reply) = fact reply
  AnswersBy fact _ = Unit {0}

  -- it did not want for memory
  abbrev pub HasMemory : Tried T X → Type 0
  HasMemory (Answer reply) = Unit {0}
  HasMemory (Wait back) = Unit {0}
  HasMemory (NoMemory back) = ⊥

  -- only a store without a capacity wants for memory
  abbrev pub WantsUnbounded : Option ℕ → Tried T X → Type 0
  WantsUnbounded capacity (NoMemory back) = capacity ≡ None
  WantsUnbounded capacity _ = Unit {0}

  -- what was refused for memory leaves the count of arrivals
  abbrev pub KeepsUnpaid : ℕ → ℕ → Tried T X → Type 0
  KeepsUnpaid old new (NoMemory back) = new ≤ old
  KeepsUnpaid old new _ = Unit {0}

abbrev pub unit : Unit {0}
unit = tt

-- a look has this outcome, which changes nothing, or none
abbrev pub IsLook : Option channel.Outcome → channel.Channel → Option Looked → Type 0
IsLook outcome s None = outcome ≡ None
IsLook outcome s (Some found) = outcome ≡ Some (looked_mark found, s)

-- the calls that may want memory: the begins, and a write to a buffer without capacity
abbrev pub wants_memory : Option ℕ → CallMark → Bool
wants_memory capacity (callmark.Write item) = is_none capacity
wants_memory capacity (callmark.BeginWrite item) = true
wants_memory capacity callmark.BeginRead = true
wants_memory capacity callmark.BeginLookWrite = true
wants_memory capacity callmark.BeginLookRead = true
wants_memory capacity _ = false
