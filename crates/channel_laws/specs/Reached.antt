-- The states that histories of channels reach, and what holds of their waits.
use Rattle.std.specs.Prelude.{◌≡◌, ℕ, ◌<◌, ◌≤◌, List, true, false, Option, Some, None, length, slice_index}
use Rattle.std.specs.List.{AllByRecursion, count_by}
use Rattle.ho_model.specs.declared.objects.Object.{Object}
use Rattle.ho_model.specs.declared.objects.Object.TheVariants as object
use Rattle.ho_model.specs.Objects as objects
use Rattle.ho_base.specs.Marks.{Mark}
use Rattle.ho_model.specs.declared.marks.EntryMark.{EntryMark}
use Rattle.ho_model.specs.Channel.{is_wait, Standing, WantsItem, WantsRoom, LooksForItem, LooksForRoom, Answered, Channel, Kind, is_full, drops}
use Rattle.ho_model.specs.Histories.{state_after}

-- a wait for an item stands unanswered only with an empty buffer, one for room only with a full one
-- in mode Wait, and none after a completion
abbrev pub IsSettled : Kind → ℕ → Option ℕ → Standing → Type 0
IsSettled kind count completion WantsItem = (count ≡ 0) × (completion ≡ None)
IsSettled kind count completion LooksForItem = (count ≡ 0) × (completion ≡ None)
IsSettled kind count completion (WantsRoom item) = (is_full kind.capacity count ≡ true) × ((drops kind.mode ≡ false) × (completion ≡ None))
IsSettled kind count completion LooksForRoom = (is_full kind.capacity count ≡ true) × ((drops kind.mode ≡ false) × (completion ≡ None))
IsSettled kind count completion (Answered reply) = Unit {0}

-- no two waits have one name, and each number is below its caller's count of begins
pub record IsNamed (s : Channel) : Type 0 where
  pub once : (c n : ℕ) → count_by (is_wait c n) s.waits ≤ 1
  pub below : AllByRecursion (λ w. w.number < slice_index s.begins w.caller) s.waits

-- 64 counts of begins, names as above, and each wait only where it must stand
pub record IsReached (kind : Kind) (s : Channel) : Type 0 where
  pub callers : length s.begins ≡ 64
  pub named : IsNamed s
  pub settled : AllByRecursion (λ w. IsSettled kind (length s.buffer) s.completion w.standing) s.waits

-- the channel objects
abbrev pub IsChannel : Object → Type 0
IsChannel object.Unbounded = Unit {0}
IsChannel (object.Bounded capacity mode) = Unit {0}
IsChannel object.Prioritized = Unit {0}
IsChannel _ = ⊥

-- those of them that have room for an item, and what kind of channel each is
abbrev pub IsChannelObject : Object → Type 0
IsChannelObject object.Unbounded = Unit {0}
IsChannelObject (object.Bounded capacity mode) = 0 < capacity
IsChannelObject object.Prioritized = Unit {0}
IsChannelObject _ = ⊥

abbrev pub kind_in : (Mark → ℕ) → Object → Kind
kind_in priority (object.Bounded capacity mode) = objects.bounded capacity mode
kind_in priority object.Prioritized = objects.prioritized priority
kind_in priority _ = objects.unbounded

-- the history of a channel is legal, and leaves it in this state
abbrev pub Leaves : (Mark → ℕ) → Object → List EntryMark → Channel → Type 0
Leaves priority o history s = IsChannel o × (state_after priority o history ≡ Some (objects.ChannelState s))

-- the same of a channel that has room for an item
abbrev pub Reaches : (Mark → ℕ) → Object → List EntryMark → Channel → Type 0
Reaches priority o history s = IsChannelObject o × (state_after priority o history ≡ Some (objects.ChannelState s))
