-- What contracts see of a channel machine, and what each keeps.
use Rattle.std.specs.Prelude.{◌≡◌, ℕ, ◌≤◌, List, Option, Some, None, Bool, slice_index}
use Rattle.ho_base.specs.Marks.{Mark}
use Rattle.ho_model.specs.declared.marks.CallMark.{CallMark}
use Rattle.ho_model.specs.declared.marks.EntryMark.{EntryMark}
use Rattle.ho_model.specs.declared.objects.Mode.{Mode}
use Rattle.ho_model.specs.declared.objects.Mode.TheVariants.{Wait}
use Rattle.ho_model.specs.declared.objects.Object.{Object}
use Rattle.ho_model.specs.declared.objects.Object.TheVariants as object
use Rattle.ho_model.specs.Channel as channel
use Rattle.ho_model.specs.Objects.{State, ChannelState}
use Rattle.ho_model.specs.Tallies.{no_tally}
use Rattle.ho_model.specs.Histories.{StandsFor}
use Rattle.channel_core.specs.Rows.{wants_memory}
use Rattle.channel_core.specs.Store.{HasRoom}

-- callers is how many it serves, and steps how many entries it has made
pub record Kept : Type 0 where
  pub object : Object
  pub callers : ℕ
  pub steps : ℕ
  pub channel : channel.Channel

abbrev pub state_of : Kept → State
state_of k = ChannelState k.channel

-- the machine is of the object, serves so many callers, and stands for the history
abbrev pub IsMachineOf : (Mark → ℕ) → Object → ℕ → Kept → List EntryMark → Type 0
IsMachineOf priority o callers k history =
    (k.callers ≡ callers) × StandsFor priority (λ s. s.object) (λ s. s.callers) state_of (λ s. s.steps) (λ s. no_tally) o callers k history

-- a channel with or without a capacity
abbrev pub object_with : Option ℕ → Mode → Object
object_with None mode = object.Unbounded
object_with (Some capacity) mode = object.Bounded capacity mode

-- no caller is out of range, no count passes the count of steps, and there is room for an item
pub record IsSound (callers steps arrivals : ℕ) (begins : List ℕ) (capacity : Option ℕ) (mode : Mode) : Type 0 where
  pub few : callers ≤ 64
  pub counted : (k : ℕ) → slice_index begins k ≤ steps
  pub arrived : arrivals ≤ steps
  pub room : HasRoom capacity
  pub waits : capacity ≡ None → mode ≡ Wait

abbrev pub capacity_in : Object → Option ℕ
capacity_in (object.Bounded capacity mode) = Some capacity
capacity_in _ = None

-- the calls of a channel that may want memory
abbrev pub may_want : Object → CallMark → Bool
may_want o call = wants_memory (capacity_in o) call
