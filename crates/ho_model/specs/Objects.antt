-- All objects as one function from a state and an entry to the next state.
use Rattle.std.specs.Prelude.{ℕ, List, [], Option, Some, None, nat_lt, if◌then◌else◌}
use Rattle.std.specs.Option.{option_map}
use Rattle.ho_base.specs.Marks.{Mark}
use Rattle.ho_model.specs.declared.objects.Store.{Store}
use Rattle.ho_model.specs.declared.objects.Mode.{Mode}
use Rattle.ho_model.specs.declared.objects.Mode.TheVariants.{Wait}
use Rattle.ho_model.specs.declared.objects.Object.{Object}
use Rattle.ho_model.specs.declared.objects.Object.TheVariants.{Queue, Bag, Unbounded, Bounded, Prioritized, Blocking}
use Rattle.ho_model.specs.Entries.{EntryMark}
use Rattle.ho_model.specs.Answers.{accepted}
use Rattle.ho_model.specs.Queue.{queue_answer}
use Rattle.ho_model.specs.Bag.{Lists, empty_lists, bag_step}
use Rattle.ho_model.specs.Channel.{Channel, Kind, empty_channel, channel_answer}
use Rattle.ho_model.specs.Blocking as blocking

pub data State : Type 0 where
  QueueState : (items : List Mark) → State
  BagState : (lists : Lists) → State
  ChannelState : (channel : Channel) → State
  BlockingState : (blocking : blocking.Blocking) → State

-- an object before its first call
abbrev pub empty_state : Object → State
empty_state (Queue room first_len) = QueueState []
empty_state Bag = BagState empty_lists
empty_state (Blocking store bound) = BlockingState blocking.empty_blocking
empty_state _ = ChannelState empty_channel

-- the three kinds of channel
abbrev pub unbounded : Kind
unbounded = record { capacity = None; mode = Wait; priority = None }

abbrev pub bounded : ℕ → Mode → Kind
bounded capacity mode = record { capacity = Some capacity; mode = mode; priority = None }

abbrev pub prioritized : (Mark → ℕ) → Kind
prioritized priority = record { capacity = None; mode = Wait; priority = Some priority }

abbrev pub queue_step : ℕ → State → EntryMark → Option State
queue_step room (QueueState items) e = option_map QueueState (accepted (queue_answer room items e.call) e.reply)
queue_step room _ e = None

abbrev pub bag_object_step : State → EntryMark → Option State
bag_object_step (BagState lists) e = option_map BagState (bag_step lists e.caller e.call e.reply)
bag_object_step _ e = None

abbrev pub channel_step : Kind → State → EntryMark → Option State
channel_step kind (ChannelState s) e = option_map ChannelState (accepted (channel_answer kind s e.caller e.call) e.reply)
channel_step kind _ e = None

abbrev pub blocking_step : Store → Option ℕ → State → EntryMark → Option State
blocking_step store bound (BlockingState b) e =
    option_map BlockingState (accepted (blocking.blocking_answer store bound b e.caller e.call) e.reply)
blocking_step store bound _ e = None

-- what an object makes of an entry
abbrev pub stepped : (Mark → ℕ) → Object → State → EntryMark → Option State
stepped priority (Queue room first_len) s e = queue_step room s e
stepped priority Bag s e = bag_object_step s e
stepped priority Unbounded s e = channel_step unbounded s e
stepped priority (Bounded capacity mode) s e = channel_step (bounded capacity mode) s e
stepped priority Prioritized s e = channel_step (prioritized priority) s e
stepped priority (Blocking store bound) s e = blocking_step store bound s e

-- how many callers an object can have
abbrev pub most_callers : ℕ
most_callers = 64

-- the state after an entry, or None where the object refuses it, as it does for a caller of 64 or
-- more. priority is that of an item with a mark
abbrev pub object_step : (Mark → ℕ) → Object → State → EntryMark → Option State
object_step priority o s e = if nat_lt e.caller most_callers then stepped priority o s e else None
