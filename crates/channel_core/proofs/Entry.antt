-- An answer is an entry of the object.
use Rattle.std.proofs.Common.{◌≡◌, ℕ, ◌<◌, refl}
use Rattle.std.specs.Prelude.{Option, Some, None}
use Rattle.ho_base.specs.Marks.{Mark}
use Rattle.ho_model.specs.declared.marks.CallMark.{CallMark}
use Rattle.ho_model.specs.declared.marks.ReplyMark.{ReplyMark}
use Rattle.ho_model.specs.declared.objects.Mode.{Mode}
use Rattle.ho_model.specs.declared.objects.Mode.TheVariants.{Wait}
use Rattle.ho_model.specs.Entries.{entry}
use Rattle.ho_model.specs.Channel.{Channel, channel_answer}
use Rattle.ho_model.specs.Objects.{ChannelState, object_step, unbounded, bounded, most_callers}
use Rattle.ho_model.proofs.Replies.{channel_entry, entry_of_caller}
use Rattle.channel_core.specs.Kept.{object_with}

-- what a channel with or without a capacity answers is an entry of its object
pub step_from_answer : (priority : Mark → ℕ) (capacity : Option ℕ) (mode : Mode) (s t : Channel) (caller : ℕ) (call : CallMark) (reply : ReplyMark) → (capacity ≡ None → mode ≡ Wait) → caller < most_callers
    → channel_answer (record { capacity = capacity; mode = mode; priority = None }) s caller call ≡ Some (reply, t) → object_step priority (object_with capacity mode) (ChannelState s) (entry caller call reply) ≡ Some (ChannelState t)
step_from_answer priority None mode s t caller call reply plain below h =
    let e : mode ≡ Wait = plain refl in
    entry_of_caller priority (object_with None mode) (ChannelState s) (ChannelState t) (entry caller call reply) below (channel_entry unbounded s t caller call reply (rw e at h))
step_from_answer priority (Some n) mode s t caller call reply plain below h =
    entry_of_caller priority (object_with (Some n) mode) (ChannelState s) (ChannelState t) (entry caller call reply) below (channel_entry (bounded n mode) s t caller call reply h)
