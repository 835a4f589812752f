-- An answer is an entry of the priority object.
use Rattle.std.proofs.Common.{◌≡◌, ℕ, ◌<◌, Some, None}
use Rattle.ho_base.specs.Marks.{Mark}
use Rattle.ho_model.specs.declared.marks.CallMark.{CallMark}
use Rattle.ho_model.specs.declared.marks.ReplyMark.{ReplyMark}
use Rattle.ho_model.specs.declared.objects.Mode.{Mode}
use Rattle.ho_model.specs.declared.objects.Mode.TheVariants.{Wait}
use Rattle.ho_model.specs.declared.objects.Object.TheVariants as object
use Rattle.ho_model.specs.Entries.{entry}
use Rattle.ho_model.specs.Channel.{Channel, channel_answer}
use Rattle.ho_model.specs.Objects.{ChannelState, object_step, prioritized, most_callers}
use Rattle.ho_model.proofs.Replies.{channel_entry, entry_of_caller}

pub priority_step : (priority : Mark → ℕ) (mode : Mode) (s t : Channel) (caller : ℕ) (call : CallMark) (reply : ReplyMark) → mode ≡ Wait → caller < most_callers
    → channel_answer (record { capacity = None; mode = mode; priority = Some priority }) s caller call ≡ Some (reply, t) → object_step priority object.Prioritized (ChannelState s) (entry caller call reply) ≡ Some (ChannelState t)
priority_step priority mode s t caller call reply plain below h =
    entry_of_caller priority object.Prioritized (ChannelState s) (ChannelState t) (entry caller call reply) below (channel_entry (prioritized priority) s t caller call reply (rw plain at h))
