-- Which replies a call can have. An item that is handed back is the call's own.
use Rattle.std.specs.Prelude.{◌≡◌, ℕ}
use Rattle.ho_model.specs.declared.marks.Tally.{Tally}
use Rattle.channel_core.specs.declared.calls.ChannelCall.{ChannelCall}
use Rattle.channel_core.specs.declared.calls.ChannelCall.TheVariants as call
use Rattle.channel_core.specs.declared.calls.ChannelReply.{ChannelReply}
use Rattle.channel_core.specs.declared.calls.ChannelReply.TheVariants.{Done, Dropped, Full, Refused, Item, Shown, Empty, Count, Closed, Waiting, Ready, Faulted, Cancelled, CancelledWrite, Unknown, Flag}

module _ {T : Type 0} where
  -- to a write of x that needs no wait
  abbrev pub IsWritten : T → ChannelReply T → Type 0
  IsWritten x Done = Unit {0}
  IsWritten x (Dropped y) = Unit {0}
  IsWritten x (Refused fault y) = y ≡ x
  IsWritten x _ = ⊥

  abbrev pub WriteFits : T → ChannelReply T → Type 0
  WriteFits x (Full y) = y ≡ x
  WriteFits x r = IsWritten x r

  abbrev pub BeginWriteFits : T → ChannelReply T → Type 0
  BeginWriteFits x (Waiting number) = Unit {0}
  BeginWriteFits x r = IsWritten x r

  -- to a read that needs no wait
  abbrev pub IsRead : ChannelReply T → Type 0
  IsRead (Item y) = Unit {0}
  IsRead (Closed fault) = Unit {0}
  IsRead _ = ⊥

  abbrev pub ReadFits : ChannelReply T → Type 0
  ReadFits Empty = Unit {0}
  ReadFits r = IsRead r

  abbrev pub BeginReadFits : ChannelReply T → Type 0
  BeginReadFits (Waiting number) = Unit {0}
  BeginReadFits r = IsRead r

  -- to a look that needs no wait
  abbrev pub IsLooked : ChannelReply T → Type 0
  IsLooked (Ready flag) = Unit {0}
  IsLooked (Faulted fault) = Unit {0}
  IsLooked _ = ⊥

  abbrev pub BeginLookFits : ChannelReply T → Type 0
  BeginLookFits (Waiting number) = Unit {0}
  BeginLookFits r = IsLooked r

  -- the answer of a wait
  abbrev pub IsSettled : ChannelReply T → Type 0
  IsSettled Done = Unit {0}
  IsSettled (Refused fault y) = Unit {0}
  IsSettled (Item y) = Unit {0}
  IsSettled (Closed fault) = Unit {0}
  IsSettled (Ready flag) = Unit {0}
  IsSettled (Faulted fault) = Unit {0}
  IsSettled _ = ⊥

  abbrev pub PollFits : ℕ → ChannelReply T → Type 0
  PollFits number (Waiting other) = other ≡ number
  PollFits number Unknown = Unit {0}
  PollFits number r = IsSettled r

  abbrev pub CancelFits : ChannelReply T → Type 0
  CancelFits Cancelled = Unit {0}
  CancelFits (CancelledWrite y) = Unit {0}
  CancelFits Unknown = Unit {0}
  CancelFits r = IsSettled r

  abbrev pub PeekFits : ChannelReply T → Type 0
  PeekFits (Shown number) = Unit {0}
  PeekFits Empty = Unit {0}
  PeekFits _ = ⊥

  abbrev pub CountFits : ChannelReply T → Type 0
  CountFits (Count count) = Unit {0}
  CountFits _ = ⊥

  abbrev pub FlagFits : ChannelReply T → Type 0
  FlagFits (Flag flag) = Unit {0}
  FlagFits _ = ⊥

  abbrev pub fits : Tally → ChannelCall T → ChannelReply T → Type 0
  fits tally (call.Write x) r = WriteFits x r
  fits tally call.Read r = ReadFits r
  fits tally call.Peek r = PeekFits r
  fits tally call.Count r = CountFits r
  fits tally (call.BeginWrite x) r = BeginWriteFits x r
  fits tally call.BeginRead r = BeginReadFits r
  fits tally call.BeginLookWrite r = BeginLookFits r
  fits tally call.BeginLookRead r = BeginLookFits r
  fits tally (call.Poll number) r = PollFits number r
  fits tally (call.Cancel number) r = CancelFits r
  fits tally (call.Complete fault) r = FlagFits r
  fits tally call.Completed r = FlagFits r
