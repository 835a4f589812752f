-- The laws of channels, each over all legal histories.
use Rattle.std.specs.Prelude.{◌∷◌, ◌++◌, ◌⊎◌, ◌≡◌, ℕ, ◌<◌, ◌≤◌, ◌↔◌, List, [], Bool, true, false, IsTrue, Some, is_some, length}
use Rattle.std.specs.List.{AllByRecursion}
use Rattle.ho_base.specs.Marks.{Mark}
use Rattle.ho_model.specs.declared.marks.CallMark.{CallMark}
use Rattle.ho_model.specs.declared.marks.CallMark.TheVariants.{Poll, Cancel, Completed}
use Rattle.ho_model.specs.declared.marks.EntryMark.{EntryMark}
use Rattle.ho_model.specs.declared.marks.ReplyMark.{ReplyMark}
use Rattle.ho_model.specs.declared.marks.ReplyMark.TheVariants.{Waiting, Flag}
use Rattle.ho_model.specs.declared.objects.Object.{Object}
use Rattle.ho_model.specs.Channel.{Channel, Kind, channel_answer, poll, cancel, is_completed, is_waiting, item_at, read_place}
use Rattle.channel_laws.specs.Twin.{twin, is_open, is_of_wait, Follows, standing_of, given_up, IsCancelReply, others_of}
use Rattle.ho_model.specs.Entries.{entry}
use Rattle.ho_model.specs.Histories.{fold_from, state_after, IsLegal}
use Rattle.ho_model.specs.Objects.{State, ChannelState, object_step, most_callers}
use Rattle.channel_laws.specs.Kinds.{AnswersBegin, CancelsBegin, is_begin, is_waiting_reply, ends_wait}
use Rattle.channel_laws.specs.Reached.{IsChannel, IsReached, Leaves, Reaches, kind_in}

-- a cancel of an unanswered wait gives it up, with a write's own item, and leaves exactly the channel
-- without the wait
abbrev pub CancelLeavesTwin : Type 0
CancelLeavesTwin =
    (priority : Mark → ℕ) (o : Object) (history : List EntryMark) (s : Channel) (c n : ℕ) → Leaves priority o history s →
    is_open c n s.waits ≡ true → ((cancel s c n).0 ≡ given_up (standing_of c n s.waits)) × ((cancel s c n).1 ≡ twin c n s)

-- a cancel that says that it gave a wait up found it unanswered
abbrev pub CancelledWasOpen : Type 0
CancelledWasOpen =
    (priority : Mark → ℕ) (o : Object) (history : List EntryMark) (s : Channel) (c n : ℕ) → Leaves priority o history s →
    IsCancelReply (cancel s c n).0 → is_open c n s.waits ≡ true

-- a poll that says that a wait stands found it unanswered, and changes nothing
abbrev pub WaitingIsOpen : Type 0
WaitingIsOpen =
    (priority : Mark → ℕ) (o : Object) (history : List EntryMark) (s : Channel) (c n : ℕ) → Leaves priority o history s →
    is_waiting_reply (poll s c n).0 ≡ true → (is_open c n s.waits ≡ true) × ((poll s c n).1 ≡ s)

-- every call but a poll or a cancel of an unanswered wait answers that wait, or follows the channel
-- without it
abbrev pub OthersFollow : Type 0
OthersFollow =
    (priority : Mark → ℕ) (o : Object) (history : List EntryMark) (s : Channel) (c n caller : ℕ) (call : CallMark) → Leaves priority o history s →
    is_open c n s.waits ≡ true → is_of_wait c n caller call ≡ false →
    Follows c n (channel_answer (kind_in priority o) s caller call) (channel_answer (kind_in priority o) (twin c n s) caller call)

-- A history in which a wait was cancelled: s is the channel after the begin. What was done from there on
-- is done with the same replies without the wait, and leaves the same channel
abbrev pub DoneWithoutTheWait : Type 0
DoneWithoutTheWait =
    (priority : Mark → ℕ) (o : Object) (before rest : List EntryMark) (c n : ℕ) (b : CallMark) (r : ReplyMark) (s : Channel) (t : State) → is_begin b ≡ true →
    AllByRecursion (λ e. ends_wait c n e ≡ false) rest → IsCancelReply r →
    state_after priority o (before ++ entry c b (Waiting n) ∷ []) ≡ Some (ChannelState s) →
    state_after priority o (before ++ entry c b (Waiting n) ∷ (rest ++ entry c (Cancel n) r ∷ [])) ≡ Some t →
    fold_from priority o (ChannelState (twin c n s)) (others_of c n rest) ≡ Some t

-- so the cancel could as well have come at once
abbrev pub CancelledAtOnce : Type 0
CancelledAtOnce =
    (priority : Mark → ℕ) (o : Object) (before rest : List EntryMark) (c n : ℕ) (b : CallMark) (r : ReplyMark) (t : State) → is_begin b ≡ true →
    AllByRecursion (λ e. ends_wait c n e ≡ false) rest → IsCancelReply r →
    state_after priority o (before ++ entry c b (Waiting n) ∷ (rest ++ entry c (Cancel n) r ∷ [])) ≡ Some t →
    state_after priority o (before ++ entry c b (Waiting n) ∷ (entry c (Cancel n) r ∷ others_of c n rest)) ≡ Some t

-- each wait has a name of its own, and stands unanswered only where it must
abbrev pub WaitsStandWhereTheyMust : Type 0
WaitsStandWhereTheyMust =
    (priority : Mark → ℕ) (o : Object) (history : List EntryMark) (s : Channel) → Reaches priority o history s → IsReached (kind_in priority o) s

-- the completion is set, and there is no item
abbrev pub HasEnded : Channel → Type 0
HasEnded s = (is_some s.completion ≡ true) × (s.buffer ≡ [])

-- a channel of any kind answers yes exactly where it has ended, and stays as it is
abbrev pub CompletedAnswersExactly : Type 0
CompletedAnswersExactly =
    (kind : Kind) (s : Channel) (caller : ℕ) → (channel_answer kind s caller Completed ≡ Some (Flag true, s)) ↔ HasEnded s

-- a channel accepts the entry `Completed` with this reply exactly where the reply is yes if it has ended,
-- and no if not; and stays as it is
abbrev pub CompletedExactly : Type 0
CompletedExactly =
    (priority : Mark → ℕ) (o : Object) (s : Channel) (after : State) (caller : ℕ) (told : Bool) → IsChannel o →
    (object_step priority o (ChannelState s) (entry caller Completed (Flag told)) ≡ Some after) ↔ ((caller < most_callers) × (after ≡ ChannelState s) × (IsTrue told ↔ HasEnded s))

-- once it is completed no wait is unanswered
abbrev pub CompletedHasNoWaits : Type 0
CompletedHasNoWaits =
    (priority : Mark → ℕ) (o : Object) (history : List EntryMark) (s : Channel) → Reaches priority o history s →
    is_completed s ≡ true → AllByRecursion (λ w. is_waiting w.standing ≡ false) s.waits

-- an object that accepts a begin is a channel
abbrev pub BeginsAreOfChannels : Type 0
BeginsAreOfChannels = (priority : Mark → ℕ) (o : Object) (before : List EntryMark) (e : EntryMark) → is_begin e.call ≡ true → IsLegal priority o (before ++ e ∷ []) → IsChannel o

-- A wait that a begin left answers in the kind of that begin: until it is forgotten, a poll of it says
-- that it stands, or answers so
abbrev pub PollsAnswerInKind : Type 0
PollsAnswerInKind =
    (priority : Mark → ℕ) (o : Object) (before rest : List EntryMark) (c n : ℕ) (b : CallMark) (r : ReplyMark) → is_begin b ≡ true →
    AllByRecursion (λ e. ends_wait c n e ≡ false) rest →
    IsLegal priority o (before ++ entry c b (Waiting n) ∷ (rest ++ entry c (Poll n) r ∷ [])) → (r ≡ Waiting n) ⊎ AnswersBegin b r

-- and a cancel of it says that it is given up, with a write's own item, or answers so
abbrev pub CancelsAnswerInKind : Type 0
CancelsAnswerInKind =
    (priority : Mark → ℕ) (o : Object) (before rest : List EntryMark) (c n : ℕ) (b : CallMark) (r : ReplyMark) → is_begin b ≡ true →
    AllByRecursion (λ e. ends_wait c n e ≡ false) rest →
    IsLegal priority o (before ++ entry c b (Waiting n) ∷ (rest ++ entry c (Cancel n) r ∷ [])) → CancelsBegin b r ⊎ AnswersBegin b r

-- place is that of the first item of least priority
pub record IsFirstLeast (priority : Mark → ℕ) (buffer : List Mark) (place : ℕ) : Type 0 where
  pub below : place < length buffer
  pub least : (k : ℕ) → k < length buffer → priority (item_at buffer place) ≤ priority (item_at buffer k)
  pub first : (k : ℕ) → k < place → priority (item_at buffer place) < priority (item_at buffer k)

abbrev pub ReadsTakeFirstLeast : Type 0
ReadsTakeFirstLeast = (priority : Mark → ℕ) (buffer : List Mark) → 0 < length buffer → IsFirstLeast priority buffer (read_place (Some priority) buffer)
