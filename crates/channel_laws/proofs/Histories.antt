-- What holds of every state that a history reaches.
use Rattle.std.specs.Prelude.{◌≡◌, ℕ, ◌<◌, ◌↔◌, List, [], ◌∷◌, ◌++◌, Bool, true, false, IsTrue, Option, Some, None, is_some, length, ◌==◌}
use Rattle.std.specs.List.{AllByRecursion}
use Rattle.std.proofs.Common.{refl, ap, sym, ◌∙◌, subst, arith}
use Rattle.std.proofs.lemmas.Bool.{and_parts, eqb-true, both_ways}
use Rattle.ho_model.specs.declared.objects.Object.{Object}
use Rattle.ho_model.specs.declared.objects.Object.TheVariants as object
use Rattle.ho_base.specs.Marks.{Mark}
use Rattle.ho_model.specs.declared.marks.ReplyMark.{ReplyMark}
use Rattle.ho_model.specs.declared.marks.EntryMark.{EntryMark}
use Rattle.ho_model.specs.declared.objects.Store.{Store}
use Rattle.ho_model.specs.declared.marks.CallMark.{CallMark}
use Rattle.ho_model.specs.declared.marks.CallMark.TheVariants.{BeginWrite, BeginRead, BeginLookWrite, BeginLookRead, Completed}
use Rattle.ho_model.specs.declared.marks.ReplyMark.TheVariants.{Flag}
use Rattle.ho_model.specs.Channel.{Channel, Kind, Outcome, Standing, WantsItem, WantsRoom, LooksForItem, LooksForRoom, Answered, Waiter, is_completed, is_waiting, channel_answer, empty_channel}
use Rattle.ho_model.specs.Entries.{entry}
use Rattle.ho_model.specs.Objects.{State, QueueState, BagState, ChannelState, BlockingState, object_step, queue_step, bag_object_step, channel_step, blocking_step, stepped, most_callers, empty_state}
use Rattle.ho_model.proofs.Folds.{and_then_some, legal_last}
use Rattle.ho_model.proofs.Replies.{channel_entry, channel_entry_is, accepted_caller, entry_of_caller}
use Rattle.ho_model.specs.Histories.{fold_from, state_after, IsLegal}
use Rattle.channel_laws.specs.Kinds.{is_begin}
use Rattle.channel_laws.specs.Laws.{HasEnded, CompletedAnswersExactly, CompletedExactly}
use Rattle.channel_laws.specs.Reached.{IsSettled, IsReached, IsChannel, IsChannelObject, Leaves, Reaches, kind_in}
use Rattle.channel_laws.proofs.Effects.{Holds}
use Rattle.channel_laws.proofs.Naming.{IsOrdered, order_stays, empty_in_order}
use Rattle.channel_laws.proofs.Settling.{HasRoom, StaysReached, steps_stay, empty_is_reached}

-- an entry of a channel object is one of its channel
pub kind_is : (priority : Mark → ℕ) (o : Object) → IsChannel o → (s : Channel) (e : EntryMark) → stepped priority o (ChannelState s) e ≡ channel_step (kind_in priority o) (ChannelState s) e
kind_is priority object.Unbounded room s e = refl
kind_is priority (object.Bounded capacity mode) room s e = refl
kind_is priority object.Prioritized room s e = refl
kind_is priority (object.Queue room' first) room s e = absurd room
kind_is priority object.Bag room s e = absurd room
kind_is priority (object.Blocking store bound) room s e = absurd room

-- a channel with room is a channel
pub is_channel : (o : Object) → IsChannelObject o → IsChannel o
is_channel object.Unbounded room = tt
is_channel (object.Bounded capacity mode) room = tt
is_channel object.Prioritized room = tt
is_channel (object.Queue room' first) room = absurd room
is_channel object.Bag room = absurd room
is_channel (object.Blocking store bound) room = absurd room

pub has_room : (priority : Mark → ℕ) (o : Object) → IsChannelObject o → HasRoom (kind_in priority o).capacity
has_room priority object.Unbounded room = tt
has_room priority (object.Bounded capacity mode) room = room
has_room priority object.Prioritized room = tt
has_room priority (object.Queue room' first) room = absurd room
has_room priority object.Bag room = absurd room
has_room priority (object.Blocking store bound) room = absurd room

pub starts_empty : (o : Object) → IsChannel o → empty_state o ≡ ChannelState empty_channel
starts_empty object.Unbounded room = refl
starts_empty (object.Bounded capacity mode) room = refl
starts_empty object.Prioritized room = refl
starts_empty (object.Queue room' first) room = absurd room
starts_empty object.Bag room = absurd room
starts_empty (object.Blocking store bound) room = absurd room

-- an entry that a channel object accepts: its caller, the channel after it, and the channel's answer
pub record IsEntry (kind : Kind) (s : Channel) (e : EntryMark) (t : State) : Type 0 where
  pub caller : e.caller < most_callers
  pub after : Channel
  pub state : t ≡ ChannelState after
  pub answer : ◌≡◌ {A = Option Outcome} (channel_answer kind s e.caller e.call) (Some (e.reply, after))

pub entry_is : (priority : Mark → ℕ) (o : Object) → IsChannel o → (s : Channel) (e : EntryMark) (t : State) → object_step priority o (ChannelState s) e ≡ Some t → IsEntry (kind_in priority o) s e t
entry_is priority o room s e t h =
    let by = accepted_caller priority o (ChannelState s) t e h in
    let own = channel_entry_is (kind_in priority o) s e t (sym (kind_is priority o room s e) ∙ by.1) in
    record { caller = by.0; after = own.0; state = own.1; answer = own.2 }

runs_stay : (priority : Mark → ℕ) (o : Object) → IsChannelObject o → (es : List EntryMark) (s : Channel) (t : State) → IsReached (kind_in priority o) s → fold_from priority o (ChannelState s) es ≡ Some t → (x : Channel) × (t ≡ ChannelState x) × IsReached (kind_in priority o) x
runs_stay priority o room [] s t was h = let e : ChannelState s ≡ t = cc in (s, sym e, was)
runs_stay priority o room (e ∷ es) s t was h =
    let by = and_then_some (λ n. fold_from priority o n es) (object_step priority o (ChannelState s) e) t h in
    let own = entry_is priority o (is_channel o room) s e by.0 by.1 in
    let kept = steps_stay (kind_in priority o) s e.caller e.call (has_room priority o room) own.caller was in
    runs_stay priority o room es own.after t (subst (StaysReached (kind_in priority o)) own.answer kept) (subst (λ (n : State). fold_from priority o n es ≡ Some t) own.state by.2)

-- what a legal history of a channel object reaches
pub history_reaches : (priority : Mark → ℕ) (o : Object) (history : List EntryMark) (t : State) → IsChannelObject o → state_after priority o history ≡ Some t → (x : Channel) × (t ≡ ChannelState x) × IsReached (kind_in priority o) x
history_reaches priority o history t room h =
    runs_stay priority o room history empty_channel t (empty_is_reached (kind_in priority o)) (subst (λ (n : State). fold_from priority o n history ≡ Some t) (starts_empty o (is_channel o room)) h)

runs_named : (priority : Mark → ℕ) (o : Object) → IsChannel o → (es : List EntryMark) (s : Channel) (t : State) → IsOrdered s.begins s.waits → fold_from priority o (ChannelState s) es ≡ Some t → (x : Channel) × (t ≡ ChannelState x) × IsOrdered x.begins x.waits
runs_named priority o is [] s t was h = let e : ChannelState s ≡ t = cc in (s, sym e, was)
runs_named priority o is (e ∷ es) s t was h =
    let by = and_then_some (λ n. fold_from priority o n es) (object_step priority o (ChannelState s) e) t h in
    let own = entry_is priority o is s e by.0 by.1 in
    let kept = order_stays (kind_in priority o) s e.caller e.call own.caller was in
    runs_named priority o is es own.after t (subst (Holds IsOrdered) own.answer kept) (subst (λ (n : State). fold_from priority o n es ≡ Some t) own.state by.2)

-- after a legal history of a channel of any capacity each wait has a name of its own, and each stored
-- answer is one
pub history_names : (priority : Mark → ℕ) (o : Object) (history : List EntryMark) (t : State) → IsChannel o → state_after priority o history ≡ Some t → (x : Channel) × (t ≡ ChannelState x) × IsOrdered x.begins x.waits
history_names priority o history t is h =
    runs_named priority o is history empty_channel t empty_in_order (subst (λ (n : State). fold_from priority o n history ≡ Some t) (starts_empty o is) h)

-- no other object accepts a begin
queue_begins_not : (room : ℕ) (s t : State) (c : ℕ) (call : CallMark) (r : ReplyMark) → is_begin call ≡ true → queue_step room s (entry c call r) ≡ Some t → ⊥
queue_begins_not room (QueueState items) t c (BeginWrite x) r so h = let no : None ≡ Some t = h in cc
queue_begins_not room (QueueState items) t c BeginRead r so h = let no : None ≡ Some t = h in cc
queue_begins_not room (QueueState items) t c BeginLookRead r so h = let no : None ≡ Some t = h in cc
queue_begins_not room (QueueState items) t c BeginLookWrite r so h = let no : None ≡ Some t = h in cc
queue_begins_not room (QueueState items) t c _ r so h = both_ways false refl so
queue_begins_not room _ t c call r so h = let no : None ≡ Some t = h in cc

bag_begins_not : (s t : State) (c : ℕ) (call : CallMark) (r : ReplyMark) → is_begin call ≡ true → bag_object_step s (entry c call r) ≡ Some t → ⊥
bag_begins_not (BagState lists) t c (BeginWrite x) r so h = let no : None ≡ Some t = h in cc
bag_begins_not (BagState lists) t c BeginRead r so h = let no : None ≡ Some t = h in cc
bag_begins_not (BagState lists) t c BeginLookRead r so h = let no : None ≡ Some t = h in cc
bag_begins_not (BagState lists) t c BeginLookWrite r so h = let no : None ≡ Some t = h in cc
bag_begins_not (BagState lists) t c _ r so h = both_ways false refl so
bag_begins_not _ t c call r so h = let no : None ≡ Some t = h in cc

blocking_begins_not : (store : Store) (bound : Option ℕ) (s t : State) (c : ℕ) (call : CallMark) (r : ReplyMark) → is_begin call ≡ true → blocking_step store bound s (entry c call r) ≡ Some t → ⊥
blocking_begins_not store bound (BlockingState b) t c (BeginWrite x) r so h = let no : None ≡ Some t = h in cc
blocking_begins_not store bound (BlockingState b) t c BeginRead r so h = let no : None ≡ Some t = h in cc
blocking_begins_not store bound (BlockingState b) t c BeginLookRead r so h = let no : None ≡ Some t = h in cc
blocking_begins_not store bound (BlockingState b) t c BeginLookWrite r so h = let no : None ≡ Some t = h in cc
blocking_begins_not store bound (BlockingState b) t c _ r so h = both_ways false refl so
blocking_begins_not store bound _ t c call r so h = let no : None ≡ Some t = h in cc

begun_of_channel : (priority : Mark → ℕ) (o : Object) (s t : State) (e : EntryMark) → is_begin e.call ≡ true → stepped priority o s e ≡ Some t → IsChannel o
begun_of_channel priority object.Unbounded s t e so h = tt
begun_of_channel priority (object.Bounded capacity mode) s t e so h = tt
begun_of_channel priority object.Prioritized s t e so h = tt
begun_of_channel priority (object.Queue room first) s t e so h = queue_begins_not room s t e.caller e.call e.reply so h
begun_of_channel priority object.Bag s t e so h = bag_begins_not s t e.caller e.call e.reply so h
begun_of_channel priority (object.Blocking store bound) s t e so h = blocking_begins_not store bound s t e.caller e.call e.reply so h

pub begins_are_of_channels : (priority : Mark → ℕ) (o : Object) (before : List EntryMark) (e : EntryMark) → is_begin e.call ≡ true → IsLegal priority o (before ++ e ∷ []) → IsChannel o
begins_are_of_channels priority o before e so legal =
    let last = legal_last priority o before e legal in
    begun_of_channel priority o last.0 last.1 e so (accepted_caller priority o last.0 last.1 e last.2).1

abbrev pub channel_in : State → Channel
channel_in (ChannelState s) = s
channel_in _ = empty_channel

-- the channel that a history leaves is in order
pub ordered_by : (priority : Mark → ℕ) (o : Object) (history : List EntryMark) (s : Channel) → Leaves priority o history s → IsOrdered s.begins s.waits
ordered_by priority o history s l =
    let by = history_names priority o history (ChannelState s) l.0 l.1 in
    subst (λ (x : Channel). IsOrdered x.begins x.waits) (sym (ap channel_in by.1)) by.2

-- a law of the states that histories reach holds after each legal history
pub reached_by : (priority : Mark → ℕ) (o : Object) (history : List EntryMark) (s : Channel) → Reaches priority o history s → IsReached (kind_in priority o) s
reached_by priority o history s r =
    let by = history_reaches priority o history (ChannelState s) r.0 r.1 in
    subst (IsReached (kind_in priority o)) (sym (ap channel_in by.1)) by.2

set_not_none : (o : Option ℕ) → is_some o ≡ true → o ≡ None → ⊥
set_not_none None h e = both_ways false refl h
set_not_none (Some x) h e = both_ways true (ap is_some e) refl

answered_all : (kind : Kind) (count : ℕ) (completion : Option ℕ) → is_some completion ≡ true → (st : Standing) → IsSettled kind count completion st → is_waiting st ≡ false
answered_all kind count completion some WantsItem h = absurd (set_not_none completion some h.1)
answered_all kind count completion some (WantsRoom item) h = absurd (set_not_none completion some h.1.1)
answered_all kind count completion some LooksForItem h = absurd (set_not_none completion some h.1)
answered_all kind count completion some LooksForRoom h = absurd (set_not_none completion some h.1.1)
answered_all kind count completion some (Answered r) h = refl

each_answered : (kind : Kind) (count : ℕ) (completion : Option ℕ) → is_some completion ≡ true → (ws : List Waiter) → AllByRecursion (λ w. IsSettled kind count completion w.standing) ws → AllByRecursion (λ w. is_waiting w.standing ≡ false) ws
each_answered kind count completion some [] h = tt
each_answered kind count completion some (w ∷ ws) h = (answered_all kind count completion some w.standing h.0, each_answered kind count completion some ws h.1)

pub completed_has_no_waits : (kind : Kind) (s : Channel) → IsReached kind s → is_completed s ≡ true → AllByRecursion (λ w. is_waiting w.standing ≡ false) s.waits
completed_has_no_waits kind s was h =
    each_answered kind (length s.buffer) s.completion (and_parts (is_some s.completion) (length s.buffer == 0) h).0 s.waits was.settled

empty_from : (xs : List Mark) → length xs ≡ 0 → xs ≡ []
empty_from [] h = refl
empty_from (x ∷ xs) h = absurd (omega arith)

completed_ended : (s : Channel) → is_completed s ≡ true → HasEnded s
completed_ended s h = let parts = and_parts (is_some s.completion) (length s.buffer == 0) h in (parts.0, empty_from s.buffer (eqb-true (length s.buffer) 0 parts.1))

ended_completed : (s : Channel) → HasEnded s → is_completed s ≡ true
ended_completed s h = let z : (length s.buffer == 0) ≡ true = ap (λ b. length b == 0) h.1 in simp (h.0, z) refl

abbrev flag_in : Option Outcome → Bool
flag_in (Some (Flag b, s)) = b
flag_in _ = false

abbrev after_in : Channel → Option Outcome → Channel
after_in s None = s
after_in s (Some o) = o.1

told_step : (s : Channel) (told done : Bool) → is_completed s ≡ done → (IsTrue told ↔ HasEnded s) → done ≡ told
told_step s true true e h = refl
told_step s true false e h = absurd (both_ways (is_completed s) e (ended_completed s (h.0 refl)))
told_step s false true e h = absurd (both_ways false refl (h.1 (completed_ended s e)))
told_step s false false e h = refl

module _ (priority : Mark → ℕ) (o : Object) (s : Channel) (after : State) (caller : ℕ) (told : Bool) (channel : IsChannel o) where
  abbrev asks : EntryMark
  asks = entry caller Completed (Flag told)

  exact_after : object_step priority o (ChannelState s) asks ≡ Some after → (caller < most_callers) × (after ≡ ChannelState s) × (IsTrue told ↔ HasEnded s)
  exact_after h =
      let own = entry_is priority o channel s asks after h in
      let flag : is_completed s ≡ told = ap flag_in own.answer in
      let same : s ≡ own.after = ap (after_in s) own.answer in (
        own.caller,
        own.state ∙ ap ChannelState (sym same),
        ((λ is. completed_ended s (flag ∙ is)), (λ ended. sym flag ∙ ended_completed s ended)),
      )

  exact_before : (caller < most_callers) × (after ≡ ChannelState s) × (IsTrue told ↔ HasEnded s) → object_step priority o (ChannelState s) asks ≡ Some after
  exact_before h =
      let flag : is_completed s ≡ told = told_step s told (is_completed s) refl h.2 in
      let step = kind_is priority o channel s asks ∙ channel_entry (kind_in priority o) s s caller Completed (Flag told) (ap (λ b. Some (Flag b, s)) flag) in
      entry_of_caller priority o (ChannelState s) (ChannelState s) asks h.0 step ∙ ap (λ (u : State). Some u) (sym h.1)

pub completed_answers_exactly : CompletedAnswersExactly
completed_answers_exactly kind s caller = ((λ h. completed_ended s (ap flag_in h)), (λ ended. ap (λ b. Some (Flag b, s)) (ended_completed s ended)))

pub completed_exactly : CompletedExactly
completed_exactly priority o s after caller told channel = (exact_after priority o s after caller told channel, exact_before priority o s after caller told channel)
