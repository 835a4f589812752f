-- Cancelled waits: what a cancel and a poll tell of the wait, and a history without it.
use Rattle.std.specs.Prelude.{ℕ, List, [], ◌∷◌, ◌++◌, Bool, true, false, Option, Some, option_and_then}
use Rattle.std.specs.List.{AllByRecursion, position_or_len}
use Rattle.std.proofs.Common.{◌≡◌, refl, sym, ap, ap₂, ◌∙◌, subst, ◌<◌, ◌⊎◌, ⊎_elim, inl, inr, append_assoc}
use Rattle.std.proofs.lemmas.Bool.{both_ways}
use Rattle.ho_model.specs.Marks.{Mark}
use Rattle.ho_model.specs.declared.objects.Object.{Object}
use Rattle.ho_model.specs.declared.marks.CallMark.{CallMark}
use Rattle.ho_model.specs.declared.marks.ReplyMark.{ReplyMark}
use Rattle.ho_model.specs.declared.marks.EntryMark.{EntryMark}
use Rattle.ho_model.specs.declared.marks.CallMark.TheVariants.{BeginWrite, BeginRead, BeginLookWrite, BeginLookRead, Cancel}
use Rattle.ho_model.specs.declared.marks.ReplyMark.TheVariants.{Waiting, Cancelled, CancelledWrite}
use Rattle.ho_model.specs.Entries.{entry}
use Rattle.ho_model.specs.Channel.{Standing, WantsItem, WantsRoom, LooksForItem, LooksForRoom, Answered, Waiter, Channel, Kind, Outcome, is_waiting, waiter_at, is_wait, poll, cancel, cancelled, channel_answer}
use Rattle.ho_model.specs.Objects.{State, ChannelState, object_step, most_callers, empty_state}
use Rattle.ho_model.specs.Histories.{fold_from, state_after}
use Rattle.ho_model.proofs.Folds.{and_then_some, begins_from, fold_append, folded-push, legal_begins}
use Rattle.ho_model.proofs.Replies.{channel_entry, entry_of_caller}
use Rattle.channel_laws.specs.Reached.{IsChannel, kind_in}
use Rattle.channel_laws.specs.Twin.{twin, is_open, is_of_wait, Follows, standing_of, given_up, IsCancelReply, others_of}
use Rattle.channel_laws.specs.Kinds.{AnswersRead, AnswersWrite, AnswersLook, AnswersBegin, CancelsBegin, IsInKind, is_waiting_reply, ends_wait, is_begin}
use Rattle.channel_laws.proofs.Places.{some_of, first_of, position_none, waiter_first}
use Rattle.channel_laws.proofs.Waiters.{Each}
use Rattle.channel_laws.proofs.Effects.{IsAnswerTo}
use Rattle.channel_laws.proofs.Standing.{StandsIn, first_stands, stands_open, stands_weaker, answered_stands, others_stand, own_standing, own_cancel_says, stands_at, poll_waits, poll_kept}
use Rattle.channel_laws.proofs.InKind.{answers_in_kind, own_cancel}
use Rattle.channel_laws.proofs.Naming.{HasAnswer, IsOrdered, order_stays, named_of}
use Rattle.channel_laws.proofs.Effects.{Holds}
use Rattle.channel_laws.proofs.Following.{cancel_leaves_twin, others_follow}
use Rattle.channel_laws.proofs.Histories.{kind_is, entry_is, history_names, ordered_by, begins_are_of_channels, channel_in}
use Rattle.channel_laws.proofs.Polls.{the_outcome, IsKept, IsNew, own_same, entries_keep, kind_kept, begin_stands, cancels_in_kind}

-- 1. No answer says that a wait is given up, or that it stands

abbrev is_cancel : ReplyMark → Bool
is_cancel Cancelled = true
is_cancel (CancelledWrite x) = true
is_cancel _ = false

is_cancel_true : (r : ReplyMark) → IsCancelReply r → is_cancel r ≡ true
is_cancel_true r h = ⊎_elim
    (λ (e : r ≡ Cancelled). ap is_cancel e)
    (λ (e : (x : Mark) × (r ≡ CancelledWrite x)). ap is_cancel e.1)
    h

abbrev IsPlainAnswer : ReplyMark → Type 0
IsPlainAnswer r = (is_cancel r ≡ false) × (is_waiting_reply r ≡ false)

read_plain : (r : ReplyMark) → AnswersRead r → IsPlainAnswer r
read_plain Cancelled a = absurd a
read_plain (CancelledWrite x) a = absurd a
read_plain (Waiting m) a = absurd a
read_plain _ a = (refl, refl)

write_plain : (x : Mark) (r : ReplyMark) → AnswersWrite x r → IsPlainAnswer r
write_plain x Cancelled a = absurd a
write_plain x (CancelledWrite y) a = absurd a
write_plain x (Waiting m) a = absurd a
write_plain x _ a = (refl, refl)

look_plain : (r : ReplyMark) → AnswersLook r → IsPlainAnswer r
look_plain Cancelled a = absurd a
look_plain (CancelledWrite x) a = absurd a
look_plain (Waiting m) a = absurd a
look_plain _ a = (refl, refl)

answer_plain : (st : Standing) (r : ReplyMark) → IsAnswerTo st r → IsPlainAnswer r
answer_plain WantsItem r a = read_plain r a
answer_plain (WantsRoom x) r a = write_plain x r a
answer_plain LooksForItem r a = look_plain r a
answer_plain LooksForRoom r a = look_plain r a
answer_plain (Answered q) r a = absurd a

begin_plain : (b : CallMark) (r : ReplyMark) → AnswersBegin b r → IsPlainAnswer r
begin_plain BeginRead r a = read_plain r a
begin_plain (BeginWrite x) r a = write_plain x r a
begin_plain BeginLookRead r a = look_plain r a
begin_plain BeginLookWrite r a = look_plain r a
begin_plain _ r a = absurd a

-- 2. The first wait of a name

first_has_step : (P : Waiter → Type 0) (p : Waiter → Bool) (w : Waiter) (ws : List Waiter) (k : Bool) → p w ≡ k → some_of p (w ∷ ws) ≡ true → P w → (some_of p ws ≡ true → P (first_of p ws)) → P (first_of p (w ∷ ws))
first_has_step P p w ws true e there h more = simp e h
first_has_step P p w ws false e there h more = simp e (more (simp e at there))

first_has : (P : Waiter → Type 0) (p : Waiter → Bool) (ws : List Waiter) → some_of p ws ≡ true → Each P ws → P (first_of p ws)
first_has P p [] there h = let no : false ≡ true = there in cc
first_has P p (w ∷ ws) there h = first_has_step P p w ws (p w) refl there h.0 (λ k. first_has P p ws k h.1)

module _ (s : Channel) (was : IsOrdered s.begins s.waits) (c n : ℕ) where
  has_answers : some_of (is_wait c n) s.waits ≡ true → StandsIn HasAnswer c n s.waits
  has_answers there = first_stands HasAnswer c n s.waits there (first_has (λ w. HasAnswer w.standing) (is_wait c n) s.waits there was.answers)

  opens : some_of (is_wait c n) s.waits ≡ true → is_waiting (waiter_at s.waits (position_or_len (is_wait c n) s.waits)).standing ≡ true → is_open c n s.waits ≡ true
  opens there h =
      stands_open c n s.waits (first_stands (λ st. is_waiting st ≡ true) c n s.waits there
      (subst (λ (w : Waiter). is_waiting w.standing ≡ true) (waiter_first (is_wait c n) s.waits) h))

  cancel_waits : (st : Standing) → HasAnswer st → is_cancel (cancelled st) ≡ true → is_waiting st ≡ true
  cancel_waits (Answered r) a h = absurd (both_ways (is_cancel r) (answer_plain a.0 r a.1).0 h)
  cancel_waits _ a h = refl

  cancel_step : (there : Bool) → some_of (is_wait c n) s.waits ≡ there → is_cancel (cancel s c n).0 ≡ true → is_open c n s.waits ≡ true
  cancel_step true e h =
      let all = has_answers e in
      opens e (cancel_waits (stands_at HasAnswer c n s all) (own_standing HasAnswer c n s all) (ap is_cancel (sym (own_cancel_says HasAnswer c n s all)) ∙ h))
  cancel_step false e h =
      let at = position_none (is_wait c n) s.waits e in
      let no : false ≡ true = simp at at h in cc

  pub cancelled_was_open : IsCancelReply (cancel s c n).0 → is_open c n s.waits ≡ true
  cancelled_was_open h = cancel_step (some_of (is_wait c n) s.waits) refl (is_cancel_true (cancel s c n).0 h)

  silent : (r : ReplyMark) → HasAnswer (Answered r) → is_waiting_reply r ≡ true → ⊥
  silent r a h = both_ways (is_waiting_reply r) (answer_plain a.0 r a.1).1 h

  waiting_step : (there : Bool) → some_of (is_wait c n) s.waits ≡ there → is_waiting_reply (poll s c n).0 ≡ true → (is_open c n s.waits ≡ true) × ((poll s c n).1 ≡ s)
  waiting_step true e h =
      let all = has_answers e in
      (opens e (poll_waits HasAnswer c n s all silent h), poll_kept HasAnswer c n s all silent h)
  waiting_step false e h =
      let at = position_none (is_wait c n) s.waits e in
      let no : false ≡ true = simp at at h in cc

  pub waiting_is_open : is_waiting_reply (poll s c n).0 ≡ true → (is_open c n s.waits ≡ true) × ((poll s c n).1 ≡ s)
  waiting_is_open h = waiting_step (some_of (is_wait c n) s.waits) refl h

-- 3. A wait that has its answer is not given up

-- a wait in the kind of a begin has its answer
abbrev IsHad : CallMark → Standing → Type 0
IsHad b st = IsInKind b st × (is_waiting st ≡ false)

had_kept : (b : CallMark) → IsKept (IsHad b)
had_kept b = record {
  answers = λ st r h a. (answers_in_kind b st r h.0 a, refl);
  silent = λ r h w. both_ways (is_waiting_reply r) (begin_plain b r h.0).1 w;
}

had_plain : (b : CallMark) (st : Standing) → IsHad b st → is_cancel (cancelled st) ≡ false
had_plain b (Answered r) h = (begin_plain b r h.0).0
had_plain b _ h = absurd (both_ways true h.1 refl)

module _ (priority : Mark → ℕ) (o : Object) (channel : IsChannel o) (b : CallMark) (c n : ℕ) (r : ReplyMark) (gone : IsCancelReply r) (t : State) where
  abbrev last : EntryMark
  last = entry c (Cancel n) r

  had_not_cancelled : (es : List EntryMark) (s : Channel) → StandsIn (IsHad b) c n s.waits → AllByRecursion (λ e. ends_wait c n e ≡ false) es → fold_from priority o (ChannelState s) (es ++ last ∷ []) ≡ Some t → ⊥
  had_not_cancelled es s h lasts f =
      let until = begins_from priority o (ChannelState s) t es (last ∷ []) f in
      let kept = entries_keep (IsHad b) (had_kept b) c n priority o channel es s until.0 h lasts until.1 in
      let from_last : fold_from priority o until.0 (last ∷ []) ≡ Some t = sym (fold_append priority o (ChannelState s) until.0 es (last ∷ []) until.1) ∙ f in
      let from_kept = subst (λ (u : State). fold_from priority o u (last ∷ []) ≡ Some t) kept.1 from_last in
      let end = and_then_some (λ u. fold_from priority o u []) (object_step priority o (ChannelState kept.0) last) t from_kept in
      let said = entry_is priority o channel kept.0 last end.0 end.1 in
      let is : ◌≡◌ {A = Outcome} (cancel kept.0 c n) (r, said.after) = the_outcome (cancel kept.0 c n) (r, said.after) said.answer in
      let reply : cancelled (stands_at (IsHad b) c n kept.0 kept.2) ≡ r = sym (own_cancel_says (IsHad b) c n kept.0 kept.2) ∙ ap (λ (p : Outcome). p.0) is in
      both_ways (is_cancel r) (sym (ap is_cancel reply) ∙ had_plain b (stands_at (IsHad b) c n kept.0 kept.2) (own_standing (IsHad b) c n kept.0 kept.2)) (is_cancel_true r gone)

  -- 4. What else is done is done by the twin too

  -- the wait is in order, in kind and unanswered, and what follows leaves t
  record IsOpenUntil (es : List EntryMark) (s : Channel) : Type 0 where
    order : IsOrdered s.begins s.waits
    stands : StandsIn (IsInKind b) c n s.waits
    unanswered : is_open c n s.waits ≡ true
    leaves : fold_from priority o (ChannelState s) (es ++ last ∷ []) ≡ Some t

  abbrev IsDone : List EntryMark → Channel → Type 0
  IsDone es s = fold_from priority o (ChannelState (twin c n s)) (others_of c n es) ≡ Some t

  done_last : (s : Channel) → IsOpenUntil [] s → IsDone [] s
  done_last s m =
      let by = and_then_some (λ u. fold_from priority o u []) (object_step priority o (ChannelState s) last) t m.leaves in
      let own = entry_is priority o channel s last by.0 by.1 in
      let is : ◌≡◌ {A = Outcome} (cancel s c n) (r, own.after) = the_outcome (cancel s c n) (r, own.after) own.answer in
      let after : own.after ≡ twin c n s = sym (ap (λ (p : Outcome). p.1) is) ∙ (cancel_leaves_twin c n s (named_of s m.order) m.unanswered).1 in
      ap (λ (x : Channel). Some (ChannelState x)) (sym after) ∙ (ap (λ (u : State). Some u) (sym own.state) ∙ by.2)

  module _ (e : EntryMark) (es : List EntryMark) (s x : Channel) (m : IsOpenUntil (e ∷ es) s) (ended : ends_wait c n e ≡ false) (lasts : AllByRecursion (λ e. ends_wait c n e ≡ false) es)
      (caller : e.caller < most_callers) (answer : ◌≡◌ {A = Option Outcome} (channel_answer (kind_in priority o) s e.caller e.call) (Some (e.reply, x)))
      (leaves : fold_from priority o (ChannelState x) (es ++ last ∷ []) ≡ Some t)
      (more : (y : Channel) → IsOpenUntil es y → IsDone es y) where
    abbrev kind : Kind
    kind = kind_in priority o

    -- an entry of the wait's own is a poll that changes nothing
    own_done : is_of_wait c n e.caller e.call ≡ true → IsDone (e ∷ es) s
    own_done own =
        let same : x ≡ s = own_same (IsInKind b) (kind_kept b) c n kind s x e.caller e.call e.reply m.stands own ended answer in
        let on : IsOpenUntil es s = record { order = m.order; stands = m.stands; unanswered = m.unanswered; leaves = subst (λ (y : Channel). fold_from priority o (ChannelState y) (es ++ last ∷ []) ≡ Some t) same leaves } in
        simp own (more s on)

    other_follows : is_of_wait c n e.caller e.call ≡ false → IsOrdered x.begins x.waits → StandsIn (IsInKind b) c n x.waits → Follows c n (Some (e.reply, x)) (channel_answer kind (twin c n s) e.caller e.call) → IsDone (e ∷ es) s
    other_follows other order stands (inl a) = absurd (had_not_cancelled es x (answered_stands (IsInKind b) c n x.waits (order.names.once c n) a stands) lasts leaves)
    other_follows other order stands (inr p) =
        let step : object_step priority o (ChannelState (twin c n s)) e ≡ Some (ChannelState (twin c n x)) =
        entry_of_caller priority o (ChannelState (twin c n s)) (ChannelState (twin c n x)) e caller
        (kind_is priority o channel (twin c n s) e ∙ channel_entry kind (twin c n s) (twin c n x) e.caller e.call e.reply p.1) in
        let on : IsOpenUntil es x = record { order = order; stands = stands; unanswered = p.0; leaves = leaves } in
        simp other (ap (option_and_then (λ u. fold_from priority o u (others_of c n es))) step ∙ more x on)

    other_done : is_of_wait c n e.caller e.call ≡ false → IsDone (e ∷ es) s
    other_done other =
        other_follows other
        (subst (Holds IsOrdered) answer (order_stays kind s e.caller e.call caller m.order))
        (subst (Holds (λ begins ws. StandsIn (IsInKind b) c n ws)) answer (others_stand (IsInKind b) (answers_in_kind b) c n kind s e.caller e.call m.stands other))
        (subst (λ (a : Option Outcome). Follows c n a (channel_answer kind (twin c n s) e.caller e.call)) answer (others_follow kind c n s e.caller e.call (named_of s m.order) m.unanswered other))

    step_done : (k : Bool) → is_of_wait c n e.caller e.call ≡ k → IsDone (e ∷ es) s
    step_done true own = own_done own
    step_done false other = other_done other

  all_done : (es : List EntryMark) (s : Channel) → IsOpenUntil es s → AllByRecursion (λ e. ends_wait c n e ≡ false) es → IsDone es s
  all_done [] s m lasts = done_last s m
  all_done (e ∷ es) s m lasts =
      let by = and_then_some (λ u. fold_from priority o u (es ++ last ∷ [])) (object_step priority o (ChannelState s) e) t m.leaves in
      let own = entry_is priority o channel s e by.0 by.1 in
      step_done e es s own.after m lasts.0 lasts.1 own.caller own.answer (subst (λ (u : State). fold_from priority o u (es ++ last ∷ []) ≡ Some t) own.state by.2)
      (λ y on. all_done es y on lasts.1)
      (is_of_wait c n e.caller e.call) refl

-- 5. The laws

-- the channel after a begin that waits
record IsBegun (priority : Mark → ℕ) (o : Object) (before : List EntryMark) (c n : ℕ) (b : CallMark) (s : Channel) : Type 0 where
  channel : IsChannel o
  caller : c < most_callers
  order : IsOrdered s.begins s.waits
  new : StandsIn (IsNew b) c n s.waits

begun_is : (priority : Mark → ℕ) (o : Object) (before : List EntryMark) (c n : ℕ) (b : CallMark) (s : Channel) → is_begin b ≡ true → state_after priority o (before ++ entry c b (Waiting n) ∷ []) ≡ Some (ChannelState s) → IsBegun priority o before c n b s
begun_is priority o before c n b s so first =
    let e = entry c b (Waiting n) in
    let channel = begins_are_of_channels priority o before e so (ChannelState s, first) in
    let was = legal_begins priority o before (e ∷ []) (ChannelState s, first) in
    let named = history_names priority o before was.0 channel was.1 in
    let before_is : state_after priority o before ≡ Some (ChannelState named.0) = was.1 ∙ ap (λ (u : State). Some u) named.1 in
    let step : object_step priority o (ChannelState named.0) e ≡ Some (ChannelState s) = sym (folded-push priority o before (ChannelState named.0) e before_is) ∙ first in
    let own = entry_is priority o channel named.0 e (ChannelState s) step in
    let stands = begin_stands (kind_in priority o) b c n named.0 own.after (named_of named.0 named.2) so own.answer in
    record {
      channel = channel;
      caller = own.caller;
      order = ordered_by priority o (before ++ e ∷ []) s (channel, first);
      new = subst (λ (x : Channel). StandsIn (IsNew b) c n x.waits) (sym (ap channel_in own.state)) stands;
    }

-- what follows a begin
from_begin : (priority : Mark → ℕ) (o : Object) (before : List EntryMark) (e : EntryMark) (es : List EntryMark) (s : State) → state_after priority o (before ++ e ∷ []) ≡ Some s → fold_from priority o s es ≡ state_after priority o (before ++ e ∷ es)
from_begin priority o before e es s first =
    sym (fold_append priority o (empty_state o) s (before ++ e ∷ []) es first) ∙ ap (λ (h : List EntryMark). state_after priority o h) (append_assoc before (e ∷ []) es)

module _ (priority : Mark → ℕ) (o : Object) (before rest : List EntryMark) (c n : ℕ) (b : CallMark) (r : ReplyMark) where
  abbrev begin_entry : EntryMark
  begin_entry = entry c b (Waiting n)

  abbrev cancel_entry : EntryMark
  cancel_entry = entry c (Cancel n) r

  pub done_without_the_wait : (s : Channel) (t : State) → is_begin b ≡ true → AllByRecursion (λ e. ends_wait c n e ≡ false) rest → IsCancelReply r → state_after priority o (before ++ begin_entry ∷ []) ≡ Some (ChannelState s) → state_after priority o (before ++ begin_entry ∷ (rest ++ cancel_entry ∷ [])) ≡ Some t → fold_from priority o (ChannelState (twin c n s)) (others_of c n rest) ≡ Some t
  done_without_the_wait s t so lasts gone first whole =
      let begun = begun_is priority o before c n b s so first in
      all_done priority o begun.channel b c n r gone t rest s (record {
        order = begun.order;
        stands = stands_weaker (IsNew b) (IsInKind b) (λ st k. k.0) c n s.waits begun.new;
        unanswered = stands_open c n s.waits (stands_weaker (IsNew b) (λ st. is_waiting st ≡ true) (λ st k. k.1) c n s.waits begun.new);
        leaves = from_begin priority o before begin_entry (rest ++ cancel_entry ∷ []) (ChannelState s) first ∙ whole;
      }) lasts

  cancels_one : (call : CallMark) (p q : ReplyMark) → CancelsBegin call p → CancelsBegin call q → p ≡ q
  cancels_one (BeginWrite x) p q h k = h ∙ sym k
  cancels_one _ p q h k = h ∙ sym k

  -- a reply to a cancel in the kind of the begin, if it is no answer
  given_up_in_kind : (q : ReplyMark) → is_cancel q ≡ true → CancelsBegin b q ⊎ AnswersBegin b q → CancelsBegin b q
  given_up_in_kind q h (inl k) = k
  given_up_in_kind q h (inr a) = absurd (both_ways (is_cancel q) (begin_plain b q a).0 h)

  cancel_given_up : (st : Standing) → is_cancel (given_up st) ≡ true
  cancel_given_up (WantsRoom x) = refl
  cancel_given_up _ = refl

  at_once_from : (s : Channel) (t : State) → IsBegun priority o before c n b s → CancelsBegin b r → state_after priority o (before ++ begin_entry ∷ []) ≡ Some (ChannelState s) → fold_from priority o (ChannelState (twin c n s)) (others_of c n rest) ≡ Some t → state_after priority o (before ++ begin_entry ∷ (cancel_entry ∷ others_of c n rest)) ≡ Some t
  at_once_from s t begun own first done =
      let stands = stands_weaker (IsNew b) (IsInKind b) (λ st k. k.0) c n s.waits begun.new in
      let unanswered = stands_open c n s.waits (stands_weaker (IsNew b) (λ st. is_waiting st ≡ true) (λ st k. k.1) c n s.waits begun.new) in
      let left = cancel_leaves_twin c n s (named_of s begun.order) unanswered in
      let kind : CancelsBegin b (cancel s c n).0 = given_up_in_kind (cancel s c n).0 (ap is_cancel left.0 ∙ cancel_given_up (standing_of c n s.waits)) (own_cancel b c n s stands) in
      let says : (cancel s c n).0 ≡ r = cancels_one b (cancel s c n).0 r kind own in
      let answer : ◌≡◌ {A = Option Outcome} (channel_answer (kind_in priority o) s c (Cancel n)) (Some (r, twin c n s)) = ap₂ (λ (q : ReplyMark) (x : Channel). Some (q, x)) says left.1 in
      let step : object_step priority o (ChannelState s) cancel_entry ≡ Some (ChannelState (twin c n s)) =
      entry_of_caller priority o (ChannelState s) (ChannelState (twin c n s)) cancel_entry begun.caller
      (kind_is priority o begun.channel s cancel_entry ∙ channel_entry (kind_in priority o) s (twin c n s) c (Cancel n) r answer) in
      sym (from_begin priority o before begin_entry (cancel_entry ∷ others_of c n rest) (ChannelState s) first)
      ∙ (ap (option_and_then (λ u. fold_from priority o u (others_of c n rest))) step ∙ done)

  -- so the cancel could as well have come at once
  pub cancelled_at_once : (t : State) → is_begin b ≡ true → AllByRecursion (λ e. ends_wait c n e ≡ false) rest → IsCancelReply r → state_after priority o (before ++ begin_entry ∷ (rest ++ cancel_entry ∷ [])) ≡ Some t → state_after priority o (before ++ begin_entry ∷ (cancel_entry ∷ others_of c n rest)) ≡ Some t
  cancelled_at_once t so lasts gone whole =
      let es = rest ++ cancel_entry ∷ [] in
      let begins = legal_begins priority o (before ++ begin_entry ∷ []) es (t, ap (λ (h : List EntryMark). state_after priority o h) (append_assoc before (begin_entry ∷ []) es) ∙ whole) in
      let channel = begins_are_of_channels priority o before begin_entry so begins in
      let named = history_names priority o (before ++ begin_entry ∷ []) begins.0 channel begins.1 in
      let first : state_after priority o (before ++ begin_entry ∷ []) ≡ Some (ChannelState named.0) = begins.1 ∙ ap (λ (u : State). Some u) named.1 in
      let own = given_up_in_kind r (is_cancel_true r gone) (cancels_in_kind priority o before rest c n b r so lasts (t, whole)) in
      at_once_from named.0 t (begun_is priority o before c n b named.0 so first) own first (done_without_the_wait named.0 t so lasts gone first whole)
