-- A poll or a cancel of a wait answers in the kind of the begin that left it, after every legal history.
use Rattle.std.specs.Prelude.{ℕ, List, [], ◌∷◌, ◌++◌, Bool, true, false, not, ◌&&◌, ◌||◌, ◌==◌, Option, Some, None, nat_le, slice_index, is_some, unwrap_or, length}
use Rattle.std.specs.List.{AllByRecursion}
use Rattle.std.proofs.Common.{◌≡◌, refl, ap, sym, ◌∙◌, subst, ◌<◌, ◌⊎◌, arith, append_assoc}
use Rattle.std.proofs.lemmas.Bool.{and_parts, eqb-true, eq-eqb, both_ways}
use Rattle.ho_base.specs.Marks.{Mark}
use Rattle.ho_model.specs.declared.objects.Mode.{Mode}
use Rattle.ho_model.specs.declared.objects.Mode.TheVariants.{Wait, DropNewest, DropOldest, DropWrite}
use Rattle.ho_model.specs.declared.objects.Object.{Object}
use Rattle.ho_model.specs.declared.marks.CallMark.{CallMark}
use Rattle.ho_model.specs.declared.marks.ReplyMark.{ReplyMark}
use Rattle.ho_model.specs.declared.marks.EntryMark.{EntryMark}
use Rattle.ho_model.specs.declared.marks.CallMark.TheVariants.{BeginWrite, BeginRead, BeginLookWrite, BeginLookRead, Poll, Cancel}
use Rattle.ho_model.specs.declared.marks.ReplyMark.TheVariants.{Waiting}
use Rattle.ho_model.specs.Entries.{entry}
use Rattle.ho_model.specs.Channel.{Standing, WantsItem, WantsRoom, LooksForItem, LooksForRoom, Answered, Waiter, Channel, Kind, Outcome, is_full, is_waiting, oldest, wants_item, overflow, written, taken, looked_read, looked_write, told_complete, drops, begin, is_wait, poll, cancel, channel_answer}
use Rattle.ho_model.specs.Objects.{State, ChannelState, object_step, empty_state}
use Rattle.ho_model.specs.Histories.{fold_from, IsLegal}
use Rattle.ho_model.proofs.Folds.{and_then_some, fold_append, begins_from, legal_begins}
use Rattle.channel_laws.specs.Reached.{IsNamed, IsChannel, kind_in}
use Rattle.channel_laws.specs.Twin.{is_of_wait}
use Rattle.channel_laws.specs.Kinds.{AnswersBegin, CancelsBegin, IsInKind, is_waiting_reply, ends_by, ends_wait, is_begin}
use Rattle.channel_laws.proofs.Places.{some_of}
use Rattle.channel_laws.proofs.InKind.{StandsAs, answers_in_kind, own_poll, own_cancel}
use Rattle.channel_laws.proofs.Effects.{Holds}
use Rattle.channel_laws.proofs.Standing.{StandsIn, KeepsAnswers, as_push, stands_weaker, others_stand, poll_kept}
use Rattle.channel_laws.proofs.Naming.{named_of}
use Rattle.channel_laws.proofs.Histories.{entry_is, history_names, begins_are_of_channels}

-- 1. Answers are no replies of a wait that stands

never_waiting : (b : CallMark) (m : ℕ) → AnswersBegin b (Waiting m) → ⊥
never_waiting BeginRead m h = h
never_waiting (BeginWrite x) m h = h
never_waiting BeginLookRead m h = h
never_waiting BeginLookWrite m h = h
never_waiting _ m h = h

answers_not_waiting : (b : CallMark) (r : ReplyMark) → AnswersBegin b r → is_waiting_reply r ≡ true → ⊥
answers_not_waiting b (Waiting m) h k = never_waiting b m h
answers_not_waiting b _ h k = both_ways false refl k

-- 2. One entry that does not end the wait

own_name : (c n d m : ℕ) → ((d == c) && (m == n)) ≡ true → (d ≡ c) × (m ≡ n)
own_name c n d m e = let parts = and_parts (d == c) (m == n) e in (eqb-true d c parts.0, eqb-true m n parts.1)

not_ended : (c n d m : ℕ) (w : Bool) → ((d == c) && (m == n)) ≡ true → ((d == c) && ((m == n) && not w)) ≡ false → w ≡ true
not_ended c n d m true e h = refl
not_ended c n d m false e h =
    let parts = and_parts (d == c) (m == n) e in
    let no : true ≡ false = simp (parts.0, parts.1) at h in cc

ended : (c n d m : ℕ) → ((d == c) && (m == n)) ≡ true → ((d == c) && (m == n)) ≡ false → ⊥
ended c n d m e h = both_ways ((d == c) && (m == n)) h e

pub the_outcome : (o p : Outcome) → Some o ≡ Some p → o ≡ p
the_outcome o p e = let f : o ≡ p = cc in f

-- how the wait may stand: answers keep it so, and none says that the wait stands
pub record IsKept (Q : Standing → Type 0) : Type 0 where
  pub answers : KeepsAnswers Q
  pub silent : (r : ReplyMark) → Q (Answered r) → is_waiting_reply r ≡ true → ⊥

module _ (Q : Standing → Type 0) (q : IsKept Q) (c n : ℕ) where
  own_poll_same : (d m : ℕ) (s x : Channel) (r : ReplyMark) → StandsIn Q c n s.waits → d ≡ c → m ≡ n → is_waiting_reply r ≡ true → ◌≡◌ {A = Outcome} (poll s d m) (r, x) → x ≡ s
  own_poll_same d m s x r h ed em w is =
      let own : ◌≡◌ {A = Outcome} (poll s c n) (r, x) = rw (ed, em) at is in
      let kept : (poll s c n).1 ≡ s = poll_kept Q c n s h q.silent (ap (λ (o : Outcome). is_waiting_reply o.0) own ∙ w) in
      sym (ap (λ (o : Outcome). o.1) own) ∙ kept

  -- a call of the wait's own that does not end it changes nothing
  pub own_same : (kind : Kind) (s x : Channel) (d : ℕ) (call : CallMark) (r : ReplyMark) → StandsIn Q c n s.waits → is_of_wait c n d call ≡ true → ((d == c) && ends_by n call r) ≡ false → ◌≡◌ {A = Option Outcome} (channel_answer kind s d call) (Some (r, x)) → x ≡ s
  own_same kind s x d (Poll m) r h own last is =
      let names = own_name c n d m own in
      own_poll_same d m s x r h names.0 names.1 (not_ended c n d m (is_waiting_reply r) own last) (the_outcome (poll s d m) (r, x) is)
  own_same kind s x d (Cancel m) r h own last is = absurd (ended c n d m own last)
  own_same kind s x d _ r h own last is = absurd (both_ways false refl own)

  entry_step : (kind : Kind) (s x : Channel) (e : EntryMark) (k : Bool) → is_of_wait c n e.caller e.call ≡ k → StandsIn Q c n s.waits → ends_wait c n e ≡ false → ◌≡◌ {A = Option Outcome} (channel_answer kind s e.caller e.call) (Some (e.reply, x)) → StandsIn Q c n x.waits
  entry_step kind s x e true own h last is = subst (λ (y : Channel). StandsIn Q c n y.waits) (sym (own_same kind s x e.caller e.call e.reply h own last is)) h
  entry_step kind s x e false other h last is = subst (Holds (λ begins ws. StandsIn Q c n ws)) is (others_stand Q q.answers c n kind s e.caller e.call h other)

  -- entries that do not end the wait leave it so
  pub entries_keep : (priority : Mark → ℕ) (o : Object) → IsChannel o → (es : List EntryMark) (s : Channel) (t : State) → StandsIn Q c n s.waits → AllByRecursion (λ e. ends_wait c n e ≡ false) es → fold_from priority o (ChannelState s) es ≡ Some t
      → (x : Channel) × (t ≡ ChannelState x) × StandsIn Q c n x.waits
  entries_keep priority o channel [] s t h last f = let e : ChannelState s ≡ t = cc in (s, sym e, h)
  entries_keep priority o channel (e ∷ es) s t h last f =
      let by = and_then_some (λ u. fold_from priority o u es) (object_step priority o (ChannelState s) e) t f in
      let own = entry_is priority o channel s e by.0 by.1 in
      entries_keep priority o channel es own.after t
      (entry_step (kind_in priority o) s own.after e (is_of_wait c n e.caller e.call) refl h last.0 own.answer)
      last.1
      (subst (λ (u : State). fold_from priority o u es ≡ Some t) own.state by.2)

-- the kind of a begin is kept
pub kind_kept : (b : CallMark) → IsKept (IsInKind b)
kind_kept b = record { answers = answers_in_kind b; silent = answers_not_waiting b }

-- 3. The begin

abbrev NotWaiting : Option Outcome → Type 0
NotWaiting None = Unit {0}
NotWaiting (Some o) = is_waiting_reply o.0 ≡ false

overflow_tried : (mode : Mode) (s : Channel) (item : Mark) → NotWaiting (overflow mode s item)
overflow_tried Wait s item = tt
overflow_tried DropNewest s item = refl
overflow_tried DropOldest s item = refl
overflow_tried DropWrite s item = refl

written_step : (kind : Kind) (s : Channel) (item : Mark) (done reader full : Bool) → is_some s.completion ≡ done → is_some (oldest wants_item s.waits) ≡ reader → is_full kind.capacity (length s.buffer) ≡ full → NotWaiting (written kind s item)
written_step kind s item true reader full e1 e2 e3 = simp e1 refl
written_step kind s item false true full e1 e2 e3 = simp (e1, e2) refl
written_step kind s item false false true e1 e2 e3 = simp (e1, e2, e3) (overflow_tried kind.mode s item)
written_step kind s item false false false e1 e2 e3 = simp (e1, e2, e3) refl

taken_step : (kind : Kind) (s : Channel) (items done : Bool) → nat_le 1 (length s.buffer) ≡ items → is_some s.completion ≡ done → NotWaiting (taken kind s)
taken_step kind s true done e1 e2 = simp e1 refl
taken_step kind s false true e1 e2 = simp (e1, e2) refl
taken_step kind s false false e1 e2 = simp (e1, e2) tt

told_step : (fault : ℕ) (k : Bool) → (fault == 0) ≡ k → is_waiting_reply (told_complete fault) ≡ false
told_step fault true e = simp e refl
told_step fault false e = simp e refl

looked_read_step : (s : Channel) (items done : Bool) → nat_le 1 (length s.buffer) ≡ items → is_some s.completion ≡ done → NotWaiting (looked_read s)
looked_read_step s true done e1 e2 = simp e1 refl
looked_read_step s false true e1 e2 = simp (e1, e2) (told_step (unwrap_or s.completion 0) (unwrap_or s.completion 0 == 0) refl)
looked_read_step s false false e1 e2 = simp (e1, e2) tt

looked_write_step : (kind : Kind) (s : Channel) (done room : Bool) → is_some s.completion ≡ done → (not (is_full kind.capacity (length s.buffer)) || drops kind.mode) ≡ room → NotWaiting (looked_write kind s)
looked_write_step kind s true room e1 e2 = simp e1 (told_step (unwrap_or s.completion 0) (unwrap_or s.completion 0 == 0) refl)
looked_write_step kind s false true e1 e2 = simp (e1, e2) refl
looked_write_step kind s false false e1 e2 = simp (e1, e2) tt

no_name_step : (begins : List ℕ) (c n : ℕ) (w : Waiter) (ws : List Waiter) (k : Bool) → is_wait c n w ≡ k → n ≡ slice_index begins c → w.number < slice_index begins w.caller → some_of (is_wait c n) ws ≡ false → some_of (is_wait c n) (w ∷ ws) ≡ false
no_name_step begins c n w ws true e is l more =
    let parts = and_parts (w.caller == c) (w.number == n) e in
    let en : w.number ≡ n = eqb-true w.number n parts.1 in
    let l' : w.number < slice_index begins c = subst (λ d. w.number < slice_index begins d) (eqb-true w.caller c parts.0) l in
    absurd (omega arith)
no_name_step begins c n w ws false e is l more = simp e more

no_name : (begins : List ℕ) (c n : ℕ) (ws : List Waiter) → n ≡ slice_index begins c → AllByRecursion (λ w. w.number < slice_index begins w.caller) ws → some_of (is_wait c n) ws ≡ false
no_name begins c n [] is h = refl
no_name begins c n (w ∷ ws) is h = no_name_step begins c n w ws (is_wait c n w) refl is h.0 (no_name begins c n ws is h.1)

abbrev number_in : ReplyMark → ℕ
number_in (Waiting m) = m
number_in _ = 0

same_name : (c k n : ℕ) → k ≡ n → ((c == c) && (k == n)) ≡ true
same_name c k n e = simp (eq-eqb c c refl, eq-eqb k n e) refl

module _ (Q : Standing → Type 0) (c n : ℕ) (s x : Channel) (names : IsNamed s) (standing : Standing) (own : Q standing) where
  begun : ◌≡◌ {A = Outcome} (begin s c standing None) (Waiting n, x) → StandsIn Q c n x.waits
  begun is =
      let number : slice_index s.begins c ≡ n = ap (λ (o : Outcome). number_in o.0) is in
      let new : Waiter = record { caller = c; number = slice_index s.begins c; standing = standing } in
      subst (λ (y : Channel). StandsIn Q c n y.waits) (ap (λ (o : Outcome). o.1) is)
      (as_push Q c n s.waits new (no_name s.begins c n s.waits (sym number) names.below) (same_name c (slice_index s.begins c) n number) own)

  begun_after : (tried : Option Outcome) → NotWaiting tried → ◌≡◌ {A = Outcome} (begin s c standing tried) (Waiting n, x) → StandsIn Q c n x.waits
  begun_after None t is = begun is
  begun_after (Some o) t is = absurd (both_ways (is_waiting_reply o.0) t (ap (λ (p : Outcome). is_waiting_reply p.0) is))

-- an unanswered wait in the kind of a begin
abbrev pub IsNew : CallMark → Standing → Type 0
IsNew b st = IsInKind b st × (is_waiting st ≡ true)

-- a begin that waits leaves such a wait
pub begin_stands : (kind : Kind) (b : CallMark) (c n : ℕ) (s x : Channel) → IsNamed s → is_begin b ≡ true → ◌≡◌ {A = Option Outcome} (channel_answer kind s c b) (Some (Waiting n, x)) → StandsIn (IsNew b) c n x.waits
begin_stands kind (BeginWrite item) c n s x names so is =
    begun_after (IsNew (BeginWrite item)) c n s x names (WantsRoom item) (refl, refl) (written kind s item) (written_step kind s item (is_some s.completion) (is_some (oldest wants_item s.waits)) (is_full kind.capacity (length s.buffer)) refl refl refl) (the_outcome _ _ is)
begin_stands kind BeginRead c n s x names so is =
    begun_after (IsNew BeginRead) c n s x names WantsItem (refl, refl) (taken kind s) (taken_step kind s (nat_le 1 (length s.buffer)) (is_some s.completion) refl refl) (the_outcome _ _ is)
begin_stands kind BeginLookRead c n s x names so is =
    begun_after (IsNew BeginLookRead) c n s x names LooksForItem (refl, refl) (looked_read s) (looked_read_step s (nat_le 1 (length s.buffer)) (is_some s.completion) refl refl) (the_outcome _ _ is)
begin_stands kind BeginLookWrite c n s x names so is =
    begun_after (IsNew BeginLookWrite) c n s x names LooksForRoom (refl, refl) (looked_write kind s) (looked_write_step kind s (is_some s.completion) (not (is_full kind.capacity (length s.buffer)) || drops kind.mode) refl refl) (the_outcome _ _ is)
begin_stands kind _ c n s x names so is = absurd (both_ways false refl so)

-- 4. The law

-- the last of these entries, whose wait stands in kind
record IsLast (kind : Kind) (b : CallMark) (c n : ℕ) (call : CallMark) (r : ReplyMark) : Type 0 where
  pub before : Channel
  pub after : Channel
  pub stands : StandsAs b c n before.waits
  pub answer : ◌≡◌ {A = Option Outcome} (channel_answer kind before c call) (Some (r, after))

last_is : (priority : Mark → ℕ) (o : Object) (before rest : List EntryMark) (c n : ℕ) (b call : CallMark) (r : ReplyMark) → is_begin b ≡ true → AllByRecursion (λ e. ends_wait c n e ≡ false) rest
    → IsLegal priority o (before ++ entry c b (Waiting n) ∷ (rest ++ entry c call r ∷ [])) → IsLast (kind_in priority o) b c n call r
last_is priority o before rest c n b call r so last legal =
    let t = legal.0 in
    let es = rest ++ entry c call r ∷ [] in
    let first = legal_begins priority o before (entry c b (Waiting n) ∷ es) legal in
    let channel = begins_are_of_channels priority o before (entry c b (Waiting n)) so (legal_begins priority o (before ++ entry c b (Waiting n) ∷ []) es (subst (IsLegal priority o) (sym (append_assoc before (entry c b (Waiting n) ∷ []) es)) legal)) in
    let reached = history_names priority o before first.0 channel first.1 in
    let from_first : fold_from priority o first.0 (entry c b (Waiting n) ∷ es) ≡ Some t = sym (fold_append priority o (empty_state o) first.0 before (entry c b (Waiting n) ∷ es) first.1) ∙ legal.1 in
    let from_begin = subst (λ (u : State). fold_from priority o u (entry c b (Waiting n) ∷ es) ≡ Some t) reached.1 from_first in
    let by = and_then_some (λ u. fold_from priority o u es) (object_step priority o (ChannelState reached.0) (entry c b (Waiting n))) t from_begin in
    let own = entry_is priority o channel reached.0 (entry c b (Waiting n)) by.0 by.1 in
    let stands = stands_weaker (IsNew b) (IsInKind b) (λ st new. new.0) c n own.after.waits (begin_stands (kind_in priority o) b c n reached.0 own.after (named_of reached.0 reached.2) so own.answer) in
    let from_wait = subst (λ (u : State). fold_from priority o u es ≡ Some t) own.state by.2 in
    let until = begins_from priority o (ChannelState own.after) t rest (entry c call r ∷ []) from_wait in
    let kept = entries_keep (IsInKind b) (kind_kept b) c n priority o channel rest own.after until.0 stands last until.1 in
    let from_last : fold_from priority o until.0 (entry c call r ∷ []) ≡ Some t = sym (fold_append priority o (ChannelState own.after) until.0 rest (entry c call r ∷ []) until.1) ∙ from_wait in
    let from_kept = subst (λ (u : State). fold_from priority o u (entry c call r ∷ []) ≡ Some t) kept.1 from_last in
    let end = and_then_some (λ u. fold_from priority o u []) (object_step priority o (ChannelState kept.0) (entry c call r)) t from_kept in
    let said = entry_is priority o channel kept.0 (entry c call r) end.0 end.1 in
    record { before = kept.0; after = said.after; stands = kept.2; answer = said.answer }

pub polls_in_kind : (priority : Mark → ℕ) (o : Object) (before rest : List EntryMark) (c n : ℕ) (b : CallMark) (r : ReplyMark) → is_begin b ≡ true → AllByRecursion (λ e. ends_wait c n e ≡ false) rest
    → IsLegal priority o (before ++ entry c b (Waiting n) ∷ (rest ++ entry c (Poll n) r ∷ [])) → (r ≡ Waiting n) ⊎ AnswersBegin b r
polls_in_kind priority o before rest c n b r so last legal =
    let l = last_is priority o before rest c n b (Poll n) r so last legal in
    let is : ◌≡◌ {A = Outcome} (poll l.before c n) (r, l.after) = the_outcome (poll l.before c n) (r, l.after) l.answer in
    subst (λ (q : ReplyMark). (q ≡ Waiting n) ⊎ AnswersBegin b q) (ap (λ (p : Outcome). p.0) is) (own_poll b c n l.before l.stands)

pub cancels_in_kind : (priority : Mark → ℕ) (o : Object) (before rest : List EntryMark) (c n : ℕ) (b : CallMark) (r : ReplyMark) → is_begin b ≡ true → AllByRecursion (λ e. ends_wait c n e ≡ false) rest
    → IsLegal priority o (before ++ entry c b (Waiting n) ∷ (rest ++ entry c (Cancel n) r ∷ [])) → CancelsBegin b r ⊎ AnswersBegin b r
cancels_in_kind priority o before rest c n b r so last legal =
    let l = last_is priority o before rest c n b (Cancel n) r so last legal in
    let is : ◌≡◌ {A = Outcome} (cancel l.before c n) (r, l.after) = the_outcome (cancel l.before c n) (r, l.after) l.answer in
    subst (λ (q : ReplyMark). CancelsBegin b q ⊎ AnswersBegin b q) (ap (λ (p : Outcome). p.0) is) (own_cancel b c n l.before l.stands)
