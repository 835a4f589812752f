-- What a queue has and replies, by the items enqueued and the counts of enqueues and takes.
use Rattle.std.proofs.Common.{◌≡◌, ℕ, ◌+◌, ◌-◌, ◌<◌, ◌≤◌, List, [], ◌∷◌, ◌++◌, length, drop, map, get_or, ltb, slice_get, true, false, Option, Some, None, refl, sym, ap, ◌∙◌, subst, ⊎_elim, arith, length-drop, append_assoc, append-nil}
use Rattle.std.specs.Prelude.{option_and_then}
use Rattle.std.proofs.lemmas.Bool.{cases_lt, lt-ltb, le-ltb}
use Rattle.std.proofs.lemmas.List.{drop-append-le, drop-drop, get_or-drop, length_push}
use Rattle.std.proofs.lemmas.Option.{slice_get_within, slice_get-get_or, get_or_from_slice_get, some_pair_parts}
use Rattle.ho_base.specs.Marks.{Mark, number_of}
use Rattle.ho_model.specs.declared.objects.Object.{Object}
use Rattle.ho_model.specs.declared.objects.Object.TheVariants as object
use Rattle.ho_model.specs.Entries.{CallMark, ReplyMark, EntryMark, entry, Enq, Deq, Peek, Count, Snap, Done, Full, Item, Empty, Counted, Numbers}
use Rattle.ho_model.specs.Queue.{queue_answer, first_item}
use Rattle.ho_model.specs.Objects.{State, QueueState, object_step, most_callers}
use Rattle.ho_model.specs.Tallies.{Tally, no_tally, tally_next, tally_from, tally_of}
use Rattle.ho_model.specs.Enqueues.{enqueued_in, values_of}
use Rattle.ho_model.specs.Histories.{fold_from, IsLegal}
use Rattle.ho_model.specs.QueueReplies.{items_left, LeavesItems, AreCounts, IsFirstReply, IsQueueReply, AllReply}
use Rattle.ho_model.proofs.Folds.{and_then_some, folded-push, legal_begins, tally_push}
use Rattle.ho_model.proofs.Enqueues.{values_push}
use Rattle.ho_model.proofs.Replies.{queue_entry, queue_entry_is, entry_of_caller, accepted_caller}

-- 1. One answer, of a queue that has the items that were enqueued and not taken
module _ (room : ℕ) (values : List Mark) (t : Tally) (counts : AreCounts room values t) where
  abbrev left : List Mark
  left = drop t.taken values

  pub left_count : length left + t.taken ≡ t.enqueued
  left_count = let a = counts.counted in let b = counts.order in omega (arith, length-drop t.taken values)

  -- the items left after a call
  abbrev left_next : CallMark → ReplyMark → List Mark
  left_next call reply = drop (tally_next t call reply).taken (values ++ enqueued_in call reply)

  same_left : left ≡ drop t.taken (values ++ [])
  same_left = ap (λ (l : List Mark). drop t.taken l) (sym (append-nil values))

  -- the first item left is the one at the count of those taken
  first_left : (item : Mark) → slice_get values t.taken ≡ Some item → (ltb 0 (length left) ≡ true) × (first_item left ≡ item)
  first_left item at =
      let inside = slice_get_within values t.taken item at in let n : t.taken + 0 ≡ t.taken = omega arith in (
        lt-ltb 0 (length left) (let a = counts.counted in let b = left_count in omega arith),
        get_or-drop t.taken values 0 [] ∙ (ap (λ (k : ℕ). get_or values k []) n ∙ get_or_from_slice_get values t.taken item [] at),
      )

  none_left : t.taken ≡ t.enqueued → ltb 0 (length left) ≡ false
  none_left e = le-ltb 0 (length left) (let a = left_count in omega arith)

  -- a queue gives each reply that is a queue's
  pub answers : (call : CallMark) (reply : ReplyMark) → IsQueueReply room values t call reply → queue_answer room left call ≡ Some (reply, left_next call reply)
  answers (Enq item) Done h =
      let test : ltb (length left) room ≡ true = lt-ltb (length left) room (let a = left_count in omega arith) in
      let longer : drop t.taken (values ++ item ∷ []) ≡ left ++ item ∷ [] = drop-append-le t.taken values (item ∷ []) (let a = counts.counted in let b = counts.order in omega arith) in
      rw (test, longer) refl
  answers (Enq item) Full h =
      let test : ltb (length left) room ≡ false = le-ltb (length left) room (let a = left_count in omega arith) in
      rw (test, ← same_left) refl
  answers Deq (Item item) h =
      let first = first_left item h in
      let shorter : drop 1 left ≡ drop (t.taken + 1) (values ++ []) = drop-drop 1 t.taken values ∙ ap (λ (l : List Mark). drop (t.taken + 1) l) (sym (append-nil values)) in
      rw (first.0, first.1, shorter) refl
  answers Deq Empty h = rw (none_left h, ← same_left) refl
  answers Peek (Item item) h = let first = first_left item h in rw (first.0, first.1, ← same_left) refl
  answers Peek Empty h = rw (none_left h, ← same_left) refl
  answers Count (Counted count) h = let is : length left ≡ count = let a = left_count in omega arith in rw (is, ← same_left) refl
  answers Snap (Numbers numbers) h = rw (h, ← same_left) refl
  answers _ _ h = absurd h

  -- to each call that a queue has there is such a reply
  first_reply : (said : ReplyMark) × IsFirstReply values t said
  first_reply = ⊎_elim
      (λ (lt : t.taken < t.enqueued). (Item (get_or values t.taken []), slice_get-get_or values t.taken [] (let a = counts.counted in omega arith)))
      (λ (le : t.enqueued ≤ t.taken). (Empty, let a = counts.order in omega arith))
      (cases_lt t.taken t.enqueued)

  replies : (call : CallMark) (reply : ReplyMark) (after : List Mark) → queue_answer room left call ≡ Some (reply, after) → (said : ReplyMark) × IsQueueReply room values t call said
  replies (Enq item) reply after h = ⊎_elim
      (λ (lt : t.enqueued < t.taken + room). (Done, lt))
      (λ (le : t.taken + room ≤ t.enqueued). (Full, let a = counts.within in omega arith))
      (cases_lt t.enqueued (t.taken + room))
  replies Deq reply after h = first_reply
  replies Peek reply after h = first_reply
  replies Count reply after h = (Counted (t.enqueued - t.taken), let a = counts.order in omega arith)
  replies Snap reply after h = (Numbers (map number_of left), refl)
  replies _ reply after h = let no : ◌≡◌ {A = Option (ReplyMark × List Mark)} None (Some (reply, after)) = h in cc

  -- so a queue gives no other reply
  pub answers_only : (call : CallMark) (reply : ReplyMark) (after : List Mark) → queue_answer room left call ≡ Some (reply, after) → IsQueueReply room values t call reply × (after ≡ left_next call reply)
  answers_only call reply after h =
      let by = replies call reply after h in
      let same = some_pair_parts by.0 reply (left_next call by.0) after (sym (answers call by.0 by.1) ∙ h) in
      subst (λ (said : ReplyMark). IsQueueReply room values t call said × (after ≡ left_next call said)) same.0 (by.1, sym same.1)

  -- the counts go with the items after the call
  pub counts_next : (call : CallMark) (reply : ReplyMark) → IsQueueReply room values t call reply → AreCounts room (values ++ enqueued_in call reply) (tally_next t call reply)
  counts_next (Enq item) Done h = let a = counts.counted in let b = counts.order in record { counted = omega (arith, length_push values item); order = omega arith; within = omega arith }
  counts_next Deq (Item item) h = let a = counts.counted in let b = counts.within in let inside = slice_get_within values t.taken item h in record { counted = ap length (append-nil values) ∙ counts.counted; order = omega arith; within = omega arith }
  counts_next _ _ h = subst (λ (l : List Mark). AreCounts room l t) (sym (append-nil values)) counts

-- 2. Histories
module _ (priority : Mark → ℕ) (room first_len : ℕ) where
  abbrev queue : Object
  queue = object.Queue room first_len

  -- an entry that a queue allows
  step_is : (values : List Mark) (t : Tally) → AreCounts room values t → (e : EntryMark) (s : State) → object_step priority queue (QueueState (drop t.taken values)) e ≡ Some s
      → IsQueueReply room values t e.call e.reply × (s ≡ QueueState (drop (tally_next t e.call e.reply).taken (values ++ enqueued_in e.call e.reply)))
  step_is values t counts e s h =
      let items = drop t.taken values in
      let by = queue_entry_is room items e s (accepted_caller priority queue (QueueState items) s e h).1 in
      let only = answers_only room values t counts e.call e.reply by.0 by.2 in
      (only.0, by.1 ∙ ap QueueState only.1)

  runs : (es : List EntryMark) (values : List Mark) (t : Tally) → AreCounts room values t → (s : State) → fold_from priority queue (QueueState (drop t.taken values)) es ≡ Some s
      → AreCounts room (values ++ values_of es) (tally_from t es) × (s ≡ QueueState (drop (tally_from t es).taken (values ++ values_of es)))
  runs [] values t counts s h =
      let is : QueueState (drop t.taken values) ≡ s = cc in
      subst (λ (l : List Mark). AreCounts room l t × (s ≡ QueueState (drop t.taken l))) (sym (append-nil values)) (counts, sym is)
  runs (e ∷ es) values t counts s h =
      let by = and_then_some (λ (n : State). fold_from priority queue n es) (object_step priority queue (QueueState (drop t.taken values)) e) s h in
      let step = step_is values t counts e by.0 by.1 in
      let t' = tally_next t e.call e.reply in let item = enqueued_in e.call e.reply in
      subst (λ (l : List Mark). AreCounts room l (tally_from t' es) × (s ≡ QueueState (drop (tally_from t' es).taken l))) (append_assoc values item (values_of es))
      (runs es (values ++ item) t' (counts_next room values t counts e.call e.reply step.0) s (subst (λ (x : State). fold_from priority queue x es ≡ Some s) step.1 by.2))

  starts : AreCounts room [] no_tally
  starts = record { counted = refl; order = omega arith; within = omega arith }

  -- a legal history: what it leaves, and that the counts go with it
  pub legal_leaves : (log : List EntryMark) → IsLegal priority queue log → LeavesItems priority room first_len log
  legal_leaves log l = l.1 ∙ ap (λ (s : State). Some s) (runs log [] no_tally starts l.0 l.1).1

  pub legal_counts : (log : List EntryMark) → IsLegal priority queue log → AreCounts room (values_of log) (tally_of log)
  legal_counts log l = (runs log [] no_tally starts l.0 l.1).0

  pub leaves_legal : (log : List EntryMark) → LeavesItems priority room first_len log → IsLegal priority queue log
  leaves_legal log is = (QueueState (items_left log), is)

  -- one entry more
  pub queue_next : (log : List EntryMark) (e : EntryMark) → LeavesItems priority room first_len log → e.caller < most_callers → IsQueueReply room (values_of log) (tally_of log) e.call e.reply → LeavesItems priority room first_len (log ++ e ∷ [])
  queue_next log e is low reply =
      let counts = legal_counts log (leaves_legal log is) in
      let values = values_of log in let t = tally_of log in
      let next = drop (tally_next t e.call e.reply).taken (values ++ enqueued_in e.call e.reply) in
      folded-push priority queue log (QueueState (items_left log)) e is
      ∙ (entry_of_caller priority queue (QueueState (items_left log)) (QueueState next) e low (queue_entry room (items_left log) next e (answers room values t counts e.call e.reply reply))
      ∙ (λ i. Some (QueueState (drop (sym (tally_push log e) i).taken (sym (values_push log e) i)))))

  pub legal_next : (log : List EntryMark) (e : EntryMark) → IsLegal priority queue log → e.caller < most_callers → IsQueueReply room (values_of log) (tally_of log) e.call e.reply → IsLegal priority queue (log ++ e ∷ [])
  legal_next log e l low reply = leaves_legal (log ++ e ∷ []) (queue_next log e (legal_leaves log l) low reply)

  -- an entry of a legal history
  pub entry_replies : (log : List EntryMark) (e : EntryMark) → IsLegal priority queue (log ++ e ∷ []) → IsQueueReply room (values_of log) (tally_of log) e.call e.reply
  entry_replies log e l =
      let before = legal_begins priority queue log (e ∷ []) l in
      let is = legal_leaves log before in
      (step_is (values_of log) (tally_of log) (legal_counts log before) e l.0 (sym (folded-push priority queue log (QueueState (items_left log)) e is) ∙ l.1)).0

  -- 3. Legality without states: by the replies alone
  all_reply : (es : List EntryMark) (values : List Mark) (t : Tally) → AreCounts room values t → (s : State) → fold_from priority queue (QueueState (drop t.taken values)) es ≡ Some s → AllReply room values t es
  all_reply [] values t counts s h = tt
  all_reply (e ∷ es) values t counts s h =
      let start = QueueState (drop t.taken values) in
      let by = and_then_some (λ (n : State). fold_from priority queue n es) (object_step priority queue start e) s h in
      let step = step_is values t counts e by.0 by.1 in (
        (accepted_caller priority queue start by.0 e by.1).0,
        step.0,
        all_reply es (values ++ enqueued_in e.call e.reply) (tally_next t e.call e.reply) (counts_next room values t counts e.call e.reply step.0) s
            (subst (λ (x : State). fold_from priority queue x es ≡ Some s) step.1 by.2),
      )

  all_folded : (es : List EntryMark) (values : List Mark) (t : Tally) → AreCounts room values t → AllReply room values t es → (s : State) × (fold_from priority queue (QueueState (drop t.taken values)) es ≡ Some s)
  all_folded [] values t counts all = (QueueState (drop t.taken values), refl)
  all_folded (e ∷ es) values t counts all =
      let items = drop t.taken values in let next = drop (tally_next t e.call e.reply).taken (values ++ enqueued_in e.call e.reply) in
      let step = entry_of_caller priority queue (QueueState items) (QueueState next) e all.0 (queue_entry room items next e (answers room values t counts e.call e.reply all.1)) in
      let rest = all_folded es (values ++ enqueued_in e.call e.reply) (tally_next t e.call e.reply) (counts_next room values t counts e.call e.reply all.1) all.2 in
      (rest.0, ap (option_and_then (λ (n : State). fold_from priority queue n es)) step ∙ rest.1)

  pub legal_replies : (log : List EntryMark) → IsLegal priority queue log → AllReply room [] no_tally log
  legal_replies log l = all_reply log [] no_tally starts l.0 l.1

  pub replies_legal : (log : List EntryMark) → AllReply room [] no_tally log → IsLegal priority queue log
  replies_legal log all = all_folded log [] no_tally starts all

  -- 4. A law a reply, of the caller c
  module _ (log : List EntryMark) (is : LeavesItems priority room first_len log) (c : ℕ) (low : c < most_callers) where
    abbrev enqueued : ℕ
    enqueued = (tally_of log).enqueued

    abbrev taken : ℕ
    taken = (tally_of log).taken

    abbrev Leaves : CallMark → ReplyMark → Type 0
    Leaves call reply = LeavesItems priority room first_len (log ++ entry c call reply ∷ [])

    pub enqueue_next : (item : Mark) → enqueued < taken + room → Leaves (Enq item) Done
    enqueue_next item h = queue_next log (entry c (Enq item) Done) is low h

    pub full_next : (item : Mark) → enqueued ≡ taken + room → Leaves (Enq item) Full
    full_next item h = queue_next log (entry c (Enq item) Full) is low h

    pub take_next : (item : Mark) → slice_get (values_of log) taken ≡ Some item → Leaves Deq (Item item)
    take_next item h = queue_next log (entry c Deq (Item item)) is low h

    pub empty_next : taken ≡ enqueued → Leaves Deq Empty
    empty_next h = queue_next log (entry c Deq Empty) is low h

    pub peek_next : (item : Mark) → slice_get (values_of log) taken ≡ Some item → Leaves Peek (Item item)
    peek_next item h = queue_next log (entry c Peek (Item item)) is low h

    pub peek_empty_next : taken ≡ enqueued → Leaves Peek Empty
    peek_empty_next h = queue_next log (entry c Peek Empty) is low h

    pub count_next : (count : ℕ) → count + taken ≡ enqueued → Leaves Count (Counted count)
    count_next count h = queue_next log (entry c Count (Counted count)) is low h

    pub snap_next : (numbers : List ℕ) → numbers ≡ map number_of (items_left log) → Leaves Snap (Numbers numbers)
    snap_next numbers h = queue_next log (entry c Snap (Numbers numbers)) is low h
