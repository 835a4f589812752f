-- The laws of queues, as they are stated.
use Rattle.std.proofs.Common.{◌≡◌, ℕ, ◌+◌, List, [], ◌∷◌, ◌++◌, length, map, slice_get, Some, sym, ap, ◌∙◌, subst, append_assoc, arith}
use Rattle.std.proofs.lemmas.List.{length-map}
use Rattle.ho_base.specs.Marks.{Mark, number_of}
use Rattle.ho_model.specs.declared.objects.Object.TheVariants.{Queue}
use Rattle.ho_model.specs.Entries.{EntryMark, entry, CallMark, Enq, Deq, Peek, Count, Snap, Done, Full, Item, Empty, Counted, Numbers}
use Rattle.ho_model.specs.Objects.{QueueState}
use Rattle.ho_model.specs.Tallies.{tally_of}
use Rattle.ho_model.specs.Enqueues.{values_of}
use Rattle.ho_model.specs.Histories.{IsLegal}
use Rattle.ho_model.specs.QueueReplies.{items_left}
use Rattle.ho_model.specs.QueueLaws.{QueuesLeaveItems, QueuesCount, QueuesBalance, QueuesReply, EntriesReply, LegalByReplies, EnqueueNext, FullNext, TakeNext, PeekNext, EmptyNext, PeekEmptyNext, CountNext, SnapNext, EnqueuesFindItems, TakesFindItems, PeeksFindItems, CountsFindHeads, FullsFindHeads, EmptiesFindHeads, SnapsFindHeads}
use Rattle.ho_model.proofs.Folds.{legal_begins}
use Rattle.ho_model.proofs.Enqueues.{value_put, value_stays}
use Rattle.ho_model.proofs.Queues as queues
use Rattle.ho_model.proofs.Queues.{left_count, legal_leaves, legal_counts, legal_next, entry_replies, legal_replies, replies_legal}

pub queues_leave_items : QueuesLeaveItems
queues_leave_items = legal_leaves

pub queues_count : QueuesCount
queues_count = legal_counts

pub queues_balance : QueuesBalance
queues_balance priority room first_len history items is =
    let l : IsLegal priority (Queue room first_len) history = (QueueState items, is) in
    let same : Some (QueueState (items_left history)) ≡ Some (QueueState items) = sym (legal_leaves priority room first_len history l) ∙ is in
    let one : items ≡ items_left history = cc in
    ap (λ (xs : List Mark). length xs + (tally_of history).taken) one ∙ left_count room (values_of history) (tally_of history) (legal_counts priority room first_len history l)

pub queues_reply : QueuesReply
queues_reply priority room first_len before e l low = (
  entry_replies priority room first_len before e,
  legal_next priority room first_len before e l low,
)

pub entries_reply : EntriesReply
entries_reply priority room first_len before e later l =
    entry_replies priority room first_len before e
    (legal_begins priority (Queue room first_len) (before ++ e ∷ []) later (subst (IsLegal priority (Queue room first_len)) (sym (append_assoc before (e ∷ []) later)) l))

pub legal_by_replies : LegalByReplies
legal_by_replies priority room first_len history = (legal_replies priority room first_len history, replies_legal priority room first_len history)

-- a law a reply
pub enqueue_next : EnqueueNext
enqueue_next priority room first_len log item h c low l = queues.enqueue_next priority room first_len log (legal_leaves priority room first_len log l) c low item h

pub full_next : FullNext
full_next priority room first_len log item h c low l = queues.full_next priority room first_len log (legal_leaves priority room first_len log l) c low item h

pub take_next : TakeNext
take_next priority room first_len log item h c low l = queues.take_next priority room first_len log (legal_leaves priority room first_len log l) c low item h

pub peek_next : PeekNext
peek_next priority room first_len log item h c low l = queues.peek_next priority room first_len log (legal_leaves priority room first_len log l) c low item h

pub empty_next : EmptyNext
empty_next priority room first_len log h c low l = queues.empty_next priority room first_len log (legal_leaves priority room first_len log l) c low h

pub peek_empty_next : PeekEmptyNext
peek_empty_next priority room first_len log h c low l = queues.peek_empty_next priority room first_len log (legal_leaves priority room first_len log l) c low h

pub count_next : CountNext
count_next priority room first_len log count h c low l = queues.count_next priority room first_len log (legal_leaves priority room first_len log l) c low count h

pub snap_next : SnapNext
snap_next priority room first_len log numbers h c low l = queues.snap_next priority room first_len log (legal_leaves priority room first_len log l) c low numbers h

-- what stands at a place among the items enqueued stands there in every longer history
value_later : (before : List EntryMark) (e : EntryMark) (later : List EntryMark) (p : ℕ) (x : Mark) → slice_get (values_of (before ++ e ∷ [])) p ≡ Some x → slice_get (values_of (before ++ e ∷ later)) p ≡ Some x
value_later before e later p x h =
    subst (λ (log : List EntryMark). slice_get (values_of log) p ≡ Some x) (append_assoc before (e ∷ []) later) (value_stays (before ++ e ∷ []) later p x h)

pub enqueues_find_items : EnqueuesFindItems
enqueues_find_items priority room first_len before later c position segment item l is =
    let e = entry c (Enq item) Done in
    let counts = legal_counts priority room first_len before (legal_begins priority (Queue room first_len) before (e ∷ later) l) in
    value_later before e later position item (value_put before c position item (counts.counted ∙ sym is.0))

pub takes_find_items : TakesFindItems
takes_find_items priority room first_len before later c position item l is =
    let e = entry c Deq (Item item) in
    let at = subst (λ (p : ℕ). slice_get (values_of before) p ≡ Some item) (sym is) (entries_reply priority room first_len before e later l) in
    value_stays before (e ∷ later) position item at

pub peeks_find_items : PeeksFindItems
peeks_find_items priority room first_len before later c position item l is =
    let e = entry c Peek (Item item) in
    let at = subst (λ (p : ℕ). slice_get (values_of before) p ≡ Some item) (sym is) (entries_reply priority room first_len before e later l) in
    value_stays before (e ∷ later) position item at

pub counts_find_heads : CountsFindHeads
counts_find_heads priority room first_len before later c count head tail l is =
    let at = entries_reply priority room first_len before (entry c Count (Counted count)) later l in
    let a = is.0 in let b = is.1 in omega arith

pub fulls_find_heads : FullsFindHeads
fulls_find_heads priority room first_len before later c head tail item l is =
    let at = entries_reply priority room first_len before (entry c (Enq item) Full) later l in
    let a = is.0 in let b = is.1 in omega arith

pub empties_find_heads : EmptiesFindHeads
empties_find_heads priority room first_len before later c head tail Deq l is =
    let at = entries_reply priority room first_len before (entry c Deq Empty) later l in
    let a = is.0 in let b = is.1 in omega arith
empties_find_heads priority room first_len before later c head tail Peek l is =
    let at = entries_reply priority room first_len before (entry c Peek Empty) later l in
    let a = is.0 in let b = is.1 in omega arith
empties_find_heads priority room first_len before later c head tail (Enq item) l is = absurd (entries_reply priority room first_len before (entry c (Enq item) Empty) later l)
empties_find_heads priority room first_len before later c head tail call l is = absurd (entries_reply priority room first_len before (entry c call Empty) later l)

pub snaps_find_heads : SnapsFindHeads
snaps_find_heads priority room first_len before later c head tail numbers l is =
    let e = entry c Snap (Numbers numbers) in
    let at : numbers ≡ map number_of (items_left before) = entries_reply priority room first_len before e later l in
    let counts = legal_counts priority room first_len before (legal_begins priority (Queue room first_len) before (e ∷ later) l) in
    let left : length (items_left before) + (tally_of before).taken ≡ (tally_of before).enqueued = left_count room (values_of before) (tally_of before) counts in
    let many : length numbers ≡ length (items_left before) = ap (λ (ns : List ℕ). length ns) at ∙ length-map (items_left before) number_of in
    let a = is.0 in let b = is.1 in omega arith
