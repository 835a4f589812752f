-- A window that is opened by the last of several tries.
use Rattle.std.proofs.Common.{◌≡◌, ℕ, ◌+◌, ◌≤◌, List, [], ◌∷◌, ◌++◌, length, map, Bool, refl, sym, ap, ◌∙◌, subst, append_assoc, append-nil, arith}
use Rattle.std.proofs.lemmas.List.{length-map}
use Rattle.ho_base.specs.Marks.{number_of, number_priority}
use Rattle.ho_base.specs.declared.receipts.Receipt.{Receipt}
use Rattle.ho_base.specs.declared.receipts.Receipt.TheVariants.{Looked}
use Rattle.ho_model.specs.declared.marks.CallMark.{CallMark}
use Rattle.ho_model.specs.declared.marks.CallMark.TheVariants.{Snap}
use Rattle.ho_model.specs.declared.marks.EntryMark.{EntryMark}
use Rattle.ho_model.specs.declared.marks.ReplyMark.{ReplyMark}
use Rattle.ho_model.specs.declared.marks.ReplyMark.TheVariants.{Numbers}
use Rattle.ho_model.specs.declared.objects.Object.{Object}
use Rattle.ho_model.specs.declared.objects.Object.TheVariants.{Queue}
use Rattle.ho_model.specs.Entries.{entry}
use Rattle.ho_model.specs.Enqueues.{values_of}
use Rattle.ho_model.specs.Histories.{IsLegal}
use Rattle.ho_model.specs.QueueReplies.{items_left}
use Rattle.ho_model.specs.Tallies.{tally_of}
use Rattle.ho_model.proofs.Folds.{legal_begins}
use Rattle.ho_model.proofs.QueueLaws.{queues_count, entries_reply, snaps_find_heads}
use Rattle.ho_model.proofs.Queues.{left_count}
use Rattle.passes.specs.Seen.{AreOthers, SeesOthers, IsLawful}
use Rattle.passes.specs.Views.{PassView}
use Rattle.passes.specs.Calls.{IsSamePass, AddsNoEntry}
use Rattle.passes.specs.Repeats.{Counts, MeetsMore, EndsByEntry}
use Rattle.passes.proofs.Calls.{same_on, own_before}
use Rattle.passes.proofs.Repeats.{counts_on}
use Rattle.passes.proofs.Seen.{sees_same, sees_more}
use Rattle.seg_rule.specs.declared.view.Obstacle.{Obstacle}
use Rattle.queue_tries.specs.Windows.{items_of}
use Rattle.queue_tries.specs.declared.answers.QueueAgain.{QueueAgain}
use Rattle.queue_tries.specs.declared.answers.Window.{Window}
use Rattle.queue_tries.proofs.Walks.{not_counted}
use Rattle.concurrent_queue.specs.Passes.{QueueView}
use Rattle.concurrent_queue.specs.Queues.{QueueId, IsOf, IsInside}
use Rattle.concurrent_queue.specs.Tries.{MakesNone, IsSpent}
use Rattle.concurrent_queue.specs.Windows.{EndsBySnap}
use Rattle.queue_snapshot.specs.Snapshots.{TriesOn, span_of}

-- before the first try
pub tries_none : (p : PassView Obstacle) → TriesOn p p
tries_none p = record { table = refl; object = refl; callers = refl; caller = refl; held = refl; seen = sees_same p.held p.seen; counted = (0, not_counted p.made p.caller); met = ([], sym (append-nil p.met)) }

module _ (p q r : PassView Obstacle) (t : TriesOn p q) where
  same_until : IsSamePass q r → IsSamePass p q
  same_until same = record {
    table = t.table;
    object = t.object;
    callers = t.callers;
    caller = t.caller;
    held = t.held;
    own = own_before q r same;
  }

  same_all : IsSamePass q r → IsSamePass p r
  same_all same = same_on p q r (same_until same) same

  seen_on : (history : List EntryMark) → SeesOthers q.held q.seen history → SeesOthers p.held p.seen history
  seen_on history s = subst (SeesOthers p.held p.seen) (sym s.1) (sees_more p.held p.seen q.seen s.0 t.seen (subst (λ (held : List Bool). AreOthers held s.0) t.held s.2))

  counted_on : (n : ℕ) → IsSamePass q r → Counts n q r → Counts (t.counted.0 + n) p r
  counted_on n same c = counts_on p q r t.counted.0 n (same_until same) t.counted.1 c

  met_more : (read : List Obstacle) → r.met ≡ q.met ++ read → MeetsMore p r
  met_more read is = (t.met.0 ++ read, is ∙ (ap (λ (z : List Obstacle). z ++ read) t.met.1 ∙ append_assoc p.met t.met.0 read))

  -- a try that made none
  on_past : (n : ℕ) (read : List Obstacle) → IsSamePass q r → AddsNoEntry number_priority q r → Counts n q r → r.met ≡ q.met ++ read → TriesOn p r
  on_past n read same none counted met = record {
    table = same.table ∙ t.table;
    object = same.object ∙ t.object;
    callers = same.callers ∙ t.callers;
    caller = same.caller ∙ t.caller;
    held = same.held ∙ t.held;
    seen = seen_on r.seen none.seen;
    counted = (t.counted.0 + n, counted_on n same counted);
    met = met_more read met;
  }

  -- and one that made its entry
  ends_past : (before : List EntryMark) (call : CallMark) (reply : ReplyMark) → EndsByEntry number_priority q before (entry q.caller call reply) r → EndsByEntry number_priority p before (entry p.caller call reply) r
  ends_past before call reply e = record {
    same = same_all e.same;
    seen = (seen_on before e.seen.0, e.seen.1 ∙ ap (λ (c : ℕ). before ++ entry c call reply ∷ []) t.caller);
    lawful = subst (λ (z : Object × ℕ). IsLawful number_priority z.0 z.1 r.seen) (λ i. (t.object i, t.callers i)) e.lawful;
    counted = (t.counted.0 + e.counted.0, (let some = e.counted.1 in omega arith), counted_on e.counted.0 e.same e.counted.2);
    met = met_more e.met.0 e.met.1;
  }

module _ (p q r : QueueView) (t : TriesOn p.pass q.pass) where
  pub tries_on : (again : QueueAgain) (read : List Obstacle) → MakesNone q r again read → TriesOn p.pass r.pass
  tries_on again read n = on_past p.pass q.pass r.pass t n.counted.0 read n.same n.no_entry n.counted.2 n.met

  pub tries_spent : IsSpent q r → TriesOn p.pass r.pass
  tries_spent s = subst (λ (z : QueueView). TriesOn p.pass z.pass) (sym s.same) t

  pub tries_end : (first_len : ℕ) (w : Window) (receipt : Receipt) → EndsBySnap q r first_len w receipt → EndsBySnap p r first_len w receipt
  tries_end first_len w receipt e = (e.0, ends_past p.pass q.pass r.pass t e.0 Snap (Numbers (items_of r.pass.seen w)) e.1, e.2)

-- the pass stays that of the queue
pub of_on : (id : QueueId) (q r : QueueView) (again : QueueAgain) (read : List Obstacle) → IsOf id q → MakesNone q r again read → IsOf id r
of_on id q r again read of n = (n.same.table ∙ of.0, n.same.object ∙ of.1, n.window ∙ of.2)

pub of_spent : (id : QueueId) (q r : QueueView) → IsOf id q → IsSpent q r → IsOf id r
of_spent id q r of s = subst (IsOf id) (sym s.same) of

pub inside_at_end : (id : QueueId) (q r : QueueView) (first_len : ℕ) (w : Window) (receipt : Receipt) → IsOf id q → EndsBySnap q r first_len w receipt → IsInside id r
inside_at_end id q r first_len w receipt of e = (e.1.same.table ∙ of.0, e.1.same.object ∙ of.1)

-- a legal snapshot shows at most as many items as there is room for
few_shown : (room first_len c : ℕ) (before : List EntryMark) (numbers : List ℕ) → IsLegal number_priority (Queue room first_len) (before ++ entry c Snap (Numbers numbers) ∷ []) → length numbers ≤ room
few_shown room first_len c before numbers l =
    let e = entry c Snap (Numbers numbers) in
    let at : numbers ≡ map number_of (items_left before) = entries_reply number_priority room first_len before e [] l in
    let counts = queues_count number_priority room first_len before (legal_begins number_priority (Queue room first_len) before (e ∷ []) l) in
    let left : length (items_left before) + (tally_of before).taken ≡ (tally_of before).enqueued = left_count room (values_of before) (tally_of before) counts in
    let many : length numbers ≡ length (items_left before) = ap (λ (ns : List ℕ). length ns) at ∙ length-map (items_left before) number_of in
    let within = counts.within in omega arith

legal_at_end : (id : QueueId) (q r : QueueView) (first_len : ℕ) (w : Window) (receipt : Receipt) → IsOf id q → (e : EndsBySnap q r first_len w receipt) → IsLegal number_priority (Queue id.room id.first_len) (e.0 ++ entry q.pass.caller Snap (Numbers (items_of r.pass.seen w)) ∷ [])
legal_at_end id q r first_len w receipt of e =
    let legal : IsLegal number_priority (Queue id.room id.first_len) r.pass.seen = subst (λ (o : Object). IsLegal number_priority o r.pass.seen) of.1 e.1.lawful.0 in
    subst (IsLegal number_priority (Queue id.room id.first_len)) e.1.seen.1 legal

pub within_room : (id : QueueId) (q r : QueueView) (first_len : ℕ) (w : Window) (receipt : Receipt) → IsOf id q → EndsBySnap q r first_len w receipt → length (items_of r.pass.seen w) ≤ id.room
within_room id q r first_len w receipt of e =
    few_shown id.room id.first_len q.pass.caller e.0 (items_of r.pass.seen w) (legal_at_end id q r first_len w receipt of e)

-- its receipt tells how many it shows
pub span_is : (id : QueueId) (q r : QueueView) (first_len : ℕ) (w : Window) (receipt : Receipt) → IsOf id q → EndsBySnap q r first_len w receipt → span_of receipt ≡ length (items_of r.pass.seen w)
span_is id q r first_len w (Looked head tail) of e =
    let legal = legal_at_end id q r first_len w (Looked head tail) of e in
    let is = snaps_find_heads number_priority id.room id.first_len e.0 [] q.pass.caller head tail (items_of r.pass.seen w) legal e.2 in omega arith
span_is id q r first_len w receipt of e = absurd e.2
