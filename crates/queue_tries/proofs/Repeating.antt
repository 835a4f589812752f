-- A call that repeats its try ends as its last try.
use Rattle.std.proofs.Common.{◌≡◌, ℕ, ◌+◌, List, [], ◌∷◌, ◌++◌, Bool, refl, sym, ap, ◌∙◌, subst, append_assoc, append-nil, arith}
use Rattle.ho_base.specs.Marks.{number_priority}
use Rattle.ho_base.specs.declared.receipts.Receipt.{Receipt}
use Rattle.ho_model.specs.declared.marks.CallMark.{CallMark}
use Rattle.ho_model.specs.declared.marks.EntryMark.{EntryMark}
use Rattle.ho_model.specs.declared.marks.ReplyMark.{ReplyMark}
use Rattle.ho_model.specs.declared.objects.Object.{Object}
use Rattle.ho_model.specs.Entries.{entry}
use Rattle.ho_model.specs.QueueReceipts.{IsQueueReceipt}
use Rattle.ho_model.specs.Tallies.{tally_of}
use Rattle.passes.specs.Seen.{AreOthers, SeesOthers, IsLawful}
use Rattle.passes.specs.Calls.{IsSamePass}
use Rattle.passes.specs.Repeats.{Counts, MeetsMore}
use Rattle.passes.proofs.Calls.{same_on, own_before}
use Rattle.passes.proofs.Repeats.{counts_on}
use Rattle.passes.proofs.Seen.{sees_same, sees_more}
use Rattle.seg_rule.specs.declared.view.Obstacle.{Obstacle}
use Rattle.seg_rule.specs.Tells.{first_len_in}
use Rattle.seg_rule.specs.Passes.{QueueView, pass_of}
use Rattle.queue_tries.specs.Tries.{MakesEntry, MakesNone, IsSpent}
use Rattle.queue_tries.specs.Lasting.{Ends, TriesOn}
use Rattle.queue_tries.specs.declared.answers.QueueAgain.{QueueAgain}
use Rattle.queue_tries.proofs.Walks.{not_counted}

-- before the first try
pub tries_none : (p : QueueView) → TriesOn p p
tries_none p = record { table = refl; object = refl; callers = refl; caller = refl; held = refl; seen = sees_same p.view.held p.view.seen; counted = (0, not_counted p.view.made p.view.caller); met = ([], sym (append-nil p.view.met)) }

module _ (p q r : QueueView) (t : TriesOn p q) where
  same_until : IsSamePass (pass_of q) (pass_of r) → IsSamePass (pass_of p) (pass_of q)
  same_until same = record {
    table = t.table;
    object = t.object;
    callers = t.callers;
    caller = t.caller;
    held = t.held;
    own = own_before (pass_of q) (pass_of r) same;
  }

  same_all : IsSamePass (pass_of q) (pass_of r) → IsSamePass (pass_of p) (pass_of r)
  same_all same = same_on (pass_of p) (pass_of q) (pass_of r) (same_until same) same

  seen_on : (history : List EntryMark) → SeesOthers q.view.held q.view.seen history → SeesOthers p.view.held p.view.seen history
  seen_on history s = subst (SeesOthers p.view.held p.view.seen) (sym s.1) (sees_more p.view.held p.view.seen q.view.seen s.0 t.seen (subst (λ (held : List Bool). AreOthers held s.0) t.held s.2))

  counted_on : (n : ℕ) → IsSamePass (pass_of q) (pass_of r) → Counts n (pass_of q) (pass_of r) → Counts (t.counted.0 + n) (pass_of p) (pass_of r)
  counted_on n same c = counts_on (pass_of p) (pass_of q) (pass_of r) t.counted.0 n (same_until same) t.counted.1 c

  met_more : (read : List Obstacle) → r.view.met ≡ q.view.met ++ read → MeetsMore (pass_of p) (pass_of r)
  met_more read is = (t.met.0 ++ read, is ∙ (ap (λ (z : List Obstacle). z ++ read) t.met.1 ∙ append_assoc p.view.met t.met.0 read))

  -- a try that made none
  pub tries_on : (again : QueueAgain) (read : List Obstacle) → MakesNone q r again read → TriesOn p r
  tries_on again read n = record {
    table = n.same.table ∙ t.table;
    object = n.same.object ∙ t.object;
    callers = n.same.callers ∙ t.callers;
    caller = n.same.caller ∙ t.caller;
    held = n.same.held ∙ t.held;
    seen = seen_on r.view.seen n.no_entry.seen;
    counted = (t.counted.0 + n.counted.0, counted_on n.counted.0 n.same n.counted.2);
    met = met_more read n.met;
  }

  -- one that was not made, since no call is left
  pub tries_spent : IsSpent q r → TriesOn p r
  tries_spent s = subst (λ (z : QueueView). TriesOn p z) (sym s.same) t

  -- and one that made its entry
  pub tries_end : (call : CallMark) (reply : ReplyMark) (receipt : Receipt) → MakesEntry q r (entry q.view.caller call reply) receipt → Ends p r (entry p.view.caller call reply) receipt
  tries_end call reply receipt n = let e = n.ends in (
    n.before,
    record {
      same = same_all e.same;
      seen = (seen_on n.before e.seen.0, e.seen.1 ∙ ap (λ (c : ℕ). n.before ++ entry c call reply ∷ []) t.caller);
      lawful = subst (λ (z : Object × ℕ). IsLawful number_priority z.0 z.1 r.view.seen) (λ i. (t.object i, t.callers i)) e.lawful;
      counted = (t.counted.0 + e.counted.0, (let some = e.counted.1 in omega arith), counted_on e.counted.0 e.same e.counted.2);
      met = met_more e.met.0 e.met.1;
    },
    subst (λ (o : Object). IsQueueReceipt (first_len_in o) call reply (tally_of n.before) receipt) t.object n.receipt_is,
  )
