-- What calls leave of the pass of the segments' table, as the queue's pass tells it.
use Rattle.std.proofs.Common.{◌≡◌, ℕ, zero, suc, ◌+◌, ◌*◌, ◌<◌, List, sym, refl, ap, ◌∙◌, subst, arith}
use Rattle.std.specs.Prelude.{◌/◌, None}
use Rattle.std.proofs.Math.Nat.{mul-div_cancel}
use Rattle.atomic_table.specs.Seated.{TableId}
use Rattle.ho_base.specs.Marks.{number_priority}
use Rattle.ho_base.specs.declared.receipts.Receipt.{Receipt}
use Rattle.ho_model.specs.declared.marks.CallMark.TheVariants as callmark
use Rattle.ho_model.specs.declared.marks.EntryMark.{EntryMark}
use Rattle.ho_model.specs.declared.marks.ReplyMark.TheVariants.{Counted}
use Rattle.ho_model.specs.declared.objects.Object.{Object}
use Rattle.ho_model.specs.declared.objects.Object.TheVariants as object
use Rattle.ho_model.specs.QueueReceipts.{IsQueueReceipt}
use Rattle.ho_model.specs.Tallies.{tally_of}
use Rattle.passes.specs.Calls.{Splits, Joins}
use Rattle.passes.specs.Views.{PassView}
use Rattle.seg_layout.specs.Lengths.{longest_of, places_of}
use Rattle.seg_rule.specs.declared.view.Obstacle.{Obstacle}
use Rattle.seg_rule.specs.Passes as segments
use Rattle.seg_rule.specs.Passes.{QueueShape, SplitsPass, JoinsPass, pass_of}
use Rattle.seg_rule.specs.Rule.{IsShape}
use Rattle.seg_rule.specs.Steps.{IsAtRest, alone, without, joined}
use Rattle.seg_rule.specs.Tells.{place_count, slot_count, places_in, slots_in, first_len_in}
use Rattle.seg_rule.specs.Words.{width, words_of}
use Rattle.queue_tries.specs.Lasting.{Ends}
use Rattle.queue_tries.specs.Tries as tries
use Rattle.queue_tries.specs.Tries.{IsIdle}
use Rattle.queue_tries.specs.Windows as windows
use Rattle.queue_tries.specs.declared.answers.Window.{Window}
use Rattle.queue_tries.specs.declared.answers.Next.{Next}
use Rattle.queue_tries.specs.declared.answers.Next.TheVariants as next
use Rattle.seg_rule.specs.declared.view.Hand.TheVariants.{Nothing}
use Rattle.seg_rule.specs.declared.view.Stage.TheVariants.{Away}
use Rattle.concurrent_queue.specs.Windows.{HasOpened, WindowsOnce, Gives}
use Rattle.queue_tries.specs.declared.answers.EnqueueReply.{EnqueueReply}
use Rattle.queue_tries.specs.declared.answers.DequeueReply.{DequeueReply}
use Rattle.queue_tries.specs.declared.answers.QueueAgain.TheVariants.{Lost, Turn, InFlight, NoPlace}
use Rattle.queue_tries.specs.declared.answers.QueueAgain.{QueueAgain}
use Rattle.queue_tries.specs.declared.answers.QueueOnce.{QueueOnce}
use Rattle.queue_tries.specs.declared.answers.QueueOnce.TheVariants.{Answer, Again, Spent}
use Rattle.concurrent_queue.specs.Passes.{Answers, SplitsQueue, JoinsQueue}
use Rattle.concurrent_queue.specs.Queues.{QueueId, IsOf}
use Rattle.concurrent_queue.specs.Segments.{queue_view, id_of, IsBetween, IsReady, IsReadyInside}
use Rattle.concurrent_queue.specs.Tries.{MakesNone, AnswersOnce, EnqueuesOnce, DequeuesOnce, PeeksOnce, CountsOnce, EnqueueCause, DequeueCause, CountCause}

-- The words of a table tell how many callers its queue has.

equal_factor : (a b n : ℕ) → 0 < n → a * n ≡ b * n → a ≡ b
equal_factor a b n some e = sym (mul-div_cancel a some) ∙ (ap (λ (x : ℕ). x / n) e ∙ mul-div_cancel b some)

same_callers : (room first_len c d slots : ℕ) → words_of (places_of room first_len c) slots ≡ words_of (places_of room first_len d) slots → c ≡ d
same_callers room first_len c d slots e =
    let places : c * (room / first_len + 1) + 1 + 1 ≡ d * (room / first_len + 1) + 1 + 1 = equal_factor (places_of room first_len c + 1) (places_of room first_len d + 1) (width slots) (omega arith) e in
    equal_factor c d (room / first_len + 1) (omega arith) (omega arith)

module _ (queue : QueueShape) (p : segments.QueueView) where
  -- a pass of the queue between calls
  pub ready_inside : IsReadyInside queue p → IsShape queue.form → queue.table.words ≡ words_of queue.form.places queue.form.slots → segments.IsOf queue p
  ready_inside r shape words =
      let of = r.1 in
      let mine : p.table.words ≡ words_of (places_of queue.form.room queue.form.first_len p.view.callers) (longest_of queue.form.first_len) = r.0.words ∙ ap (λ (o : Object). words_of (places_in o p.view.callers) (slots_in o)) of.1 in
      let its : queue.table.words ≡ words_of (places_of queue.form.room queue.form.first_len queue.form.callers) (longest_of queue.form.first_len) = words ∙ (λ i. words_of (shape.places i) (shape.slots i)) in
      (of.0, of.1, same_callers queue.form.room queue.form.first_len p.view.callers queue.form.callers (longest_of queue.form.first_len) (sym mine ∙ (ap (λ (t : TableId). t.words) of.0 ∙ its)))

  -- and one that is ready for a call
  pub ready_idle : IsReady queue p → IsShape queue.form → queue.table.words ≡ words_of queue.form.places queue.form.slots → IsIdle queue p
  ready_idle r shape words = let of = r.1 in (ready_inside (r.0, (of.0, of.1)) shape words, record { hand = r.0.hand; stage = r.0.stage; window = of.2; joint = r.0.joint })

  -- one that is idle
  pub idle_between : IsIdle queue p → IsShape queue.form → queue.table.words ≡ words_of queue.form.places queue.form.slots → IsBetween p
  idle_between idle shape words = let of = idle.0 in record {
    hand = idle.1.hand;
    stage = idle.1.stage;
    joint = idle.1.joint;
    words =
        ap (λ (t : TableId). t.words) of.0 ∙ (words ∙ (λ i. words_of ((shape.places ∙ (λ j. places_in (sym of.1 j) (sym of.2 j))) i) ((shape.slots ∙ ap slots_in (sym of.1)) i)));
  }

module _ (queue : QueueShape) (p q : segments.QueueView) (of : IsOf (id_of queue) (queue_view p)) (still : q.view.window ≡ None) where
  -- An entry.

  receipt_as : (e : EntryMark) (before : List EntryMark) (receipt : Receipt) → IsQueueReceipt (first_len_in p.view.object) e.call e.reply (tally_of before) receipt → IsQueueReceipt queue.form.first_len e.call e.reply (tally_of before) receipt
  receipt_as e before receipt = subst (λ (o : Object). IsQueueReceipt (first_len_in o) e.call e.reply (tally_of before) receipt) of.1

  pub ends_as : (e : EntryMark) (receipt : Receipt) → Ends p q e receipt → Answers queue.form.first_len (queue_view p) e receipt (queue_view q)
  ends_as e receipt h = (h.0, h.1, receipt_as e h.0 receipt h.2, still ∙ sym of.2)

  entry_as : (e : EntryMark) (receipt : Receipt) → tries.MakesEntry p q e receipt → AnswersOnce (queue_view p) (queue_view q) queue.form.first_len e receipt
  entry_as e receipt h = (h.below_limit, (h.before, h.ends, receipt_as e h.before receipt h.receipt_is, still ∙ sym of.2), h.counted)

  none_as : (again : QueueAgain) (read : List Obstacle) → tries.MakesNone p q again read → MakesNone (queue_view p) (queue_view q) again read
  none_as again read h = record { below_limit = h.below_limit; same = h.same; no_entry = h.no_entry; counted = h.counted; met = h.met; window = still ∙ sym of.2 }

  -- One try of each call.

  pub enqueues_as : (value : ℕ) (r : QueueOnce EnqueueReply) → tries.Enqueues p q value r → EnqueuesOnce (queue_view p) (queue_view q) queue.form.first_len value r
  enqueues_as value (Answer reply receipt) h = entry_as _ receipt h
  enqueues_as value (Again Lost) h = (h.0, none_as Lost h.0 h.1, h.2)
  enqueues_as value (Again Turn) h = (h.0, none_as Turn h.0 h.1, h.2)
  enqueues_as value (Again InFlight) h = absurd h.2
  enqueues_as value (Again NoPlace) h = (h.0, none_as NoPlace h.0 h.1, h.2)
  enqueues_as value Spent h = record { at_limit = h.at_limit; same = ap queue_view h.same }

  again_as : (again : QueueAgain) → (read : List Obstacle) × tries.MakesNone p q again read × tries.DequeueCause p q read again → (read : List Obstacle) × MakesNone (queue_view p) (queue_view q) again read × DequeueCause (queue_view p) (queue_view q) read again
  again_as Lost h = (h.0, none_as Lost h.0 h.1, h.2)
  again_as Turn h = (h.0, none_as Turn h.0 h.1, h.2)
  again_as InFlight h = let c = h.2 in (h.0, none_as InFlight h.0 h.1, (c.0, c.1, c.2, record { putter = c.3.putter; enqueued = c.3.enqueued; first = c.3.first; not_held = c.3.not_held; not_whole = c.3.not_whole }))
  again_as NoPlace h = absurd h.2

  pub dequeues_as : (r : QueueOnce DequeueReply) → tries.Dequeues p q r → DequeuesOnce (queue_view p) (queue_view q) queue.form.first_len r
  dequeues_as (Answer reply receipt) h = entry_as _ receipt h
  dequeues_as (Again again) h = again_as again h
  dequeues_as Spent h = record { at_limit = h.at_limit; same = ap queue_view h.same }

  pub peeks_as : (r : QueueOnce DequeueReply) → tries.Peeks p q r → PeeksOnce (queue_view p) (queue_view q) queue.form.first_len r
  peeks_as (Answer reply receipt) h = entry_as _ receipt h
  peeks_as (Again again) h = again_as again h
  peeks_as Spent h = record { at_limit = h.at_limit; same = ap queue_view h.same }

  pub counts_as : (r : QueueOnce ℕ) → tries.CountsOnce p q r → CountsOnce (queue_view p) (queue_view q) queue.form.first_len r
  counts_as (Answer count receipt) h = entry_as _ receipt h
  counts_as (Again Lost) h = (h.0, none_as Lost h.0 h.1, h.2)
  counts_as (Again Turn) h = (h.0, none_as Turn h.0 h.1, h.2)
  counts_as (Again InFlight) h = absurd h.2
  counts_as (Again NoPlace) h = absurd h.2
  counts_as Spent h = record { at_limit = h.at_limit; same = ap queue_view h.same }

-- One try of a snapshot, and what follows it.

pub between_of : (queue : QueueShape) (q : segments.QueueView) → segments.IsOf queue q → q.view.hand ≡ Nothing → q.view.stage ≡ Away → q.view.joint ≡ None → IsShape queue.form → queue.table.words ≡ words_of queue.form.places queue.form.slots → IsBetween q
between_of queue q of hand stage joint shape words = let b = idle_between queue (record q { view = record q.view { window = None } }) (of, record { hand = hand; stage = stage; window = refl; joint = joint }) shape words in record { hand = hand; stage = stage; joint = joint; words = b.words }

pub windows_between : (queue : QueueShape) (p q : segments.QueueView) (r : QueueOnce Window) → IsIdle queue p → segments.IsOf queue q → windows.WindowsOnce p q r → IsShape queue.form → queue.table.words ≡ words_of queue.form.places queue.form.slots → IsBetween q
windows_between queue p q (Answer w receipt) idle of h shape words = between_of queue q of h.1.hand h.1.stage h.1.joint shape words
windows_between queue p q (Again again) idle of h shape words = between_of queue q of h.0.hand h.0.stage h.0.joint shape words
windows_between queue p q Spent idle of h shape words = subst IsBetween (sym h.same) (idle_between queue p idle shape words)

pub windows_as : (queue : QueueShape) (p q : segments.QueueView) (of : IsOf (id_of queue) (queue_view p)) (r : QueueOnce Window) → windows.WindowsOnce p q r → WindowsOnce (queue_view p) (queue_view q) queue.form.first_len r
windows_as queue p q of (Answer w receipt) h = let m = h.0 in (m.below_limit, (m.before, m.ends, m.receipt_is), m.counted, h.1.window, h.2)
windows_as queue p q of (Again Lost) h = let n = h.1 in (n.0, none_as queue p q of h.0.window Lost n.0 n.1, n.2)
windows_as queue p q of (Again Turn) h = let n = h.1 in (n.0, none_as queue p q of h.0.window Turn n.0 n.1, n.2)
windows_as queue p q of (Again InFlight) h = absurd h.1.2
windows_as queue p q of (Again NoPlace) h = absurd h.1.2
windows_as queue p q of Spent h = record { at_limit = h.at_limit; same = ap queue_view h.same }

pub gives_as : (p : segments.QueueView) (a : Window) (q : segments.QueueView) (b : Window) (r : Next) → windows.Gives p a q b r → Gives (queue_view p) a (queue_view q) b r
gives_as p a q b (next.Item item) h = h
gives_as p a q b next.End h = (ap queue_view h.0, h.1, h.2)
gives_as p a q b next.InFlight h = let o = h.5 in (h.0, h.1, h.2, h.3, h.4, record { putter = o.putter; enqueued = o.enqueued; not_held = o.not_held; not_whole = o.not_whole })

pub opened_as : (p : segments.QueueView) (w : Window) → IsBetween p → HasOpened (queue_view p) w → windows.HasOpened p w
opened_as p w b h = record { window = h; hand = b.hand; stage = b.stage; joint = b.joint }

-- A split, and a join.

pub splits_as : (p q other : segments.QueueView) → SplitsPass p q other → SplitsQueue (queue_view p) (queue_view q) (queue_view other)
splits_as p q other s = (record { kept = ap pass_of s.kept; given = ap pass_of s.given; spare = s.spare; least = s.least }, ap (λ (z : segments.QueueView). z.view.window) s.kept, ap (λ (z : segments.QueueView). z.view.window) s.given)

pub split_kept : (p q other : segments.QueueView) → SplitsPass p q other → IsBetween p → IsBetween q
split_kept p q other s b = subst IsBetween (sym s.kept) record { hand = b.hand; stage = b.stage; joint = b.joint; words = b.words }

pub split_given : (p q other : segments.QueueView) → SplitsPass p q other → IsBetween p → IsBetween other
split_given p q other s b = subst IsBetween (sym s.given) record { hand = refl; stage = refl; joint = refl; words = b.words }

pub joins_as : (p other q : segments.QueueView) → JoinsPass p other q → JoinsQueue (queue_view p) (queue_view other) (queue_view q)
joins_as p other q j = (subst (λ (z : segments.QueueView). Joins number_priority (pass_of p) (pass_of other) (pass_of z)) (sym j.joined_as) record { joined = refl; apart = j.tells.0.apart; first = j.tells.0.first; second = j.tells.0.second; lawful = j.tells.1 }, ap (λ (z : segments.QueueView). z.view.window) j.joined_as)

pub join_kept : (p other q : segments.QueueView) → JoinsPass p other q → IsBetween p → IsBetween q
join_kept p other q j b = subst IsBetween (sym j.joined_as) record { hand = b.hand; stage = b.stage; joint = refl; words = b.words }
