-- How the parts of an enqueue are put together.
use Rattle.std.proofs.Common.{◌≡◌, ◌≢◌, ℕ, ◌+◌, ◌<◌, inl, inr, Bool, false, cond, eqb, List, [], ◌∷◌, ◌++◌, sym, refl, ap, ◌∙◌, subst, arith, append-nil, append_assoc, eq-eqb}
use Rattle.std.specs.Prelude.{None, Some, Option, ◌*◌, ◌/◌, ◌%◌, Contains}
use Rattle.std.proofs.lemmas.List.Elements.{Contains-append_left, Contains-append_right, Contains-push}
use Rattle.ho_base.specs.declared.receipts.Receipt.{Receipt}
use Rattle.ho_model.specs.declared.marks.CallMark.TheVariants.{Enq}
use Rattle.ho_model.specs.declared.objects.Object.{Object}
use Rattle.ho_model.specs.Entries.{entry}
use Rattle.ho_model.specs.QueueReceipts.{IsQueueReceipt}
use Rattle.passes.specs.Numbers.{HasAll, HasNumber}
use Rattle.seg_rule.specs.declared.word.QueueWord.TheVariants.{Segment}
use Rattle.seg_rule.specs.declared.view.View.{View}
use Rattle.seg_rule.specs.declared.view.Notes.{Notes}
use Rattle.seg_rule.specs.declared.view.Obstacle.{Obstacle}
use Rattle.seg_rule.specs.declared.view.Obstacle.TheVariants.{TailMoved, ClosedCurrent, NotFree, Turned}
use Rattle.seg_rule.specs.declared.view.Hand.TheVariants.{Nothing}
use Rattle.seg_rule.specs.declared.view.Stage.TheVariants.{Away, Plain}
use Rattle.seg_rule.specs.Rule.{IsWhole}
use Rattle.seg_rule.specs.Steps.{MayCount, MissesTail, tail_moved, closed_current, on_stage, no_scan, turned}
use Rattle.seg_rule.specs.Loads.{segment_note}
use Rattle.seg_rule.specs.Plays.{Reads}
use Rattle.seg_rule.specs.Tells.{first_len_in, places_in}
use Rattle.seg_rule.specs.Passes.{QueueView, MayReserveAt}
use Rattle.queue_tries.specs.Causes.{TailHasMoved, CurrentIsFull}
use Rattle.queue_tries.specs.Tries.{enqueue_mark, HasNoCallLeft, MakesNone, Enqueues}
use Rattle.queue_tries.specs.Walks.{GoesOn, WalksFree, WalksPaid, Made, scanned}
use Rattle.queue_tries.specs.Tails.{at_room, full_tail, FindsFree}
use Rattle.queue_tries.specs.Scans.{FindsPlace, Searches, found_stage}
use Rattle.queue_tries.specs.Growth.{ended_tail, moved_on}
use Rattle.queue_tries.specs.Firsts.{MovesFirst}
use Rattle.queue_tries.specs.Enqueues.{EndsBy, LosesTail, FindsEnd, FindsNone, EndsTurned, TriesTurn}
use Rattle.queue_tries.specs.declared.answers.EnqueueReply.{EnqueueReply}
use Rattle.queue_tries.specs.declared.answers.QueueOnce.{QueueOnce}
use Rattle.queue_tries.specs.declared.answers.QueueOnce.TheVariants.{Answer, Again, Spent}
use Rattle.queue_tries.specs.declared.answers.QueueAgain.TheVariants.{Lost, Turn, InFlight, NoPlace}
use Rattle.queue_tries.proofs.Placing.{in_use_more}
use Rattle.queue_tries.proofs.Walks.{goes_met, goes_on, tail_missed, made_after, free_goes, paid_goes, walks_turned, walks_missed, not_whole, made_ends, free_ends, paid_ends}

-- An exchange of an open tail that was lost.

-- without the turn, to an open tail
pub lost_free : (q t x : ℕ) (v w : View) → v.stage ≡ Away → v.hand ≡ Nothing → x ≢ 2 * t → MissesTail v q t x w → x % 2 ≡ 0 → LosesTail v w
lost_free q t x v w away hand other m even =
    let above = m.above (x / 2) (omega arith) in record {
      read = tail_moved q t x v.notes.scan.current;
      goes = goes_met v w (tail_moved q t x v.notes.scan.current) v.notes v.stage m.left;
      free = (ap (λ (z : View). z.hand) m.left ∙ hand, ap (λ (z : View). z.stage) m.left ∙ away);
      moved = (t, x / 2, above.0, subst (λ (n : ℕ). Contains (cond (eqb n 0) (TailMoved t (x / 2) ∷ []) (closed_current q v.notes.scan.current)) (TailMoved t (x / 2))) (sym even) (Contains-push [] (TailMoved t (x / 2))));
      others = above.1;
    }

-- to a closed one
pub found_closed : (q t x : ℕ) (v w : View) → v.stage ≡ Away → v.hand ≡ Nothing → v.notes.scan.current ≡ Some q → MissesTail v q t x w → x % 2 ≢ 0 → FindsEnd v w
found_closed q t x v w away hand current m odd =
    let one : x % 2 ≡ 1 = omega arith in
    let met : tail_moved q t x v.notes.scan.current ≡ ClosedCurrent q ∷ [] = (λ i. cond (eqb (one i) 0) (TailMoved t (x / 2) ∷ []) (closed_current q (current i))) ∙ ap (λ (b : Bool). cond b (ClosedCurrent q ∷ []) []) (eq-eqb q q refl) in
    record {
      read = tail_moved q t x v.notes.scan.current;
      goes = goes_met v w (tail_moved q t x v.notes.scan.current) v.notes v.stage m.left;
      free = (ap (λ (z : View). z.hand) m.left ∙ hand, ap (λ (z : View). z.stage) m.left ∙ away);
      full = inl (q, subst (λ (z : List Obstacle). Contains z (ClosedCurrent q)) (sym met) (Contains-push [] (ClosedCurrent q)));
    }

-- with the turn, which is given back then
pub lost_turned : (q t x : ℕ) (v w u : View) → v.stage ≡ Plain → v.hand ≡ Nothing → x ≢ 2 * t → MissesTail v q t x w → u ≡ on_stage w Away → LosesTail v u
lost_turned q t x v w u plain hand other m left =
    let missed = tail_missed q t x v w plain other m in
    let read = tail_moved q t x v.notes.scan.current in
    record {
      read = read;
      goes = goes_met v u read (no_scan v.notes) Away (left ∙ ap (λ (z : View). on_stage z Away) m.left);
      free = (ap (λ (z : View). z.hand) (left ∙ ap (λ (z : View). on_stage z Away) m.left) ∙ hand, ap (λ (z : View). z.stage) left);
      moved = missed.2;
      others = missed.3;
    }

-- What the rest of a try comes to, seen from an earlier point of it.
module _ (v w u : View) (first : List Obstacle) (g : GoesOn v w first) where
  pub ends_after : (item : ℕ) (reply : EnqueueReply) (receipt : Receipt) → EndsBy w item reply receipt u → EndsBy v item reply receipt u
  ends_after item reply receipt n = record {
    made = subst (λ (z : ℕ × Object). Made v (entry z.0 (Enq (item ∷ [])) (enqueue_mark reply)) (λ t. IsQueueReceipt (first_len_in z.1) (Enq (item ∷ [])) (enqueue_mark reply) t receipt) u)
        (λ i. (g.keeps.caller i, g.keeps.object i))
        (made_after v w u first (entry w.caller (Enq (item ∷ [])) (enqueue_mark reply)) (λ t. IsQueueReceipt (first_len_in w.object) (Enq (item ∷ [])) (enqueue_mark reply) t receipt) g n.made);
    free = n.free;
  }

  pub loses_after : LosesTail w u → LosesTail v u
  loses_after n = record {
    read = first ++ n.read;
    goes = goes_on v w u first n.read g n.goes;
    free = n.free;
    moved = (n.moved.0, n.moved.1, n.moved.2, Contains-append_right first n.read (TailMoved n.moved.0 n.moved.1) n.moved.3);
    others = subst (λ (z : ℕ × List Bool). ¬ HasAll z.0 z.1) (λ i. (g.keeps.callers i, g.keeps.held i)) n.others;
  }

  pub none_after : FindsNone w u → FindsNone v u
  none_after n = record {
    read = first ++ n.read;
    goes = goes_on v w u first n.read g n.goes;
    free = n.free;
    in_use = λ place below. in_use_more n.read (first ++ n.read) place (Contains-append_right first n.read) (n.in_use place (subst (λ (k : ℕ). place < k) (λ i. places_in (sym g.keeps.object i) (sym g.keeps.callers i)) below));
  }

  pub turned_after : (item : ℕ) (r : QueueOnce EnqueueReply) → EndsTurned w item r u → EndsTurned v item r u
  turned_after item (Answer reply receipt) n = ends_after item reply receipt n
  turned_after item (Again Lost) n = loses_after n
  turned_after item (Again NoPlace) n = none_after n
  turned_after item (Again Turn) n = absurd n
  turned_after item (Again InFlight) n = absurd n
  turned_after item Spent n = absurd n

-- the slot of the tail was read as free for it
pub may_reserve : (room : ℕ) (v w : View) (place t head : ℕ) → v.hand ≡ Nothing → MayCount v → v.notes ≡ at_room place t head → t < head + room → FindsFree v place t w → MayReserveAt room w place t
may_reserve room v w place t head hand may notes there f = (
  f.length,
  record {
    idle = ap (λ (z : View). z.hand) f.left ∙ hand;
    may = subst MayCount (sym f.left) may;
    full = false;
    number = None;
    tail = ap (λ (z : View). z.notes.tail) f.left ∙ f.tail;
    head = head;
    noted = ap (λ (z : View). z.notes.head) f.left ∙ (f.head ∙ ap (λ (o : Notes). o.head) notes);
    room_there = there;
  },
)

-- The tail of the full segment.

pub numbered : (v w : View) (place t length x : ℕ) → v.notes.tail ≡ Some (full_tail place t length) → Reads (Segment place) x v w → w ≡ record v { notes = record v.notes { tail = Some (ended_tail place t length x) } }
numbered v w place t length x tail r =
    r.sees
    ∙ ((λ i. record v { met = append-nil v.met i; notes = record v.notes { tail = segment_note place x (tail i) } })
    ∙ ap (λ (b : Bool). record v { notes = record v.notes { tail = cond b (Some (ended_tail place t length x)) (Some (full_tail place t length)) } }) (eq-eqb place place refl))

-- The next place.

pub searches_after : (v w u : View) (head first places : ℕ) (r : Option ℕ) → MovesFirst v head first w → Searches w places r u → Searches v places r u
searches_after v w u head first places (Some place) m s = record {
  read = m.read ++ s.read;
  scan = s.scan;
  left = s.left ∙ (ap (λ (z : View). record (scanned z s.read s.scan) { stage = found_stage place z.stage }) m.left ∙ ap (λ (z : List Obstacle). record v { met = z; notes = record v.notes { scan = s.scan }; stage = found_stage place v.stage }) (append_assoc v.met m.read s.read));
}
searches_after v w u head first places None m s = (
  m.read ++ s.0,
  s.1,
  s.2 ∙ (ap (λ (z : View). scanned z s.0 s.1) m.left ∙ ap (λ (z : List Obstacle). record v { met = z; notes = record v.notes { scan = s.1 } }) (append_assoc v.met m.read s.0)),
  λ place below. in_use_more s.0 (m.read ++ s.0) place (Contains-append_right m.read s.0) (s.3 place below),
)

-- it was opened
module _ (v u w : View) (next t n : ℕ) (f : FindsPlace v next u) (is : w ≡ moved_on u next t n) where
  moved_is : w ≡ record v { met = v.met ++ f.read; notes = (moved_on v next t n).notes; stage = Plain }
  moved_is = is ∙ ap (λ (z : View). moved_on z next t n) f.left

  pub next_goes : GoesOn v w f.read
  next_goes = goes_met v w f.read (moved_on v next t n).notes Plain moved_is

  pub next_may : (room head : ℕ) → v.hand ≡ Nothing → MayCount v → v.notes.head ≡ Some head → t < head + room → MayReserveAt room w next t
  next_may room head hand may noted there = (
    n,
    record {
      idle = ap (λ (z : View). z.hand) moved_is ∙ hand;
      may = subst MayCount (sym moved_is) may;
      full = false;
      number = None;
      tail = ap (λ (z : View). z.notes.tail) moved_is;
      head = head;
      noted = ap (λ (z : View). z.notes.head) moved_is ∙ noted;
      room_there = there;
    },
  )

-- The end of the try.

full_more : (read more : List Obstacle) → CurrentIsFull read → CurrentIsFull (read ++ more)
full_more read more (inl closed) = inl (closed.0, Contains-append_left read more (ClosedCurrent closed.0) closed.1)
full_more read more (inr taken) = inr (taken.0, taken.1, taken.2, taken.3, Contains-append_left read more (NotFree taken.0 taken.1 taken.2) taken.4)

module _ (p q : QueueView) (u : View) (begun : WalksFree p.view u []) (table : q.table ≡ p.table) (own : HasNumber p.view.held p.view.caller) (below : ¬ HasNoCallLeft p) where
  pub once_lost : LosesTail u q.view → (read : List Obstacle) × MakesNone p q Lost read × (TailHasMoved read × (¬ IsWhole p.view))
  once_lost n = (
    n.read,
    free_ends p q Lost n.read (omega arith) (free_goes p.view u q.view [] n.read begun n.goes n.free.1) table own below,
    (n.moved, not_whole p.view u [] begun.walks n.others),
  )

-- the turn was wanted
module _ (p q : QueueView) (u w : View) (begun : WalksFree p.view u []) (end : FindsEnd u w) (table : q.table ≡ p.table) (own : HasNumber p.view.held p.view.caller) (below : ¬ HasNoCallLeft p) where
  before : WalksFree p.view w end.read
  before = free_goes p.view u w [] end.read begun end.goes end.free.1

  paid : WalksPaid p.view (turned w) end.read
  paid = walks_turned p.view w (turned w) end.read before refl

  pub once_turned : (item : ℕ) (r : QueueOnce EnqueueReply) → TriesTurn w item r q.view → Enqueues p q item r
  once_turned item (Answer reply receipt) n =
      made_ends p q (turned w) end.read (Enq (item ∷ [])) (enqueue_mark reply) (λ t. IsQueueReceipt (first_len_in w.object) (Enq (item ∷ [])) (enqueue_mark reply) t receipt) receipt paid.walks n.made table own below
      (λ t k. subst (λ (z : Object). IsQueueReceipt (first_len_in z) (Enq (item ∷ [])) (enqueue_mark reply) t receipt) before.walks.object k)
  once_turned item (Again Lost) n = (
    end.read ++ n.read,
    paid_ends p q Lost (end.read ++ n.read) (omega arith) (paid_goes p.view (turned w) q.view end.read n.read paid n.goes) table own below,
    ((n.moved.0, n.moved.1, n.moved.2, Contains-append_right end.read n.read (TailMoved n.moved.0 n.moved.1) n.moved.3), not_whole p.view (turned w) end.read paid.walks n.others),
  )
  once_turned item (Again NoPlace) n = (
    end.read ++ n.read,
    paid_ends p q NoPlace (end.read ++ n.read) refl (paid_goes p.view (turned w) q.view end.read n.read paid n.goes) table own below,
    (full_more end.read n.read end.full, λ place less. in_use_more n.read (end.read ++ n.read) place (Contains-append_right end.read n.read) (n.in_use place (subst (λ (k : ℕ). place < k) (λ i. places_in (sym paid.walks.object i) (sym paid.walks.callers i)) less))),
  )
  once_turned item (Again Turn) n = let m = walks_missed p.view w q.view end.read n.0 before n.1 in (
    end.read ++ Turned n.1.caller ∷ [],
    free_ends p q Turn (end.read ++ Turned n.1.caller ∷ []) refl m.0 table own below,
    (end.read, m.1, end.full, m.2),
  )
  once_turned item (Again InFlight) n = absurd n
  once_turned item Spent n = absurd n
