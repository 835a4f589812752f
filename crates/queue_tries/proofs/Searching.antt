-- How the search of the first item ends.
use Rattle.std.proofs.Common.{◌≡◌, ℕ, ◌*◌, inl, inr, ⊎_elim, Bool, List, [], ◌∷◌, ◌++◌, sym, refl, ap, ◌∙◌, subst, arith, append_assoc}
use Rattle.std.specs.Prelude.{Option, None, Some}
use Rattle.std.proofs.lemmas.List.Elements.{Contains-append_left, Contains-append_right, Contains-push}
use Rattle.ho_base.specs.Marks.{number_priority}
use Rattle.ho_model.specs.declared.marks.EntryMark.{EntryMark}
use Rattle.ho_model.specs.declared.marks.CallMark.{CallMark}
use Rattle.ho_model.specs.declared.marks.CallMark.TheVariants.{Deq, Peek}
use Rattle.ho_model.specs.declared.objects.Object.{Object}
use Rattle.ho_model.specs.QueueReceipts.{IsQueueReceipt}
use Rattle.passes.specs.Numbers.{HasNumber, HasAll}
use Rattle.passes.specs.Seen.{SeesOthers, IsLawful}
use Rattle.seg_rule.specs.declared.view.View.{View}
use Rattle.seg_rule.specs.declared.view.Obstacle.{Obstacle}
use Rattle.seg_rule.specs.declared.view.Obstacle.TheVariants.{HeadMoved, NotPublished, Unpublished, Turned}
use Rattle.seg_rule.specs.declared.view.Stage.TheVariants.{Away}
use Rattle.seg_rule.specs.declared.view.Front.{Front}
use Rattle.seg_rule.specs.declared.view.Hand.TheVariants.{Taking}
use Rattle.seg_rule.specs.declared.view.Leave.TheVariants.{Unread}
use Rattle.seg_rule.specs.Steps.{IsAtRest, MissesTurn, MissesHead, turned}
use Rattle.seg_rule.specs.Tells.{first_len_in}
use Rattle.seg_rule.specs.Passes.{QueueView, TakesAt}
use Rattle.queue_tries.specs.Causes.{FirstIsBare}
use Rattle.queue_tries.specs.Tries.{MakesNone, HasNoCallLeft, DequeueCause, Dequeues, Peeks, dequeue_mark}
use Rattle.queue_tries.specs.Walks.{GoesOn, Walks, WalksFree, WalksPaid}
use Rattle.queue_tries.specs.declared.answers.DequeueReply.{DequeueReply}
use Rattle.queue_tries.specs.declared.answers.QueueOnce.{QueueOnce}
use Rattle.queue_tries.specs.declared.answers.QueueOnce.TheVariants.{Answer, Again, Spent}
use Rattle.queue_tries.specs.declared.answers.QueueAgain.TheVariants as again
use Rattle.queue_tries.specs.declared.fronts.Search.{Search}
use Rattle.queue_tries.specs.declared.fronts.Search.TheVariants as search_end
use Rattle.queue_tries.specs.Fronts.{begun_first, headed, IsBare, IsNotEmpty, IsLost, HasFront, SeesFlight, EndsAs, EndsInside, Walked, FindsInside, FindsFront, Asks, asked}
use Rattle.queue_tries.proofs.Walks.{goes_on, goes_met, goes_quiet, walks_begin, walks_turned, walks_missed, free_goes, paid_goes, not_whole, made_ends, free_ends, paid_ends}
use Rattle.queue_tries.proofs.Fronting.{in_flight_of}

-- A call that looked without the turn, and found the slot of the head bare.
pub looked_bare : (place head : ℕ) (v a b c d : View) → IsAtRest v → IsLawful number_priority v.object v.callers v.seen → a ≡ begun_first v place → b ≡ headed a head → IsBare b head c → c.stage ≡ b.stage → IsNotEmpty c place head d → d.stage ≡ c.stage
    → (read : List Obstacle) × WalksFree v d read × FirstIsBare read
looked_bare place head v a b c d rest lawful begun read_head bare kept full left =
    let one : WalksFree v a [] = walks_begin v a (begun_first v place).notes rest lawful begun in
    let away : b.stage ≡ Away = ap (λ (z : View). z.stage) read_head ∙ one.away in
    let two : WalksFree v b [] = free_goes v a b [] [] one (goes_quiet a b (headed a head).notes a.stage read_head) away in
    let three : WalksFree v c bare.read = free_goes v b c [] bare.read two bare.goes (kept ∙ away) in
    let f = bare.bare in
    (bare.read ++ full.read, free_goes v c d bare.read full.read three full.goes (left ∙ (kept ∙ away)), (f.0, f.1, f.2, f.3, Contains-append_left bare.read full.read (NotPublished f.0 f.1 f.2) f.4))

-- A head that has moved on, seen from an earlier point of the call.
pub lost_after : (v w u : View) (first : List Obstacle) → GoesOn v w first → IsLost w u → IsLost v u
lost_after v w u first g l = let m = l.2 in (
  first ++ l.0,
  goes_on v w u first l.0 g l.1,
  (m.0, m.1, m.2, Contains-append_right first l.0 (HeadMoved m.0 m.1) m.3),
  subst (λ (z : ℕ × List Bool). ¬ HasAll z.0 z.1) (λ i. (g.keeps.callers i, g.keeps.held i)) l.3,
)

module _ (p q : QueueView) (table : q.table ≡ p.table) (own : HasNumber p.view.held p.view.caller) (below : ¬ HasNoCallLeft p) (away : q.view.stage ≡ Away) (w : View) (read : List Obstacle) (walked : Walked p.view w read) where
  walks : Walks p.view w read
  walks = ⊎_elim (λ (a : WalksFree p.view w read). a.walks) (λ (a : WalksPaid p.view w read). a.walks) walked

  pub walked_goes : (more : List Obstacle) → GoesOn w q.view more → Walked p.view q.view (read ++ more)
  walked_goes more g = ⊎_elim (λ (a : WalksFree p.view w read). inl (free_goes p.view w q.view read more a g away)) (λ (a : WalksPaid p.view w read). inr (paid_goes p.view w q.view read more a g)) walked

  walked_none : (more : List Obstacle) → Walked p.view q.view more → MakesNone p q again.Lost more
  walked_none more = ⊎_elim (λ (a : WalksFree p.view q.view more). free_ends p q again.Lost more (omega arith) a table own below) (λ (a : WalksPaid p.view q.view more). paid_ends p q again.Lost more (omega arith) a table own below)

  pub ends_asks : (call : CallMark) (once : QueueOnce DequeueReply) → EndsAs call w q.view once → Asks p q call once
  ends_asks call (Answer reply receipt) n = made_ends p q w read call (dequeue_mark reply) (λ t. IsQueueReceipt (first_len_in w.object) call (dequeue_mark reply) t receipt) receipt walks n table own below
      (λ t r. subst (λ (o : Object). IsQueueReceipt (first_len_in o) call (dequeue_mark reply) t receipt) walks.object r)
  ends_asks call (Again again.Lost) n = let m = n.2 in (read ++ n.0, walked_none (read ++ n.0) (walked_goes n.0 n.1), ((m.0, m.1, m.2, Contains-append_right read n.0 (HeadMoved m.0 m.1) m.3), not_whole p.view w read walks n.3))
  ends_asks call (Again again.InFlight) n = absurd n
  ends_asks call (Again again.Turn) n = absurd n
  ends_asks call (Again again.NoPlace) n = absurd n
  ends_asks call Spent n = absurd n

module _ (p q : QueueView) (table : q.table ≡ p.table) (own : HasNumber p.view.held p.view.caller) (below : ¬ HasNoCallLeft p) (away : q.view.stage ≡ Away) (w : View) (read : List Obstacle) (paid : WalksPaid p.view w read) where
  -- the try ends with the head in flight
  flight_none : (f : SeesFlight w q.view) → MakesNone p q again.InFlight (read ++ f.read)
  flight_none f = let before : MakesNone p (record { table = p.table; view = w }) again.InFlight read = paid_ends p (record { table = p.table; view = w }) again.InFlight read refl paid refl own below in let s = before.same in record {
    below_limit = below;
    same = record {
      table = table;
      object = f.object ∙ s.object;
      callers = f.callers ∙ s.callers;
      caller = f.caller ∙ s.caller;
      held = f.held ∙ s.held;
      own = subst (λ (z : List Bool × ℕ). HasNumber z.0 z.1) (λ i. (sym f.held i, sym f.caller i)) s.own;
    };
    no_entry = record {
      seen = subst (λ (z : List Bool × List EntryMark). SeesOthers z.0 z.1 q.view.seen) (λ i. (paid.walks.held i, paid.walks.seen i)) f.seen;
      lawful = subst (λ (z : Object × ℕ). IsLawful number_priority z.0 z.1 q.view.seen) (λ i. (paid.walks.object i, paid.walks.callers i)) f.lawful;
    };
    counted = let n = before.counted in (n.0, n.1, f.made ∙ n.2);
    met = f.met ∙ (ap (λ (z : List Obstacle). z ++ f.read) before.met ∙ append_assoc p.view.met read f.read);
  }

  pub ends_inside : (call : CallMark) (once : QueueOnce DequeueReply) → EndsInside call w q.view once → Asks p q call once
  ends_inside call (Answer reply receipt) n = ends_asks p q table own below away w read (inr paid) call (Answer reply receipt) n
  ends_inside call (Again again.Lost) n = ends_asks p q table own below away w read (inr paid) call (Again again.Lost) n
  ends_inside call (Again again.InFlight) f =
      (read ++ f.read, flight_none f, (f.place, f.head, Contains-append_right read f.read (Unpublished f.place f.head (2 * f.head)) f.unpublished, in_flight_of w p.view f.head q.view.seen (sym paid.walks.callers) (sym paid.walks.held) f.flight))
  ends_inside call (Again again.Turn) n = absurd n
  ends_inside call (Again again.NoPlace) n = absurd n
  ends_inside call Spent n = absurd n

-- after a search under the turn
pub finds_under_turn : (p q : QueueView) → q.table ≡ p.table → HasNumber p.view.held p.view.caller → (¬ HasNoCallLeft p) → q.view.stage ≡ Away → (w u : View) (read : List Obstacle) → WalksFree p.view w read → u ≡ turned w → (peek : Bool) (found : Search) → FindsInside u peek found q.view → FindsFront p q peek found
finds_under_turn p q table own below away w u read free is peek (search_end.Found place head item) f =
    let paid : WalksPaid p.view u read = walks_turned p.view w u read free is in
    let later : WalksPaid p.view q.view (read ++ f.0) = paid_goes p.view u q.view read f.0 paid f.1 in
    (read ++ f.0, inr later, (subst (λ (z : List Bool × ℕ). HasNumber z.0 z.1) (λ i. (sym later.walks.held i, sym later.walks.caller i)) own, inl later.paid), f.2)
finds_under_turn p q table own below away w u read free is peek (search_end.Ended once) n = ends_inside p q table own below away u read (walks_turned p.view w u read free is) (asked peek) once n

-- another caller had the turn
pub misses_turn : (p q : QueueView) → q.table ≡ p.table → HasNumber p.view.held p.view.caller → (¬ HasNoCallLeft p) → (w : View) (read : List Obstacle) (x : ℕ) → WalksFree p.view w read → FirstIsBare read → MissesTurn w x q.view → (more : List Obstacle) × MakesNone p q again.Turn more × DequeueCause p q more again.Turn
misses_turn p q table own below w read x free bare m =
    let t = walks_missed p.view w q.view read x free m in
    (read ++ Turned m.caller ∷ [], free_ends p q again.Turn (read ++ Turned m.caller ∷ []) refl t.0 table own below, (read, t.1, bare, t.2))

-- a dequeue, and a peek

pub asks_dequeue : (p q : QueueView) (once : QueueOnce DequeueReply) → Asks p q Deq once → Dequeues p q once
asks_dequeue p q (Answer reply receipt) a = a
asks_dequeue p q (Again cause) a = a
asks_dequeue p q Spent a = a

pub asks_peek : (p q : QueueView) (once : QueueOnce DequeueReply) → Asks p q Peek once → Peeks p q once
asks_peek p q (Answer reply receipt) a = a
asks_peek p q (Again cause) a = a
asks_peek p q Spent a = a

-- The item that was read is taken from the place that it was read in.
pub taken_there : (place head item : ℕ) (v w : View) → HasFront v place head item → TakesAt v head item w → (position slot : ℕ) × (w.hand ≡ Taking position place slot Unread)
taken_there place head item v w front t =
    let same : t.0 ≡ place = ap place_of (sym t.2 ∙ front.1.1) in
    (head, t.1, ap (λ (z : View). z.hand) t.3.left ∙ ap (λ (p : ℕ). Taking head p t.1 Unread) same)
  where
    place_of : Option Front → ℕ
    place_of None = 0
    place_of (Some o) = o.place

-- It was not, since the head has moved on.
pub misses_head : (head x : ℕ) (v w : View) → MissesHead v head x w → IsLost v w
misses_head head x v w m = (HeadMoved head x ∷ [], goes_met v w (HeadMoved head x ∷ []) v.notes v.stage m.left, (head, x, m.above.0, Contains-push [] (HeadMoved head x)), m.above.1)
