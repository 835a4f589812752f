-- Items of a window that are read one after another.
use Rattle.std.proofs.Common.{◌≡◌, ℕ, zero, suc, ◌+◌, ◌<◌, List, [], ◌∷◌, ◌++◌, length, Option, Some, None, slice_get, refl, sym, ap, ◌∙◌, subst, append_assoc, append-nil, arith}
use Rattle.std.proofs.lemmas.List.{length-append}
use Rattle.std.proofs.lemmas.Option.{none-some}
use Rattle.ho_base.specs.Marks.{number_priority}
use Rattle.ho_base.specs.declared.receipts.Receipt.{Receipt}
use Rattle.ho_model.specs.declared.marks.CallMark.TheVariants.{Snap}
use Rattle.ho_model.specs.declared.marks.ReplyMark.TheVariants.{Numbers}
use Rattle.ho_model.specs.Entries.{entry}
use Rattle.ho_model.specs.declared.marks.EntryMark.{EntryMark}
use Rattle.passes.specs.Views.{PassView}
use Rattle.passes.specs.Repeats.{EndsByEntry}
use Rattle.seg_rule.specs.declared.view.Obstacle.{Obstacle}
use Rattle.queue_tries.specs.Windows.{items_of, given_of}
use Rattle.queue_tries.specs.declared.answers.Window.{Window}
use Rattle.concurrent_queue.specs.Passes.{QueueView, Answers}
use Rattle.concurrent_queue.specs.Queues.{QueueId, IsInside, IsOf}
use Rattle.queue_snapshot.specs.Snapshots.{ReadsItems, HasGiven, Opens}

-- nothing is read yet
pub reads_none : (p : QueueView) (a : Window) → ReadsItems p a p a 0
reads_none p a = ([], ap (λ (met : List Obstacle). record p.pass { met = met }) (sym (append-nil p.pass.met)), (refl, omega arith))

-- some, and then more
pub reads_on : (p : QueueView) (a : Window) (q : QueueView) (b : Window) (r : QueueView) (c : Window) (m n : ℕ) → ReadsItems p a q b m → ReadsItems q b r c n → ReadsItems p a r c (m + n)
reads_on p a q b r c m n x y = (
  x.0 ++ y.0,
  y.1 ∙ (ap (λ (v : PassView Obstacle). record v { met = v.met ++ y.0 }) x.1 ∙ ap (λ (met : List Obstacle). record p.pass { met = met }) (append_assoc p.pass.met x.0 y.0)),
  (y.2.0 ∙ x.2.0, (let u = x.2.1 in let v = y.2.1 in omega arith)),
)

-- the pass stays one of the queue
pub inside_on : (id : QueueId) (p : QueueView) (a : Window) (q : QueueView) (b : Window) (m : ℕ) → IsInside id p → ReadsItems p a q b m → IsInside id q
inside_on id p a q b m i x = (ap (λ (v : PassView Obstacle). v.table) x.1 ∙ i.0, ap (λ (v : PassView Obstacle). v.object) x.1 ∙ i.1)

-- the item behind those given is the first of the rest
first_left : (items rest : List ℕ) (item : ℕ) → slice_get (items ++ rest) (length items) ≡ Some item → (more : List ℕ) × (rest ≡ item ∷ more)
first_left [] [] item at = absurd (none-some item at)
first_left [] (x ∷ rest) item at = (rest, ap (λ (o : Option ℕ). elim o [ None ↦ x ∷ rest | Some y ↦ y ∷ rest ]) at)
first_left (x ∷ items) rest item at = first_left items rest item at

none_left : (items rest : List ℕ) → length items ≡ length (items ++ rest) → rest ≡ []
none_left items [] is = refl
none_left items (x ∷ rest) is = absurd (let l = length-append items (x ∷ rest) in omega arith)

pub gives_none : (p : QueueView) (a : Window) (items : List ℕ) → items ≡ [] → HasGiven p a p a items
gives_none p a items none = subst (HasGiven p a p a) (sym none) (reads_none p a, (items_of p.pass.seen a, refl))

module _ (p : QueueView) (a : Window) (q : QueueView) (b : Window) (items : List ℕ) (unread : given_of a ≡ 0) (h : HasGiven p a q b items) where
  given_is : given_of b ≡ length items
  given_is = let g = h.0.2.1 in omega arith

  list_is : items_of q.pass.seen b ≡ items ++ h.1.0
  list_is = h.0.2.0 ∙ h.1.1

  left_after : (item : ℕ) → slice_get (items_of q.pass.seen b) (given_of b) ≡ Some item → (more : List ℕ) × (h.1.0 ≡ item ∷ more)
  left_after item at = first_left items h.1.0 item (sym (λ i. slice_get (list_is i) (given_is i)) ∙ at)

  -- there is room for one more
  pub more_fits : (item : ℕ) → slice_get (items_of q.pass.seen b) (given_of b) ≡ Some item → length items < length (items_of p.pass.seen a)
  more_fits item at =
      let l = left_after item at in
      let many : length (items_of p.pass.seen a) ≡ length (items ++ item ∷ l.0) = ap (λ (ns : List ℕ). length ns) (h.1.1 ∙ ap (λ (ns : List ℕ). items ++ ns) l.1) in
      let sum = length-append items (item ∷ l.0) in omega arith

  pub gives_on : (r : QueueView) (c : Window) (item : ℕ) (now : List ℕ) → ReadsItems q b r c 1 → slice_get (items_of q.pass.seen b) (given_of b) ≡ Some item → now ≡ items ++ item ∷ [] → HasGiven p a r c now
  gives_on r c item now reads at is =
      let l = left_after item at in subst (HasGiven p a r c) (sym is) (
        subst (ReadsItems p a r c) (sym (length-append items (item ∷ []))) (reads_on p a q b r c (length items) 1 h.0 reads),
        (l.0, h.1.1 ∙ (ap (λ (ns : List ℕ). items ++ ns) l.1 ∙ sym (append_assoc items (item ∷ []) l.0))),
      )

  -- all are given
  pub all_given : given_of b ≡ length (items_of q.pass.seen b) → items ≡ items_of p.pass.seen a
  all_given end =
      let none : h.1.0 ≡ [] = none_left items h.1.0 (sym given_is ∙ (end ∙ ap (λ (ns : List ℕ). length ns) list_is)) in
      sym (h.1.1 ∙ (ap (λ (ns : List ℕ). items ++ ns) none ∙ append-nil items))

  pub gives_end : (r : QueueView) (c : Window) → ReadsItems q b r c 0 → HasGiven p a r c items
  gives_end r c reads = (subst (ReadsItems p a r c) (omega arith) (reads_on p a q b r c (length items) 0 h.0 reads), h.1)

-- what is read of others later leaves the entry as it was
pub ends_on : (p q r : PassView Obstacle) (before : List EntryMark) (e : EntryMark) (read : List Obstacle) → EndsByEntry number_priority p before e q → r ≡ record q { met = q.met ++ read } → EndsByEntry number_priority p before e r
ends_on p q r before e read ends is = subst (EndsByEntry number_priority p before e) (sym is) (record {
  same = record { table = ends.same.table; object = ends.same.object; callers = ends.same.callers; caller = ends.same.caller; held = ends.same.held; own = ends.same.own };
  seen = ends.seen;
  lawful = ends.lawful;
  counted = ends.counted;
  met = (ends.met.0 ++ read, ap (λ (z : List Obstacle). z ++ read) ends.met.1 ∙ append_assoc p.met ends.met.0 read);
})

-- a look that found no item left
pub reads_end : (p : QueueView) (a : Window) (q : QueueView) (b : Window) → q ≡ p → b ≡ a → ReadsItems p a q b 0
reads_end p a q b s t = subst (λ (z : QueueView × Window). ReadsItems p a z.0 z.1 0) (λ i. (sym s i, sym t i)) (reads_none p a)

-- the window was opened, read to its end and ended
pub snaps_whole : (id : QueueId) (first_len : ℕ) (p q r s : QueueView) (a b : Window) (receipt : Receipt) (items : List ℕ) (n : ℕ) → IsOf id p → Opens first_len p q a receipt → ReadsItems q a r b n → items ≡ items_of q.pass.seen a → s ≡ record r { window = None } → Answers first_len p (entry p.pass.caller Snap (Numbers items)) receipt s
snaps_whole id first_len p q r s a b receipt items n of opens reads all left =
    let e = opens.0 in
    let ends : EndsByEntry number_priority p.pass e.0 (entry p.pass.caller Snap (Numbers items)) q.pass = subst (λ (ns : List ℕ). EndsByEntry number_priority p.pass e.0 (entry p.pass.caller Snap (Numbers ns)) q.pass) (sym all) e.1 in
    let later = ends_on p.pass q.pass r.pass e.0 (entry p.pass.caller Snap (Numbers items)) reads.0 ends reads.1 in
    subst (Answers first_len p (entry p.pass.caller Snap (Numbers items)) receipt) (sym left) (e.0, later, e.2, sym of.2)
