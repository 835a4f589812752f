-- One entry more of a queue, by what was enqueued and how much was taken.
use Rattle.std.proofs.Common.{refl, ◌≡◌, ℕ, zero, suc, ◌+◌, ◌<◌, List, [], ◌∷◌, ◌++◌, length, slice_get, sym, ap, ◌∙◌, subst, arith, append-nil, length-append, drop, map}
use Rattle.std.specs.Prelude.{Some}
use mathlib.Core.Option.{some, some-injective, some-ne-none}
use lib.ListN.{get_elem?}
use Rattle.ho_base.specs.Marks.{Mark, number_of, number_priority}
use Rattle.ho_model.specs.declared.marks.EntryMark.{EntryMark}
use Rattle.ho_model.specs.declared.marks.CallMark.TheVariants.{Enq, Deq, Peek, Count, Snap}
use Rattle.ho_model.specs.declared.marks.ReplyMark.TheVariants.{Done, Full, Item, Empty, Counted, Numbers}
use Rattle.ho_model.specs.declared.marks.Tally.{Tally}
use Rattle.ho_model.specs.Entries.{entry}
use Rattle.ho_model.specs.Enqueues.{values_of, putters_of}
use Rattle.ho_model.specs.Tallies.{tally_of, tally_next}
use Rattle.ho_model.proofs.Folds.{tally_push}
use Rattle.ho_model.proofs.Enqueues.{values_push, putters_push}
use Rattle.ho_model.proofs.Queues.{queue_next}
use Rattle.seg_rule.specs.Object.{Stands}

-- the two ways in which a list is read
pub got : {A : Type 0} (xs : List A) (i : ℕ) (x : A) → get_elem? xs i ≡ some x → slice_get xs i ≡ Some x
got [] i x e = absurd (some-ne-none x (sym e))
got (y ∷ ys) zero x e = ap Some (some-injective y x e)
got (y ∷ ys) (suc i) x e = got ys i x e

-- and one of which the list before goes on
pub got_before : {A : Type 0} (xs ys : List A) (i : ℕ) (x : A) → i < length xs → get_elem? (xs ++ ys) i ≡ some x → slice_get xs i ≡ Some x
got_before [] ys i x l e = absurd (omega arith)
got_before (y ∷ xs) ys zero x l e = ap Some (some-injective y x e)
got_before (y ∷ xs) ys (suc i) x l e = got_before xs ys i x (let l' : i < length xs = omega arith in l') e

module _ (room first : ℕ) (log : List EntryMark) (xs : List Mark) (cs : List ℕ) (taken c : ℕ) (s : Stands room first log xs cs taken) (low : c < 64) where
  abbrev counts : Tally
  counts = record { enqueued = length xs; taken = taken }

  reply_here : (F : List Mark → Tally → Type 0) → F xs counts → F (values_of log) (tally_of log)
  reply_here F h = subst (λ (z : List Mark × Tally). F z.0 z.1) (λ j. (sym s.1 j, sym s.3 j)) h

  pub enqueue_next : (y : ℕ) → length xs < taken + room → Stands room first (log ++ entry c (Enq (y ∷ [])) Done ∷ []) (xs ++ (y ∷ []) ∷ []) (cs ++ c ∷ []) taken
  enqueue_next y l = let e = entry c (Enq (y ∷ [])) Done in let more : length xs + 1 ≡ length (xs ++ (y ∷ []) ∷ []) = sym (length-append xs ((y ∷ []) ∷ [])) in (
    queue_next number_priority room first log e s.0 low (reply_here (λ z t. t.enqueued < t.taken + room) l),
    values_push log e ∙ ap (λ (z : List Mark). z ++ (y ∷ []) ∷ []) s.1,
    putters_push log e ∙ ap (λ (z : List ℕ). z ++ c ∷ []) s.2,
    tally_push log e ∙ (ap (λ (t : Tally). tally_next t (Enq (y ∷ [])) Done) s.3 ∙ (λ j. record { enqueued = more j; taken = taken })),
  )

  pub take_next : (y : ℕ) → get_elem? xs taken ≡ some (y ∷ []) → Stands room first (log ++ entry c Deq (Item (y ∷ [])) ∷ []) xs cs (suc taken)
  take_next y h = let e = entry c Deq (Item (y ∷ [])) in let more : taken + 1 ≡ suc taken = omega arith in (
    queue_next number_priority room first log e s.0 low (reply_here (λ z t. slice_get z t.taken ≡ Some (y ∷ [])) (got xs taken (y ∷ []) h)),
    values_push log e ∙ (append-nil (values_of log) ∙ s.1),
    putters_push log e ∙ (append-nil (putters_of log) ∙ s.2),
    tally_push log e ∙ (ap (λ (t : Tally). tally_next t Deq (Item (y ∷ []))) s.3 ∙ (λ j. record { enqueued = length xs; taken = more j })),
  )

  -- the entries that leave the counts
  pub full_next : (y : ℕ) → length xs ≡ taken + room → Stands room first (log ++ entry c (Enq (y ∷ [])) Full ∷ []) xs cs taken
  full_next y h = let e = entry c (Enq (y ∷ [])) Full in (
    queue_next number_priority room first log e s.0 low (reply_here (λ z t. t.enqueued ≡ t.taken + room) h),
    values_push log e ∙ (append-nil (values_of log) ∙ s.1),
    putters_push log e ∙ (append-nil (putters_of log) ∙ s.2),
    tally_push log e ∙ s.3,
  )

  pub empty_peek_next : taken ≡ length xs → Stands room first (log ++ entry c Peek Empty ∷ []) xs cs taken
  empty_peek_next h = let e = entry c Peek Empty in (
    queue_next number_priority room first log e s.0 low (reply_here (λ z t. t.taken ≡ t.enqueued) h),
    values_push log e ∙ (append-nil (values_of log) ∙ s.1),
    putters_push log e ∙ (append-nil (putters_of log) ∙ s.2),
    tally_push log e ∙ s.3,
  )

  pub empty_next : taken ≡ length xs → Stands room first (log ++ entry c Deq Empty ∷ []) xs cs taken
  empty_next h = let e = entry c Deq Empty in (
    queue_next number_priority room first log e s.0 low (reply_here (λ z t. t.taken ≡ t.enqueued) h),
    values_push log e ∙ (append-nil (values_of log) ∙ s.1),
    putters_push log e ∙ (append-nil (putters_of log) ∙ s.2),
    tally_push log e ∙ s.3,
  )

  pub peek_next : (y : ℕ) → get_elem? xs taken ≡ some (y ∷ []) → Stands room first (log ++ entry c Peek (Item (y ∷ [])) ∷ []) xs cs taken
  peek_next y h = let e = entry c Peek (Item (y ∷ [])) in (
    queue_next number_priority room first log e s.0 low (reply_here (λ z t. slice_get z t.taken ≡ Some (y ∷ [])) (got xs taken (y ∷ []) h)),
    values_push log e ∙ (append-nil (values_of log) ∙ s.1),
    putters_push log e ∙ (append-nil (putters_of log) ∙ s.2),
    tally_push log e ∙ s.3,
  )

  pub count_next : (n : ℕ) → n + taken ≡ length xs → Stands room first (log ++ entry c Count (Counted n) ∷ []) xs cs taken
  count_next n h = let e = entry c Count (Counted n) in (
    queue_next number_priority room first log e s.0 low (reply_here (λ z t. n + t.taken ≡ t.enqueued) h),
    values_push log e ∙ (append-nil (values_of log) ∙ s.1),
    putters_push log e ∙ (append-nil (putters_of log) ∙ s.2),
    tally_push log e ∙ s.3,
  )

  pub snap_next : Stands room first (log ++ entry c Snap (Numbers (map number_of (drop taken xs))) ∷ []) xs cs taken
  snap_next = let e = entry c Snap (Numbers (map number_of (drop taken xs))) in (
    queue_next number_priority room first log e s.0 low (reply_here (λ z t. map number_of (drop taken xs) ≡ map number_of (drop t.taken z)) refl),
    values_push log e ∙ (append-nil (values_of log) ∙ s.1),
    putters_push log e ∙ (append-nil (putters_of log) ∙ s.2),
    tally_push log e ∙ s.3,
  )
