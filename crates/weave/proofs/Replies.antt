-- Legal histories of a queue by two things: the counts that the receipts name, in turn; and of each call
-- alone, that it agrees with the items that the history enqueues in all.
use Rattle.std.proofs.Common.{◌≡◌, ℕ, zero, suc, ◌+◌, ◌<◌, List, [], ◌∷◌, ◌++◌, length, take, map, slice_get, Some, refl, sym, ap, ◌∙◌, subst, arith, append_assoc, append-nil}
use Rattle.std.proofs.lemmas.Option.{none-some}
use Rattle.ho_base.specs.Marks.{Mark, number_priority}
use Rattle.ho_base.specs.declared.receipts.Receipt.{Receipt}
use Rattle.ho_base.specs.declared.receipts.Receipt.TheVariants.{Place, Enqueued, Dequeued, Peeked, Looked}
use Rattle.ho_model.specs.declared.objects.Object.TheVariants.{Queue}
use Rattle.ho_model.specs.declared.marks.CallMark.{CallMark}
use Rattle.ho_model.specs.declared.marks.CallMark.TheVariants.{Enq, Deq, Peek}
use Rattle.ho_model.specs.declared.marks.ReplyMark.{ReplyMark}
use Rattle.ho_model.specs.declared.marks.ReplyMark.TheVariants.{Done, Item}
use Rattle.ho_model.specs.declared.marks.EntryMark.{EntryMark}
use Rattle.ho_model.specs.declared.marks.Tally.{Tally}
use Rattle.ho_model.specs.Objects.{most_callers}
use Rattle.ho_model.specs.Tallies.{no_tally, tally_next}
use Rattle.ho_model.specs.Enqueues.{enqueued_in, values_of}
use Rattle.ho_model.specs.Written.{history_of}
use Rattle.ho_model.specs.QueueReplies.{AreCounts, IsQueueReply, AllReply}
use Rattle.ho_model.specs.QueueReceipts.{IsQueueReceipt, IsLook}
use Rattle.ho_model.proofs.Queues.{counts_next}
use Rattle.ho_model.proofs.QueueLaws.{legal_by_replies}
use Rattle.weave.specs.Parts.{Told, entry_told}
use Rattle.weave.specs.Queues.{queue_entry, HaveReceipts, IsQueueHistory}
use Rattle.weave.proofs.Swaps.{Fits, takes_then, enqueues_then, AllFit}

-- 1. The beginning of a list
get_of_take : {A : Type 0} (k : ℕ) (xs : List A) (i : ℕ) (x : A) → slice_get (take k xs) i ≡ Some x → slice_get xs i ≡ Some x
get_of_take zero xs i x h = absurd (none-some x h)
get_of_take (suc k) [] i x h = h
get_of_take (suc k) (y ∷ xs) zero x h = h
get_of_take (suc k) (y ∷ xs) (suc i) x h = get_of_take k xs i x h

take_has : {A : Type 0} (k : ℕ) (xs : List A) (i : ℕ) (x : A) → i < k → slice_get xs i ≡ Some x → slice_get (take k xs) i ≡ Some x
take_has zero xs i x lt h = absurd (omega (arith, lt))
take_has (suc k) [] i x lt h = h
take_has (suc k) (y ∷ xs) zero x lt h = h
take_has (suc k) (y ∷ xs) (suc i) x lt h = take_has k xs i x (omega (arith, lt)) h

below_take : {A : Type 0} (k : ℕ) (xs : List A) (i : ℕ) (x : A) → slice_get (take k xs) i ≡ Some x → i < k
below_take zero xs i x h = absurd (none-some x h)
below_take (suc k) [] i x h = absurd (none-some x h)
below_take (suc k) (y ∷ xs) zero x h = omega arith
below_take (suc k) (y ∷ xs) (suc i) x h = let lt = below_take k xs i x h in omega (arith, lt)

beginning : {A : Type 0} (xs ys : List A) → xs ≡ take (length xs) (xs ++ ys)
beginning [] ys = refl
beginning (x ∷ xs) ys = ap (λ l. x ∷ l) (beginning xs ys)

begins_with : (xs ys all : List Mark) (k : ℕ) → xs ++ ys ≡ all → length xs ≡ k → xs ≡ take k all
begins_with xs ys all k is many = beginning xs ys ∙ (ap (λ (l : List Mark). take (length xs) l) is ∙ ap (λ (n : ℕ). take n all) many)

-- 2. One call: what it is after these counts, where the items enqueued in all are these
pub record Is (room : ℕ) (all : List Mark) (t : Tally) (call : CallMark) (reply : ReplyMark) (r : Receipt) : Type 0 where
  pub is_reply : IsQueueReply room (take t.enqueued all) t call reply
  pub is_receipt : IsQueueReceipt 0 call reply t r
  pub puts : take t.enqueued all ++ enqueued_in call reply ≡ take (tally_next t call reply).enqueued all

module _ (room : ℕ) (all : List Mark) where
  -- it is so after all counts at which it fits
  look_moves : (t u : Tally) (call : CallMark) (reply : ReplyMark) (r : Receipt) → IsLook t r → Is room all t call reply r → Fits room u.taken u.enqueued r → Is room all u call reply r
  look_moves t u call reply (Looked head tail) look is fit =
      let same : t ≡ u = λ i. record { enqueued = (sym look.1 ∙ fit.1) i; taken = (sym look.0 ∙ fit.0) i } in
      subst (λ (v : Tally). Is room all v call reply (Looked head tail)) same is
  look_moves t u call reply (Place k) look is fit = absurd look
  look_moves t u call reply (Enqueued p s) look is fit = absurd look
  look_moves t u call reply (Dequeued p) look is fit = absurd look
  look_moves t u call reply (Peeked p) look is fit = absurd look

  moves : (t u : Tally) (call : CallMark) (reply : ReplyMark) (r : Receipt) → Is room all t call reply r → Fits room u.taken u.enqueued r → Is room all u call reply r
  moves t u (Enq x) Done (Enqueued p s) is fit = record {
    is_reply = fit.1;
    is_receipt = (fit.0, is.is_receipt.1);
    puts = subst (λ (k : ℕ). take k all ++ x ∷ [] ≡ take (k + 1) all) (sym is.is_receipt.0 ∙ fit.0) is.puts;
  }
  moves t u (Enq x) Done (Place k) is fit = absurd is.is_receipt
  moves t u (Enq x) Done (Dequeued p) is fit = absurd is.is_receipt
  moves t u (Enq x) Done (Peeked p) is fit = absurd is.is_receipt
  moves t u (Enq x) Done (Looked head tail) is fit = absurd is.is_receipt
  moves t u Deq (Item x) (Dequeued p) is fit = record {
    is_reply = take_has u.enqueued all u.taken x fit.1 (subst (λ (k : ℕ). slice_get all k ≡ Some x) (sym is.is_receipt ∙ fit.0) (get_of_take t.enqueued all t.taken x is.is_reply));
    is_receipt = fit.0;
    puts = append-nil (take u.enqueued all);
  }
  moves t u Deq (Item x) (Place k) is fit = absurd is.is_receipt
  moves t u Deq (Item x) (Enqueued p s) is fit = absurd is.is_receipt
  moves t u Deq (Item x) (Peeked p) is fit = absurd is.is_receipt
  moves t u Deq (Item x) (Looked head tail) is fit = absurd is.is_receipt
  moves t u Peek (Item x) (Peeked p) is fit = record {
    is_reply = take_has u.enqueued all u.taken x fit.1 (subst (λ (k : ℕ). slice_get all k ≡ Some x) (sym is.is_receipt ∙ fit.0) (get_of_take t.enqueued all t.taken x is.is_reply));
    is_receipt = fit.0;
    puts = append-nil (take u.enqueued all);
  }
  moves t u Peek (Item x) (Place k) is fit = absurd is.is_receipt
  moves t u Peek (Item x) (Enqueued p s) is fit = absurd is.is_receipt
  moves t u Peek (Item x) (Dequeued p) is fit = absurd is.is_receipt
  moves t u Peek (Item x) (Looked head tail) is fit = absurd is.is_receipt
  moves t u call reply r is fit = look_moves t u call reply r is.is_receipt is fit

  -- and it fits where it is so
  look_fits : (t : Tally) (r : Receipt) → IsLook t r → Fits room t.taken t.enqueued r
  look_fits t (Looked head tail) look = (look.0, look.1)
  look_fits t (Place k) look = absurd look
  look_fits t (Enqueued p s) look = absurd look
  look_fits t (Dequeued p) look = absurd look
  look_fits t (Peeked p) look = absurd look

  fits : (t : Tally) (call : CallMark) (reply : ReplyMark) (r : Receipt) → Is room all t call reply r → Fits room t.taken t.enqueued r
  fits t (Enq x) Done (Enqueued p s) is = (is.is_receipt.0, is.is_reply)
  fits t (Enq x) Done (Place k) is = absurd is.is_receipt
  fits t (Enq x) Done (Dequeued p) is = absurd is.is_receipt
  fits t (Enq x) Done (Peeked p) is = absurd is.is_receipt
  fits t (Enq x) Done (Looked head tail) is = absurd is.is_receipt
  fits t Deq (Item x) (Dequeued p) is = (is.is_receipt, below_take t.enqueued all t.taken x is.is_reply)
  fits t Deq (Item x) (Place k) is = absurd is.is_receipt
  fits t Deq (Item x) (Enqueued p s) is = absurd is.is_receipt
  fits t Deq (Item x) (Peeked p) is = absurd is.is_receipt
  fits t Deq (Item x) (Looked head tail) is = absurd is.is_receipt
  fits t Peek (Item x) (Peeked p) is = (is.is_receipt, below_take t.enqueued all t.taken x is.is_reply)
  fits t Peek (Item x) (Place k) is = absurd is.is_receipt
  fits t Peek (Item x) (Enqueued p s) is = absurd is.is_receipt
  fits t Peek (Item x) (Dequeued p) is = absurd is.is_receipt
  fits t Peek (Item x) (Looked head tail) is = absurd is.is_receipt
  fits t call reply r is = look_fits t r is.is_receipt

-- the counts after a call, by its receipt
abbrev then_counts : Tally → Receipt → Tally
then_counts t r = record { enqueued = enqueues_then t.enqueued r; taken = takes_then t.taken r }

look_counts : (t : Tally) (r : Receipt) → IsLook t r → t ≡ then_counts t r
look_counts t (Looked head tail) look = refl
look_counts t (Place k) look = absurd look
look_counts t (Enqueued p s) look = absurd look
look_counts t (Dequeued p) look = absurd look
look_counts t (Peeked p) look = absurd look

counts : (t : Tally) (call : CallMark) (reply : ReplyMark) (r : Receipt) → IsQueueReceipt 0 call reply t r → tally_next t call reply ≡ then_counts t r
counts t (Enq x) Done (Enqueued p s) is = refl
counts t (Enq x) Done (Place k) is = absurd is
counts t (Enq x) Done (Dequeued p) is = absurd is
counts t (Enq x) Done (Peeked p) is = absurd is
counts t (Enq x) Done (Looked head tail) is = absurd is
counts t Deq (Item x) (Dequeued p) is = refl
counts t Deq (Item x) (Place k) is = absurd is
counts t Deq (Item x) (Enqueued p s) is = absurd is
counts t Deq (Item x) (Peeked p) is = absurd is
counts t Deq (Item x) (Looked head tail) is = absurd is
counts t Peek (Item x) (Peeked p) is = refl
counts t Peek (Item x) (Place k) is = absurd is
counts t Peek (Item x) (Enqueued p s) is = absurd is
counts t Peek (Item x) (Dequeued p) is = absurd is
counts t Peek (Item x) (Looked head tail) is = absurd is
counts t call reply r is = look_counts t r is

-- 3. All calls of a history
-- after some counts it is so
abbrev pub Agrees : ℕ → List Mark → Told → Type 0
Agrees room all x = (t : Tally) × (x.caller < most_callers) × Is room all t (queue_entry x).call (queue_entry x).reply x.made.receipt

abbrev pub AllAgree : ℕ → List Mark → List Told → Type 0
AllAgree room all [] = Unit {0}
AllAgree room all (x ∷ xs) = Agrees room all x × AllAgree room all xs

abbrev marks : List Told → List EntryMark
marks told = map queue_entry told

marks_are : (room first_len : ℕ) (told : List Told) → history_of (Queue room first_len) (map entry_told told) ≡ marks told
marks_are room first_len [] = refl
marks_are room first_len (x ∷ xs) = ap (λ (l : List EntryMark). queue_entry x ∷ l) (marks_are room first_len xs)

-- calls that fit and agree are a history
reply_so : (room : ℕ) (all : List Mark) (told : List Told) (t : Tally) → AllFit room t.taken t.enqueued told → AllAgree room all told → AllReply room (take t.enqueued all) t (marks told) × HaveReceipts t told
reply_so room all [] t fit agree = (tt, tt)
reply_so room all (x ∷ xs) t fit agree =
    let call = (queue_entry x).call in let reply = (queue_entry x).reply in let r = x.made.receipt in
    let is = moves room all agree.0.0 t call reply r agree.0.2 fit.0 in
    let next = counts t call reply r is.is_receipt in
    let rest = reply_so room all xs (then_counts t r) fit.1 agree.1 in (
      (
        agree.0.1,
        is.is_reply,
        subst (λ (l : List Mark). AllReply room l (tally_next t call reply) (marks xs)) (sym is.puts) (subst (λ (u : Tally). AllReply room (take u.enqueued all) u (marks xs)) (sym next) rest.0),
      ),
      (is.is_receipt, subst (λ (u : Tally). HaveReceipts u xs) (sym next) rest.1),
    )

-- and those of a history fit and agree
fit_so : (room : ℕ) (all : List Mark) (told : List Told) (values : List Mark) (t : Tally) → AreCounts room values t → AllReply room values t (marks told) → HaveReceipts t told → values ++ values_of (marks told) ≡ all
    → AllFit room t.taken t.enqueued told × AllAgree room all told
fit_so room all [] values t are replies receipts whole = (tt, tt)
fit_so room all (x ∷ xs) values t are replies receipts whole =
    let call = (queue_entry x).call in let reply = (queue_entry x).reply in let r = x.made.receipt in
    let put = enqueued_in call reply in let t' = tally_next t call reply in
    let are' = counts_next room values t are call reply replies.1 in
    let whole' : (values ++ put) ++ values_of (marks xs) ≡ all = append_assoc values put (values_of (marks xs)) ∙ whole in
    let before : values ≡ take t.enqueued all = begins_with values (put ++ values_of (marks xs)) all t.enqueued whole are.counted in
    let after : values ++ put ≡ take t'.enqueued all = begins_with (values ++ put) (values_of (marks xs)) all t'.enqueued whole' are'.counted in
    let is : Is room all t call reply r = record {
      is_reply = subst (λ (l : List Mark). IsQueueReply room l t call reply) before replies.1;
      is_receipt = receipts.0;
      puts = ap (λ (l : List Mark). l ++ put) (sym before) ∙ after;
    } in
    let rest = fit_so room all xs (values ++ put) t' are' replies.2 receipts.1 whole' in
    let next = counts t call reply r receipts.0 in (
      (fits room all t call reply r is, subst (λ (u : Tally). AllFit room u.taken u.enqueued xs) next rest.0),
      ((t, replies.0, is), rest.1),
    )

none_counted : (room : ℕ) → AreCounts room [] no_tally
none_counted room = record { counted = refl; order = omega arith; within = omega arith }

pub fit_and_agree : (room : ℕ) (told : List Told) → IsQueueHistory room told → (all : List Mark) × AllFit room 0 0 told × AllAgree room all told
fit_and_agree room told h =
    let law = legal_by_replies number_priority room 0 (history_of (Queue room 0) (map entry_told told)) in
    let replies = subst (AllReply room [] no_tally) (marks_are room 0 told) (law.0 (h.legal 0)) in
    let so = fit_so room (values_of (marks told)) told [] no_tally (none_counted room) replies h.receipts refl in
    (values_of (marks told), so.0, so.1)

pub is_history : (room : ℕ) (told : List Told) (all : List Mark) → AllFit room 0 0 told → AllAgree room all told → IsQueueHistory room told
is_history room told all fit agree =
    let so = reply_so room all told no_tally fit agree in record {
      legal = λ first_len. (legal_by_replies number_priority room first_len (history_of (Queue room first_len) (map entry_told told))).1 (subst (AllReply room [] no_tally) (sym (marks_are room first_len told)) so.0);
      receipts = so.1;
    }

-- a call that agrees does so wherever it stands
agree_without : (room : ℕ) (all : List Mark) (passed : List Told) (x : Told) (later : List Told) → AllAgree room all (passed ++ x ∷ later) → AllAgree room all (x ∷ passed ++ later)
agree_without room all [] x later h = h
agree_without room all (y ∷ passed) x later h = let rest = agree_without room all passed x later h.1 in (rest.0, (h.0, rest.1))

pub agree_pulled : (room : ℕ) (all : List Mark) (before passed : List Told) (x : Told) (later : List Told) → AllAgree room all (before ++ (passed ++ x ∷ later)) → AllAgree room all (before ++ x ∷ (passed ++ later))
agree_pulled room all [] passed x later h = agree_without room all passed x later h
agree_pulled room all (y ∷ before) passed x later h = (h.0, agree_pulled room all before passed x later h.1)
