-- The laws of the order in which a queue's calls stand.
use Rattle.std.proofs.Common.{◌≡◌, ◌≢◌, ℕ, ◌≤◌, List, [], ◌∷◌, ◌++◌, refl, sym, ◌∙◌, subst, arith, append_assoc}
use mathlib.Core.Logic.{dite}
use native.Mathlib.Decide.{ℕ_discrete}
use Rattle.ho_base.specs.declared.receipts.Receipt.{Receipt}
use Rattle.ho_base.specs.declared.receipts.Receipt.TheVariants.{Place, Enqueued, Dequeued, Peeked, Looked}
use Rattle.ho_model.specs.declared.marks.CallMark.TheVariants.{Enq, Deq, Peek}
use Rattle.ho_model.specs.declared.marks.ReplyMark.TheVariants.{Done, Item}
use Rattle.ho_model.specs.declared.objects.Object.TheVariants.{Queue}
use Rattle.ho_model.specs.Written.{history_of}
use Rattle.ho_model.proofs.QueueLaws.{legal_by_replies}
use Rattle.weave.specs.Parts.{Told, made_by}
use Rattle.weave.specs.Order.{GoesBefore, EachTold, NoneBefore, KeepsOrder}
use Rattle.weave.specs.Queues.{IsQueueHistory}
use Rattle.weave.specs.Laws.{LaterDoNotGoBefore, CallsPullForward, OrdersAreHistories, FirstLengthsAllowAlike, SegmentsMayBeAny}
use Rattle.weave.proofs.CallsByCaller.{EachMade, each_made, each_told, each_front, first_of, made_own, made_other}
use Rattle.weave.proofs.Swaps.{takes_then, enqueues_then, AllFit, MayNot, may_go, steps, first_free, pull_behind}
use Rattle.weave.proofs.Replies.{fit_and_agree, is_history, agree_pulled}

pub each_weaker : (P Q : Receipt → Type 0) → ((r : Receipt) → P r → Q r) → (xs : List Told) → EachTold P xs → EachTold Q xs
each_weaker P Q f [] h = tt
each_weaker P Q f (x ∷ xs) h = (f x.made.receipt h.0, each_weaker P Q f xs h.1)

pub none_before : (room : ℕ) (y : Receipt) (xs : List Told) → EachTold (MayNot room y) xs → NoneBefore room y xs
none_before room y xs h = each_weaker (MayNot room y) (λ x. GoesBefore room x y → ⊥) (λ x may before. may (may_go room x y before)) xs h

-- 1. No call goes before an earlier one
keeps : (room n e : ℕ) (told : List Told) → n ≤ e → AllFit room n e told → KeepsOrder room told
keeps room n e [] o fit = tt
keeps room n e (x ∷ xs) o fit =
    let r = x.made.receipt in let s = steps room n e r o fit.0 in (
      none_before room r xs (first_free room n e x xs o fit),
      keeps room (takes_then n r) (enqueues_then e r) xs s.2 fit.1,
    )

pub later_do_not_go_before : LaterDoNotGoBefore
later_do_not_go_before room told h = keeps room 0 0 told (omega arith) (fit_and_agree room told h).1

-- 2. A call may stand before those that do not go before it
pub calls_pull_forward : CallsPullForward
calls_pull_forward room before passed x later h free =
    let so = fit_and_agree room (before ++ (passed ++ x ∷ later)) h in
    is_history room (before ++ x ∷ (passed ++ later)) so.0 (pull_behind room 0 0 before passed x later so.1 free) (agree_pulled room so.0 before passed x later so.2)

-- 3. An order that keeps the relation is a history
no_calls : (told : List Told) → ((c : ℕ) → made_by c told ≡ []) → told ≡ []
no_calls [] none = refl
no_calls (t ∷ ts) none = let clash : t.made ∷ made_by t.caller ts ≡ [] = sym (made_own t.caller t ts refl) ∙ none t.caller in absurd (cc)

orders : (room : ℕ) (before told other : List Told) → IsQueueHistory room (before ++ told) → ((c : ℕ) → made_by c told ≡ made_by c other) → KeepsOrder room other → IsQueueHistory room (before ++ other)
orders room before told [] h same keeps = subst (λ (l : List Told). IsQueueHistory room (before ++ l)) (no_calls told same) h
orders room before told (y ∷ other) h same keeps =
    let f = first_of y.caller y.made (made_by y.caller other) told (same y.caller ∙ made_own y.caller y other refl) in
    let P : Receipt → Type 0 = λ x. GoesBefore room x y.made.receipt → ⊥ in
    let same' : (c : ℕ) → made_by c (f.front ++ f.back) ≡ made_by c other = λ c. dite (ℕ_discrete y.caller c)
    (λ (is : y.caller ≡ c). subst (λ k. made_by k (f.front ++ f.back) ≡ made_by k other) is f.own)
    (λ (ne : y.caller ≢ c). f.others c ne ∙ (same c ∙ made_other c y other ne)) in
    let each = each_told P (f.front ++ f.back) (λ c. subst (EachMade P) (sym (same' c)) (each_made P other c keeps.0)) in
    let pulled = calls_pull_forward room before f.front y f.back (subst (λ (l : List Told). IsQueueHistory room (before ++ l)) f.is h) (each_front P f.front f.back each) in
    subst (IsQueueHistory room) (append_assoc before (y ∷ []) other)
    (orders room (before ++ y ∷ []) (f.front ++ f.back) other (subst (IsQueueHistory room) (sym (append_assoc before (y ∷ []) (f.front ++ f.back))) pulled) same' keeps.1)

pub orders_are_histories : OrdersAreHistories
orders_are_histories room told other h same keeps = orders room [] told other h same keeps

-- 4. The first segment's length
pub first_lengths_allow_alike : FirstLengthsAllowAlike
first_lengths_allow_alike priority room a b history legal =
    let entries = history_of (Queue room a) history in (legal_by_replies priority room b entries).1 ((legal_by_replies priority room a entries).0 legal)

pub segments_may_be_any : SegmentsMayBeAny
segments_may_be_any first_len (Enq x) Done t (Enqueued p s) is = (is.0, omega arith)
segments_may_be_any first_len (Enq x) Done t (Place k) is = is
segments_may_be_any first_len (Enq x) Done t (Dequeued p) is = is
segments_may_be_any first_len (Enq x) Done t (Peeked p) is = is
segments_may_be_any first_len (Enq x) Done t (Looked head tail) is = is
segments_may_be_any first_len Deq (Item x) t r is = is
segments_may_be_any first_len Peek (Item x) t r is = is
segments_may_be_any first_len call reply t r is = is
