-- The laws of the order in which a queue's calls stand.
use Rattle.std.specs.Prelude.{◌≡◌, ℕ, List, ◌∷◌, ◌++◌}
use Rattle.ho_base.specs.Marks.{Mark}
use Rattle.ho_base.specs.declared.receipts.Receipt.{Receipt}
use Rattle.ho_model.specs.declared.histories.Entry.{Entry}
use Rattle.ho_model.specs.declared.marks.CallMark.{CallMark}
use Rattle.ho_model.specs.declared.marks.ReplyMark.{ReplyMark}
use Rattle.ho_model.specs.declared.marks.Tally.{Tally}
use Rattle.ho_model.specs.declared.objects.Object.TheVariants.{Queue}
use Rattle.ho_model.specs.Histories.{IsLegal}
use Rattle.ho_model.specs.Written.{history_of}
use Rattle.ho_model.specs.QueueReceipts.{IsQueueReceipt}
use Rattle.weave.specs.Parts.{Told, made_by}
use Rattle.weave.specs.Order.{NoneBefore, KeepsOrder}
use Rattle.weave.specs.Queues.{IsQueueHistory}

-- no call of a history goes before one that stands earlier
abbrev pub LaterDoNotGoBefore : Type 0
LaterDoNotGoBefore = (room : ℕ) (told : List Told) → IsQueueHistory room told → KeepsOrder room told

-- a call may stand before those that do not go before it
abbrev pub CallsPullForward : Type 0
CallsPullForward =
    (room : ℕ) (before passed : List Told) (x : Told) (later : List Told) → IsQueueHistory room (before ++ (passed ++ x ∷ later)) → NoneBefore room x.made.receipt passed →
    IsQueueHistory room (before ++ x ∷ (passed ++ later))

-- an order of the calls of a history, in which each caller's calls stand as they did and no call goes
-- before an earlier one, is a history too
abbrev pub OrdersAreHistories : Type 0
OrdersAreHistories =
    (room : ℕ) (told other : List Told) → IsQueueHistory room told → ((caller : ℕ) → made_by caller told ≡ made_by caller other) → KeepsOrder room other → IsQueueHistory room other

-- what a queue allows does not depend on the length of its first segment
abbrev pub FirstLengthsAllowAlike : Type 0
FirstLengthsAllowAlike =
    (priority : Mark → ℕ) (room a b : ℕ) (history : List Entry) → IsLegal priority (Queue room a) (history_of (Queue room a) history) → IsLegal priority (Queue room b) (history_of (Queue room b) history)

-- and a receipt at one such length is one where the segment may be any
abbrev pub SegmentsMayBeAny : Type 0
SegmentsMayBeAny = (first_len : ℕ) (call : CallMark) (reply : ReplyMark) (t : Tally) (receipt : Receipt) → IsQueueReceipt first_len call reply t receipt → IsQueueReceipt 0 call reply t receipt
