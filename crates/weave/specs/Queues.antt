-- Legal histories of a queue, with their receipts.
use Rattle.std.specs.Prelude.{◌≡◌, ℕ, List, [], ◌∷◌, map}
use Rattle.ho_base.specs.Marks.{number_priority}
use Rattle.ho_model.specs.declared.objects.Object.TheVariants.{Queue}
use Rattle.ho_model.specs.declared.histories.Entry.{Entry}
use Rattle.ho_model.specs.declared.marks.EntryMark.{EntryMark}
use Rattle.ho_model.specs.declared.marks.Tally.{Tally}
use Rattle.ho_model.specs.Tallies.{no_tally, tally_next}
use Rattle.ho_model.specs.Histories.{IsLegal}
use Rattle.ho_model.specs.QueueReceipts.{IsQueueReceipt}
use Rattle.ho_model.specs.Written.{entry_of, history_of}
use Rattle.weave.specs.Order.{IsChosen}
use Rattle.weave.specs.Parts.{PartMade, Told, entry_told, HasParts}

-- the mark of a call on a queue
abbrev pub queue_entry : Told → EntryMark
queue_entry t = entry_of (Queue 0 0) (entry_told t)

-- After these counts each call, in turn, has the receipt of a queue's call. The segment of an enqueue
-- may be any: with a first length of 0 each segment begins no later than the item.
abbrev pub HaveReceipts : Tally → List Told → Type 0
HaveReceipts t [] = Unit {0}
HaveReceipts t (x ∷ xs) =
    let e = queue_entry x in IsQueueReceipt 0 e.call e.reply t x.made.receipt × HaveReceipts (tally_next t e.call e.reply) xs

-- a history that a queue with so much room allows, and whose receipts are its own
pub record IsQueueHistory (room : ℕ) (told : List Told) : Type 0 where
  pub legal : (first_len : ℕ) → IsLegal number_priority (Queue room first_len) (history_of (Queue room first_len) (map entry_told told))
  pub receipts : HaveReceipts no_tally told

-- one with just these parts
pub record IsOfQueue (room : ℕ) (parts : List PartMade) (told : List Told) : Type 0 where
  pub has : HasParts parts told
  pub history : IsQueueHistory room told

-- the entries of one with just these parts, in the order that takes the least caller first
abbrev pub IsWoven : ℕ → List PartMade → List Entry → Type 0
IsWoven room parts history = (told : List Told) × IsOfQueue room parts told × IsChosen room told × (history ≡ map entry_told told)
