-- The receipt of each call on a queue, by its reply and the counts of the entries before it.
use Rattle.std.specs.Prelude.{◌≡◌, ℕ, ◌*◌, ◌≤◌}
use Rattle.ho_base.specs.declared.receipts.Receipt.{Receipt}
use Rattle.ho_base.specs.declared.receipts.Receipt.TheVariants.{Enqueued, Dequeued, Peeked, Looked}
use Rattle.ho_model.specs.Entries.{CallMark, ReplyMark, Enq, Deq, Peek, Done, Item}
use Rattle.ho_model.specs.Tallies.{Tally}

-- how many items were enqueued before, and the segment of this one, which begins no later
abbrev pub IsPut : ℕ → Tally → Receipt → Type 0
IsPut first_len t (Enqueued position segment) = (position ≡ t.enqueued) × (segment * first_len ≤ position)
IsPut first_len t _ = ⊥

-- how many items were taken before a take, and before a peek
abbrev pub IsTake : Tally → Receipt → Type 0
IsTake t (Dequeued position) = position ≡ t.taken
IsTake t _ = ⊥

abbrev pub IsPeek : Tally → Receipt → Type 0
IsPeek t (Peeked position) = position ≡ t.taken
IsPeek t _ = ⊥

-- how many items were taken, and how many enqueued
abbrev pub IsLook : Tally → Receipt → Type 0
IsLook t (Looked head tail) = (head ≡ t.taken) × (tail ≡ t.enqueued)
IsLook t _ = ⊥

-- a call that neither put, took nor showed an item has looked
abbrev pub IsQueueReceipt : ℕ → CallMark → ReplyMark → Tally → Receipt → Type 0
IsQueueReceipt first_len (Enq item) Done t receipt = IsPut first_len t receipt
IsQueueReceipt first_len Deq (Item item) t receipt = IsTake t receipt
IsQueueReceipt first_len Peek (Item item) t receipt = IsPeek t receipt
IsQueueReceipt first_len _ _ t receipt = IsLook t receipt
