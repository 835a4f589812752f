-- The queue object, as the rule lives on it.
use Rattle.std.specs.Prelude.{◌≡◌, ℕ, List, length}
use Rattle.ho_base.specs.Marks.{Mark, number_priority}
use Rattle.ho_model.specs.declared.marks.EntryMark.{EntryMark}
use Rattle.ho_model.specs.Enqueues.{values_of, putters_of}
use Rattle.ho_model.specs.QueueReplies.{LeavesItems}
use Rattle.ho_model.specs.Tallies.{tally_of}

-- the history is legal, xs was enqueued by the callers cs, and so many items were taken
abbrev pub Stands : ℕ → ℕ → List EntryMark → List Mark → List ℕ → ℕ → Type 0
Stands room first log xs cs taken = LeavesItems number_priority room first log × (values_of log ≡ xs) × (putters_of log ≡ cs) × (tally_of log ≡ record { enqueued = length xs; taken = taken })
