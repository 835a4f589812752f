-- How many items entries put into a queue and took out of it.
use Rattle.std.specs.Prelude.{◌+◌, List, [], ◌∷◌}
use Rattle.ho_model.specs.Entries.{CallMark, ReplyMark, EntryMark, Enq, Deq, Done, Item}
pub use Rattle.ho_model.specs.declared.marks.Tally.{Tally}

abbrev pub no_tally : Tally
no_tally = record { enqueued = 0; taken = 0 }

-- the counts after a call: an enqueue that was done counts, and an item that was taken
abbrev pub tally_next : Tally → CallMark → ReplyMark → Tally
tally_next t (Enq item) Done = record { enqueued = t.enqueued + 1; taken = t.taken }
tally_next t Deq (Item item) = record { enqueued = t.enqueued; taken = t.taken + 1 }
tally_next t _ _ = t

-- the counts after entries that follow, and after a history
abbrev pub tally_from : Tally → List EntryMark → Tally
tally_from t [] = t
tally_from t (e ∷ es) = tally_from (tally_next t e.call e.reply) es

abbrev pub tally_of : List EntryMark → Tally
tally_of history = tally_from no_tally history
