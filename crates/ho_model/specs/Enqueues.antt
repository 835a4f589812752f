-- The items that entries put into a queue, and the callers that put them there.
use Rattle.std.specs.Prelude.{ℕ, List, [], ◌∷◌, map, flat_map}
use Rattle.ho_base.specs.Marks.{Mark}
use Rattle.ho_model.specs.Entries.{CallMark, ReplyMark, EntryMark, Enq, Done}

-- the item that a call put into the queue, in a list of one; of any other call none
abbrev pub enqueued_in : CallMark → ReplyMark → List Mark
enqueued_in (Enq item) Done = item ∷ []
enqueued_in _ _ = []

-- the items of the enqueues that were done, in order
abbrev pub values_of : List EntryMark → List Mark
values_of history = flat_map (λ e. enqueued_in e.call e.reply) history

-- the callers of these enqueues
abbrev pub putters_of : List EntryMark → List ℕ
putters_of history = flat_map (λ e. map (λ item. e.caller) (enqueued_in e.call e.reply)) history
