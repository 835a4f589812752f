-- Calls that repeat their try: p is the pass before, and q after.
use Rattle.std.specs.Prelude.{◌≡◌, ℕ, List}
use Rattle.ho_base.specs.Marks.{number_priority}
use Rattle.ho_base.specs.declared.receipts.Receipt.{Receipt}
use Rattle.ho_model.specs.declared.marks.EntryMark.{EntryMark}
use Rattle.ho_model.specs.QueueReceipts.{IsQueueReceipt}
use Rattle.ho_model.specs.Tallies.{tally_of}
use Rattle.passes.specs.Seen.{SeesOthers}
use Rattle.passes.specs.Repeats.{EndsByEntry, Counts, MeetsMore}
use Rattle.seg_rule.specs.Passes.{QueueView, pass_of}
use Rattle.seg_rule.specs.Tells.{first_len_in}

module _ (p q : QueueView) where
  -- The last try made this entry. The receipt is that of the entry, for the counts of the entries before it.
  abbrev pub Ends : EntryMark → Receipt → Type 0
  Ends e receipt = (before : List EntryMark) × EndsByEntry number_priority (pass_of p) before e (pass_of q) × IsQueueReceipt (first_len_in p.view.object) e.call e.reply (tally_of before) receipt

  -- No try has made an entry yet. Some may be counted, and each may have met obstacles.
  pub record TriesOn : Type 0 where
    pub table : q.table ≡ p.table
    pub object : q.view.object ≡ p.view.object
    pub callers : q.view.callers ≡ p.view.callers
    pub caller : q.view.caller ≡ p.view.caller
    pub held : q.view.held ≡ p.view.held
    pub seen : SeesOthers p.view.held p.view.seen q.view.seen
    pub counted : (n : ℕ) × Counts n (pass_of p) (pass_of q)
    pub met : MeetsMore (pass_of p) (pass_of q)
