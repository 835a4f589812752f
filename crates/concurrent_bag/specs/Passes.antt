-- What contracts see of the passes of a bag, of either form: p before a call, and q after. O is the type of the obstacles that tries meet.
use Rattle.std.specs.Prelude.{◌≡◌, ℕ, ◌≤◌, List, length}
use Rattle.atomic_table.specs.Seated.{TableId}
use Rattle.ho_base.specs.Marks.{Mark}
use Rattle.ho_base.specs.declared.receipts.Receipt.{Receipt}
use Rattle.ho_base.specs.declared.receipts.Receipt.TheVariants.{Place}
use Rattle.ho_model.specs.declared.marks.EntryMark.{EntryMark}
use Rattle.ho_model.specs.declared.objects.Object.TheVariants as object
use Rattle.passes.specs.Views.{PassView, first_pass}
use Rattle.passes.specs.Repeats.{EndsByEntry, EndsWithoutEntry, Counts}

module _ {O : Type 0} where
  -- the first pass of a bag
  abbrev pub first_of : TableId → ℕ → PassView O
  first_of table callers = first_pass table object.Bag callers

  -- After an answer of a call: one of its tries made this entry, and that try alone is counted. The
  -- receipt is the entry's place.
  abbrev pub Answers : (Mark → ℕ) → PassView O → EntryMark → Receipt → PassView O → Type 0
  Answers priority p e receipt q = (before : List EntryMark) × EndsByEntry priority p before e q × (receipt ≡ Place (length before)) × Counts 1 p q

  -- After want of memory: no try made an entry, and at most one is counted.
  abbrev pub LacksMemory : (Mark → ℕ) → PassView O → PassView O → Type 0
  LacksMemory priority p q = EndsWithoutEntry priority p q × ((n : ℕ) × (n ≤ 1) × Counts n p q)
