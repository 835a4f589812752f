-- What a whole turn, or a try for one, leaves of a seat's view.
use Rattle.std.specs.Prelude.{◌≡◌, ℕ, ◌<◌, ◌≤◌, ◌++◌, List, [], ◌∷◌, length}
use Rattle.ho_base.specs.Marks.{Mark}
use Rattle.ho_base.specs.declared.receipts.Receipt.{Receipt}
use Rattle.ho_base.specs.declared.receipts.Receipt.TheVariants.{Place}
use Rattle.ho_model.specs.declared.marks.EntryMark.{EntryMark}
use Rattle.ho_model.specs.declared.marks.Tally.{Tally}
use Rattle.ho_model.specs.Tallies.{tally_of}
use Rattle.passes.specs.Seen.{SeesOthers, IsLawful}
use Rattle.turn_lock.specs.declared.view.View.{View}
use Rattle.turn_lock.specs.declared.view.Turn.TheVariants.{Idle}
use Rattle.turn_lock.specs.Views.{IsWhole, counted, met}

abbrev pub returned : View → List EntryMark → View
returned v seen = record (counted v) { seen = seen; turn = Idle }

-- the call is counted, and its entry has this place
abbrev pub Made : (Mark → ℕ) → (Tally → Type 0) → View → EntryMark → Receipt → View → Type 0
Made pr fits v e receipt w = (before : List EntryMark) × SeesOthers v.held v.seen before × (receipt ≡ Place (length before)) × fits (tally_of before)
    × IsLawful pr v.object v.callers (before ++ e ∷ []) × (w ≡ returned v (before ++ e ∷ []))

-- the call is counted, and made no entry
abbrev pub GaveUp : (Mark → ℕ) → View → View → Type 0
GaveUp pr v w = (before : List EntryMark) × SeesOthers v.held v.seen before × IsLawful pr v.object v.callers before × (w ≡ returned v before)

-- another had the turn, or a ticket, when as many turns were over as entries were seen
abbrev pub Missed : (Mark → ℕ) → View → View → Type 0
Missed pr v w = (serving : ℕ) × (ticket : ℕ) × (serving < ticket) × (length v.seen ≤ serving) × (w ≡ met v serving ticket) × (¬ IsWhole v) × IsLawful pr v.object v.callers v.seen
