-- The laws of what passes see, and of the numbers that they hold.
use Rattle.std.specs.Prelude.{◌≡◌, ℕ, ◌+◌, ◌≤◌, ◌++◌, List, [], ◌∷◌, Bool, length}
use Rattle.ho_base.specs.Marks.{Mark}
use Rattle.ho_base.specs.declared.receipts.Receipt.{Receipt}
use Rattle.ho_base.specs.declared.receipts.Receipt.TheVariants.{Place}
use Rattle.ho_model.specs.declared.marks.EntryMark.{EntryMark}
use Rattle.passes.specs.Numbers.{HoldsBelow, held_count, first_held}
use Rattle.passes.specs.Seen.{SeesOthers, SeesEntry, SeesOwn}
use Rattle.passes.specs.Places.{Begins, StandsBy}
use Rattle.passes.specs.Views.{PassView, IsWhole}
use Rattle.passes.specs.Calls.{AddsEntry, AddsNoEntry, AddsOwn, Splits, Joins}

-- an answered call's entry stands where its receipt says
abbrev pub EntriesStandByReceipts : Type 0
EntriesStandByReceipts =
    (held : List Bool) (seen before later : List EntryMark) (e : EntryMark) (receipt : Receipt) → SeesEntry held seen before e later → receipt ≡ Place (length before) → StandsBy later receipt e

-- and in all that is seen later
abbrev pub EntriesKeepPlaces : Type 0
EntriesKeepPlaces = (seen later : List EntryMark) (e : EntryMark) (receipt : Receipt) → StandsBy seen receipt e → Begins seen later → StandsBy later receipt e

-- which is what calls and joins make of it
abbrev pub SeenGoesOn : Type 0
SeenGoesOn = (held : List Bool) (seen later : List EntryMark) → SeesOthers held seen later → Begins seen later

abbrev pub EntryGoesOn : Type 0
EntryGoesOn = (held : List Bool) (seen before later : List EntryMark) (e : EntryMark) → SeesEntry held seen before e later → Begins seen later

abbrev pub OwnGoesOn : Type 0
OwnGoesOn = (held : List Bool) (seen own later : List EntryMark) → SeesOwn held seen own later → Begins seen later

-- a first pass holds as many numbers as there are callers, each below that many
abbrev pub AFirstPassHoldsAll : Type 0
AFirstPassHoldsAll = (n : ℕ) → (held_count (first_held n) ≡ n) × HoldsBelow n (first_held n)

-- passes whose tries meet obstacles of the type O
module _ (O : Type 0) where
  -- what either pass has seen begins what they see once joined
  abbrev pub JoinsKeepPlaces : Type 0
  JoinsKeepPlaces = (priority : Mark → ℕ) (p other q : PassView O) → Joins priority p other q → Begins p.seen q.seen × Begins other.seen q.seen

  -- a pass that holds all numbers has seen all: a refusal shows it nothing more
  abbrev pub WholePassesMissNothing : Type 0
  WholePassesMissNothing = (priority : Mark → ℕ) (p q : PassView O) → IsWhole p → AddsNoEntry priority p q → q.seen ≡ p.seen

  -- and an answer's entry stands right behind what it had seen
  abbrev pub EntriesOfWholePasses : Type 0
  EntriesOfWholePasses = (priority : Mark → ℕ) (p : PassView O) (before : List EntryMark) (e : EntryMark) (q : PassView O)
      → IsWhole p → AddsEntry priority p before e q → (before ≡ p.seen) × (q.seen ≡ p.seen ++ e ∷ [])

  -- so all that comes while it makes its calls is its own entries
  abbrev pub WholePassesAddTheirOwn : Type 0
  WholePassesAddTheirOwn = (priority : Mark → ℕ) (p : PassView O) (own : List EntryMark) (q : PassView O)
      → IsWhole p → AddsOwn priority p own q → q.seen ≡ p.seen ++ own

  -- a split gives one number away, and a join adds the numbers of both
  abbrev pub SplitsGiveOne : Type 0
  SplitsGiveOne = (n : ℕ) (p q other : PassView O) → n ≤ 64 → Splits p q other → HoldsBelow n p.held
      → (held_count q.held + 1 ≡ held_count p.held) × HoldsBelow n q.held × (held_count other.held ≡ 1) × HoldsBelow n other.held

  abbrev pub JoinsTakeAll : Type 0
  JoinsTakeAll = (n : ℕ) (priority : Mark → ℕ) (p other q : PassView O) → Joins priority p other q → HoldsBelow n p.held → HoldsBelow n other.held
      → (held_count q.held ≡ held_count p.held + held_count other.held) × HoldsBelow n q.held

  -- a pass that holds as many numbers as there are callers is whole
  abbrev pub AllNumbersMakeAWhole : Type 0
  AllNumbersMakeAWhole = (p : PassView O) → HoldsBelow p.callers p.held → held_count p.held ≡ p.callers → IsWhole p
