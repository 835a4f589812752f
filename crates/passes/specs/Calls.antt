-- What calls, a split and a join leave of a pass of any shared object: p before, and q after.
use Rattle.std.specs.Prelude.{◌≡◌, ℕ, ◌<◌, ◌++◌, List, [], length}
use Rattle.ho_base.specs.Marks.{Mark}
use Rattle.ho_base.specs.declared.receipts.Receipt.{Receipt}
use Rattle.ho_base.specs.declared.receipts.Receipt.TheVariants.{Place}
use Rattle.ho_model.specs.declared.marks.EntryMark.{EntryMark}
use Rattle.ho_model.specs.declared.marks.Tally.{Tally}
use Rattle.ho_model.specs.Tallies.{tally_of}
use Rattle.passes.specs.Numbers.{HasNumber, IsSpare, AreApart, only, give, held_both, made_both, raised}
use Rattle.passes.specs.Seen.{SeesOthers, SeesEntry, SeesOwn, IsLawful, longer}
use Rattle.passes.specs.Views.{PassView}

-- no call changes which object the pass is of, its caller, or the numbers that it holds, of which its
-- caller is one
pub record IsSamePass {O : Type 0} (p q : PassView O) : Type 0 where
  pub table : q.table ≡ p.table
  pub object : q.object ≡ p.object
  pub callers : q.callers ≡ p.callers
  pub caller : q.caller ≡ p.caller
  pub held : q.held ≡ p.held
  pub own : HasNumber q.held q.caller

-- One entry more: what was seen goes on with entries of other callers, which makes `before`, and
-- then with this call's own entry. All that is seen is legal.
pub record AddsEntry {O : Type 0} (priority : Mark → ℕ) (p : PassView O) (before : List EntryMark) (e : EntryMark) (q : PassView O) : Type 0 where
  pub seen : SeesEntry p.held p.seen before e q.seen
  pub lawful : IsLawful priority p.object p.callers q.seen
  pub met : q.met ≡ p.met

module _ {O : Type 0} where
  -- After an answer: one entry more. The receipt is its place, and the reply fits the counts before it.
  abbrev pub Answers : (Mark → ℕ) → (Tally → Type 0) → PassView O → EntryMark → Receipt → PassView O → Type 0
  Answers priority fits p e receipt q = (before : List EntryMark) × AddsEntry priority p before e q × (receipt ≡ Place (length before)) × fits (tally_of before)

  -- The same where the receipt is kept back.
  abbrev pub AddsOne : (Mark → ℕ) → PassView O → EntryMark → PassView O → Type 0
  AddsOne priority p e q = (before : List EntryMark) × AddsEntry priority p before e q

-- After a refusal: what was seen goes on with entries of other callers alone, and is legal.
pub record AddsNoEntry {O : Type 0} (priority : Mark → ℕ) (p q : PassView O) : Type 0 where
  pub seen : SeesOthers p.held p.seen q.seen
  pub lawful : IsLawful priority p.object p.callers q.seen

-- What was seen goes on with entries of which those of the numbers held are just these, and is legal.
pub record AddsOwn {O : Type 0} (priority : Mark → ℕ) (p : PassView O) (own : List EntryMark) (q : PassView O) : Type 0 where
  pub seen : SeesOwn p.held p.seen own q.seen
  pub lawful : IsLawful priority p.object p.callers q.seen

-- one call of the pass is counted
abbrev pub CountsOne : {O : Type 0} → PassView O → PassView O → Type 0
CountsOne p q = q.made ≡ raised p.made p.caller

-- A split: q goes on without the least number that p can spare, and other holds that number alone. It
-- has seen as much, and met nothing.
pub record Splits {O : Type 0} (p q other : PassView O) : Type 0 where
  pub kept : q ≡ record p { held = give p.held other.caller }
  pub given : other ≡ record p { caller = other.caller; held = only other.caller; met = [] }
  pub spare : IsSpare p.held p.caller other.caller
  pub least : (c : ℕ) → c < other.caller → ¬ IsSpare p.held p.caller c

-- A join: q has the numbers and counts of p and of other, which had none in common. What either has
-- seen begins what q sees, and goes on with entries of callers other than that pass's own.
pub record Joins {O : Type 0} (priority : Mark → ℕ) (p other q : PassView O) : Type 0 where
  pub joined : q ≡ record p {
    held = held_both p.held other.held;
    made = made_both other.held p.made other.made;
    seen = longer p.seen other.seen;
    met = p.met ++ other.met;
  }
  pub apart : AreApart p.held other.held
  pub first : SeesOthers p.held p.seen q.seen
  pub second : SeesOthers other.held other.seen q.seen
  pub lawful : IsLawful priority q.object q.callers q.seen
