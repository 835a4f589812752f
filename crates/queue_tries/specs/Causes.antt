-- Why a try gave no answer: what it has read of others.
use Rattle.std.specs.Prelude.{◌≡◌, ◌≢◌, ℕ, ◌+◌, ◌*◌, ◌<◌, ◌++◌, ◌⊎◌, List, [], ◌∷◌, Contains}
use Rattle.passes.specs.Numbers.{HasNumber}
use Rattle.seg_rule.specs.declared.view.View.{View}
use Rattle.seg_rule.specs.declared.view.Obstacle.{Obstacle}
use Rattle.seg_rule.specs.declared.view.Obstacle.TheVariants.{HeadMoved, TailMoved, Turned, ClosedCurrent, NotFree, NotPublished, IsCurrent, InChain, Unfinished, Observed}

module _ (read : List Obstacle) where
  -- two positions of the head, the second above the first
  abbrev pub HeadHasMoved : Type 0
  HeadHasMoved = (head later : ℕ) × (head < later) × Contains read (HeadMoved head later)

  -- two positions of an open tail, the second above the first
  abbrev pub TailHasMoved : Type 0
  TailHasMoved = (tail later : ℕ) × (tail < later) × Contains read (TailMoved tail later)

  -- after this, and last, the number of another caller was read in the turn word
  abbrev pub IsTurned : View → List Obstacle → Type 0
  IsTurned v before = (caller : ℕ) × (caller < v.callers) × (¬ HasNumber v.held caller) × (read ≡ before ++ Turned caller ∷ [])

  -- in the place read as current the tail was closed, or the slot of its open tail was not free for it
  abbrev pub CurrentIsFull : Type 0
  CurrentIsFull = ((place : ℕ) × Contains read (ClosedCurrent place)) ⊎ ((place tail number : ℕ) × (number ≢ 2 * tail) × Contains read (NotFree place tail number))

  -- in the place read as first the slot of the head was not published for it
  abbrev pub FirstIsBare : Type 0
  FirstIsBare = (place head number : ℕ) × (number ≢ 2 * head + 1) × Contains read (NotPublished place head number)

  -- A place is the current one, in the chain with an end above a head, has unfinished takes, or is observed. Of takes only the count
  -- that is done is told, and of observers none: the rule files these two only where they were read as too few, and as some.
  abbrev pub IsInUse : ℕ → Type 0
  IsInUse place = Contains read (IsCurrent place) ⊎ (((end head : ℕ) × (head < end) × Contains read (InChain place end head)) ⊎ (((done : ℕ) × Contains read (Unfinished place done)) ⊎ Contains read (Observed place)))

  -- each of so many places
  abbrev pub AreInUse : ℕ → Type 0
  AreInUse places = (place : ℕ) → place < places → IsInUse place
