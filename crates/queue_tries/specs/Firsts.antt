-- How the holder of the turn moves first on: v is the view before, and w after.
use Rattle.std.specs.Prelude.{◌≡◌, ◌≢◌, ℕ, suc, ◌-◌, ◌<◌, ◌≤◌, List, Option, None, Some, true, Contains, IfSome}
use Rattle.seg_rule.specs.declared.view.View.{View}
use Rattle.seg_rule.specs.declared.view.Scan.{Scan}
use Rattle.seg_rule.specs.declared.view.Candidate.{Candidate}
use Rattle.seg_rule.specs.declared.view.Obstacle.{Obstacle}
use Rattle.seg_rule.specs.declared.view.Obstacle.TheVariants.{IsCurrent}
use Rattle.seg_rule.specs.Loads.{has_closed, closed_scan}
use Rattle.queue_tries.specs.Walks.{scanned}

-- First was moved past this head, or up to the current place.
pub record MovesFirst (v : View) (head first : ℕ) (w : View) : Type 0 where
  pub read : List Obstacle
  pub scan : Scan
  pub current : ℕ
  pub left : w ≡ scanned v read scan
  pub first_is : scan.first ≡ Some first
  pub current_is : scan.current ≡ Some current
  pub past : scan.past ≡ Some head
  pub inside : first ≢ current → scan.inside ≡ Some head
  pub met : has_closed v.stage ≡ true → Contains read (IsCurrent current)

-- on the way: the first place and the current one were read
pub record IsAtFirst (v : View) (head first current : ℕ) (w : View) : Type 0 where
  pub read : List Obstacle
  pub scan : Scan
  pub left : w ≡ scanned v read scan
  pub first_is : scan.first ≡ Some first
  pub current_is : scan.current ≡ Some current
  pub past : first ≡ current → scan.past ≡ Some head
  pub met : has_closed v.stage ≡ true → Contains read (IsCurrent current)

-- the closed tail of the first place was read, which is not the current one
pub record LooksAtEnd (v : View) (first end : ℕ) (w : View) : Type 0 where
  pub read : List Obstacle
  pub left : w ≡ scanned v read (closed_scan first end v.notes.head v.notes.scan)
  pub beyond : IfSome v.notes.scan.moved (λ m. m < end)

-- the closed tail of the first place is at the head or below
abbrev pub HasEnded : View → ℕ → Type 0
HasEnded v first = (c : Candidate) × (h : ℕ) × (v.notes.scan.candidate ≡ Some c) × (v.notes.head ≡ Some h) × (c.place ≡ first) × (c.end ≤ h)

-- an upper bound of how often first can be moved on still: each end that it is moved past is above the one before
abbrev pub moves_left : ℕ → Option ℕ → ℕ
moves_left head None = suc head
moves_left head (Some m) = head - m

-- the first segment ends above the head
pub record StaysFirst (v : View) (head first current : ℕ) (w : View) : Type 0 where
  pub read : List Obstacle
  pub scan : Scan
  pub left : w ≡ scanned v read scan
  pub first_is : scan.first ≡ Some first
  pub current_is : scan.current ≡ Some current
  pub past : scan.past ≡ Some head
  pub inside : scan.inside ≡ Some head

-- the next place is first
pub record PassesFirst (v : View) (head next current : ℕ) (w : View) : Type 0 where
  pub read : List Obstacle
  pub scan : Scan
  pub left : w ≡ scanned v read scan
  pub first_is : scan.first ≡ Some next
  pub current_is : scan.current ≡ Some current
  pub past : next ≡ current → scan.past ≡ Some head
  pub fewer : moves_left head scan.moved < moves_left head v.notes.scan.moved

abbrev pub StepsFirst : View → ℕ → ℕ → ℕ → Option ℕ → View → Type 0
StepsFirst v head first current None w = StaysFirst v head first current w
StepsFirst v head first current (Some next) w = PassesFirst v head next current w
