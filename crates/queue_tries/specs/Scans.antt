-- How the holder of the turn, with the tail closed, looks for a free place: v is the view before, and w after.
use Rattle.std.specs.Prelude.{◌≡◌, ◌≢◌, ℕ, List, Option, None, Some, Bool, true, false, Contains}
use Rattle.seg_rule.specs.declared.view.View.{View}
use Rattle.seg_rule.specs.declared.view.Scan.{Scan}
use Rattle.seg_rule.specs.declared.view.Stage.{Stage}
use Rattle.seg_rule.specs.declared.view.Stage.TheVariants.{Closed, Found}
use Rattle.seg_rule.specs.declared.view.Candidate.{Candidate}
use Rattle.seg_rule.specs.declared.view.Obstacle.{Obstacle}
use Rattle.seg_rule.specs.declared.view.Obstacle.TheVariants.{IsCurrent}
use Rattle.queue_tries.specs.Causes.{IsInUse, AreInUse}
use Rattle.queue_tries.specs.Walks.{scanned}

-- it closed the tail of a full segment
abbrev pub HasClosedFull : Stage → Type 0
HasClosedFull s = (q t : ℕ) × (s ≡ Closed q t true)

-- the current place was read, and first was moved past this head
pub record IsPastHead (v : View) (current head : ℕ) : Type 0 where
  pub head_is : v.notes.head ≡ Some head
  pub current_is : v.notes.scan.current ≡ Some current
  pub past : v.notes.scan.past ≡ Some head

abbrev pub candidate : ℕ → ℕ → Option ℕ → Bool → Candidate
candidate place end start spent = record { place = place; end = end; start = start; spent = spent }

-- a place that is in use, where it is not the current one
pub record PassesPlace (v : View) (current head place : ℕ) (w : View) : Type 0 where
  pub read : List Obstacle
  pub scan : Scan
  pub left : w ≡ scanned v read scan
  pub current_is : scan.current ≡ Some current
  pub past : scan.past ≡ Some head
  pub in_use : place ≢ current → IsInUse read place

-- its closed tail is at the head or below
pub record LooksAtPlace (v : View) (current head place end : ℕ) (start : Option ℕ) (spent : Bool) (w : View) : Type 0 where
  pub scan : Scan
  pub left : w ≡ record v { notes = record v.notes { scan = scan } }
  pub current_is : scan.current ≡ Some current
  pub past : scan.past ≡ Some head
  pub candidate_is : scan.candidate ≡ Some (candidate place end start spent)

abbrev pub found_stage : ℕ → Stage → Stage
found_stage p (Closed q t full) = Found q t p
found_stage p s = s

-- a free place
pub record FindsPlace (v : View) (place : ℕ) (w : View) : Type 0 where
  pub read : List Obstacle
  pub scan : Scan
  pub left : w ≡ record (scanned v read scan) { stage = found_stage place v.stage }

abbrev pub TriesPlace : View → ℕ → ℕ → ℕ → Bool → View → Type 0
TriesPlace v current head place true w = FindsPlace v place w
TriesPlace v current head place false w = PassesPlace v current head place w

-- each place below this number is in use
pub record HasScanned (v : View) (current head count : ℕ) (w : View) : Type 0 where
  pub read : List Obstacle
  pub scan : Scan
  pub left : w ≡ scanned v read scan
  pub current_is : scan.current ≡ Some current
  pub past : scan.past ≡ Some head
  pub met : Contains read (IsCurrent current)
  pub in_use : AreInUse read count

-- a free place, or so many are all in use
abbrev pub Searches : View → ℕ → Option ℕ → View → Type 0
Searches v places (Some place) w = FindsPlace v place w
Searches v places None w = (read : List Obstacle) × (scan : Scan) × (w ≡ scanned v read scan) × AreInUse read places
