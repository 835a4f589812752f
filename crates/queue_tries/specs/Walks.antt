-- How one try goes on: v is the view of the pass before, and w after.
use Rattle.std.specs.Prelude.{◌≡◌, ℕ, ◌++◌, List, None, true, false}
use Rattle.ho_base.specs.Marks.{number_priority}
use Rattle.ho_model.specs.declared.marks.EntryMark.{EntryMark}
use Rattle.ho_model.specs.declared.marks.Tally.{Tally}
use Rattle.ho_model.specs.Tallies.{tally_of}
use Rattle.passes.specs.Numbers.{raised}
use Rattle.passes.specs.Seen.{SeesEntry, IsLawful}
use Rattle.seg_rule.specs.declared.view.View.{View}
use Rattle.seg_rule.specs.declared.view.Obstacle.{Obstacle}
use Rattle.seg_rule.specs.declared.view.Scan.{Scan}
use Rattle.seg_rule.specs.declared.view.Hand.TheVariants.{Nothing}
use Rattle.seg_rule.specs.declared.view.Stage.TheVariants.{Away}
use Rattle.seg_rule.specs.Steps.{count_made}

-- the counts once the entry of this call is made, or were it made now
abbrev pub counted : View → List ℕ
counted v = count_made v.paid v.made v.caller

-- What no step changes but the turn's and an entry, and what was read of others.
pub record Keeps (v w : View) (read : List Obstacle) : Type 0 where
  pub object : w.object ≡ v.object
  pub callers : w.callers ≡ v.callers
  pub caller : w.caller ≡ v.caller
  pub held : w.held ≡ v.held
  pub seen : w.seen ≡ v.seen
  pub made : w.made ≡ v.made
  pub joint : w.joint ≡ v.joint
  pub window : w.window ≡ v.window
  pub met : w.met ≡ v.met ++ read

-- steps within a call that has made no entry, from the point v of it
pub record GoesOn (v w : View) (read : List Obstacle) : Type 0 where
  pub keeps : Keeps v w read
  pub hand : w.hand ≡ v.hand
  pub paid : w.paid ≡ v.paid

-- The same from the beginning of the call, where v is at rest. What it had seen is legal.
pub record Walks (v w : View) (read : List Obstacle) : Type 0 where
  pub object : w.object ≡ v.object
  pub callers : w.callers ≡ v.callers
  pub caller : w.caller ≡ v.caller
  pub held : w.held ≡ v.held
  pub seen : w.seen ≡ v.seen
  pub joint : w.joint ≡ None
  pub hand : w.hand ≡ Nothing
  pub window : w.window ≡ None
  pub met : w.met ≡ v.met ++ read
  pub counts : counted w ≡ raised v.made v.caller
  pub lawful : IsLawful number_priority v.object v.callers v.seen

-- without the turn, which it did not have
pub record WalksFree (v w : View) (read : List Obstacle) : Type 0 where
  pub walks : Walks v w read
  pub away : w.stage ≡ Away
  pub unpaid : w.paid ≡ false
  pub made : w.made ≡ v.made

-- since it took the turn
pub record WalksPaid (v w : View) (read : List Obstacle) : Type 0 where
  pub walks : Walks v w read
  pub paid : w.paid ≡ true
  pub made : w.made ≡ raised v.made v.caller

-- From the point v of a call the try made its entry, and has nothing left to do but to give back what it has in hand and the turn.
pub record Made (v : View) (e : EntryMark) (counts : Tally → Type 0) (w : View) : Type 0 where
  pub object : w.object ≡ v.object
  pub callers : w.callers ≡ v.callers
  pub caller : w.caller ≡ v.caller
  pub held : w.held ≡ v.held
  pub joint : w.joint ≡ None
  pub window : w.window ≡ v.window
  pub made : w.made ≡ counted v
  pub before : List EntryMark
  pub seen : SeesEntry v.held v.seen before e w.seen
  pub lawful : IsLawful number_priority v.object v.callers w.seen
  pub tally : counts (tally_of before)
  pub read : List Obstacle
  pub met : w.met ≡ v.met ++ read

-- Only what was read of the chain and what was met changed.
abbrev pub scanned : View → List Obstacle → Scan → View
scanned v read scan = record v { met = v.met ++ read; notes = record v.notes { scan = scan } }
