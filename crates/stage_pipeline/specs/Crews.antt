-- What a crew and the feeder are started with, and what they leave.
use Rattle.std.specs.Prelude.{◌≡◌, ℕ, ◌+◌, ◌-◌, ◌<◌, ◌≤◌, List, [], ◌∷◌, ◌++◌, Bool, false, true, nat_eq, Option, None, Some, slice_get, sum_by}
use Rattle.atomic_table.specs.Seated.{TableId}
use Rattle.ho_base.specs.Marks.{Mark}
use Rattle.ho_model.specs.declared.marks.EntryMark.{EntryMark}
use Rattle.ho_model.specs.declared.marks.CallMark.TheVariants.{CompleteWith}
use Rattle.ho_model.specs.declared.marks.ReplyMark.TheVariants.{Flag}
use Rattle.ho_model.specs.Entries.{entry}
use Rattle.passes.specs.Numbers.{HasNumber, HoldsBelow, held_count}
use Rattle.passes.specs.Seen.{SeesEntry}
use Rattle.turn_lock.specs.Passes.{LockPass}
use Rattle.channel_core.specs.Marks.{fault_number}
use Rattle.channel_flow.specs.Items.{written_in, taken_in, given_back_in, weight}
use Rattle.channel_flow.specs.Ends.{is_begun, is_finished, is_closed, is_closed_with, is_completing}
use Rattle.record_lang.specs.Pipelines.{Meaning}
use Rattle.record_lang.specs.Records.{Row}
use Rattle.record_lang.specs.declared.outcomes.Outcome.{Outcome}
use Rattle.record_lang.specs.declared.pipelines.Stage.{Stage}
use Rattle.joint_reports.specs.Through.{says, weight_of_rows}
use Rattle.stage_pipeline.specs.Callers.{strays}
use Rattle.stage_pipeline.specs.Works.{KeepsPlace, WorksOff, counts, is_last, lost_by, weighs}
use Rattle.stage_pipeline.specs.declared.kits.Kit.{Kit}
use Rattle.stage_pipeline.specs.declared.kits.CrewEnd.{CrewEnd}
use Rattle.stage_pipeline.specs.declared.kits.Feed.{Feed}
use Rattle.stage_pipeline.specs.declared.kits.FeederEnd.{FeederEnd}

-- a pass of the joint at this index, with so many numbers, that has seen nothing
pub record IsNewAt (joints : List TableId) (index numbers : ℕ) (p : LockPass) : Type 0 where
  pub table : slice_get joints index ≡ Some p.table
  pub unused : p.seen ≡ []
  pub count : held_count p.held ≡ numbers
  pub below : HoldsBelow p.callers p.held
  pub few : p.callers ≤ 64
  pub own : HasNumber p.held p.caller

-- the same of a pass that is there or not
abbrev pub IsNewAtTo : List TableId → ℕ → ℕ → Option LockPass → Type 0
IsNewAtTo joints index numbers None = Unit {0}
IsNewAtTo joints index numbers (Some p) = IsNewAt joints index numbers p

-- A crew's passes are of its joint and of the next one, each with a number for each worker and one more. The last stage has no
-- next joint.
pub record IsKit (stages : ℕ) (joints : List TableId) (kit : Kit) : Type 0 where
  pub from : 1 ≤ kit.stage
  pub to : kit.stage ≤ stages
  pub some : 1 ≤ kit.workers
  pub most : kit.workers ≤ 16
  pub reads : IsNewAt joints (kit.stage - 1) (kit.workers + 1) kit.read
  pub writes : IsNewAtTo joints kit.stage (kit.workers + 1) kit.write
  pub last : is_last kit.write ≡ nat_eq kit.stage stages

-- a pass comes back: of the same object, and with as many numbers
pub record ComesBack (p q : LockPass) : Type 0 where
  pub table : q.table ≡ p.table
  pub object : q.object ≡ p.object
  pub callers : q.callers ≡ p.callers
  pub count : held_count q.held ≡ held_count p.held
  pub below : HoldsBelow q.callers q.held

abbrev pub ComesBackTo : Option LockPass → Option LockPass → Type 0
ComesBackTo None None = Unit {0}
ComesBackTo None (Some q) = ⊥
ComesBackTo (Some p) None = ⊥
ComesBackTo (Some p) (Some q) = ComesBack p q

-- the pass b completes its joint with this fault, which makes a; that is its last entry
pub record Completes (fault : ℕ) (b a : LockPass) : Type 0 where
  pub same : KeepsPlace b a
  pub own : HasNumber b.held b.caller
  pub front : List EntryMark
  pub set : Bool
  pub completes : SeesEntry b.held b.seen front (entry b.caller (CompleteWith fault) (Flag set)) a.seen

abbrev pub CompletesTo : ℕ → Option LockPass → Option LockPass → Type 0
CompletesTo fault None None = Unit {0}
CompletesTo fault None (Some a) = ⊥
CompletesTo fault (Some b) None = ⊥
CompletesTo fault (Some b) (Some a) = Completes fault b a

-- So many workers worked off what their joint gave, each up to its end. Then, and with the fault that they were told, the crew
-- completed the next joint.
pub record CrewWorks (does : Mark → Outcome) (workers : ℕ) (e : CrewEnd) : Type 0 where
  pub before : Option LockPass
  pub fault : ℕ
  pub works : WorksOff does e.read before e.over.items e.lost.items
  pub closed : counts is_closed e.read ≡ workers
  pub told : 0 < counts (is_closed_with fault) e.read
  pub completes : CompletesTo fault before e.write

-- what a crew leaves; where it found memory for all, it worked
pub record CrewEnds (pipeline : Meaning) (kit : Kit) (e : CrewEnd) : Type 0 where
  pub read : ComesBack kit.read e.read
  pub write : ComesBackTo kit.write e.write
  pub works : e.whole ≡ true → (what : Stage) → slice_get pipeline.stages (kit.stage - 1) ≡ Some what → CrewWorks (says what kit.stage) kit.workers e

abbrev pub EachCrewEnds : Meaning → List Kit → List CrewEnd → Type 0
EachCrewEnds pipeline [] [] = Unit {0}
EachCrewEnds pipeline [] (e ∷ es) = ⊥
EachCrewEnds pipeline (kit ∷ kits) [] = ⊥
EachCrewEnds pipeline (kit ∷ kits) (e ∷ es) = CrewEnds pipeline kit e × EachCrewEnds pipeline kits es

-- the ends of these kits' crews stand behind those that were there, in order of the kits
abbrev pub AddsCrewEnds : Meaning → List Kit → List CrewEnd → List CrewEnd → Type 0
AddsCrewEnds pipeline kits old new = (more : List CrewEnd) × (new ≡ old ++ more) × EachCrewEnds pipeline kits more

-- by this pass of the first joint these records were written, each once, and nothing else was done
pub record Feeds (fed : List Row) (p : LockPass) (lost : List ℕ) : Type 0 where
  pub writes : (h : Mark → ℕ) → weighs (weight h written_in) p ≡ weight_of_rows fed h
  pub loses : (g : ℕ → ℕ) → sum_by g lost ≡ weighs (lost_by g) p
  pub settled : counts is_begun p ≡ counts is_finished p
  pub quiet : (h : Mark → ℕ) → (weighs (weight h taken_in) p ≡ 0) × (weighs (weight h given_back_in) p ≡ 0)
  pub uncompleting : counts is_completing p ≡ 0
  pub untold : counts is_closed p ≡ 0
  pub alone : counts (strays false) p ≡ 0

-- the feeder fed these records, and then completed the first joint with this fault
pub record FeederWorks (fed : List Row) (fault : ℕ) (e : FeederEnd) : Type 0 where
  pub before : LockPass
  pub feeds : Feeds fed before e.lost.items
  pub completes : Completes fault before e.write

-- what the feeder leaves; where it found memory for all, it fed the records that it was given, and told their code
pub record FeederEnds (feed : Feed) (e : FeederEnd) : Type 0 where
  pub write : ComesBack feed.write e.write
  pub works : e.whole ≡ true → FeederWorks feed.fed.rows.items (fault_number feed.fed.code) e
