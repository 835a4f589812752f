-- What the feeder and the crews leave, gathered joint by joint.
use Rattle.std.specs.Prelude.{◌≡◌, ℕ, ◌+◌, List, [], ◌∷◌, ◌++◌, Option, None, Some, true, map, sum_by}
use Rattle.atomic_table.specs.Seated.{TableId}
use Rattle.ho_base.specs.Marks.{number_of}
use Rattle.passes.specs.Calls.{Joins}
use Rattle.turn_lock.specs.Passes.{LockPass}
use Rattle.record_lang.specs.declared.outcomes.Outcome.{Outcome}
use Rattle.record_lang.specs.declared.reports.Dropped.{Dropped}
use Rattle.stage_pipeline.specs.declared.flow.Flow.{Flow}
use Rattle.stage_pipeline.specs.declared.kits.CrewEnd.{CrewEnd}
use Rattle.stage_pipeline.specs.declared.meeting.Side.{Side}
use Rattle.stage_pipeline.specs.declared.runs.Done.{Done}

-- each joint's two passes are of its table: the first joint's writers' pass is given, and each other's came back from a crew
abbrev pub AreEndsOf : List TableId → Option LockPass → List CrewEnd → Type 0
AreEndsOf [] None [] = Unit {0}
AreEndsOf (table ∷ tables) (Some write) (e ∷ ends) = (write.table ≡ table) × (e.read.table ≡ table) × AreEndsOf tables e.write ends
AreEndsOf _ _ _ = ⊥

-- each crew was whole, and each joint's two passes were joined, which made these
abbrev pub AreJoined : Option LockPass → List CrewEnd → List LockPass → Type 0
AreJoined None [] [] = Unit {0}
AreJoined (Some write) (e ∷ ends) (p ∷ passes) = (e.whole ≡ true) × Joins number_of write e.read p × AreJoined e.write ends passes
AreJoined _ _ _ = ⊥

-- the records of these numbers, dropped by a joint
abbrev pub dropped_by : ℕ → List ℕ → List Dropped
dropped_by joint numbers = map (λ n. record { number = n; joint = joint }) numbers

-- what the dropped records weigh, from this joint on, whose writers lost these numbers
abbrev pub weight_lost : ℕ → List ℕ → List CrewEnd → (Dropped → ℕ) → ℕ
weight_lost joint lost [] g = 0
weight_lost joint lost (e ∷ ends) g = sum_by g (dropped_by joint lost) + weight_lost (joint + 1) e.lost.items ends g

-- what the outcomes weigh that these crews left
abbrev pub weight_over : List CrewEnd → (Outcome → ℕ) → ℕ
weight_over ends k = sum_by (λ e. sum_by k e.over.items) ends

-- one joint is gathered, with the crew that read it; next is the writers' side of the joint behind
pub record GathersOne (joint : ℕ) (side : Side) (e : CrewEnd) (old new : Done) (next : Side) : Type 0 where
  pub is_whole : e.whole ≡ true
  pub writers : LockPass
  pub joined : LockPass
  pub there : side.write ≡ Some writers
  pub joins : Joins number_of writers e.read joined
  pub joints : new.joints.items ≡ old.joints.items ++ joined ∷ []
  pub outcomes : new.outcomes.items ≡ old.outcomes.items ++ e.over.items
  pub dropped : new.dropped.items ≡ old.dropped.items ++ dropped_by joint side.lost.items
  pub next_write : next.write ≡ e.write
  pub next_lost : next.lost.items ≡ e.lost.items

-- all is gathered, and all of it is whole
pub record Gathers (flow : Flow) (done : Done) : Type 0 where
  pub fed : flow.fed.whole ≡ true
  pub joints : AreJoined (Some flow.fed.write) flow.ends.items done.joints.items
  pub outcomes : (k : Outcome → ℕ) → sum_by k done.outcomes.items ≡ weight_over flow.ends.items k
  pub dropped : (g : Dropped → ℕ) → sum_by g done.dropped.items ≡ weight_lost 1 flow.fed.lost.items flow.ends.items g
