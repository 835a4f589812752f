-- Worked flows: records by hand, the stages and joints that they meet, and the numbers that each joint drops.
use Rattle.std.specs.Prelude.{ℕ, pos, List, [], ◌∷◌, Some, None, codes}
use Rattle.record_lang.specs.Guards.{fed_rows}
use Rattle.record_lang.specs.Pipelines.{Meaning}
use Rattle.record_lang.specs.Records.{Row}
use Rattle.record_lang.specs.declared.pipelines.Joint.TheVariants as joint
use Rattle.record_lang.specs.declared.pipelines.Relation.TheVariants as rel
use Rattle.record_lang.specs.declared.pipelines.Stage.TheVariants as stage
use Rattle.record_lang.specs.declared.reports.Dropped.{Dropped}

-- a record of one field, and one of two equal fields
abbrev pub one : ℕ → List ℕ → Row
one number field = record { number = number; fields = field ∷ [] }

abbrev pub two : ℕ → List ℕ → Row
two number field = record { number = number; fields = field ∷ field ∷ [] }

abbrev pub lost : ℕ → ℕ → Dropped
lost number joint = record { number = number; joint = joint }

-- Stage 1 adds 5, so "x" is refused there as no number. Stage 2 keeps what is 10 at least. Joint 2 may drop, and drops record 3.
abbrev pub adding : Meaning
adding = record {
  stages = stage.Add 0 (pos 5) ∷ stage.Keep 0 rel.AtLeast (pos 10) ∷ [];
  joints = joint.Wait 16 ∷ joint.DropWrite 2 ∷ [];
  guard = None;
}

abbrev pub adding_rows : List Row
adding_rows = one 0 (codes "12") ∷ one 1 (codes "2") ∷ one 2 (codes "x") ∷ one 3 (codes "30") ∷ []

abbrev pub adding_drops : List (List ℕ)
adding_drops = [] ∷ (3 ∷ []) ∷ []

-- the same stages between joints that drop nothing
abbrev pub waiting : Meaning
waiting = record adding { joints = joint.Wait 16 ∷ joint.Unbounded ∷ [] }

abbrev pub waiting_drops : List (List ℕ)
waiting_drops = [] ∷ [] ∷ []

-- Stage 1 keeps what is 10 at least, and stage 2 writes it twice. Feeding stops at record 5. Joint 1 drops record 3, and joint 2
-- drops record 4 before record 0.
abbrev pub keeping : Meaning
keeping = record {
  stages = stage.Keep 0 rel.AtLeast (pos 10) ∷ stage.Copy 0 ∷ [];
  joints = joint.DropOldest 2 ∷ joint.DropNewest 1 ∷ [];
  guard = Some (record { field = 0; text = codes "stop"; code = 7 });
}

abbrev pub keeping_rows : List Row
keeping_rows = one 0 (codes "11") ∷ one 1 (codes "12") ∷ one 2 (codes "3") ∷ one 3 (codes "13") ∷ one 4 (codes "14") ∷ one 5 (codes "stop") ∷ one 6 (codes "15") ∷ []

abbrev pub keeping_fed : List Row
keeping_fed = fed_rows keeping.guard keeping_rows

abbrev pub keeping_drops : List (List ℕ)
keeping_drops = (3 ∷ []) ∷ (4 ∷ 0 ∷ []) ∷ []
