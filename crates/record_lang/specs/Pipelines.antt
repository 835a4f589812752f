-- What a pipeline's text means.
use Rattle.std.specs.Prelude.{◌≡◌, ◌≤◌, ℕ, List, Option, length, ⊤, All}
use Rattle.record_lang.specs.declared.pipelines.Guard.{Guard}
use Rattle.record_lang.specs.declared.pipelines.Joint.{Joint}
use Rattle.record_lang.specs.declared.pipelines.Joint.TheVariants.{Wait, DropNewest, DropOldest, DropWrite, Unbounded}
use Rattle.record_lang.specs.declared.pipelines.Stage.{Stage}

-- the stages in order, the joint that feeds each, and the guard if there is one
pub record Meaning : Type 0 where
  pub stages : List Stage
  pub joints : List Joint
  pub guard : Option Guard

-- a capacity that a joint may have
pub record IsCapacity (capacity : ℕ) : Type 0 where
  pub least : 1 ≤ capacity
  pub most : capacity ≤ 65536

abbrev pub IsBuildable : Joint → Type 0
IsBuildable (Wait capacity) = IsCapacity capacity
IsBuildable (DropNewest capacity) = IsCapacity capacity
IsBuildable (DropOldest capacity) = IsCapacity capacity
IsBuildable (DropWrite capacity) = IsCapacity capacity
IsBuildable Unbounded = ⊤

-- one to eight stages, each with a joint that can be built
pub record HasJoints (stages : List Stage) (joints : List Joint) : Type 0 where
  pub some : 1 ≤ length stages
  pub few : length stages ≤ 8
  pub fed : length joints ≡ length stages
  pub buildable : All IsBuildable joints
