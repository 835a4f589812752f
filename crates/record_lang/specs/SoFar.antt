-- What the lines of a text say so far.
use Rattle.std.specs.Prelude.{◌≡◌, ◌≤◌, List, All, length, Option}
use Rattle.std.specs.Option.{ForSome}
use Rattle.record_lang.specs.Pipelines.{IsBuildable}
use Rattle.record_lang.specs.declared.pipelines.Guard.{Guard}
use Rattle.record_lang.specs.declared.pipelines.Joint.{Joint}
use Rattle.record_lang.specs.declared.pipelines.Stage.{Stage}

-- the stages, the joint that feeds each, the guard if there is one, and a joint that no stage follows yet
pub record SoFar : Type 0 where
  pub stages : List Stage
  pub joints : List Joint
  pub guard : Option Guard
  pub loose : Option Joint

-- each stage has a joint that can be built
pub record IsFed (stages : List Stage) (joints : List Joint) (loose : Option Joint) : Type 0 where
  pub few : length stages ≤ 8
  pub fed : length joints ≡ length stages
  pub buildable : All IsBuildable joints
  pub next : ForSome loose IsBuildable
