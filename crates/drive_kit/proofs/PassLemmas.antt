-- What calls, a split and a join leave of a pass, the obstacles left out.
use Rattle.std.proofs.Common.{ap}
use Rattle.passes.specs.Views.{PassView}
use Rattle.passes.specs.Calls.{AddsNoEntry, IsSamePass, Splits, Joins}
use Rattle.ho_base.specs.Marks.{number_priority}
use Rattle.drive_kit.specs.Playing.{without_obstacles}

module _ {O : Type 0} (p q : PassView O) where
  pub same_without : IsSamePass p q → IsSamePass (without_obstacles p) (without_obstacles q)
  same_without s = record { table = s.table; object = s.object; callers = s.callers; caller = s.caller; held = s.held; own = s.own }

  pub none_without : AddsNoEntry number_priority p q → AddsNoEntry number_priority (without_obstacles p) (without_obstacles q)
  none_without a = record { seen = a.seen; lawful = a.lawful }

  pub splits_without : (other : PassView O) → Splits p q other → Splits (without_obstacles p) (without_obstacles q) (without_obstacles other)
  splits_without other s = record { kept = ap without_obstacles s.kept; given = ap without_obstacles s.given; spare = s.spare; least = s.least }

pub joins_without : {O : Type 0} (p other q : PassView O) → Joins number_priority p other q → Joins number_priority (without_obstacles p) (without_obstacles other) (without_obstacles q)
joins_without p other q j = record { joined = ap without_obstacles j.joined; apart = j.apart; first = j.first; second = j.second; lawful = j.lawful }
