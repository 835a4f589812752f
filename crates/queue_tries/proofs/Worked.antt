-- The first length that tests call with.
use Rattle.std.proofs.Common.{refl, IsTrue}
use Rattle.std.specs.Int.Count.{ones}
use Rattle.std.specs.Int.{is_power_of_two}

pub power_2 : IsTrue (is_power_of_two 2)
unfolding ones
power_2 = refl
