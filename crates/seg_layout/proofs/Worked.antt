-- The lengths that tests call with.
use Rattle.std.proofs.Common.{refl, IsTrue}
use Rattle.std.specs.Int.Count.{ones}
use Rattle.std.specs.Int.{is_power_of_two}

pub power_2 : IsTrue (is_power_of_two 2)
unfolding ones
power_2 = refl

pub power_4 : IsTrue (is_power_of_two 4)
unfolding ones
power_4 = refl

pub power_32 : IsTrue (is_power_of_two 32)
unfolding ones
power_32 = refl

pub power_64 : IsTrue (is_power_of_two 64)
unfolding ones
power_64 = refl

pub power_512 : IsTrue (is_power_of_two 512)
unfolding ones
power_512 = refl

pub power_1024 : IsTrue (is_power_of_two 1024)
unfolding ones
power_1024 = refl
