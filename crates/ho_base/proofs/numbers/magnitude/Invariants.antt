use Rattle.std.proofs.Common.{◌≡◌, ◌<◌, ◌^◌, take, length, true}
use Rattle.std.specs.Str.{all_ascii_digits}
use Rattle.std.specs.Str.Parse.{digits_value}
use Rattle.ho_base.proofs.numbers.magnitude.Given as goal

abbrev pub invariant-loop-digit : goal.invariant-loop-digit
invariant-loop-digit l = record { digits : all_ascii_digits (take l.digit-index l.digits) ≡ true; value : l.value ≡ digits_value 10 (take l.digit-index l.digits); fits : l.value < 2 ^ 64; some : 0 < length l.digits }
