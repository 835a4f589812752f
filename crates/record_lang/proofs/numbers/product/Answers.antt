use Rattle.std.proofs.Common.{FitsSigned, ◌*ℤ◌, w64, rules}
use Rattle.std.specs.Prelude.{SomeIff}
use Rattle.record_lang.proofs.NumberLemmas.{fits_or_not}
use Rattle.record_lang.proofs.numbers.product.Goals as goal

pub returns : goal.returns
returns c =
    let product : SomeIff c.checked_mul.result (FitsSigned w64 (c.args.left *ℤ c.args.right)) (c.args.left *ℤ c.args.right) = search rules in
    fits_or_not c.checked_mul.result (c.args.left *ℤ c.args.right) product
