use Rattle.std.proofs.Common.{◌≡◌, ◌≤◌, ◌^◌, ◌+◌, take, arith, sym}
use Rattle.std.specs.Str.Parse.{digits_value}
use Rattle.std.proofs.lemmas.List.{take_all}
use Rattle.ho_base.proofs.NumberLemmas.{a_number, digits_more, no_digits, not_a_number, too_large, value_more}
use Rattle.ho_base.proofs.numbers.magnitude.Goals as goal

pub returns-then-not-is_ascii_digit : goal.returns-then-not-is_ascii_digit
returns-then-not-is_ascii_digit c = sym (not_a_number c.args.digits.now (no_digits c.args.digits.now c.loop-digit.digit-index c.loop-digit-test.true (sym c.if-not-is_ascii_digit.ensures.value)))

pub returns-in_default : goal.returns-in_default
returns-in_default c =
    let more = value_more c.args.digits.now c.loop-digit.digit-index c.loop-digit-test.true (sym c.if-not-is_ascii_digit.ensures.value) in
    let past : 2 ^ 64 ≤ digits_value 10 (take (c.loop-digit.digit-index + 1) c.args.digits.now) = omega (arith, more, c.in_default.ensures, c.loop-digit.invariant.value) in
    sym (too_large c.args.digits.now (c.loop-digit.digit-index + 1) past)

pub loop-digit-preserved : goal.loop-digit-preserved
loop-digit-preserved c =
    let is = sym c.if-not-is_ascii_digit.ensures.value in
    let more = value_more c.args.digits.now c.loop-digit.digit-index c.loop-digit-test.true is in
    record {
      digits = digits_more c.args.digits.now c.loop-digit.digit-index c.loop-digit-test.true c.loop-digit.invariant.digits is;
      value = omega (arith, more, c.in-Some.ensures, c.loop-digit.invariant.value);
      fits = grind (arith, c.in-Some.ensures);
      some = c.loop-digit.invariant.some;
    }

pub returns : goal.returns
returns c =
    let all : take c.loop-digit.digit-index c.args.digits.now ≡ c.args.digits.now = take_all c.loop-digit.digit-index c.args.digits.now (omega arith) in
    let digits = rw all at c.loop-digit.invariant.digits in
    let value = rw all at c.loop-digit.invariant.value in
    sym (a_number c.args.digits.now c.loop-digit.value c.loop-digit.invariant.some digits value c.loop-digit.invariant.fits)
