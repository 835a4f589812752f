use Rattle.std.proofs.Common.{◌<◌, All, arith}
use Rattle.drive_kit.specs.Calls.{kind_of}
use Rattle.drive_kit.specs.Checks.{AgreeBelow}
use Rattle.drive_kit.specs.Plans.{IsRowOf}
use Rattle.drive_kit.proofs.CheckLemmas.{all_agree}
use Rattle.drive_kit.proofs.check.first_lack.Goals as goal

pub returns : goal.returns
returns c =
    let of_object : All (IsRowOf (kind_of c.args.script.now.object)) c.args.script.now.rows = rw c.rows-rows.ensures.rows at c.rows-rows.ensures.of_object in
    let agree : AgreeBelow 64 c.args.script.now c.args.entries.now = λ caller lt. let below : caller < c.loop-caller.caller = omega (arith, lt) in rw c.rows-rows.ensures.rows at c.loop-caller.invariant caller below in
    all_agree (kind_of c.args.script.now.object) c.args.script.now c.args.entries.now of_object c.requires agree
