use Rattle.std.proofs.Common.{rules, ◌<◌, length, true, false, [], ◌∷◌, arith, get_or}
use Rattle.blocking_collection.specs.Own.{Did, asked}
use Rattle.blocking_collection.specs.Several.{still_open}
use Rattle.blocking_collection.proofs.Doing.{did_step}
use Rattle.blocking_collection.proofs.Places.{round_at, round_on, round_start, round_end}
use Rattle.blocking_collection.proofs.any_add.first_closed.Goals as goal

pub loop-i-init : goal.loop-i-init
loop-i-init g c = round_start g.T.Item.priority_of c.args.passes.now still_open

pub returns-then-is_adding_completed : goal.returns-then-is_adding_completed
returns-then-is_adding_completed g c =
    let pr = g.T.Item.priority_of in
    let lt : c.loop-i.i < length c.args.passes.now = omega (arith, c.loop-i-test.true, c.requires.size) in
    let did : Did pr (get_or c.loop-i.passes c.loop-i.i c.index-passes-i.result) (asked true ∷ []) c.is_adding_completed.new.pass = did_step pr _ _ _ _ c.if-is_adding_completed.ensures.pass c.if-is_adding_completed.ensures.asked in
    (lt, round_at pr _ _ _ c.index-passes-i.result _ _ (asked true ∷ []) c.loop-i.invariant lt did)

pub loop-i-preserved : goal.loop-i-preserved
loop-i-preserved g c =
    let pr = g.T.Item.priority_of in
    let lt : c.loop-i.i < length c.args.passes.now = omega (arith, c.loop-i-test.true, c.requires.size) in
    let did : Did pr (get_or c.loop-i.passes c.loop-i.i c.index-passes-i.result) (asked false ∷ []) c.is_adding_completed.new.pass = did_step pr _ _ _ _ c.if-is_adding_completed.ensures.pass c.if-is_adding_completed.ensures.asked in
    round_on pr _ _ _ c.index-passes-i.result _ still_open c.loop-i.invariant lt did

pub returns : goal.returns
returns g c = round_end g.T.Item.priority_of _ _ c.loop-i.i still_open (search rules) c.loop-i.invariant
