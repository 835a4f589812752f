use Rattle.std.proofs.Common.{rules, ◌<◌, length, [], ◌∷◌, arith, get_or, refl}
use Rattle.ho_model.specs.declared.marks.ReplyMark.TheVariants.{Done, Full, Closed}
use Rattle.blocking_collection.specs.Own.{Did, added, unpaid_add}
use Rattle.blocking_collection.specs.Several.{full}
use Rattle.blocking_collection.proofs.Doing.{did_step, did_keep}
use Rattle.blocking_collection.proofs.Places.{round_at, round_on, round_start, round_end}
use Rattle.blocking_collection.proofs.any_add.add_first.Goals as goal

pub loop-i-init : goal.loop-i-init
loop-i-init g c = (refl, round_start g.T.Item.priority_of c.args.passes.now (full (g.T.Item.mark c.args.item)))

pub returns-in-Ok-Done : goal.returns-in-Ok-Done
returns-in-Ok-Done g c =
    let pr = g.T.Item.priority_of in
    let lt : c.loop-i.i < length c.args.passes.now = omega (arith, c.loop-i-test.true, c.requires.size) in
    let m = g.T.Item.mark c.args.item in
    let did : Did pr (get_or c.loop-i.passes c.loop-i.i c.index-passes-i.result) (added m Done ∷ []) c.try_add.new.pass =
    did_step pr _ _ _ _ c.try_add.ensures.pass (rw (c.in-Ok-Done.field-0-is, c.loop-i.invariant.0) at c.in-Ok-Done.ensures.added) in
    (lt, round_at pr _ _ _ c.index-passes-i.result _ (full m) (added m Done ∷ []) c.loop-i.invariant.1 lt did)

pub returns-in-Ok-Closed : goal.returns-in-Ok-Closed
returns-in-Ok-Closed g c =
    let pr = g.T.Item.priority_of in
    let lt : c.loop-i.i < length c.args.passes.now = omega (arith, c.loop-i-test.true, c.requires.size) in
    let m = g.T.Item.mark c.args.item in
    let one = rw (c.in-Ok-Closed.field-0-is, c.loop-i.invariant.0) at c.in-Ok-Closed.ensures.added in
    let did : Did pr (get_or c.loop-i.passes c.loop-i.i c.index-passes-i.result) (added m Closed ∷ []) c.try_add.new.pass = did_step pr _ _ _ _ c.try_add.ensures.pass one.1 in
    (one.0, lt, round_at pr _ _ _ c.index-passes-i.result _ (full m) (added m Closed ∷ []) c.loop-i.invariant.1 lt did)

pub returns-in-Err : goal.returns-in-Err
returns-in-Err g c =
    let pr = g.T.Item.priority_of in
    let lt : c.loop-i.i < length c.args.passes.now = omega (arith, c.loop-i-test.true, c.requires.size) in
    let m = g.T.Item.mark c.args.item in
    let last = unpaid_add m ∷ [] in
    let back = rw c.loop-i.invariant.0 at c.in-Err.ensures.added in
    let did : Did pr (get_or c.loop-i.passes c.loop-i.i c.index-passes-i.result) last c.try_add.new.pass =
    did_keep pr _ _ _ c.try_add.ensures.pass back.1 in
    (back.0, c.loop-i.i, lt, round_at pr _ _ _ c.index-passes-i.result _ (full m) last c.loop-i.invariant.1 lt did)

pub loop-i-preserved : goal.loop-i-preserved
loop-i-preserved g c =
    let pr = g.T.Item.priority_of in
    let lt : c.loop-i.i < length c.args.passes.now = omega (arith, c.loop-i-test.true, c.requires.size) in
    let m = g.T.Item.mark c.args.item in
    let one = rw (c.in-Ok-Full.field-0-is, c.loop-i.invariant.0) at c.in-Ok-Full.ensures.added in
    let did : Did pr (get_or c.loop-i.passes c.loop-i.i c.index-passes-i.result) (added m Full ∷ []) c.try_add.new.pass = did_step pr _ _ _ _ c.try_add.ensures.pass one.1 in
    (one.0, round_on pr _ _ _ c.index-passes-i.result _ (full m) c.loop-i.invariant.1 lt did)

pub returns : goal.returns
returns g c = (c.loop-i.invariant.0, round_end g.T.Item.priority_of _ _ c.loop-i.i (full (g.T.Item.mark c.args.item)) (search rules) c.loop-i.invariant.1)
