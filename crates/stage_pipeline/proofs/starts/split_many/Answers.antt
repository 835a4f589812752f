use Rattle.std.proofs.Common.{◌≡◌, ◌+◌, ◌-◌, arith}
use Rattle.passes.specs.Numbers.{held_count}
use Rattle.stage_pipeline.proofs.Starting.{joins_new, splits_new}
use Rattle.stage_pipeline.proofs.starts.split_many.Goals as goal

pub loop-init : goal.loop-init
loop-init c =
    let p = c.args.pass.now in
    let m = held_count p.held in
    let is : (m - 1) + 1 ≡ m = (let a = c.requires.spare in omega (arith, a)) in
    splits_new c.args.channel.now p.object p.callers m (m - 1) p c.split-others.new.pass c.split-others.result c.requires.few is c.split-others.ensures c.requires.new

pub loop-preserved : goal.loop-preserved
loop-preserved c =
    let p = c.args.pass.now in
    let at = c.loop in
    let m = held_count p.held - at.counter in
    let n = held_count p.held - (at.counter + 1) in
    let is : n + 1 ≡ m = (let a = c.requires.spare in let b = c.loop-test.true in omega (arith, a, b)) in
    let both = splits_new c.args.channel.now p.object p.callers m n at.pass c.split-other.new.pass c.split-other.result c.requires.few is c.split-other.ensures at.invariant.0 in
    (both.0, joins_new c.args.channel.now p.object p.callers _ at.counter 1 at.others c.split-other.result c.join.new.pass c.join.ensures at.invariant.1 both.1)
