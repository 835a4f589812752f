-- One end more, for one kit more.
use Rattle.std.proofs.Common.{rules, arith, length}
use Rattle.std.proofs.lemmas.List.Elements.{All-pop}
use Rattle.stage_pipeline.specs.Crews.{CrewEnds, IsKit}
use Rattle.stage_pipeline.proofs.EndsOfCrews.{adds_length, adds_push}
use Rattle.stage_pipeline.proofs.flow.+flow_in.Goals as goal

pub spawn_with-started-requires-clause-runs : goal.spawn_with-started-requires-clause-runs
spawn_with-started-requires-clause-runs g t c κs within =
    let stages = length c.args.pipeline.now.stages in
    let popped = All-pop (IsKit stages c.args.joints.now) _ _ _ c.pop.ensures.items c.requires.kits in
    let known : IsKit stages c.args.joints.now c.in-Some.kit = rw c.in-Some.is at popped.1 in
    search (rules, known)

pub flow_in-flow-requires-clause-kits : goal.flow_in-flow-requires-clause-kits
flow_in-flow-requires-clause-kits g t c κs within = (All-pop (IsKit (length c.args.pipeline.now.stages) c.args.joints.now) _ _ _ c.pop.ensures.items c.requires.kits).0

pub flow_in-flow-requires-in-Err-clause-kits : goal.flow_in-flow-requires-in-Err-clause-kits
flow_in-flow-requires-in-Err-clause-kits g t c κs within = (All-pop (IsKit (length c.args.pipeline.now.stages) c.args.joints.now) _ _ _ c.pop.ensures.items c.requires.kits).0

pub push_reserved-requires : goal.push_reserved-requires
push_reserved-requires g t c =
    let s = c.flow_in-flow in
    let ends = adds_length c.args.pipeline.now c.pop.new.self.items c.args.start.ends.items _ s.ensures.ends in
    omega (arith, ends, s.result.ends.ok, c.args.start.ends.ok, c.pop.new.self.ok, c.in-Some.ensures.len, s.ensures.room, c.requires.room)

pub push_reserved-requires-in-Err : goal.push_reserved-requires-in-Err
push_reserved-requires-in-Err g t c =
    let s = c.flow_in-flow-in-Err in
    let ends = adds_length c.args.pipeline.now c.pop.new.self.items c.args.start.ends.items _ s.ensures.ends in
    omega (arith, ends, s.result.ends.ok, c.args.start.ends.ok, c.pop.new.self.ok, c.in-Some.ensures.len, s.ensures.room, c.requires.room)

pub spawn_with-requires-after_bounds : goal.spawn_with-requires-after_bounds
spawn_with-requires-after_bounds g t c κs within =
    let stages = length c.args.pipeline.now.stages in
    let popped = All-pop (IsKit stages c.args.joints.now) _ _ _ c.pop.ensures.items c.requires.kits in
    let known : IsKit stages c.args.joints.now c.in-Some.kit = rw c.in-Some.is at popped.1 in
    rw c.in-Err.ensures.err known

-- the end is that of the crew which was started with this kit
pub returns-in-Ok-clause-ends : goal.returns-in-Ok-clause-ends
returns-in-Ok-clause-ends g t c =
    let end : CrewEnds c.args.pipeline.now c.in-Some.kit c.join.result = rw (c.in-Ok.ensures.ok, c.of.ensures) at c.join.ensures in
    adds_push c.args.pipeline.now c.pop.new.self.items c.args.start.kits.items c.args.start.ends.items c.flow_in-flow.result.ends.items c.push_reserved.new.self.items c.in-Some.kit c.join.result c.in-Some.ensures.items c.push_reserved.ensures.items c.flow_in-flow.ensures.ends end

pub returns-in-Err-clause-ends : goal.returns-in-Err-clause-ends
returns-in-Err-clause-ends g t c =
    let end : CrewEnds c.args.pipeline.now c.in-Some.kit c.spawn_with.result = rw c.in-Err.ensures.err at c.spawn_with.ensures in
    adds_push c.args.pipeline.now c.pop.new.self.items c.args.start.kits.items c.args.start.ends.items c.flow_in-flow-in-Err.result.ends.items c.push_reserved-in-Err.new.self.items c.in-Some.kit c.spawn_with.result c.in-Some.ensures.items c.push_reserved-in-Err.ensures.items c.flow_in-flow-in-Err.ensures.ends end
