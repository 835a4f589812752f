use Rattle.std.proofs.Common.{List, Some, subst, sym}
use Rattle.std.proofs.lemmas.Result.{IfOk-weaker}
use Rattle.atomic_table.specs.Seated.{TableId}
use Rattle.record_lang.specs.Records.{Row}
use Rattle.stage_pipeline.specs.Gathered.{AreEndsOf, Gathers}
use Rattle.stage_pipeline.specs.Meetings.{HandsOn}
use Rattle.stage_pipeline.specs.Tellings.{AreFed}
use Rattle.stage_pipeline.specs.declared.runs.Done.{Done}
use Rattle.stage_pipeline.proofs.Handing.{run_gathers, run_hands_on}
use Rattle.stage_pipeline.proofs.runs.run_all.Goals as goal

pub gather-requires-clause-ends : goal.gather-requires-clause-ends
gather-requires-clause-ends g c =
    let s = c.in_ok-joints.field-0 in
    let flow = c.flow_all-flow.result in
    let ends = run_gathers c.args.pipeline.now c.args.fed c.args.workers s c.in_ok-ends.ends.items flow c.in_ok-ends.ensures.items c.in_ok-joints.ensures c.flow_all-flow.ensures.ends c.flow_all-flow.ensures.fed in
    subst (λ (ts : List TableId). AreEndsOf ts (Some flow.fed.write) flow.ends.items) (sym c.deref-2.ensures.value) ends

pub returns : goal.returns
returns g c =
    let s = c.in_ok-joints.field-0 in
    let flow = c.flow_all-flow.result in
    IfOk-weaker c.gather.result (Gathers flow) (λ (done : Done). (rows : List Row) → AreFed c.args.pipeline.now rows c.args.fed → HandsOn c.args.pipeline.now rows c.args.workers done)
    (λ done h rows fed. run_hands_on c.args.pipeline.now c.args.fed c.args.workers s c.in_ok-ends.ends.items flow c.in_ok-ends.ensures.items c.in_ok-joints.ensures c.flow_all-flow.ensures.ends c.flow_all-flow.ensures.fed rows done c.tell_built.ensures fed h)
    c.gather.ensures
