use Rattle.std.proofs.Common.{[], true}
use Rattle.std.specs.Prelude.{Some}
use Rattle.seg_rule.specs.declared.view.Notes.{Notes}
use Rattle.seg_rule.specs.declared.view.Stage.TheVariants.{Closed}
use Rattle.seg_rule.specs.Steps.{no_scan}
use Rattle.queue_tries.specs.Growth.{ended_tail}
use Rattle.queue_tries.proofs.Walks.{goes_quiet}
use Rattle.queue_tries.proofs.Enqueuing.{turned_after}
use Rattle.queue_tries.proofs.enqueues.enqueue_next.Goals as goal

pub returns-clause-told : goal.returns-clause-told
returns-clause-told c =
    let v = c.args.pass.now.view in let w = c.close_tail.new.pass.view in
    let notes : Notes = record (no_scan v.notes) { tail = Some (ended_tail c.args.place c.args.tail c.args.length c.in-Some.number) } in
    turned_after v w c.put_next.new.pass.view [] (goes_quiet v w notes (Closed c.args.place c.args.tail true) c.in-Some.ensures.told) c.args.value c.put_next.result c.put_next.ensures.told
