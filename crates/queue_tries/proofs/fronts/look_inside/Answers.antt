use Rattle.std.proofs.Common.{ap, [], ◌++◌}
use Rattle.seg_rule.specs.declared.view.Stage.TheVariants.{Away}
use Rattle.seg_rule.specs.Steps.{no_scan}
use Rattle.seg_rule.specs.Passes.{QueueView}
use Rattle.queue_tries.specs.Fronts.{headed}
use Rattle.queue_tries.proofs.Walks.{goes_on, goes_met, goes_quiet}
use Rattle.queue_tries.proofs.Fronting.{flight_after, flight_left}
use Rattle.queue_tries.proofs.fronts.look_inside.Goals as goal

pub returns-in-InFlight-clause-looked : goal.returns-in-InFlight-clause-looked
returns-in-InFlight-clause-looked c =
    let v = c.args.pass.now.view in
    let a = c.see_head-head.new.pass.view in
    let b = c.move_first-place.new.pass.view in
    let d = c.see_tail.new.pass.view in
    let e = c.see_inside-inside.new.pass.view in
    let moved = c.move_first-place.ensures.moved in
    let full = c.if-see_tail.ensures.seen in
    let before = goes_on v a b [] moved.read (goes_quiet v a (headed v c.see_head-head.result).notes v.stage c.see_head-head.ensures.read) (goes_met a b moved.read (record a.notes { scan = moved.scan }) a.stage moved.left) in
    flight_left v e c.turn_leave-2.new.pass.view (no_scan e.notes) Away (flight_after v d e (moved.read ++ full.read) (goes_on v b d moved.read full.read before full.goes) c.in-InFlight.ensures.seen)
    (ap (λ (z : QueueView). z.view) c.turn_leave-2.ensures)
