use Rattle.passes.proofs.Calls.{same_on}
use Rattle.wait_loop.proofs.Own.{unset_start, unset_on, unset_end}
use Rattle.wait_loop.proofs.loops.wait_out.Goals as goal

pub loop-init : goal.loop-init
loop-init g c = (tt, tt, unset_start g.K.Waits.awaits _ c.args.number _ c.requires)

pub loop-preserved : goal.loop-preserved
loop-preserved g c =
    let last = c.in_default.ensures in
    (tt, tt, unset_on g.K.Waits.awaits g.K.Waits.priority _ _ _ c.args.number _ _ _ c.loop.invariant.2 last.same last.looked last.for_good last.unset last.stands last.stays_open)

pub returns-in-Some-turn : goal.returns-in-Some-turn
returns-in-Some-turn g c =
    let last = c.in-Some-turn.ensures in
    let before = c.loop.invariant.2 in
    record {
      same = same_on _ _ _ before.polls.same last.same;
      ended = unset_end g.K.Waits.awaits g.K.Waits.priority _ _ _ c.args.number _ _ _ before last.same last.looked last.for_good g.K.Waits.answers g.K.Waits.gives_up _ last.ended last.end;
    }
