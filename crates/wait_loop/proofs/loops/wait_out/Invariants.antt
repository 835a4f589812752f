use Rattle.wait_loop.specs.Loops.{PollsUnset}
use Rattle.wait_loop.proofs.loops.wait_out.Given as goal

abbrev pub invariant-loop : goal.invariant-loop
invariant-loop g l =
    (goal.iterator-loop g).can_next l.iterator' × (goal.iterator-loop g).is_finite l.iterator'
    × PollsUnset g.K.Waits.awaits (g.K.Waits.pass l.fn.side) (g.K.Waits.pass l.side) l.number l.fn.token l.token
