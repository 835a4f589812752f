use Rattle.std.proofs.Common.{ℕ}
use Rattle.wait_loop.specs.Loops.{Polls}
use Rattle.wait_loop.proofs.loops.wait_out_without_token.Given as goal

abbrev pub invariant-loop : goal.invariant-loop
invariant-loop g l =
    (goal.iterator-loop g).can_next l.iterator' × (goal.iterator-loop g).is_finite l.iterator'
    × ((count : ℕ) × Polls g.K.Waits.awaits (g.K.Waits.pass l.fn.side) (g.K.Waits.pass l.side) l.number count)
