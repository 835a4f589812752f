use Rattle.queue_tries.specs.Tries.{IsIdle}
use Rattle.queue_tries.specs.Lasting.{TriesOn}
use Rattle.queue_tries.proofs.lasting.dequeue.Given as goal

abbrev pub invariant-loop : goal.invariant-loop
invariant-loop g l = IsIdle l.table l.pass × TriesOn l.initial.pass l.pass
