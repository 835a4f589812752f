use Rattle.std.proofs.Common.{rules}
use Rattle.queue_tries.proofs.Moving.{at_next, ends_before}
use Rattle.queue_tries.proofs.firsts.move_first.Goals as goal

pub moves-preserved : goal.moves-preserved
moves-preserved c = record {
  of = search rules;
  same = search rules;
  inside = search rules;
  at = at_next c.args.head c.moves.first c.look_current-current.result c.in-Some.next c.args.pass.now.view c.moves.pass.view c.step_first.new.pass.view c.moves.invariant.at c.in-Some.ensures.steps;
}

pub returns-in_default-clause-moved : goal.returns-in_default-clause-moved
returns-in_default-clause-moved c = ends_before c.args.head c.moves.first c.look_current-current.result c.args.pass.now.view c.moves.pass.view c.step_first.new.pass.view c.moves.invariant.at (search rules)
