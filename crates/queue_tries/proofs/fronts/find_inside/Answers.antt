use Rattle.queue_tries.proofs.Searching.{lost_after}
use Rattle.queue_tries.proofs.fronts.find_inside.Goals as goal

pub returns-in-Gone-clause-found : goal.returns-in-Gone-clause-found
returns-in-Gone-clause-found c = lost_after c.args.pass.now.view c.look_inside.new.pass.view c.see_moved.new.pass.view c.in-Gone.ensures.looked.1.read c.in-Gone.ensures.looked.1.goes c.see_moved.ensures.moved
