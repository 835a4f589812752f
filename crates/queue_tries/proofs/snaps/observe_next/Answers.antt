use Rattle.queue_tries.proofs.Snapping.{may_next, observes_next, fewer_left}
use Rattle.queue_tries.proofs.snaps.observe_next.Goals as goal

pub observe_add-requires-clause-may : goal.observe_add-requires-clause-may
observe_add-requires-clause-may c =
    may_next c.args.current c.args.tail c.args.first c.args.place c.load-word.result c.args.pass.now.view c.load-word.new.pass.view c.requires.at c.requires.other c.load-word.ensures.read c.place_of-next.result c.place_of-next.ensures.same

pub returns-clause-observed : goal.returns-clause-observed
returns-clause-observed c =
    observes_next c.args.current c.args.tail c.args.first c.args.place c.load-word.result c.args.pass.now.view c.load-word.new.pass.view c.requires.at c.requires.other c.load-word.ensures.read c.place_of-next.result c.observe_add.new.pass.view c.observe_add.ensures.observed

pub returns-clause-fewer : goal.returns-clause-fewer
returns-clause-fewer c =
    fewer_left c.args.current c.args.tail c.args.first c.args.place c.load-word.result c.args.pass.now.view c.load-word.new.pass.view c.requires.at c.requires.other c.load-word.ensures.read c.place_of-next.result c.observe_add.new.pass.view c.observe_add.ensures.observed
