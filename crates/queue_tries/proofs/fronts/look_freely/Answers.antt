use Rattle.queue_tries.proofs.Searching.{looked_bare}
use Rattle.queue_tries.proofs.fronts.look_freely.Goals as goal

pub returns-clause-looked : goal.returns-clause-looked
returns-clause-looked c =
    looked_bare c.begin_first-place.result c.see_head-head.result c.args.pass.now.view c.begin_first-place.new.pass.view c.see_head-head.new.pass.view c.see_first.new.pass.view c.see_tail.new.pass.view
    c.requires.idle.1 c.begin_first-place.ensures.lawful c.begin_first-place.ensures.begun c.see_head-head.ensures.read c.in_default.ensures.seen c.in_default.ensures.stage c.if-see_tail.ensures.seen c.if-see_tail.ensures.stage
