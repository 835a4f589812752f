use Rattle.std.proofs.Common.{◌∙◌}
use Rattle.queue_tries.proofs.Searching.{finds_under_turn, misses_turn}
use Rattle.queue_tries.proofs.fronts.find_front.Goals as goal

pub returns-in-Ok-clause-found : goal.returns-in-Ok-clause-found
returns-in-Ok-clause-found c =
    let looked = c.in-Bare.ensures.looked in
    finds_under_turn c.args.pass.now c.find_inside.new.pass (c.find_inside.ensures.same ∙ (c.turn_take.ensures.same ∙ c.look_freely.ensures.same)) c.requires.own c.requires.below c.find_inside.ensures.idle.1.stage
    c.look_freely.new.pass.view c.turn_take.new.pass.view looked.0 looked.1 c.in-Ok.ensures.won c.args.peek c.find_inside.result c.find_inside.ensures.found

pub returns-in-Err-clause-found : goal.returns-in-Err-clause-found
returns-in-Err-clause-found c =
    let looked = c.in-Bare.ensures.looked in
    misses_turn c.args.pass.now c.turn_take.new.pass (c.turn_take.ensures.same ∙ c.look_freely.ensures.same) c.requires.own c.requires.below c.look_freely.new.pass.view looked.0 c.in-Err.field-0 looked.1 looked.2 c.in-Err.ensures.lost.1
