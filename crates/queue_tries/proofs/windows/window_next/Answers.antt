use Rattle.std.proofs.Common.{rules, arith, ◌<◌, ◌+◌, ◌∙◌}
use Rattle.std.specs.Prelude.{None}
use Rattle.queue_tries.specs.Reading.{ReadsAt}
use Rattle.queue_tries.proofs.Windowing.{gives_none, gives_item}
use Rattle.queue_tries.proofs.windows.window_next.Goals as goal

pub returns-in_default-clause-gives : goal.returns-in_default-clause-gives
returns-in_default-clause-gives c =
    let low : c.args.window.now.at < c.args.window.now.tail = (let other = c.if-window.false in let until = c.requires.opened.window.until in omega arith) in
    let read : ReadsAt c.reach_place.new.pass c.reach_place.new.window c.read_at.new.pass None = search rules in
    gives_none c.args.pass.now c.reach_place.new.pass c.read_at.new.pass c.args.window.now c.reach_place.new.window c.requires.opened low (c.read_at.ensures.same ∙ c.reach_place.ensures.same) c.reach_place.ensures.kept c.reach_place.ensures.stays read

pub returns-clause-gives : goal.returns-clause-gives
returns-clause-gives c =
    let low : c.args.window.now.at < c.args.window.now.tail = (let other = c.if-window.false in let until = c.requires.opened.window.until in omega arith) in
    gives_item c.args.pass.now c.reach_place.new.pass c.read_at.new.pass c.args.window.now c.reach_place.new.window c.requires.opened low (c.read_at.ensures.same ∙ c.reach_place.ensures.same) c.reach_place.ensures.kept c.reach_place.ensures.stays c.in-Some.item (c.reach_place.new.window.at + 1) (search rules) c.in-Some.ensures.read
