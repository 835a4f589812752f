use Rattle.std.proofs.Common.{refl}
use Rattle.queue_tries.proofs.Windowing.{at_last, at_place, holds_ended}
use Rattle.queue_tries.proofs.windows.pass_on.Goals as goal

pub returns-then-window-clause-passes : goal.returns-then-window-clause-passes
returns-then-window-clause-passes c = (at_last c.args.pass.now c.args.window.now c.requires.opened c.if-window.true, refl)

pub returns-then-window-end-clause-passes : goal.returns-then-window-end-clause-passes
returns-then-window-end-clause-passes c = (at_place c.args.pass.now c.look-end.new.pass c.args.window.now c.look-end.result c.requires.opened c.if-window.false c.look-end.ensures.read c.if-window-end.true, refl)

pub leave_first-window-requires-clause-holds : goal.leave_first-window-requires-clause-holds
leave_first-window-requires-clause-holds c = holds_ended c.args.pass.now c.look-end.new.pass c.args.window.now c.look-end.result c.requires.opened c.if-window.false c.look-end.ensures.read
