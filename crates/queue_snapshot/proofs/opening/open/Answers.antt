use Rattle.std.proofs.Common.{arith}
use Rattle.queue_snapshot.proofs.Repeating.{tries_none, tries_on, tries_spent, tries_end, of_on, of_spent, inside_at_end, within_room}
use Rattle.queue_snapshot.proofs.opening.open.Goals as goal
use Rattle.queue_snapshot.proofs.opening.open.Goals.{in-Again, in-Spent}

pub loop-init : goal.loop-init
loop-init g c = (c.requires, tries_none c.args.pass.now.pass)

pub loop-preserved : goal.loop-preserved
loop-preserved g c = elim c.match-window_once.branch [
  | in-Again w ↦ let none = w.in-Again.ensures in (
    of_on c.args.queue.now c.loop.pass c.window_once.new.pass w.in-Again.field-0 none.0 c.loop.invariant.0 none.1,
    tries_on c.args.pass.now c.loop.pass c.window_once.new.pass c.loop.invariant.1 w.in-Again.field-0 none.0 none.1,
  )
  | in-Spent w ↦ (
    of_spent c.args.queue.now c.loop.pass c.window_once.new.pass c.loop.invariant.0 w.in-Spent.ensures,
    tries_spent c.args.pass.now c.loop.pass c.window_once.new.pass c.loop.invariant.1 w.in-Spent.ensures,
  )
]

pub returns-in-Answer-clause-opens : goal.returns-in-Answer-clause-opens
returns-in-Answer-clause-opens g c = let a = c.in-Answer.ensures in (
  tries_end c.args.pass.now c.loop.pass c.window_once.new.pass c.loop.invariant.1 c.args.queue.now.first_len c.in-Answer.window c.in-Answer.receipt a.1,
  (let unread = a.4 in omega arith),
)

pub returns-in-Answer-clause-within : goal.returns-in-Answer-clause-within
returns-in-Answer-clause-within g c =
    within_room c.args.queue.now c.loop.pass c.window_once.new.pass c.args.queue.now.first_len c.in-Answer.window c.in-Answer.receipt c.loop.invariant.0 c.in-Answer.ensures.1
