use Rattle.ho_model.specs.declared.marks.CallMark.TheVariants as callmark
use Rattle.queue_tries.specs.Tries.{dequeue_mark}
use Rattle.queue_tries.proofs.Repeating.{tries_none, tries_on, tries_spent, tries_end}
use Rattle.queue_tries.proofs.lasting.peek.Goals as goal
use Rattle.queue_tries.proofs.lasting.peek.Goals.{in-Again, in-Spent}

pub loop-init : goal.loop-init
loop-init g c = (c.requires.idle, tries_none c.args.pass.now)

pub returns-in-Answer-clause-ends : goal.returns-in-Answer-clause-ends
returns-in-Answer-clause-ends g c =
    tries_end c.args.pass.now c.loop.pass c.peek_once.new.pass c.loop.invariant.1 callmark.Peek (dequeue_mark c.in-Answer.reply) c.in-Answer.receipt c.in-Answer.ensures.told

pub loop-preserved : goal.loop-preserved
loop-preserved g c = (
  c.peek_once.ensures.idle,
  elim c.match-peek_once.branch [
    | in-Again w ↦ let none = w.in-Again.ensures.told in tries_on c.args.pass.now c.loop.pass c.peek_once.new.pass c.loop.invariant.1 w.in-Again.field-0 none.0 none.1
    | in-Spent w ↦ tries_spent c.args.pass.now c.loop.pass c.peek_once.new.pass c.loop.invariant.1 w.in-Spent.ensures.told
  ],
)
