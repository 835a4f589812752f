use Rattle.ho_model.specs.declared.marks.CallMark.TheVariants as callmark
use Rattle.ho_model.specs.declared.marks.ReplyMark.TheVariants.{Counted}
use Rattle.queue_tries.proofs.Repeating.{tries_none, tries_on, tries_spent, tries_end}
use Rattle.queue_tries.proofs.lasting.count.Goals as goal
use Rattle.queue_tries.proofs.lasting.count.Goals.{in-Again, in-Spent}

pub loop-init : goal.loop-init
loop-init g c = (c.requires.idle, tries_none c.args.pass.now)

pub returns-in-Answer-clause-ends : goal.returns-in-Answer-clause-ends
returns-in-Answer-clause-ends g c =
    tries_end c.args.pass.now c.loop.pass c.count_once.new.pass c.loop.invariant.1 callmark.Count (Counted c.in-Answer.count) c.in-Answer.receipt c.in-Answer.ensures.told

pub loop-preserved : goal.loop-preserved
loop-preserved g c = (
  c.count_once.ensures.idle,
  elim c.match-count_once.branch [
    | in-Again w ↦ let none = w.in-Again.ensures.told in tries_on c.args.pass.now c.loop.pass c.count_once.new.pass c.loop.invariant.1 w.in-Again.field-0 none.0 none.1
    | in-Spent w ↦ tries_spent c.args.pass.now c.loop.pass c.count_once.new.pass c.loop.invariant.1 w.in-Spent.ensures.told
  ],
)
