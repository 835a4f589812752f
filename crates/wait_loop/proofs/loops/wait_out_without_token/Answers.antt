use Rattle.passes.proofs.Calls.{same_on}
use Rattle.wait_loop.proofs.Own.{polls_start, polls_on, polls_answer}
use Rattle.wait_loop.proofs.loops.wait_out_without_token.Goals as goal

pub loop-init : goal.loop-init
loop-init g c = (tt, tt, (0, polls_start g.K.Waits.awaits _ c.args.number c.requires))

pub loop-preserved : goal.loop-preserved
loop-preserved g c =
    let last = c.in_default.ensures in
    (tt, tt, (_, polls_on g.K.Waits.awaits g.K.Waits.priority _ _ _ c.args.number _ c.loop.invariant.2.1 last.same last.stands last.stays_open))

pub returns-in-Some-poll : goal.returns-in-Some-poll
returns-in-Some-poll g c =
    let last = c.in-Some-poll.ensures in
    let before = c.loop.invariant.2 in
    record {
      same = same_on _ _ _ before.1.same last.same;
      answered = polls_answer g.K.Waits.awaits g.K.Waits.priority _ _ _ c.args.number _ before.1 last.same g.K.Waits.answers _ last.answered last.answer;
    }
