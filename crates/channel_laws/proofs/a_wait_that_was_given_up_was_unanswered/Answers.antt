use Rattle.channel_laws.proofs.Histories.{ordered_by}
use Rattle.channel_laws.proofs.Cancelled.{cancelled_was_open, waiting_is_open}
use Rattle.channel_laws.proofs.a_wait_that_was_given_up_was_unanswered.Goals as goal

pub returns-clause-cancelled : goal.returns-clause-cancelled
returns-clause-cancelled g = λ priority o history s c n leaves. cancelled_was_open s (ordered_by priority o history s leaves) c n

pub returns-clause-waiting : goal.returns-clause-waiting
returns-clause-waiting g = λ priority o history s c n leaves. waiting_is_open s (ordered_by priority o history s leaves) c n
