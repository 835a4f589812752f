use Rattle.channel_laws.proofs.Histories.{completed_answers_exactly, completed_exactly, completed_has_no_waits, reached_by}
use Rattle.channel_laws.specs.Reached.{kind_in}
use Rattle.channel_laws.proofs.completed_is_the_end.Goals as goal

pub returns-clause-answers : goal.returns-clause-answers
returns-clause-answers g = completed_answers_exactly

pub returns-clause-exactly : goal.returns-clause-exactly
returns-clause-exactly g = completed_exactly

pub returns-clause-no_waits : goal.returns-clause-no_waits
returns-clause-no_waits g = λ priority o history s reaches. completed_has_no_waits (kind_in priority o) s (reached_by priority o history s reaches)
