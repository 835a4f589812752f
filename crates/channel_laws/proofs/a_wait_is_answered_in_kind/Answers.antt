use Rattle.channel_laws.proofs.Polls.{polls_in_kind, cancels_in_kind}
use Rattle.channel_laws.proofs.a_wait_is_answered_in_kind.Goals as goal

pub returns-clause-polls : goal.returns-clause-polls
returns-clause-polls g = polls_in_kind

pub returns-clause-cancels : goal.returns-clause-cancels
returns-clause-cancels g = cancels_in_kind
