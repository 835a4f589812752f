use Rattle.weave.proofs.Orders.{first_lengths_allow_alike, segments_may_be_any}
use Rattle.weave.proofs.laws.a_first_length_changes_no_history.Goals as goal

pub returns-clause-legal : goal.returns-clause-legal
returns-clause-legal c = first_lengths_allow_alike

pub returns-clause-receipts : goal.returns-clause-receipts
returns-clause-receipts c = segments_may_be_any
