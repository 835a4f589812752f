use Rattle.ho_model.proofs.QueueLaws.{queues_leave_items, queues_count, queues_balance}
use Rattle.ho_model.proofs.laws.a_queue_has_what_was_not_taken.Goals as goal

pub returns-clause-items : goal.returns-clause-items
returns-clause-items c = queues_leave_items

pub returns-clause-counts : goal.returns-clause-counts
returns-clause-counts c = queues_count

pub returns-clause-balance : goal.returns-clause-balance
returns-clause-balance c = queues_balance
