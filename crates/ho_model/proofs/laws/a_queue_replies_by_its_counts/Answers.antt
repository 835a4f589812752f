use Rattle.ho_model.proofs.QueueLaws.{queues_reply, entries_reply, legal_by_replies}
use Rattle.ho_model.proofs.laws.a_queue_replies_by_its_counts.Goals as goal

pub returns-clause-next : goal.returns-clause-next
returns-clause-next c = queues_reply

pub returns-clause-entries : goal.returns-clause-entries
returns-clause-entries c = entries_reply

pub returns-clause-legal : goal.returns-clause-legal
returns-clause-legal c = legal_by_replies
