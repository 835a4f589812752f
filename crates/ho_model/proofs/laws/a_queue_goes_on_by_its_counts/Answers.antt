use Rattle.ho_model.proofs.QueueLaws.{enqueue_next, full_next, take_next, empty_next, peek_next, peek_empty_next, count_next, snap_next}
use Rattle.ho_model.proofs.laws.a_queue_goes_on_by_its_counts.Goals as goal

pub returns-clause-enqueue_next : goal.returns-clause-enqueue_next
returns-clause-enqueue_next c = enqueue_next

pub returns-clause-full_next : goal.returns-clause-full_next
returns-clause-full_next c = full_next

pub returns-clause-take_next : goal.returns-clause-take_next
returns-clause-take_next c = take_next

pub returns-clause-empty_next : goal.returns-clause-empty_next
returns-clause-empty_next c = empty_next

pub returns-clause-peek_next : goal.returns-clause-peek_next
returns-clause-peek_next c = peek_next

pub returns-clause-peek_empty_next : goal.returns-clause-peek_empty_next
returns-clause-peek_empty_next c = peek_empty_next

pub returns-clause-count_next : goal.returns-clause-count_next
returns-clause-count_next c = count_next

pub returns-clause-snap_next : goal.returns-clause-snap_next
returns-clause-snap_next c = snap_next
