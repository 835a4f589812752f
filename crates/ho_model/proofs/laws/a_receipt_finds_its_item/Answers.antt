use Rattle.ho_model.proofs.QueueLaws.{enqueues_find_items, takes_find_items, peeks_find_items, counts_find_heads, fulls_find_heads, empties_find_heads, snaps_find_heads}
use Rattle.ho_model.proofs.laws.a_receipt_finds_its_item.Goals as goal

pub returns-clause-enqueues : goal.returns-clause-enqueues
returns-clause-enqueues c = enqueues_find_items

pub returns-clause-takes : goal.returns-clause-takes
returns-clause-takes c = takes_find_items

pub returns-clause-peeks : goal.returns-clause-peeks
returns-clause-peeks c = peeks_find_items

pub returns-clause-counts : goal.returns-clause-counts
returns-clause-counts c = counts_find_heads

pub returns-clause-fulls : goal.returns-clause-fulls
returns-clause-fulls c = fulls_find_heads

pub returns-clause-empties : goal.returns-clause-empties
returns-clause-empties c = empties_find_heads

pub returns-clause-snaps : goal.returns-clause-snaps
returns-clause-snaps c = snaps_find_heads
