use Rattle.std.proofs.Common.{ℕ}
use Rattle.seg_layout.specs.Lengths.{next_len_of}
use Rattle.seg_rule.specs.Steps.{is_observed}
use Rattle.queue_tries.proofs.Enqueuing.{next_may, next_goes, turned_after}
use Rattle.queue_tries.proofs.enqueues.put_next.Goals as goal

pub answer_put-requires-clause-may : goal.answer_put-requires-clause-may
answer_put-requires-clause-may c =
    let length : ℕ = next_len_of c.args.table.now.form.first_len c.args.length (is_observed c.open_place.ensures.opened.0) in
    next_may c.args.pass.now.view c.find_next.new.pass.view c.open_place.new.pass.view c.in-Some.next c.args.tail length c.in-Some.ensures.searched c.open_place.ensures.opened.1
    c.args.table.now.form.room c.args.head c.requires.free.0 c.requires.may c.requires.head c.requires.room.0

pub returns-clause-told : goal.returns-clause-told
returns-clause-told c =
    let found = c.in-Some.ensures.searched in
    let length : ℕ = next_len_of c.args.table.now.form.first_len c.args.length (is_observed c.open_place.ensures.opened.0) in
    let goes = next_goes c.args.pass.now.view c.find_next.new.pass.view c.open_place.new.pass.view c.in-Some.next c.args.tail length found c.open_place.ensures.opened.1 in
    turned_after c.args.pass.now.view c.open_place.new.pass.view c.answer_put.new.pass.view found.read goes c.args.value c.answer_put.result c.answer_put.ensures.told
