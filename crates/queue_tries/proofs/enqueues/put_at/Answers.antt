use Rattle.queue_tries.proofs.Enqueuing.{may_reserve}
use Rattle.queue_tries.proofs.enqueues.put_at.Goals as goal

pub put_free-requires-clause-may : goal.put_free-requires-clause-may
put_free-requires-clause-may c = may_reserve c.args.table.now.form.room c.args.pass.now.view c.see_slot.new.pass.view c.args.place c.args.tail c.args.head c.requires.free.0 c.requires.may c.requires.notes c.requires.room.0 c.in-None.ensures.seen
