use Rattle.std.specs.Prelude.{None}
use Rattle.queue_tries.proofs.Windowing.{reads_before}
use Rattle.queue_tries.proofs.windows.read_at.Goals as goal

pub returns-then-not-is_published-clause-read : goal.returns-then-not-is_published-clause-read
returns-then-not-is_published-clause-read c = reads_before c.args.pass.now c.next_slot-slot.new.pass c.is_published.new.pass c.args.window.now None c.next_slot-slot.ensures.stays c.if-not-is_published.ensures.seen
