use Rattle.std.proofs.Common.{◌≡◌, List}
use Rattle.weave.specs.Parts.{OfDifferentCallers, Told}
use Rattle.weave.specs.Queues.{IsOfQueue}
use Rattle.weave.specs.Cursors.{parts_left}
use Rattle.weave.specs.Aheads.{aheads_of}
use Rattle.weave.proofs.Lefts.{calls_left}
use Rattle.weave.proofs.Turns.{IsWeaving}
use Rattle.weave.proofs.queue.weave_queue.Given as goal

abbrev pub invariant-turns : goal.invariant-turns
invariant-turns l = (OfDifferentCallers l.fn.parts → (told : List Told) → IsOfQueue l.room l.fn.parts told → IsWeaving l.room l.fn.parts (parts_left l.cursors.items) l.entries.items) × (l.aheads.items ≡ aheads_of (parts_left l.cursors.items))

abbrev pub decreases-turns : goal.decreases-turns
decreases-turns l = calls_left (parts_left l.cursors.items)
