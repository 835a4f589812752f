use Rattle.std.proofs.Common.{List}
use Rattle.weave.specs.Parts.{OfDifferentCallers, Told}
use Rattle.weave.specs.Places.{IsPlaced}
use Rattle.weave.specs.Cursors.{parts_left}
use Rattle.weave.proofs.ByPlace.{IsWovenUpTo}
use Rattle.weave.proofs.Lefts.{calls_left}
use Rattle.weave.proofs.placed.weave_placed.Given as goal

abbrev pub invariant-turns : goal.invariant-turns
invariant-turns l = OfDifferentCallers l.fn.parts → (told : List Told) → IsPlaced l.fn.parts told → IsWovenUpTo told (parts_left l.cursors.items) l.entries.items

abbrev pub decreases-turns : goal.decreases-turns
decreases-turns l = calls_left (parts_left l.cursors.items)
