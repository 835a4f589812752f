use Rattle.std.proofs.Common.{◌≡◌, ◌≤◌, ◌-◌, [], ◌∷◌, List, ℕ, Ok, length}
use Rattle.drive_kit.specs.Causes.{at_row}
use Rattle.drive_kit.specs.Plans.{Plan}
use Rattle.drive_kit.specs.Scripts.{begun, with_row}
use Rattle.drive_kit.proofs.ReadingLemmas.{HasKept}
use Rattle.drive_kit.proofs.script_rows.parse_script.Given as goal

abbrev pub invariant-rows : goal.invariant-rows
invariant-rows l =
    (first : List (List ℕ)) × (start : Plan) × (at_row 0 (begun first) ≡ Ok start)
    × HasKept Plan with_row start (first ∷ []) l.fn.bytes l.reader l.script × (length l.script.rows ≤ 20000)

abbrev pub decreases-rows : goal.decreases-rows
decreases-rows l = 20000 - length l.script.rows
