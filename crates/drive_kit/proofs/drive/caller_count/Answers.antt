use Rattle.std.proofs.Common.{◌<◌, ◌≤◌, ℕ, All, List, sym, subst}
use Rattle.drive_kit.specs.Calls.{kind_of}
use Rattle.drive_kit.specs.Plans.{IsRowOf}
use Rattle.drive_kit.specs.declared.scripts.ScriptRow.{ScriptRow}
use Rattle.drive_kit.proofs.DriveLemmas.{callers_within}
use Rattle.drive_kit.proofs.drive.caller_count.Goals as goal

pub returns-clause-within : goal.returns-clause-within
returns-clause-within c =
    let are = subst (λ (l : List ScriptRow). All (IsRowOf (kind_of c.args.script.now.object)) l) c.rows.ensures.rows c.rows.ensures.of_object in
    subst (λ (n : ℕ). (0 < n) × (n ≤ 64)) (sym c.callers.ensures) (callers_within (kind_of c.args.script.now.object) c.args.script.now.rows are)
