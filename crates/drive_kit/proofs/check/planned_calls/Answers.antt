use Rattle.std.proofs.Common.{◌∙◌, get_or, ap}
use Rattle.std.proofs.lemmas.List.{get_or_default}
use Rattle.ho_model.specs.declared.histories.Call.TheVariants.{Enq}
use Rattle.drive_kit.specs.declared.scripts.ScriptRow.{ScriptRow}
use Rattle.drive_kit.proofs.CheckLemmas.{calls_by-other, calls_by-own}
use Rattle.drive_kit.proofs.check.planned_calls.Goals as goal
use Rattle.drive_kit.proofs.check.planned_calls.Goals.{then-row-caller+in_ok-push, else-row-caller}

pub loop-row-preserved : goal.loop-row-preserved
loop-row-preserved c =
    let xs = c.args.rows.now in
    let i = c.loop-row.row-index in
    let lt = c.loop-row-test.true in
    let none : ScriptRow = record { caller = 0; call = Enq 0 } in
    let row : ScriptRow = get_or xs i none in
    let is = get_or_default xs i none row lt in
    elim c.if-row-caller.branch [
      | then-row-caller+in_ok-push w ↦ ap (λ v. v.items) w.calls-is ∙ w.in_ok-push.ensures.items ∙ calls_by-own c.args.caller xs i row c.loop-row.calls.items lt is w.if-row-caller.true c.loop-row.invariant
      | else-row-caller w ↦ ap (λ v. v.items) w.calls-is ∙ calls_by-other c.args.caller xs i row c.loop-row.calls.items lt is w.if-row-caller.false c.loop-row.invariant
    ]
