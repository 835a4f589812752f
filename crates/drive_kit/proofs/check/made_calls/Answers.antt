use Rattle.std.proofs.Common.{◌∙◌, ap}
use Rattle.drive_kit.proofs.CheckLemmas.{calls_in_part-other, calls_in_part-own}
use Rattle.drive_kit.proofs.check.made_calls.Goals as goal
use Rattle.drive_kit.proofs.check.made_calls.Goals.{then-entry-caller+in_ok-push, else-entry-caller}

pub loop-entry-preserved : goal.loop-entry-preserved
loop-entry-preserved c =
    let xs = c.args.entries.now in
    let i = c.loop-entry.entry-index in
    let lt = c.loop-entry-test.true in
    let e = c.entry-item.result in
    elim c.if-entry-caller.branch [
      | then-entry-caller+in_ok-push w ↦ ap (λ v. v.items) w.calls-is ∙ w.in_ok-push.ensures.items ∙ calls_in_part-own c.args.caller xs i e c.loop-entry.calls.items lt c.entry-item.is w.if-entry-caller.true c.loop-entry.invariant
      | else-entry-caller w ↦ ap (λ v. v.items) w.calls-is ∙ calls_in_part-other c.args.caller xs i e c.loop-entry.calls.items lt c.entry-item.is w.if-entry-caller.false c.loop-entry.invariant
    ]
