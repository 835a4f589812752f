use Rattle.std.proofs.Common.{◌≢◌, length, arith}
use Rattle.drive_kit.proofs.PlanLemmas.{plan_more}
use Rattle.drive_kit.proofs.scripts.Script.with_row.Goals as goal

pub invariant_of-result : goal.invariant_of-result
invariant_of-result c =
    let room : length c.self.inside.rows.items ≢ 20000 = λ e. c.if-len-eq-MAX_ROWS.false (omega (arith, e)) in
    let of_kind = rw c.of.ensures at c.in-Ok.ensures.of_kind in
    let few = rw (← c.snaps_with.ensures) at c.in-Ok.ensures.few in
    rw c.in_ok-push.ensures.items (plan_more c.self.inside.object c.self.inside.rows.items c.self.inside.snaps c.snaps_with.result c.in-Ok.row c.self.invariant room of_kind c.snaps_with.ensures few)
