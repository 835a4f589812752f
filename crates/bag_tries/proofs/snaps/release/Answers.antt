use Rattle.std.proofs.Common.{rules, arith, ◌≡◌, ◌+◌, ◌-◌, ◌<◌, ◌≤◌, subst, ◌∙◌, ℕ}
use Rattle.bag_tries.specs.Snaps.{KeepsFirst}
use Rattle.bag_tries.proofs.Lifts.{read_on}
use Rattle.bag_tries.proofs.Gathering.{last_in_hand, last_left}
use Rattle.bag_tries.proofs.snaps.release.Goals as goal

pub leave_list-requires-clause-hand : goal.leave_list-requires-clause-hand
leave_list-requires-clause-hand g c κs within =
    let i = c.loop-step.invariant in let low : c.args.count ≤ 64 = search (rules, arith) in let inside : c.loop-step.step < c.args.count = search rules in
    last_in_hand (c.args.count - 1 - c.loop-step.step) (omega arith) c.loop-step.seat.me (c.args.count - c.loop-step.step) (omega arith) i.1

pub loop-step-preserved : goal.loop-step-preserved
loop-step-preserved g c =
    let i = c.loop-step.invariant in let low : c.args.count ≤ 64 = search (rules, arith) in let inside : c.loop-step.step < c.args.count = search rules in
    let k = c.args.count - 1 - c.loop-step.step in
    let x = last_left k (omega arith) c.loop-step.seat.me c.leave_list.new.seat.me (c.args.count - c.loop-step.step) (omega arith) i.1 c.leave_list.ensures.left in
    let e : k ≡ c.args.count - (c.loop-step.step + 1) = omega arith in
    (search rules, subst (λ (z : ℕ). KeepsFirst c.leave_list.new.seat.me z) e x.0, x.1 ∙ i.2, read_on _ _ _ _ _ i.3 x.2)
