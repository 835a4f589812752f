use Rattle.std.proofs.Common.{rules, ◌≡◌, ◌+◌, ◌∙◌, Some, sym, ap, subst, true, false}
use Rattle.std.proofs.lemmas.Option.{slice_get-get_or}
use Rattle.weave.specs.Cursors.{part_left, parts_left}
use Rattle.weave.specs.Aheads.{can_go, IsLeast}
use Rattle.weave.proofs.Lefts.{left_at}
use Rattle.weave.proofs.Choices.{new_least, stays_least}
use Rattle.weave.proofs.least.least_free.Goals as goal
use Rattle.weave.proofs.least.least_free.Goals.{then-can_go, else-can_go}

pub loop-index-preserved : goal.loop-index-preserved
loop-index-preserved c =
    let cursors = c.args.cursors.now in let n = c.loop-index.index in let here = c.index-cursors-index.result in
    let at = left_at cursors n here (slice_get-get_or cursors n here c.loop-index-test.true ∙ ap Some (sym c.index-cursors-index.is)) in
    elim c.if-can_go.branch [
      | then-can_go w ↦ (
          let test : can_go c.args.room c.args.aheads.now here.left.now ≡ true = search rules in
          let more = new_least c.args.room c.args.aheads.now (parts_left cursors) n (part_left here) at c.loop-index.least c.loop-index.invariant test in
          let is : Some (Rattle.weave.specs.Aheads.lesser c.loop-index.least (record { index = n; caller = here.caller })) ≡ c.if-can_go.least = search rules in
          subst (IsLeast c.args.room c.args.aheads.now (parts_left cursors) (n + 1)) is more)
      | else-can_go w ↦ (
          let test : can_go c.args.room c.args.aheads.now here.left.now ≡ false = search rules in
          subst (IsLeast c.args.room c.args.aheads.now (parts_left cursors) (n + 1)) (sym w.least-is) (stays_least c.args.room c.args.aheads.now (parts_left cursors) n (part_left here) at c.loop-index.least c.loop-index.invariant test))
    ]
