use Rattle.std.proofs.Common.{◌≡◌, ◌<◌}
use Rattle.seg_rule.specs.Passes.{IsOf}
use Rattle.queue_tries.specs.Firsts.{IsAtFirst, moves_left}
use Rattle.queue_tries.proofs.firsts.move_first.Given as goal

abbrev pub invariant-moves : goal.invariant-moves
invariant-moves l = record {
  of : IsOf l.table l.pass;
  same : l.pass.table ≡ l.fn.pass.table;
  inside : l.first < l.table.form.places;
  at : IsAtFirst l.fn.pass.view l.head l.first l.current l.pass.view;
}

abbrev pub decreases-moves : goal.decreases-moves
decreases-moves l = moves_left l.head l.pass.view.notes.scan.moved
