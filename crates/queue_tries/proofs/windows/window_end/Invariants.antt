use Rattle.std.proofs.Common.{◌≡◌, ◌<◌, []}
use Rattle.seg_rule.specs.Passes.{IsOf}
use Rattle.queue_tries.specs.Walks.{Keeps}
use Rattle.queue_tries.specs.Snaps.{beside}
use Rattle.queue_tries.specs.Reading.{HoldsFrom, segments_left}
use Rattle.queue_tries.proofs.windows.window_end.Given as goal

abbrev pub invariant-places : goal.invariant-places
invariant-places l = record {
  of : IsOf l.table l.pass;
  same : l.pass.table ≡ l.fn.pass.table;
  inside : l.place < l.table.form.places;
  holds : HoldsFrom l.place l.last l.pass.view;
  keeps : Keeps (beside l.fn.pass.view) (beside l.pass.view) [];
}

abbrev pub decreases-places : goal.decreases-places
decreases-places l = segments_left l.pass.view.window
