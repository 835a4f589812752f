use Rattle.std.proofs.Common.{◌≡◌, ◌<◌}
use Rattle.seg_rule.specs.Passes.{IsOf}
use Rattle.queue_tries.specs.Snaps.{Observes, places_left}
use Rattle.queue_tries.proofs.snaps.observe_all.Given as goal

abbrev pub invariant-places : goal.invariant-places
invariant-places l = record {
  of : IsOf l.table l.pass;
  same : l.pass.table ≡ l.fn.pass.table;
  inside : l.place < l.table.form.places;
  at : Observes l.fn.pass.view l.current l.tail l.first l.place l.pass.view;
}

abbrev pub decreases-places : goal.decreases-places
decreases-places l = places_left l.pass.view.stage
