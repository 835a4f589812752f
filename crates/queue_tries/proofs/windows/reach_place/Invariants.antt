use Rattle.std.proofs.Common.{◌≡◌}
use Rattle.seg_rule.specs.Passes.{IsOf}
use Rattle.queue_tries.specs.Windows.{HasOpened}
use Rattle.queue_tries.specs.Reading.{Stays, segments_left}
use Rattle.queue_tries.proofs.windows.reach_place.Given as goal

abbrev pub invariant-places : goal.invariant-places
invariant-places l = record {
  of : IsOf l.table l.pass;
  same : l.pass.table ≡ l.fn.pass.table;
  stays : Stays l.fn.pass.view l.pass.view;
  kept : l.window ≡ record l.fn.window { first = l.window.first };
  opened : HasOpened l.pass l.window;
}

abbrev pub decreases-places : goal.decreases-places
decreases-places l = segments_left l.pass.view.window
