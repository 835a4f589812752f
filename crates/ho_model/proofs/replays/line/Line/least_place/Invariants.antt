use Rattle.std.proofs.Common.{◌≡◌, ◌<◌, ◌≤◌, [], map, length, drop, get_or, ◌-◌}
use Rattle.ho_base.specs.Marks.{number_priority}
use Rattle.ho_model.specs.Written.{mark_of}
use Rattle.ho_model.proofs.Least.{least_of}
use Rattle.ho_model.proofs.replays.line.Line.least_place.Given as goal

abbrev pub invariant-scan : goal.invariant-scan
invariant-scan l = record {
  order : l.next ≤ l.least;
  inside : l.least < length (map mark_of l.self-inside.numbers.items);
  least : least_of number_priority (drop l.next (map mark_of l.self-inside.numbers.items))
      ≡ (l.least - l.next, get_or (map mark_of l.self-inside.numbers.items) l.least []);
}

abbrev pub decreases-scan : goal.decreases-scan
decreases-scan l = l.next
