use Rattle.std.proofs.Common.{◌≡◌, ◌+◌, ◌-◌, ◌/◌, ◌≤◌, [], map, get_or, arith}
use Rattle.std.specs.Prelude.{nat_le, drop}
use Rattle.ho_base.specs.Marks.{number_priority}
use Rattle.ho_model.specs.Written.{mark_of}
use Rattle.ho_model.proofs.Least.{least_of, lesser_within, scan_more}
use Rattle.ho_model.proofs.replays.line.Line.least_place.Goals as goal

pub scan-preserved : goal.scan-preserved
scan-preserved c =
    let ns = c.self.inside.numbers.items in
    let next = c.scan.next - 1 in
    let up : next + 1 ≡ c.scan.next = omega arith in
    let below : next + 1 ≤ c.scan.least = omega arith in
    let chosen = rw c.as_slice.ensures.value at c.lesser-chosen.ensures in
    let was : least_of number_priority (drop (next + 1) (map mark_of ns)) ≡ (c.scan.least - (next + 1), get_or (map mark_of ns) c.scan.least []) =
    rw up c.scan.invariant.least in
    let within = lesser_within next c.scan.least c.lesser-chosen.result (nat_le (get_or ns next 0 / 1000) (get_or ns c.scan.least 0 / 1000)) (omega arith) chosen in
    record {
      order = within.0;
      inside = omega arith;
      least = scan_more ns next c.scan.least c.lesser-chosen.result below c.scan.invariant.inside was chosen;
    }
