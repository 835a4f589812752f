use Rattle.std.proofs.Common.{◌≡◌, ◌≤◌, take, length}
use Rattle.std.specs.List.{sum_by}
use Rattle.record_lang.proofs.rows.is_too_long.Given as goal

abbrev pub invariant-loop-field : goal.invariant-loop-field
invariant-loop-field l = (l.total ≡ sum_by length (take l.field-index l.fields)) × (l.total ≤ 4096)
