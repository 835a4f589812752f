use Rattle.std.proofs.Common.{◌≡◌, take}
use Rattle.ho_model.specs.Bag.{item_count}
use Rattle.ho_model.proofs.replays.caller_lines.CallerLines.count.Given as goal

abbrev pub invariant-loop-line : goal.invariant-loop-line
invariant-loop-line l = l.count ≡ item_count (take l.line-index l.line-items)
