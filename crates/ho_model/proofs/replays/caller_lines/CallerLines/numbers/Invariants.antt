use Rattle.std.proofs.Common.{◌≡◌, take}
use Rattle.ho_model.specs.Bag.{all_numbers}
use Rattle.ho_model.proofs.replays.caller_lines.CallerLines.numbers.Given as goal

abbrev pub invariant-loop-line : goal.invariant-loop-line
invariant-loop-line l = l.numbers.items ≡ all_numbers (take l.line-index l.line-items)
