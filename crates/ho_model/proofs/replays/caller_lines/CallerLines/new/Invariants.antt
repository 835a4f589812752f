use Rattle.std.proofs.Common.{◌≡◌, [], replicate}
use Rattle.ho_model.proofs.replays.caller_lines.CallerLines.new.Given as goal

abbrev pub invariant-loop : goal.invariant-loop
invariant-loop l = l.lines.items ≡ replicate l.counter []
