use Rattle.std.proofs.Common.{◌≡◌, drop}
use Rattle.drive_kit.specs.Calls.{named}
use Rattle.drive_kit.proofs.calls.first_named.Given as goal

abbrev pub invariant-loop-name : goal.invariant-loop-name
invariant-loop-name l = named (drop l.name-index l.calls) l.word ≡ named l.fn.calls l.fn.word
