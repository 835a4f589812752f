use Rattle.std.proofs.Common.{◌≡◌, take}
use Rattle.record_lang.specs.Tallies.{counts_in}
use Rattle.record_lang.specs.Texts.{counts_of}
use Rattle.record_lang.proofs.tallies.Tally.of.Given as goal

abbrev pub invariant-loop-outcome : goal.invariant-loop-outcome
invariant-loop-outcome l = counts_in l.tally ≡ counts_of (take l.outcome-index l.fn.outcomes)
