use Rattle.std.proofs.Common.{◌≡◌, ◌≤◌, ◌+◌, length}
use Rattle.std.specs.Str.Lines.{lines}
use Rattle.record_lang.specs.Parsing.{reading_from, reading_of}
use Rattle.record_lang.proofs.parsing.parse_pipeline.Given as goal

abbrev pub invariant-lines : goal.invariant-lines
invariant-lines l = record {
  means : reading_from l.place l.draft (lines l.rest) ≡ reading_of l.fn.bytes;
  places : l.place + length l.rest ≤ length l.fn.bytes;
}

abbrev pub decreases-lines : goal.decreases-lines
decreases-lines l = length l.rest
