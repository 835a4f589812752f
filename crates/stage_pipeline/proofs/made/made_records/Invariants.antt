use Rattle.std.proofs.Common.{◌≡◌, ◌<◌, ◌^◌, length}
use Rattle.stage_pipeline.specs.Made.{made_rows, state_after}
use Rattle.stage_pipeline.proofs.made.made_records.Given as goal

abbrev pub invariant-records : goal.invariant-records
invariant-records l = record {
  state : l.state ≡ state_after l.fn.seed l.number;
  range : l.state < 2 ^ 31;
  made : l.records ≡ made_rows l.number l.fn.seed;
  many : length l.records ≡ l.number;
}
