use Rattle.std.proofs.Common.{◌-◌}
use Rattle.passes.specs.Numbers.{held_count}
use Rattle.stage_pipeline.specs.Starts.{IsNewOf}
use Rattle.stage_pipeline.proofs.starts.split_many.Given as goal

abbrev pub invariant-loop : goal.invariant-loop
invariant-loop l =
    IsNewOf l.channel l.fn.pass.object l.fn.pass.callers (held_count l.fn.pass.held - l.counter) l.pass
    × IsNewOf l.channel l.fn.pass.object l.fn.pass.callers l.counter l.others
