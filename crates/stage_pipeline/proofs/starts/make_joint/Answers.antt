use Rattle.std.proofs.Common.{◌<◌, ◌+◌, subst, sym, arith}
use Rattle.atomic_table.specs.Seated.{TableId}
use Rattle.stage_pipeline.specs.Runs.{channel_of}
use Rattle.stage_pipeline.specs.Starts.{AreSides}
use Rattle.stage_pipeline.proofs.Starting.{first_whole_new, sides_of}
use Rattle.stage_pipeline.proofs.starts.make_joint.Goals as goal

pub split_many-read-requires-clause-new : goal.split_many-read-requires-clause-new
split_many-read-requires-clause-new c =
    let some : 0 < c.args.writers + c.args.readers = (let w = c.requires.writers.0 in omega (arith, w)) in
    first_whole_new c.in_ok-channel.channel (channel_of c.args.line) (c.args.writers + c.args.readers) c.in_ok-channel.write some c.in_ok-channel.ensures

pub returns : goal.returns
returns c =
    let sides = sides_of c.in_ok-channel.channel c.args.line c.args.writers c.args.readers c.in_ok-channel.write _ _ c.in_ok-channel.ensures c.split_many-read.ensures.kept c.split_many-read.ensures.given in
    subst (λ (t : TableId). AreSides t c.args.line c.args.writers c.args.readers c.split_many-read.new.pass c.split_many-read.result) (sym c.new-joint.ensures) sides
