-- What the two files come to, where the second is read and one of the two ends the command.
use Rattle.std.proofs.Common.{rules}
use Rattle.record_cli.specs.Inputs.{beside, pipeline_of, records_of}
use Rattle.record_cli.proofs.Files.{then_read, then_refused}
use Rattle.record_cli.proofs.inputs.load_inputs.Goals as goal

pub returns-in_err-bytes-clause-fetches : goal.returns-in_err-bytes-clause-fetches
returns-in_err-bytes-clause-fetches g c =
    then_read c.args.pipe.now 65536 (pipeline_of c.args.pipe.now) c.args.file.now 16777216 beside (λ pipeline bytes. records_of c.args.file.now bytes) _ _ _ c.in_ok-text.text c.in_ok-pipeline.pipeline
    _ _ c.in_ok-text.ensures.fetches c.in_ok-text.ensures.loaded (search rules) (search rules) c.in_err-bytes.ensures.fetches

pub returns-in_err-records-clause-fetches : goal.returns-in_err-records-clause-fetches
returns-in_err-records-clause-fetches g c =
    then_read c.args.pipe.now 65536 (pipeline_of c.args.pipe.now) c.args.file.now 16777216 beside (λ pipeline bytes. records_of c.args.file.now bytes) _ _ _ c.in_ok-text.text c.in_ok-pipeline.pipeline
    _ _ c.in_ok-text.ensures.fetches c.in_ok-text.ensures.loaded (search rules) (search rules) c.load-2.ensures.fetches

pub returns-in_err-records-clause-given : goal.returns-in_err-records-clause-given
returns-in_err-records-clause-given g c =
    then_refused c.args.pipe.now 65536 (pipeline_of c.args.pipe.now) c.args.file.now 16777216 beside (λ pipeline bytes. records_of c.args.file.now bytes) _ _ c.in_ok-text.text c.in_ok-pipeline.pipeline
    c.in_ok-bytes.bytes c.in_err-records.field-0.0 _ c.in_ok-text.ensures.fetches.files c.in_ok-text.ensures.loaded (search rules) c.in_ok-bytes.ensures.loaded (search rules) (search rules)
