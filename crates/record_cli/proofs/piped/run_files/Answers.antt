-- What `run` comes to.
use Rattle.std.proofs.Common.{rules, refl}
use Rattle.record_cli.specs.Commands.{Run}
use Rattle.record_cli.specs.Inputs.{inputs_of}
use Rattle.record_cli.specs.Tasks.{IsRun}
use Rattle.record_cli.proofs.Comings.{made_comes, refused_comes}
use Rattle.record_cli.proofs.piped.run_files.Goals as goal

pub returns-in_err-inputs : goal.returns-in_err-inputs
returns-in_err-inputs g c =
    refused_comes (IsRun c.args.workers) (λ files. inputs_of files c.args.pipe.now c.args.file.now) (Run c.args.pipe.now c.args.file.now c.args.workers) (λ files. refl) (λ inputs answer h. (inputs, h)) refl _ _ c.from_residual.result c.in_err-inputs.field-0.0 (search rules) c.in_err-inputs.ensures.fetches c.in_err-inputs.ensures.given

pub returns : goal.returns
returns g c =
    made_comes (IsRun c.args.workers) (λ files. inputs_of files c.args.pipe.now c.args.file.now) (Run c.args.pipe.now c.args.file.now c.args.workers) (λ files. refl) (λ inputs answer h. (inputs, h)) refl _ _ c.in_ok-inputs.inputs c.run_inputs.result c.run_inputs.ensures.unread c.in_ok-inputs.ensures.fetches c.in_ok-inputs.ensures.given c.run_inputs.ensures.ran
