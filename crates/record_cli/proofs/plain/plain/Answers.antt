-- What `plain` comes to.
use Rattle.std.proofs.Common.{rules, refl}
use Rattle.record_cli.specs.Answers.{IsThis}
use Rattle.record_cli.specs.Commands.{Plain}
use Rattle.record_cli.specs.Inputs.{inputs_of, plain_text}
use Rattle.record_cli.proofs.Comings.{made_comes, refused_comes}
use Rattle.record_cli.proofs.plain.plain.Goals as goal

pub returns-in_err-inputs : goal.returns-in_err-inputs
returns-in_err-inputs g c =
    refused_comes (λ inputs. IsThis (plain_text inputs)) (λ files. inputs_of files c.args.pipe.now c.args.file.now) (Plain c.args.pipe.now c.args.file.now) (λ files. refl) (λ inputs answer h. (inputs, h)) refl _ _ c.from_residual.result c.in_err-inputs.field-0.0 (search rules) c.in_err-inputs.ensures.fetches c.in_err-inputs.ensures.given

pub returns : goal.returns
returns g c =
    made_comes (λ inputs. IsThis (plain_text inputs)) (λ files. inputs_of files c.args.pipe.now c.args.file.now) (Plain c.args.pipe.now c.args.file.now) (λ files. refl) (λ inputs answer h. (inputs, h)) refl _ _ c.in_ok-inputs.inputs c.plain_text.result c.plain_text.ensures.unread c.in_ok-inputs.ensures.fetches c.in_ok-inputs.ensures.given c.plain_text.ensures.text
