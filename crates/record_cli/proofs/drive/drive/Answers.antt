-- What `drive` comes to.
use Rattle.std.proofs.Common.{rules, refl}
use Rattle.record_cli.specs.Check.{IsPlayed, plan_of}
use Rattle.record_cli.specs.Commands.{Drive}
use Rattle.record_cli.proofs.Comings.{made_comes, refused_comes}
use Rattle.record_cli.proofs.drive.drive.Goals as goal

pub returns-in_err-script : goal.returns-in_err-script
returns-in_err-script g c =
    refused_comes IsPlayed (λ files. plan_of files c.args.script.now) (Drive c.args.script.now) (λ files. refl) (λ plan answer h. (plan, h)) refl _ _ c.from_residual.result c.in_err-script.field-0.0 (search rules) c.in_err-script.ensures.fetches c.in_err-script.ensures.given

pub returns : goal.returns
returns g c =
    made_comes IsPlayed (λ files. plan_of files c.args.script.now) (Drive c.args.script.now) (λ files. refl) (λ plan answer h. (plan, h)) refl _ _ c.in_ok-script.script c.play.result c.play.ensures.unread c.in_ok-script.ensures.fetches c.in_ok-script.ensures.given c.play.ensures.played
