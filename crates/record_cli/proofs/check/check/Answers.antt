-- What `check` comes to.
use Rattle.std.proofs.Common.{rules, refl}
use Rattle.record_cli.specs.Check.{IsJudged, judged_of}
use Rattle.record_cli.specs.Commands.{Check}
use Rattle.record_cli.proofs.Comings.{made_comes, refused_comes}
use Rattle.record_cli.proofs.check.check.Goals as goal

pub returns-in_err-judged : goal.returns-in_err-judged
returns-in_err-judged g c =
    refused_comes IsJudged (λ files. judged_of files c.args.script.now c.args.history.now) (Check c.args.script.now c.args.history.now) (λ files. refl) (λ judged answer h. (judged, h)) refl _ _ c.from_residual.result c.in_err-judged.field-0.0 (search rules) c.in_err-judged.ensures.fetches c.in_err-judged.ensures.given

pub returns : goal.returns
returns g c =
    made_comes IsJudged (λ files. judged_of files c.args.script.now c.args.history.now) (Check c.args.script.now c.args.history.now) (λ files. refl) (λ judged answer h. (judged, h)) refl _ _ c.in_ok-judged.judged c.judge.result c.judge.ensures.unread c.in_ok-judged.ensures.fetches c.in_ok-judged.ensures.given c.judge.ensures.verdict
