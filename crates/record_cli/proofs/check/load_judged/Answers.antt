-- What the two files come to, where the second is read and one of the two ends the command.
use Rattle.std.proofs.Common.{rules}
use Rattle.drive_kit.specs.Histories.{history_in}
use Rattle.record_cli.specs.Check.{plan_in, read_text, with_history}
use Rattle.record_cli.proofs.Files.{then_read, then_refused}
use Rattle.record_cli.proofs.check.load_judged.Goals as goal

pub returns-in_err-bytes-clause-fetches : goal.returns-in_err-bytes-clause-fetches
returns-in_err-bytes-clause-fetches g c =
    then_read c.args.script.now 4194304 (plan_in c.args.script.now) c.args.history.now 67108864 with_history (λ plan bytes. read_text c.args.history.now (history_in plan.object bytes)) _ _ _ c.in_ok-text.text
    c.in_ok-script.script _ _ c.in_ok-text.ensures.fetches c.in_ok-text.ensures.loaded (search rules) (search rules) c.in_err-bytes.ensures.fetches

pub returns-in_err-history-clause-fetches : goal.returns-in_err-history-clause-fetches
returns-in_err-history-clause-fetches g c =
    then_read c.args.script.now 4194304 (plan_in c.args.script.now) c.args.history.now 67108864 with_history (λ plan bytes. read_text c.args.history.now (history_in plan.object bytes)) _ _ _ c.in_ok-text.text
    c.in_ok-script.script _ _ c.in_ok-text.ensures.fetches c.in_ok-text.ensures.loaded (search rules) (search rules) c.load-2.ensures.fetches

pub returns-in_err-history-clause-given : goal.returns-in_err-history-clause-given
returns-in_err-history-clause-given g c =
    then_refused c.args.script.now 4194304 (plan_in c.args.script.now) c.args.history.now 67108864 with_history (λ plan bytes. read_text c.args.history.now (history_in plan.object bytes)) _ _ c.in_ok-text.text
    c.in_ok-script.script c.in_ok-bytes.bytes c.in_err-history.field-0.0 _ c.in_ok-text.ensures.fetches.files c.in_ok-text.ensures.loaded (search rules) c.in_ok-bytes.ensures.loaded (search rules) (search rules)
