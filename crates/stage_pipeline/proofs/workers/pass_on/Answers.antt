-- What becomes of a record.
use Rattle.std.proofs.Common.{rules, Some, ◌≡◌}
use Rattle.stage_pipeline.proofs.Turns.{sent_as, if_more}
use Rattle.stage_pipeline.proofs.workers.pass_on.Goals as goal

pub returns-in-Result-clause-passed : goal.returns-in-Result-clause-passed
returns-in-Result-clause-passed g c =
    let w : c.args.writer.now ≡ Some c.in-Some.to.now = search rules in if_more _ _ _ (sent_as _ _ _ _ _ _ _ _ c.in-Result.is w) c.send.ensures.sent
