use Rattle.channel_wait.specs.declared.ends.WriteEnd.TheVariants.{Done, Dropped, Refused}
use Rattle.stage_pipeline.proofs.Adding.{sent_by, done_is_written, dropped_is_written, refused_is_written, none_lost, one_lost}
use Rattle.stage_pipeline.proofs.workers.send.Goals as goal

pub returns-in-Ok-Done-clause-sent : goal.returns-in-Ok-Done-clause-sent
returns-in-Ok-Done-clause-sent g c =
    sent_by _ _ c.write_without_token.ensures.pass _ _ c.in-Ok-Done.field-0 Done _ _ c.in-Ok-Done.field-0-is (done_is_written _ _ c.write_without_token.ensures.pass) c.in-Ok-Done.ensures.ended (none_lost c.args.lost.now.items)

pub returns-in-Ok-clause-sent : goal.returns-in-Ok-clause-sent
returns-in-Ok-clause-sent g c =
    sent_by _ _ c.write_without_token.ensures.pass _ _ c.in-Ok-Dropped.field-0 (Dropped c.in-Ok-Dropped.other) _ _ c.in-Ok-Dropped.field-0-is (dropped_is_written _ _ c.write_without_token.ensures.pass _) c.in-Ok-Dropped.ensures.ended (one_lost c.args.lost.now.items _ c.in-Ok-Dropped.other c.number.result c.in-Ok.ensures.items c.number.ensures)

pub returns-in-Ok-Refused-clause-sent : goal.returns-in-Ok-Refused-clause-sent
returns-in-Ok-Refused-clause-sent g c =
    sent_by _ _ c.write_without_token.ensures.pass _ _ c.in-Ok-Refused.field-0 (Refused c.in-Ok-Refused.field-0-0 c.in-Ok-Refused.field-0-1) _ _ c.in-Ok-Refused.field-0-is (refused_is_written _ _ c.write_without_token.ensures.pass _ _) c.in-Ok-Refused.ensures.ended (none_lost c.args.lost.now.items)
