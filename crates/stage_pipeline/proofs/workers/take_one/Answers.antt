-- What a read adds, and what is made of the record.
use Rattle.channel_wait.specs.declared.ends.ReadEnd.TheVariants.{Item, Closed}
use Rattle.stage_pipeline.proofs.Adding.{took_as}
use Rattle.stage_pipeline.proofs.Turns.{keeps, keeps_same_to, if_more_all, turns_on, end_turn, item_untold, end_told, end_tells}
use Rattle.stage_pipeline.proofs.workers.take_one.Goals as goal

pub returns-in-Ok-Closed-clause-same : goal.returns-in-Ok-Closed-clause-same
returns-in-Ok-Closed-clause-same g c = (keeps _ _ c.read_without_token.ensures.pass, keeps_same_to _)

pub returns-in-Ok-Closed-clause-ended : goal.returns-in-Ok-Closed-clause-ended
returns-in-Ok-Closed-clause-ended g c =
    let t = took_as _ _ c.read_without_token.ensures.pass _ c.in-Ok-Closed.field-0 (Closed c.in-Ok-Closed.fault) c.in-Ok-Closed.field-0-is tt c.in-Ok-Closed.ensures.ended in
    λ does worked. end_turn does _ _ _ _ _ _ t worked

pub returns-in-Ok-Closed-clause-told : goal.returns-in-Ok-Closed-clause-told
returns-in-Ok-Closed-clause-told g c =
    let t = took_as _ _ c.read_without_token.ensures.pass _ c.in-Ok-Closed.field-0 (Closed c.in-Ok-Closed.fault) c.in-Ok-Closed.field-0-is tt c.in-Ok-Closed.ensures.ended in
    (end_told _ _ _ t, end_tells _ _ _ t)

pub returns-in-Err-clause-same : goal.returns-in-Err-clause-same
returns-in-Err-clause-same g c = (keeps _ _ c.read_without_token.ensures.pass, keeps_same_to _)

pub returns-in-Ok-clause-same : goal.returns-in-Ok-clause-same
returns-in-Ok-clause-same g c = (keeps _ _ c.read_without_token.ensures.pass, c.pass_on.ensures.same)

pub returns-in-Ok-clause-more : goal.returns-in-Ok-clause-more
returns-in-Ok-clause-more g c =
    let t = took_as _ _ c.read_without_token.ensures.pass _ c.in-Ok-Item.field-0 (Item c.in-Ok-Item.row) c.in-Ok-Item.field-0-is tt c.in-Ok-Item.ensures.ended in
    turns_on _ _ _ _ _ _ _ _ _ _ c.in-Ok-Item.row c.in-Ok.outcome c.pass_on.result c.pass_on.ensures.same c.in-Ok.ensures.done t c.pass_on.ensures.passed

pub returns-in-Ok-clause-untold : goal.returns-in-Ok-clause-untold
returns-in-Ok-clause-untold g c =
    let t = took_as _ _ c.read_without_token.ensures.pass _ c.in-Ok-Item.field-0 (Item c.in-Ok-Item.row) c.in-Ok-Item.field-0-is tt c.in-Ok-Item.ensures.ended in
    if_more_all _ _ (item_untold _ _ _ t)

pub returns-clause-same : goal.returns-clause-same
returns-clause-same g c = (keeps _ _ c.read_without_token.ensures.pass, keeps_same_to _)
