use Rattle.std.proofs.Common.{◌∙◌, sym, refl}
use Rattle.record_lang.proofs.GuardLemmas.{fed_none, fed_some, stopped_none, stopped_some}
use Rattle.record_lang.proofs.texts.rows_to_feed.Goals as goal

pub returns-in-None-clause-rows : goal.returns-in-None-clause-rows
returns-in-None-clause-rows c =
    let none = rw (c.deref.ensures.value, c.into_vec-rows.ensures.rows) at (sym c.in-None.ensures) in
    c.into_vec-rows.ensures.rows ∙ fed_none c.args.pipeline.now.guard c.args.records none

pub returns-in-None-clause-code : goal.returns-in-None-clause-code
returns-in-None-clause-code c =
    let none = rw (c.deref.ensures.value, c.into_vec-rows.ensures.rows) at (sym c.in-None.ensures) in
    rw (stopped_none c.args.pipeline.now.guard c.args.records none) refl

pub returns-in-Some-clause-rows : goal.returns-in-Some-clause-rows
returns-in-Some-clause-rows c =
    let some = rw (c.deref.ensures.value, c.into_vec-rows.ensures.rows) at (sym c.in-Some.ensures) in
    c.truncate.ensures.items ∙ rw c.into_vec-rows.ensures.rows (fed_some c.args.pipeline.now.guard c.args.records c.in-Some.at some)

pub returns-in-Some-clause-code : goal.returns-in-Some-clause-code
returns-in-Some-clause-code c =
    let some = rw (c.deref.ensures.value, c.into_vec-rows.ensures.rows) at (sym c.in-Some.ensures) in
    rw (stopped_some c.args.pipeline.now.guard c.args.records c.in-Some.at some) c.guard_code.ensures
