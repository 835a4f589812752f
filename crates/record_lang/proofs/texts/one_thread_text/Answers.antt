use Rattle.std.proofs.Common.{◌≡◌, ◌∙◌, sym, true, rules}
use Rattle.std.specs.Result.{is_ok}
use Rattle.std.proofs.lemmas.List.{map-id}
use Rattle.std.proofs.lemmas.Iterator.Adapters.{YieldsList-from_vec}
use Rattle.std.proofs.lemmas.Iterator.Consumers.{YieldsList-end}
use Rattle.record_lang.specs.Guards.{fed_rows}
use Rattle.record_lang.specs.Tallies.{counts_in}
use Rattle.record_lang.proofs.TextLemmas.{text_is}
use Rattle.record_lang.proofs.texts.one_thread_text.Goals as goal

pub returns : goal.returns
returns c =
    let rows = c.rows_to_feed-rows.result.rows in
    let b = c.into_iter-record-iterator.ensures.into_iter_gives in
    let road = YieldsList-from_vec {s = c.into_iter-record-iterator.result} rows.items b.0 (b.1 ∙ rows.ok.0) in
    let end = YieldsList-end road c.records.yielded c.records.record-iterator c.records.yielded_by c.next.result c.next.new.self c.in-None.is c.next.ensures.steps in
    let whole : c.records.yielded ≡ fed_rows c.args.pipeline.now.guard c.args.records = sym (map-id c.records.yielded) ∙ end.0 ∙ c.rows_to_feed-rows.ensures.rows in
    let good : is_ok c.extend_from_slice.result ≡ true = search rules in
    let items = rw (good, c.deref.ensures.value) at c.extend_from_slice.ensures.items in
    let text = c.in_ok-text.ensures _ c.records.invariant.results in
    let rest = c.in_ok-rest.ensures _ (c.in_ok-put_ending.ensures.lines _ (c.in_ok-put_counts.ensures.lines _ c.records.invariant.refusals)) in
    c.from_vec.ensures ∙ items ∙ text_is c.args.pipeline.now c.stage_list-stages.result.now c.args.records c.records.yielded c.rows_to_feed-rows.result.code _ _ (counts_in c.records.tally) c.stage_list-stages.ensures.stages whole c.rows_to_feed-rows.ensures.code text rest c.records.invariant.tally
