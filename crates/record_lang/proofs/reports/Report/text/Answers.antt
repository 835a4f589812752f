use Rattle.std.proofs.Common.{◌∙◌, [], ap}
use Rattle.record_lang.specs.Texts.{Told}
use Rattle.record_lang.proofs.TextLemmas.{report_is}
use Rattle.record_lang.proofs.reports.Report.text.Goals as goal

pub returns : goal.returns
returns c =
    let results = c.in_ok-put_results.ensures.lines [] c.new_lines-lines.ensures.lines in
    let refusals = c.in_ok-put_refusals.ensures.lines _ results in
    let counts = c.in_ok-put_counts_rows.ensures.lines _ refusals in
    let ending = c.in_ok-put_ending.ensures.lines _ counts in
    let outcomes = ap (λ (t : Told). t.outcomes) c.self.view_is in
    c.from_vec.ensures ∙ c.in_ok-finish_lines.ensures _ ending ∙ report_is c.args.self.now c.args.code c.deref.result.now c.deref-2.result.now (c.deref.ensures.value ∙ outcomes) (c.deref-2.ensures.value ∙ outcomes)
