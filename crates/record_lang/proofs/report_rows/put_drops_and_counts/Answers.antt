use Rattle.std.proofs.Common.{◌∙◌, ℕ, List, Some, ap, append_assoc, length}
use Rattle.std.specs.List.{flat_map}
use Rattle.record_lang.specs.Tallies.{counts_in}
use Rattle.record_lang.specs.Texts.{drop_counts_line, dropped_line}
use Rattle.record_lang.proofs.TextLemmas.{on_ok}
use Rattle.record_lang.proofs.report_rows.put_drops_and_counts.Goals as goal

pub returns-clause-lines : goal.returns-clause-lines
returns-clause-lines c =
    on_ok c.put_drop_counts.result _ _
    (λ more text h. more _ (c.in_ok-put_drops.ensures.lines text h) ∙ ap (λ (t : List ℕ). Some t) (append_assoc text (flat_map dropped_line c.args.dropped.now) (drop_counts_line (counts_in c.args.tally) (length c.args.dropped.now))))
    c.put_drop_counts.ensures.lines
