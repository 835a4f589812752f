use Rattle.std.proofs.Common.{◌++◌, ◌∙◌, [], None, ap, append_assoc, map}
use Rattle.text_rows.specs.Written.{text_of_row}
use Rattle.record_lang.specs.Tallies.{counts_in}
use Rattle.record_lang.specs.Texts.{Counts, counts_line, ending_line}
use Rattle.record_lang.proofs.texts.counts_text.Goals as goal

pub returns : goal.returns
returns c =
    let counts = c.in_ok-put_counts.ensures.lines [] c.new_lines-lines.ensures.lines in
    let fields = c.in_ok-put_fields.ensures.lines _ counts in
    let ending = c.in_ok-put_ending.ensures.lines _ fields in
    let own = text_of_row (map (λ f. f.now) c.args.fields.now) in
    c.from_vec.ensures ∙ c.in_ok-finish_lines.ensures _ ending ∙ append_assoc (counts_line (counts_in c.of.result)) own (ending_line None)
    ∙ ap (λ (k : Counts). counts_line k ++ (own ++ ending_line None)) c.of.ensures.counts
