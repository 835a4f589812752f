use Rattle.std.proofs.Common.{◌∙◌, []}
use Rattle.text_rows.proofs.writing.row_line.Goals as goal

pub returns : goal.returns
returns c = c.from_vec.ensures ∙ c.in_ok-finish_lines.ensures _ (c.in_ok-put_fields.ensures.lines [] c.new_lines-lines.ensures.lines)
