use Rattle.std.proofs.Common.{◌∙◌, Some, ap, sym, take}
use Rattle.drive_kit.specs.Histories.{text_of}
use Rattle.drive_kit.proofs.TextLemmas.{text_more}
use Rattle.drive_kit.proofs.texts.history_text.Goals as goal

pub loop-number-init : goal.loop-number-init
unfolding text_of
loop-number-init c = record { ready = c.new_lines-lines.ensures.ready; written = c.new_lines-lines.ensures.lines }

pub loop-number-preserved : goal.loop-number-preserved
loop-number-preserved c =
    let text = c.in_ok-put_entry.ensures.lines (text_of (take c.loop-number.number c.entries-entries.result.now)) c.loop-number.invariant.written in
    let more = text_more c.entries-entries.result.now c.loop-number.number c.index-entries-number.result c.loop-number-test.true c.index-entries-number.is in
    record { ready = c.in_ok-put_entry.ensures.ready; written = text ∙ ap Some (sym more) }
