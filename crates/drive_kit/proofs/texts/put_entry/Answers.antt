use Rattle.std.proofs.Common.{◌<◌, ◌^◌, arith}
use Rattle.drive_kit.proofs.BackLemmas.{entry_has_word}
use Rattle.drive_kit.proofs.texts.put_entry.Goals as goal

pub put_row-requires-clause-word : goal.put_row-requires-clause-word
put_row-requires-clause-word c =
    let small : c.args.number < 2 ^ 64 = omega arith in
    rw c.in_ok-fill_row.ensures (entry_has_word c.args.number c.args.entry.now small)
