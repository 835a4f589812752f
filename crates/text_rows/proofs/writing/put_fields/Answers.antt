use Rattle.std.proofs.Common.{map, Bor, List, ℕ}
use Rattle.text_rows.proofs.WrittenLemmas.{row_written}
use Rattle.text_rows.proofs.writing.put_fields.Goals as goal

pub returns-clause-lines : goal.returns-clause-lines
returns-clause-lines c = row_written c.args.lines.now c.write_fields.new.self (map (λ (f : Bor (List ℕ)). f.now) c.args.fields.now) c.requires.ready c.requires.word c.in-Ok.ensures.bytes
