use Rattle.csv.specs.Records.{fields_of}
use Rattle.text_rows.proofs.WrittenLemmas.{row_written}
use Rattle.text_rows.proofs.writing.put_row.Goals as goal

pub returns-clause-lines : goal.returns-clause-lines
returns-clause-lines c = row_written c.args.lines.now c.write_byte_record.new.self (fields_of c.args.row.now) c.requires.ready c.requires.word c.in-Ok.ensures.bytes
