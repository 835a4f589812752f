use Rattle.text_rows.proofs.ReadLemmas.{gives_row}
use Rattle.csv.specs.Records.{fields_of}
use Rattle.text_rows.proofs.reading.next_row.Goals as goal

pub returns : goal.returns
returns c = λ bytes rows h. gives_row bytes rows c.args.reader.now c.read_byte_record.new.self c.in-Ok.found (fields_of c.read_byte_record.new.row) h (c.in-Ok.ensures.ready h.untrimmed) c.in-Ok.ensures.flexible c.in-Ok.ensures.reads
