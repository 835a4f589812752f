use Rattle.std.proofs.Common.{◌∙◌, inr, refl, sym}
use Rattle.csv.specs.Reading.{Reached, strip_bom}
use Rattle.text_rows.proofs.reading.new_reader.Goals as goal

pub returns : goal.returns
unfolding Reached
returns c =
    let r = c.from_reader.ensures in
    let f = c.flexible.ensures in
    let e = c.has_headers.ensures in
    record {
      untrimmed = rw (f, e) at r.trim ∙ c.new.ensures.trim;
      flexible = rw f at r.flexible;
      ready = inr (inr (rw (f, e) at r.has_headers, r.headers));
      config = rw (f, e) at r.config ∙ c.new.ensures.config;
      reached = (strip_bom c.args.bytes.now, r.source, (sym r.state, refl));
    }
