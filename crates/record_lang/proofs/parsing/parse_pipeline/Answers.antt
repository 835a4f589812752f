use Rattle.std.proofs.Common.{arith}
use Rattle.record_lang.proofs.ReadingLemmas.{reading_from-end, reading_from-refused, reading_from-told}
use Rattle.record_lang.specs.Parsing.{reading_of}
use Rattle.record_lang.proofs.parsing.parse_pipeline.Goals as goal

pub returns-in-Err : goal.returns-in-Err
returns-in-Err c = reading_from-refused c.lines.place c.lines.draft c.in-Some.line.now c.in-Some.after.now c.lines.rest.now c.in-Err.fault c.fault_of_line.result (reading_of c.args.bytes.now) c.in-Some.ensures c.in-Err.ensures c.fault_of_line.ensures c.lines.invariant.means

pub lines-preserved : goal.lines-preserved
lines-preserved c =
    let stands = c.in-Some.ensures in
    record {
      means = reading_from-told c.lines.place c.lines.draft c.in-Ok.longer c.in-Some.line.now c.in-Some.after.now c.lines.rest.now (reading_of c.args.bytes.now) stands c.in-Ok.ensures c.lines.invariant.means;
      places = omega (arith, stands.shorter, c.lines.invariant.places);
    }

pub returns : goal.returns
returns c = reading_from-end c.lines.place c.lines.draft c.lines.rest.now c.finished.result (reading_of c.args.bytes.now) c.in_default.ensures c.finished.ensures c.lines.invariant.means
