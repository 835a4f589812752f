use Rattle.std.proofs.Common.{◌∙◌, ap, sym, length}
use Rattle.std.specs.Result.{is_ok}
use Rattle.record_lang.proofs.RecordLemmas.{pushed_numbered}
use Rattle.record_lang.proofs.records.Records.push.Goals as goal

pub invariant_of-self : goal.invariant_of-self
invariant_of-self c = rw c.push.ensures.items (pushed_numbered (is_ok c.push.result) c.self.inside.rows.items c.args.row c.self.invariant (c.requires ∙ ap length (sym c.self.view_is)))
