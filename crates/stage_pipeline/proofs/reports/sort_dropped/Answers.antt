use Rattle.std.proofs.Common.{◌≡◌, rules}
use Rattle.std.proofs.lemmas.Fn.{always_returns_same}
use Rattle.stage_pipeline.proofs.reports.sort_dropped.Goals as goal

pub returns-clause-sorted : goal.returns-clause-sorted
returns-clause-sorted c =
    c.sort_unstable_by_key.ensures.sorted (λ d. (d.joint, d.number))
    (always_returns_same _ (λ a r. r ≡ (a.0.now.joint, a.0.now.number)) _ (λ a r q k. search rules))
