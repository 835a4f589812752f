-- The feeder's writes, one record after the other.
use Rattle.std.specs.Prelude.{ℕ, List, [], ◌∷◌, ◌++◌}
use Rattle.std.proofs.Common.{◌∙◌, arith}
use Rattle.std.proofs.lemmas.List.Sums.{sum_by_push}
use Rattle.turn_lock.specs.Passes.{LockPass}
use Rattle.record_lang.specs.Marks.{mark_of}
use Rattle.record_lang.specs.Records.{Row}
use Rattle.stage_pipeline.specs.Crews.{Feeds}
use Rattle.stage_pipeline.specs.Works.{Sends}

pub feeds_more : (fed : List Row) (row : Row) (p q : LockPass) (lost lost' : List ℕ) → Sends (mark_of row) p q lost lost' → Feeds fed p lost → Feeds (fed ++ row ∷ []) q lost'
feeds_more fed row p q lost lost' s f = record {
  writes = λ h. (let a = f.writes h in let b = s.writes h in let c = sum_by_push (λ (r : Row). h (mark_of r)) fed row in omega (arith, a, b, c));
  loses = λ g. (let a = f.loses g in let b = s.loses g in omega (arith, a, b));
  settled = let a = f.settled in let b = s.settled in omega (arith, a, b);
  quiet = λ h. (let a = s.quiet h in let b = f.quiet h in (a.0 ∙ b.0, a.1 ∙ b.1));
  uncompleting = s.uncompleting ∙ f.uncompleting;
  untold = s.untold ∙ f.untold;
  alone = s.alone ∙ f.alone;
}
