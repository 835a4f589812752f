use Rattle.std.proofs.Common.{ℕ, subst, sym, refl, ◌≤◌}
use Rattle.seg_rule.specs.declared.word.QueueWord.TheVariants.{Length}
use Rattle.seg_rule.specs.declared.view.Stage.TheVariants.{Found, Preparing}
use Rattle.seg_rule.specs.Words.{memory}
use Rattle.seg_rule.specs.Steps.{begun_stage}
use Rattle.seg_rule.proofs.Allowed.{index_in, place_word, stage_at}
use Rattle.seg_rule.proofs.Preparing.{found_begun_kept}
use Rattle.seg_rule.proofs.steps.length_store.Goals as goal

pub store-requires : goal.store-requires
store-requires g c = let b = c.args.board.now in let m = c.args.seat.now in let t = c.requires.table in let n : ℕ = c.args.slots in let r = c.requires.stage in let near = (place_word b.key c.args.place c.requires.word.0).1 in let l = g.A.Naming.length in (
  t.0.0,
  index_in b.key n _ b.table_id.words (Length c.args.place) t.1 c.index-word.ensures t.0.1 near,
  stage_at b.key n _ b.table_id.slots m.id m.me (Length c.args.place) c.args.length (begun_stage l) (Found r.0 r.1 c.args.place) (Preparing r.0 c.args.place r.1 l 1) t.1 c.index-word.ensures near r.5 refl
      (λ s k at. found_begun_kept b.key (memory b.key.places b.key.slots s.words) s.views m.id m.me.0 k at c.args.place l c.args.length c.requires.naming c.requires.word.0 c.requires.word.1 (subst (λ (z : ℕ). c.args.length ≤ z) (sym t.1) c.requires.word.2) r),
)
