use Rattle.std.proofs.Common.{ℕ, refl}
use Rattle.seg_rule.specs.declared.word.QueueWord.TheVariants.{Start}
use Rattle.seg_rule.specs.declared.view.Stage.TheVariants.{Preparing}
use Rattle.seg_rule.specs.Words.{memory}
use Rattle.seg_rule.specs.Steps.{more_stage}
use Rattle.seg_rule.proofs.Allowed.{index_in, place_word, stage_at}
use Rattle.seg_rule.proofs.Preparing.{start_kept}
use Rattle.seg_rule.proofs.steps.start_store.Goals as goal

pub store-requires : goal.store-requires
store-requires c = let b = c.args.board.now in let m = c.args.seat.now in let t = c.requires.table in let n : ℕ = c.args.slots in let r = c.requires.stage in let near = (place_word b.key c.args.place c.requires.word).0 in (
  t.0.0,
  index_in b.key n _ b.table_id.words (Start c.args.place) t.1 c.index-word.ensures t.0.1 near,
  stage_at b.key n _ b.table_id.slots m.id m.me (Start c.args.place) c.args.position more_stage (Preparing r.0 c.args.place c.args.position r.1 1) (Preparing r.0 c.args.place c.args.position r.1 2) t.1 c.index-word.ensures near r.2 refl
      (λ s k at. start_kept b.key (memory b.key.places b.key.slots s.words) s.views m.id m.me.0 k at r.0 c.args.place c.args.position r.1 r.2),
)
