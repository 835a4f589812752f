use Rattle.std.proofs.Common.{ℕ, refl, ◌*◌}
use Rattle.seg_rule.specs.declared.word.QueueWord.TheVariants.{Tail}
use Rattle.seg_rule.specs.declared.view.Stage.TheVariants.{Plain, Closed}
use Rattle.seg_rule.specs.Words.{memory}
use Rattle.seg_rule.specs.Steps.{reopened_stage}
use Rattle.seg_rule.proofs.Allowed.{index_in, tail_word, stage_at}
use Rattle.seg_rule.proofs.Links.{reopened_kept}
use Rattle.seg_rule.proofs.steps.tail_reopen.Goals as goal

pub store-requires : goal.store-requires
store-requires c = let b = c.args.board.now in let m = c.args.seat.now in let t = c.requires.table in let n : ℕ = c.args.slots in let r = c.requires.stage in let near = tail_word b.key c.args.place c.requires.word.0 in (
  t.0.0,
  index_in b.key n _ b.table_id.words (Tail c.args.place) t.1 c.index-word.ensures t.0.1 near,
  stage_at b.key n _ b.table_id.slots m.id m.me (Tail c.args.place) (2 * c.args.position) reopened_stage (Closed c.args.place c.args.position r.0) Plain t.1 c.index-word.ensures near r.1 refl
      (λ s k at. reopened_kept b.key (memory b.key.places b.key.slots s.words) s.views m.id m.me.0 k at c.args.place c.args.position r.0 r.1),
)
