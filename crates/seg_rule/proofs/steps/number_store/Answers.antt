use Rattle.std.proofs.Common.{ℕ, subst, sym, refl, ◌<◌, ◌+◌}
use Rattle.seg_rule.specs.declared.word.QueueWord.TheVariants.{Number}
use Rattle.seg_rule.specs.declared.view.Stage.TheVariants.{Preparing}
use Rattle.seg_rule.specs.Words.{memory}
use Rattle.seg_rule.specs.Steps.{more_stage}
use Rattle.seg_rule.proofs.Allowed.{index_in, number_word, stage_at}
use Rattle.seg_rule.proofs.Preparing.{shown_kept}
use Rattle.seg_rule.proofs.steps.number_store.Goals as goal

pub store-requires : goal.store-requires
store-requires c = let b = c.args.board.now in let m = c.args.seat.now in let t = c.requires.table in let n : ℕ = c.args.slots in let r = c.requires.stage in
    let near = number_word b.key c.args.place c.args.slot c.requires.word.0 (subst (λ (z : ℕ). c.args.slot < z) (sym t.1) c.requires.word.1) in (
      t.0.0,
      index_in b.key n _ b.table_id.words (Number c.args.place c.args.slot) t.1 c.index-word.ensures t.0.1 near,
      stage_at b.key n _ b.table_id.slots m.id m.me (Number c.args.place c.args.slot) c.args.number more_stage (Preparing r.0 c.args.place r.1 r.2 (4 + c.args.slot)) (more_stage (Preparing r.0 c.args.place r.1 r.2 (4 + c.args.slot))) t.1 c.index-word.ensures near r.4 refl
          (λ s k at. shown_kept b.key (memory b.key.places b.key.slots s.words) s.views m.id m.me.0 k at c.args.place c.args.slot c.args.number r),
    )
