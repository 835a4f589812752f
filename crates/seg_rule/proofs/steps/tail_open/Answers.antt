use Rattle.std.proofs.Common.{ℕ}
use Rattle.seg_rule.specs.declared.word.QueueWord.TheVariants.{Tail}
use Rattle.seg_rule.proofs.Allowed.{index_in, tail_word, opens_at}
use Rattle.seg_rule.proofs.steps.tail_open.Goals as goal

pub store-requires : goal.store-requires
store-requires c = let b = c.args.board.now in let m = c.args.seat.now in let t = c.requires.table in let n : ℕ = c.args.slots in (
  t.0.0,
  index_in b.key n _ b.table_id.words (Tail c.args.place) t.1 c.index-word.ensures t.0.1 (tail_word b.key c.args.place c.requires.word.0),
  opens_at b.key n _ b.table_id.slots m.id m.me t.1 c.requires.stage.0 c.args.place c.args.position c.requires.stage.1 c.requires.stage.2 c.requires.word.0 c.index-word.ensures,
)
