use Rattle.std.proofs.Common.{ℕ}
use Rattle.seg_rule.specs.declared.word.QueueWord.TheVariants.{Head}
use Rattle.seg_rule.proofs.Allowed.{index_in, head_word}
use Rattle.seg_rule.proofs.Reading.{count_at}
use Rattle.seg_rule.proofs.steps.see_count.Goals as goal

pub load-requires : goal.load-requires
load-requires g c = let b = c.args.board.now in let m = c.args.seat.now in let t = c.requires.table in let n : ℕ = c.args.slots in (
  t.0.0,
  index_in b.key n _ b.table_id.words Head t.1 c.index-word.ensures t.0.1 (head_word b.key),
  count_at b.key n _ b.table_id.slots m.id m.me t.1 c.args.tail g.A.Naming.position c.requires.naming c.requires.may c.index-word.ensures,
)
