use Rattle.std.proofs.Common.{ℕ}
use Rattle.seg_rule.specs.declared.word.QueueWord.TheVariants.{Head}
use Rattle.seg_rule.proofs.Allowed.{index_in, head_word}
use Rattle.seg_rule.proofs.Watching.{snaps_at}
use Rattle.seg_rule.proofs.snapshot.head_look.Goals as goal

pub load-requires : goal.load-requires
load-requires c = let b = c.args.board.now in let m = c.args.seat.now in let t = c.requires.table in let n : ℕ = c.args.slots in (
  t.0.0,
  index_in b.key n _ b.table_id.words Head t.1 c.index-word.ensures t.0.1 (head_word b.key),
  snaps_at b.key n _ b.table_id.slots m.id m.me t.1 c.requires.may c.index-word.ensures,
)
