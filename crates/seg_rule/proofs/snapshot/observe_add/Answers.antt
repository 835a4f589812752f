use Rattle.std.proofs.Common.{ℕ}
use Rattle.seg_rule.specs.declared.word.QueueWord.TheVariants.{Observers}
use Rattle.seg_rule.proofs.Allowed.{index_in}
use Rattle.seg_rule.proofs.Watching.{observers_word, observes_at}
use Rattle.seg_rule.proofs.snapshot.observe_add.Goals as goal

pub fetch_add-requires : goal.fetch_add-requires
fetch_add-requires g c = let b = c.args.board.now in let m = c.args.seat.now in let t = c.requires.table in let n : ℕ = c.args.slots in (
  t.0.0,
  index_in b.key n _ b.table_id.words (Observers c.args.place) t.1 c.index-word.ensures t.0.1 (observers_word b.key c.args.place c.requires.word),
  observes_at b.key n _ b.table_id.slots m.id m.me t.1 c.args.place g.A.Naming.place c.requires.naming c.requires.word c.requires.may c.index-word.ensures,
)
