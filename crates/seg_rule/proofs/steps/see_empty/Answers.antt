use Rattle.std.proofs.Common.{ℕ}
use Rattle.seg_rule.specs.declared.word.QueueWord.TheVariants.{Tail}
use Rattle.seg_rule.proofs.Allowed.{index_in, tail_word}
use Rattle.seg_rule.proofs.Reading.{empty_at}
use Rattle.seg_rule.proofs.steps.see_empty.Goals as goal

pub load-requires : goal.load-requires
load-requires g c = let b = c.args.board.now in let m = c.args.seat.now in let t = c.requires.table in let n : ℕ = c.args.slots in (
  t.0.0,
  index_in b.key n _ b.table_id.words (Tail c.args.place) t.1 c.index-word.ensures t.0.1 (tail_word b.key c.args.place c.requires.word),
  empty_at b.key n _ b.table_id.slots m.id m.me t.1 c.args.place c.args.head g.A.Naming.place g.A.Naming.position c.args.peek g.A.Naming.full c.requires.naming.0 c.requires.naming.1 c.requires.naming.2 c.requires.may c.requires.word c.index-word.ensures,
)
