use Rattle.std.proofs.Common.{ℕ}
use Rattle.seg_rule.specs.declared.word.QueueWord.TheVariants.{Tail}
use Rattle.seg_rule.proofs.Allowed.{index_in, tail_word, closes_at}
use Rattle.seg_rule.proofs.steps.tail_close.Goals as goal

pub compare_exchange-requires : goal.compare_exchange-requires
compare_exchange-requires g c = let b = c.args.board.now in let m = c.args.seat.now in let t = c.requires.table in let n : ℕ = c.args.slots in let r = c.requires.may.1 in (
  t.0.0,
  index_in b.key n _ b.table_id.words (Tail c.args.place) t.1 c.index-word.ensures t.0.1 (tail_word b.key c.args.place c.requires.word.0),
  closes_at b.key n _ b.table_id.slots m.id m.me t.1 c.args.place c.args.position g.A.Naming.place g.A.Naming.position r.0 c.requires.naming.0 c.requires.naming.1 c.requires.may.0 r.1 r.2 r.3 c.requires.word.0 c.index-word.ensures,
)
