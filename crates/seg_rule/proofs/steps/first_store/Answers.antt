use Rattle.std.proofs.Common.{ℕ, arith}
use Rattle.seg_rule.specs.declared.word.QueueWord.TheVariants.{First}
use Rattle.seg_rule.proofs.Allowed.{index_in}
use Rattle.seg_rule.proofs.Firsts.{moves_at}
use Rattle.seg_rule.proofs.steps.first_store.Goals as goal

pub store-requires : goal.store-requires
store-requires c = let b = c.args.board.now in let m = c.args.seat.now in let t = c.requires.table in let n : ℕ = c.args.slots in (
  t.0.0,
  index_in b.key n _ b.table_id.words First t.1 c.index-word.ensures t.0.1 (omega arith, omega arith),
  moves_at b.key n _ b.table_id.slots m.id c.args.place m.me t.1 c.index-word.ensures c.requires.may,
)
