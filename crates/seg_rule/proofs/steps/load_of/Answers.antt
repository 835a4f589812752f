use Rattle.std.proofs.Common.{ℕ, subst, sym}
use Rattle.seg_rule.specs.Words.{IsWord}
use Rattle.seg_rule.proofs.Allowed.{index_in}
use Rattle.seg_rule.proofs.Reading.{looks_at}
use Rattle.seg_rule.proofs.steps.load_of.Goals as goal

pub load-requires : goal.load-requires
load-requires g c = let b = c.args.board.now in let m = c.args.seat.now in let t = c.requires.table in let n : ℕ = c.args.slots in let w = c.args.word.now in (
  t.0.0,
  index_in b.key n _ b.table_id.words w t.1 c.index-at.ensures t.0.1 (subst (λ (z : ℕ). IsWord b.key.places z w) (sym t.1) c.requires.word),
  looks_at b.key n _ b.table_id.slots m.id m.me t.1 w g.J.Aim.word c.requires.aim c.index-at.ensures c.requires.word,
)
