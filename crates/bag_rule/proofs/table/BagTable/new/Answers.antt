use Rattle.std.proofs.Common.{◌≡◌, ◌∙◌, replicate, subst, sym, List, ℕ}
use Rattle.ho_base.specs.Marks.{Mark}
use Rattle.atomic_table.specs.Table.{opening}
use Rattle.bag_rule.specs.Words.{word_count}
use Rattle.bag_rule.specs.Views.{first_view}
use Rattle.bag_rule.specs.Rule.{Stands}
use Rattle.bag_rule.proofs.Starts.{starts}
use Rattle.bag_rule.proofs.table.BagTable.new.Goals as goal

pub new-requires : goal.new-requires
new-requires g c =
    let words : c.as_slice.result.now ≡ replicate (word_count c.args.callers) 0 = c.as_slice.ensures.value ∙ c.in_ok-words.ensures.items_if_clones_equal (λ y is. is) in
    subst (λ (z : List ℕ × List (List Mark)). Stands g.T.Item.priority_of c.args.callers (opening z.0 z.1 (first_view c.args.callers))) (λ i. (sym words i, sym c.in_ok-lists.ensures i)) (starts g.T.Item.priority_of c.args.callers c.requires)
