use Rattle.std.proofs.Common.{◌≡◌, ◌<◌, ◌++◌, ◌∷◌, [], length, get_or, rules, ◌∙◌}
use Rattle.std.specs.VecDeque.{deque_items}
use Rattle.item_lists.proofs.Numbers.{numbers_more}
use Rattle.item_lists.proofs.item_list.ItemList.add_numbers.Goals as goal

pub loop-i-preserved : goal.loop-i-preserved
loop-i-preserved g c =
    let items = deque_items c.self.inside.items in
    let pushed : c.push.new.self.items ≡ c.loop-i.numbers.items ++ c.shown_number.result ∷ [] = search rules in
    let inside : c.loop-i.i < length items = search rules in
    let there : get_or items c.loop-i.i c.index.result.now ≡ c.index.result.now = search rules in
    pushed ∙ numbers_more g.T.Marked.mark items c.loop-i.i c.index.result.now c.shown_number.result c.args.numbers.now.items c.loop-i.numbers.items inside there c.shown_number.ensures c.loop-i.invariant
