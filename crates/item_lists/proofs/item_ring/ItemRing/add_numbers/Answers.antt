use Rattle.std.proofs.Common.{◌≡◌, ◌<◌, ◌++◌, ◌∷◌, [], length, slice_get, Some, rules, ◌∙◌}
use Rattle.std.proofs.lemmas.Option.{get_or_from_slice_get}
use Rattle.item_lists.proofs.Numbers.{numbers_more}
use Rattle.item_lists.proofs.item_ring.ItemRing.add_numbers.Goals as goal

pub loop-i-preserved : goal.loop-i-preserved
loop-i-preserved g c =
    let items = c.self.inside.items.items in
    let pushed : c.push.new.self.items ≡ c.loop-i.numbers.items ++ c.shown_number.result ∷ [] = search rules in
    let inside : c.loop-i.i < length items = search rules in
    let found : slice_get items c.loop-i.i ≡ Some c.unwrap.result.now = search rules in
    let there = get_or_from_slice_get items c.loop-i.i c.unwrap.result.now c.unwrap.result.now found in
    pushed ∙ numbers_more g.T.Marked.mark items c.loop-i.i c.unwrap.result.now c.shown_number.result c.args.numbers.now.items c.loop-i.numbers.items inside there c.shown_number.ensures c.loop-i.invariant
