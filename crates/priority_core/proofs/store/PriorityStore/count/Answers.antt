use Rattle.std.proofs.Common.{◌∙◌, sym, heap_items, rules, length, ◌≡◌}
use Rattle.priority_core.proofs.Storing.{length_in_order}
use Rattle.priority_core.proofs.store.PriorityStore.count.Goals as goal

pub returns : goal.returns
returns g c =
    let e = length_in_order g.T.Marked.mark g.T.Marked.priority_of (heap_items c.self.inside.heap) in
    let f : c.len.result ≡ length (heap_items c.self.inside.heap) = search rules in
    rw (← c.self.view_is) (f ∙ sym e)
