use Rattle.std.proofs.Common.{◌∙◌, ap, heap_items, rules, length, ◌<◌}
use Rattle.ho_base.specs.Marks.{number_of}
use Rattle.priority_core.proofs.Storing.{on_top, number_shown}
use Rattle.priority_core.proofs.store.PriorityStore.first_number.Goals as goal

pub returns : goal.returns
returns g c =
    let some : 0 < length (heap_items c.self.inside.heap) = search rules in
    let top = on_top g.T.Marked.mark g.T.Marked.priority_of c.self.inside.next c.in-Some.first.now (heap_items c.self.inside.heap)
    c.self.invariant some c.in-Some.ensures.lookup (c.in-Some.ensures.greatest c.self.invariant.heap_order) in
    rw (← c.self.view_is) (number_shown (g.T.Marked.mark c.in-Some.first.now.0.item) c.shown_number.result c.shown_number.ensures ∙ ap number_of top)
