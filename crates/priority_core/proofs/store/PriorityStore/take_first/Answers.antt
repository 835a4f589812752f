use Rattle.std.proofs.Common.{heap_items, heap_len, rules, arith, length, ◌≡◌, ◌≤◌, ◌+◌}
use Rattle.std.specs.BinaryHeap.{heap_capacity}
use Rattle.priority_core.proofs.Storing.{taken_kept, leaves, length_in_order}
use Rattle.priority_core.proofs.store.PriorityStore.take_first.Goals as goal

pub invariant_of-self : goal.invariant_of-self
invariant_of-self g c =
    taken_kept g.T.Marked.mark g.T.Marked.priority_of c.self.inside.next _ (heap_items c.self.inside.heap) (heap_items c.pop.new.self)
    c.self.invariant c.in-Some.ensures.permutation
    (c.in-Some.ensures.heap_order c.self.invariant.heap_order).0

pub returns-clause-room : goal.returns-clause-room
returns-clause-room g c =
    let e = length_in_order g.T.Marked.mark g.T.Marked.priority_of (heap_items c.pop.new.self) in
    let f : heap_len c.pop.new.self ≡ length (heap_items c.pop.new.self) = search rules in
    let l : heap_len c.pop.new.self + 1 ≤ heap_capacity c.pop.new.self = search rules in
    (rw (← c.self.view_is) c.in-Some.ensures.capacity, omega arith)

pub returns-clause-item : goal.returns-clause-item
returns-clause-item g c =
    rw (← c.self.view_is)
    (leaves g.T.Marked.mark g.T.Marked.priority_of c.self.inside.next _ (heap_items c.self.inside.heap) (heap_items c.pop.new.self)
    c.self.invariant c.in-Some.ensures.permutation (c.in-Some.ensures.below_top c.self.invariant.heap_order)).item

pub returns-clause-rest : goal.returns-clause-rest
returns-clause-rest g c =
    rw (← c.self.view_is)
    (leaves g.T.Marked.mark g.T.Marked.priority_of c.self.inside.next _ (heap_items c.self.inside.heap) (heap_items c.pop.new.self)
    c.self.invariant c.in-Some.ensures.permutation (c.in-Some.ensures.below_top c.self.invariant.heap_order)).left
