use Rattle.std.proofs.Common.{heap_items, heap_len, rules, arith, refl, length, ◌≡◌}
use Rattle.priority_core.proofs.Storing.{put_kept, put_order, length_in_order}
use Rattle.priority_core.proofs.store.PriorityStore.put.Goals as goal

pub invariant_of-self : goal.invariant_of-self
invariant_of-self g c =
    put_kept g.T.Marked.mark g.T.Marked.priority_of c.self.inside.next _ (heap_items c.self.inside.heap) (heap_items c.push.new.self)
    c.self.invariant refl c.shown_priority.ensures c.in-Ok.ensures.permutation
    (c.in-Ok.ensures.heap_order c.self.invariant.heap_order)

pub returns-in-Ok-clause-ok : goal.returns-in-Ok-clause-ok
returns-in-Ok-clause-ok g c =
    rw (← c.self.view_is) (
      put_order g.T.Marked.mark g.T.Marked.priority_of c.self.inside.next _ (heap_items c.self.inside.heap) (heap_items c.push.new.self)
          c.self.invariant refl c.in-Ok.ensures.permutation,
      refl,
    )

pub returns-in-Err-clause-room : goal.returns-in-Err-clause-room
returns-in-Err-clause-room g c =
    let e = length_in_order g.T.Marked.mark g.T.Marked.priority_of (heap_items c.self.inside.heap) in
    let f : heap_len c.self.inside.heap ≡ length (heap_items c.self.inside.heap) = search rules in
    rw (← c.self.view_is) (λ l. c.in-Err.ensures.succeeds (omega arith))
