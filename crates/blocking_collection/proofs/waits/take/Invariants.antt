use Rattle.std.proofs.Common.{◌≡◌}
use Rattle.blocking_collection.specs.Own.{DidOrRests}
use Rattle.blocking_collection.specs.Tries.{Tries}
use Rattle.blocking_collection.specs.Waits.{empty_take}
use Rattle.blocking_collection.proofs.waits.take.Given as goal

abbrev pub invariant-loop : goal.invariant-loop
invariant-loop g l =
    (goal.iterator-loop g).can_next l.iterator' × (goal.iterator-loop g).is_finite l.iterator'
    × (l.pass.table ≡ l.fn.pass.table) × (l.token.word ≡ l.fn.token.word)
    × Tries empty_take (λ before. DidOrRests g.T.Item.priority_of l.fn.pass before l.pass) l.fn.token l.token
