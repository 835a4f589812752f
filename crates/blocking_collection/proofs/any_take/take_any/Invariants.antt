use Rattle.std.proofs.Common.{◌≡◌, ◌<◌, ◌⊎◌, length}
use Rattle.blocking_collection.specs.Several.{AllDid, AllOf, no_items}
use Rattle.blocking_collection.specs.SeveralWaits.{Takes}
use Rattle.blocking_collection.proofs.any_take.take_any.Given as goal

abbrev pub invariant-loop : goal.invariant-loop
invariant-loop g l =
    (goal.iterator-loop g).can_next l.iterator' × (goal.iterator-loop g).is_finite l.iterator'
    × (l.token.word ≡ l.fn.token.word) × AllOf l.collections l.passes × (length l.passes ≡ length l.fn.passes)
    × Takes (length l.fn.passes) (λ rs. AllDid g.T.Item.priority_of l.fn.passes (no_items rs) l.passes) l.fn.token l.token
    × ((l.token ≡ l.fn.token) ⊎ (0 < length l.fn.passes))
