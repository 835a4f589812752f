use Rattle.std.proofs.Common.{◌≡◌, ◌<◌, ◌⊎◌, length}
use Rattle.blocking_collection.specs.Several.{AllDid, AllOf}
use Rattle.blocking_collection.specs.Tries.{Tries}
use Rattle.blocking_collection.specs.SeveralWaits.{full_round}
use Rattle.blocking_collection.proofs.any_add.add_any.Given as goal

abbrev pub invariant-loop : goal.invariant-loop
invariant-loop g l =
    (goal.iterator-loop g).can_next l.iterator' × (goal.iterator-loop g).is_finite l.iterator'
    × (l.given ≡ l.fn.item) × (l.token.word ≡ l.fn.token.word) × AllOf l.collections l.passes
    × Tries (full_round (g.T.Item.mark l.fn.item)) (λ b. AllDid g.T.Item.priority_of l.fn.passes (λ j. b) l.passes) l.fn.token l.token
    × ((l.token ≡ l.fn.token) ⊎ (0 < length l.fn.passes))
