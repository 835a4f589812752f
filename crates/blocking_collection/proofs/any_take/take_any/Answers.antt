use Rattle.std.proofs.Common.{rules, ◌≡◌, ℕ, [], ◌∷◌, subst, length, ◌∙◌, refl, ◌<◌, inl, inr, arith}
use Rattle.blocking_collection.specs.declared.any_take.AnyTake.TheVariants as take
use Rattle.blocking_collection.specs.SeveralWaits.{SomeEmpty}
use Rattle.blocking_collection.specs.Several.{AllDid, TriedTake, no_items, no_item}
use Rattle.blocking_collection.proofs.Places.{all_none}
use Rattle.blocking_collection.proofs.Trying.{take_after}
use Rattle.blocking_collection.proofs.Rounds.{take_start, take_more, take_ends, take_stops, round_taken, still_of, not_looked}
use Rattle.blocking_collection.proofs.any_take.take_any.Goals as goal

pub loop-init : goal.loop-init
loop-init g c =
    let pr = g.T.Item.priority_of in let old = c.args.passes.now in
    (tt, tt, refl, c.requires, refl, take_start (length old) c.args.token.now (λ rs. AllDid pr old (no_items rs) old) (all_none pr old), inl refl)

pub returns-in-Index-clause-taken : goal.returns-in-Index-clause-taken
returns-in-Index-clause-taken g c =
    let pr = g.T.Item.priority_of in let mark = g.T.Item.mark in let old = c.args.passes.now in let mid = c.loop.passes in let new = c.try_take_any.new.passes in let r = take.Index c.in-Index.i c.in-Index.item in
    take_ends (length old) _ (λ rs. AllDid pr old (no_items rs) mid) (λ rs. TriedTake pr mark (no_items rs) old new r) _ c.loop.invariant.5 (λ rs a. take_after pr mark (no_items rs) old mid new r a c.in-Index.ensures.tried)

pub returns-in-Ended-clause-taken : goal.returns-in-Ended-clause-taken
returns-in-Ended-clause-taken g c =
    let pr = g.T.Item.priority_of in let mark = g.T.Item.mark in let old = c.args.passes.now in let mid = c.loop.passes in let new = c.try_take_any.new.passes in
    take_ends (length old) _ (λ rs. AllDid pr old (no_items rs) mid) (λ rs. TriedTake pr mark (no_items rs) old new take.Ended) _ c.loop.invariant.5 (λ rs a. take_after pr mark (no_items rs) old mid new take.Ended a c.in-Ended.ensures.tried)

pub returns-in-NoCollection-clause-taken : goal.returns-in-NoCollection-clause-taken
returns-in-NoCollection-clause-taken g c =
    let pr = g.T.Item.priority_of in let mark = g.T.Item.mark in let old = c.args.passes.now in let mid = c.loop.passes in let new = c.try_take_any.new.passes in
    let tries = c.loop.invariant.5 in
    let none = take_after pr mark (no_items tries.rounds) old mid new take.NoCollection tries.then c.in-NoCollection.ensures.tried in
    (none, not_looked _ _ _ c.loop.invariant.6 none.0)

pub returns-then-is_cancelled-clause-taken : goal.returns-then-is_cancelled-clause-taken
returns-then-is_cancelled-clause-taken g c =
    let pr = g.T.Item.priority_of in let old = c.args.passes.now in let mid = c.loop.passes in let new = c.try_take_any.new.passes in let t = c.in-NoneUsed.ensures.tried in
    let empty : SomeEmpty (length old) t.0 = (t.1, subst (λ (n : ℕ). t.1 < n) c.loop.invariant.4 t.2, t.3) in
    take_stops (length old) _ (λ rs. AllDid pr old (no_items rs) mid) (λ rs. AllDid pr old (no_items rs) new) _ c.loop.invariant.5 t.0 empty _ c.if-is_cancelled.ensures.looked
    (λ rs a. round_taken pr old mid new rs t.0 a t.4)

pub loop-preserved : goal.loop-preserved
loop-preserved g c =
    let pr = g.T.Item.priority_of in let old = c.args.passes.now in let mid = c.loop.passes in let new = c.try_take_any.new.passes in let t = c.in-NoneUsed.ensures.tried in
    let word : c.is_cancelled.new.self.word ≡ c.loop.token.word = search rules in
    let empty : SomeEmpty (length old) t.0 = (t.1, subst (λ (n : ℕ). t.1 < n) c.loop.invariant.4 t.2, t.3) in (
      tt,
      tt,
      word ∙ c.loop.invariant.2,
      still_of pr c.args.collections.now mid new (λ j. no_item j (t.0 j) ∷ []) c.loop.invariant.3 t.4,
      t.4.size ∙ c.loop.invariant.4,
      take_more (length old) _ (λ rs. AllDid pr old (no_items rs) mid) (λ rs. AllDid pr old (no_items rs) new) _ c.loop.invariant.5 t.0 empty _ c.if-is_cancelled.ensures.looked c.if-is_cancelled.ensures.for_good
          (λ rs a. round_taken pr old mid new rs t.0 a t.4),
      inr (omega (arith, empty.1)),
    )
