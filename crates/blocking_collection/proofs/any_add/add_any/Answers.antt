use Rattle.std.proofs.Common.{rules, ◌≡◌, [], ◌∙◌, refl, Ok, Err, inl, inr, arith}
use Rattle.blocking_collection.specs.declared.any_add.AnyAdd.TheVariants as add
use Rattle.blocking_collection.specs.SeveralWaits.{full_round}
use Rattle.blocking_collection.specs.Several.{AllDid, TriedAdd}
use Rattle.blocking_collection.proofs.Places.{all_on, all_none}
use Rattle.blocking_collection.proofs.Trying.{after, told}
use Rattle.blocking_collection.proofs.Rounds.{start, more, ends, stops, still_of, not_looked}
use Rattle.blocking_collection.proofs.any_add.add_any.Goals as goal

pub loop-init : goal.loop-init
loop-init g c =
    let pr = g.T.Item.priority_of in let old = c.args.passes.now in
    (tt, tt, refl, refl, c.requires, start (full_round (g.T.Item.mark c.args.item)) c.args.token.now (λ b. AllDid pr old (λ j. b) old) (all_none pr old), inl refl)

pub returns-then-is_cancelled-clause-added : goal.returns-then-is_cancelled-clause-added
returns-then-is_cancelled-clause-added g c =
    let pr = g.T.Item.priority_of in let mark = g.T.Item.mark in let x = c.args.item in let old = c.args.passes.now in let mid = c.loop.passes in let new = c.try_add_any.new.passes in
    let did : TriedAdd pr mark x [] mid new (Ok (add.NoneUsed c.in-Ok-NoneUsed.back)) = told pr mark x mid new x c.loop.given c.in-Ok-NoneUsed.field-0 (add.NoneUsed c.in-Ok-NoneUsed.back) c.loop.invariant.2 c.in-Ok-NoneUsed.field-0-is c.in-Ok-NoneUsed.ensures.tried in (
      did.0,
      omega (arith, did.1, c.loop.invariant.4.size, c.requires.size),
      stops (full_round (mark x)) _ (λ b. AllDid pr old (λ j. b) mid) (λ b. AllDid pr old (λ j. b) new) _ c.loop.invariant.5 _ c.if-is_cancelled.ensures.looked
          (λ b a. all_on pr old mid new (λ j. b) (λ j. full_round (mark x)) a did.2),
    )

pub returns-in-Ok-Index-clause-added : goal.returns-in-Ok-Index-clause-added
returns-in-Ok-Index-clause-added g c =
    let pr = g.T.Item.priority_of in let mark = g.T.Item.mark in let x = c.args.item in let old = c.args.passes.now in let mid = c.loop.passes in let new = c.try_add_any.new.passes in let r = Ok (add.Index c.in-Ok-Index.i) in
    let did : TriedAdd pr mark x [] mid new r = told pr mark x mid new x c.loop.given c.in-Ok-Index.field-0 (add.Index c.in-Ok-Index.i) c.loop.invariant.2 c.in-Ok-Index.field-0-is c.in-Ok-Index.ensures.tried in
    ends (full_round (mark x)) _ (λ b. AllDid pr old (λ j. b) mid) (λ b. TriedAdd pr mark x b old new r) _ c.loop.invariant.5 (λ b a. after pr mark x b old mid new r a did)

pub returns-in-Ok-Closed-clause-added : goal.returns-in-Ok-Closed-clause-added
returns-in-Ok-Closed-clause-added g c =
    let pr = g.T.Item.priority_of in let mark = g.T.Item.mark in let x = c.args.item in let old = c.args.passes.now in let mid = c.loop.passes in let new = c.try_add_any.new.passes in let r = Ok (add.Closed c.in-Ok-Closed.i c.in-Ok-Closed.back) in
    let did : TriedAdd pr mark x [] mid new r = told pr mark x mid new x c.loop.given c.in-Ok-Closed.field-0 (add.Closed c.in-Ok-Closed.i c.in-Ok-Closed.back) c.loop.invariant.2 c.in-Ok-Closed.field-0-is c.in-Ok-Closed.ensures.tried in
    ends (full_round (mark x)) _ (λ b. AllDid pr old (λ j. b) mid) (λ b. TriedAdd pr mark x b old new r) _ c.loop.invariant.5 (λ b a. after pr mark x b old mid new r a did)

pub returns-in-Ok-NoCollection-clause-added : goal.returns-in-Ok-NoCollection-clause-added
returns-in-Ok-NoCollection-clause-added g c =
    let pr = g.T.Item.priority_of in let mark = g.T.Item.mark in let x = c.args.item in let old = c.args.passes.now in let mid = c.loop.passes in let new = c.try_add_any.new.passes in let r = Ok (add.NoCollection c.in-Ok-NoCollection.back) in
    let did : TriedAdd pr mark x [] mid new r = told pr mark x mid new x c.loop.given c.in-Ok-NoCollection.field-0 (add.NoCollection c.in-Ok-NoCollection.back) c.loop.invariant.2 c.in-Ok-NoCollection.field-0-is c.in-Ok-NoCollection.ensures.tried in
    let tries = c.loop.invariant.5 in
    let none = after pr mark x _ old mid new r tries.then did in
    (none.0, none.1, not_looked _ _ _ c.loop.invariant.6 none.1.0)

pub returns-in-Err-clause-added : goal.returns-in-Err-clause-added
returns-in-Err-clause-added g c =
    let pr = g.T.Item.priority_of in let mark = g.T.Item.mark in let x = c.args.item in let old = c.args.passes.now in let mid = c.loop.passes in let new = c.try_add_any.new.passes in
    let did : TriedAdd pr mark x [] mid new (Err c.in-Err.unpaid) = rw c.loop.invariant.2 at c.in-Err.ensures.tried in
    ends (full_round (mark x)) _ (λ b. AllDid pr old (λ j. b) mid) (λ b. TriedAdd pr mark x b old new (Err c.in-Err.unpaid)) _ c.loop.invariant.5 (λ b a. after pr mark x b old mid new (Err c.in-Err.unpaid) a did)

pub loop-preserved : goal.loop-preserved
loop-preserved g c =
    let pr = g.T.Item.priority_of in let mark = g.T.Item.mark in let x = c.args.item in let old = c.args.passes.now in let mid = c.loop.passes in let new = c.try_add_any.new.passes in
    let did : TriedAdd pr mark x [] mid new (Ok (add.NoneUsed c.in-Ok-NoneUsed.back)) = told pr mark x mid new x c.loop.given c.in-Ok-NoneUsed.field-0 (add.NoneUsed c.in-Ok-NoneUsed.back) c.loop.invariant.2 c.in-Ok-NoneUsed.field-0-is c.in-Ok-NoneUsed.ensures.tried in
    let word : c.is_cancelled.new.self.word ≡ c.loop.token.word = search rules in (
      tt,
      tt,
      did.0,
      word ∙ c.loop.invariant.3,
      still_of pr c.args.collections.now mid new (λ j. full_round (mark x)) c.loop.invariant.4 did.2,
      more (full_round (mark x)) _ (λ b. AllDid pr old (λ j. b) mid) (λ b. AllDid pr old (λ j. b) new) _ c.loop.invariant.5 _ c.if-is_cancelled.ensures.looked c.if-is_cancelled.ensures.for_good
          (λ b a. all_on pr old mid new (λ j. b) (λ j. full_round (mark x)) a did.2),
      inr (omega (arith, did.1, c.loop.invariant.4.size, c.requires.size)),
    )
