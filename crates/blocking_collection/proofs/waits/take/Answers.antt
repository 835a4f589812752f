use Rattle.std.proofs.Common.{rules, inr, ◌≡◌, ◌+◌, [], ◌∷◌, ◌++◌, refl, ◌∙◌}
use Rattle.ho_model.specs.declared.marks.ReplyMark.TheVariants.{Item, Ended}
use Rattle.blocking_collection.specs.Own.{Did, DidOrRests, taken}
use Rattle.blocking_collection.specs.Waits.{empty_take}
use Rattle.blocking_collection.proofs.Doing.{rests, did_step, did_after}
use Rattle.blocking_collection.proofs.Rounds.{start, more, ends, stops}
use Rattle.blocking_collection.proofs.waits.take.Goals as goal

pub loop-init : goal.loop-init
loop-init g c =
    let pr = g.T.Item.priority_of in
    let old = c.args.pass.now in
    (tt, tt, refl, refl, start empty_take c.args.token.now (λ b. DidOrRests pr old b old) (rests pr old))

pub returns-in-Item-clause-taken : goal.returns-in-Item-clause-taken
returns-in-Item-clause-taken g c =
    let pr = g.T.Item.priority_of in
    let old = c.args.pass.now in
    let d = taken (Item (g.T.Item.mark c.in-Item.item)) ∷ [] in
    let did : Did pr c.loop.pass d c.try_take.new.pass = did_step pr _ _ _ _ c.try_take.ensures.pass c.in-Item.ensures.taken in
    ends empty_take _ (λ b. DidOrRests pr old b c.loop.pass) (λ b. Did pr old (b ++ d) c.try_take.new.pass) _ c.loop.invariant.4 (λ b a. did_after pr _ _ _ b d a did)

pub returns-in-Ended-clause-taken : goal.returns-in-Ended-clause-taken
returns-in-Ended-clause-taken g c =
    let pr = g.T.Item.priority_of in
    let old = c.args.pass.now in
    let d = taken Ended ∷ [] in
    let did : Did pr c.loop.pass d c.try_take.new.pass = did_step pr _ _ _ _ c.try_take.ensures.pass c.in-Ended.ensures.taken in
    ends empty_take _ (λ b. DidOrRests pr old b c.loop.pass) (λ b. Did pr old (b ++ d) c.try_take.new.pass) _ c.loop.invariant.4 (λ b a. did_after pr _ _ _ b d a did)

pub returns-then-is_cancelled-clause-taken : goal.returns-then-is_cancelled-clause-taken
returns-then-is_cancelled-clause-taken g c =
    let pr = g.T.Item.priority_of in
    let old = c.args.pass.now in
    let did : Did pr c.loop.pass empty_take c.try_take.new.pass = did_step pr _ _ _ _ c.try_take.ensures.pass c.in-Empty.ensures.taken in
    stops empty_take _ (λ b. DidOrRests pr old b c.loop.pass) (λ b. Did pr old b c.try_take.new.pass) _ c.loop.invariant.4 _ c.if-is_cancelled.ensures.looked (λ b a. did_after pr _ _ _ b empty_take a did)

pub loop-preserved : goal.loop-preserved
loop-preserved g c =
    let pr = g.T.Item.priority_of in
    let old = c.args.pass.now in
    let did : Did pr c.loop.pass empty_take c.try_take.new.pass = did_step pr _ _ _ _ c.try_take.ensures.pass c.in-Empty.ensures.taken in
    let word : c.is_cancelled.new.self.word ≡ c.loop.token.word = search rules in (
      tt,
      tt,
      did.same.table ∙ c.loop.invariant.2,
      word ∙ c.loop.invariant.3,
      more empty_take _ (λ b. DidOrRests pr old b c.loop.pass) (λ b. DidOrRests pr old b c.try_take.new.pass) _ c.loop.invariant.4 _ c.if-is_cancelled.ensures.looked c.if-is_cancelled.ensures.for_good
          (λ b a. inr (did_after pr _ _ _ b empty_take a did)),
    )
