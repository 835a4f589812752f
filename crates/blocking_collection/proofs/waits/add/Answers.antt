use Rattle.std.proofs.Common.{rules, inr, ◌≡◌, ◌+◌, [], ◌∷◌, ◌++◌, refl, ◌∙◌}
use Rattle.ho_model.specs.declared.marks.ReplyMark.TheVariants.{Done, Full, Closed}
use Rattle.blocking_collection.specs.Own.{Did, DidOrRests, added, unpaid_add}
use Rattle.blocking_collection.specs.Waits.{full_add}
use Rattle.blocking_collection.proofs.Doing.{rests, did_step, did_keep, did_after}
use Rattle.blocking_collection.proofs.Rounds.{start, more, ends, stops}
use Rattle.blocking_collection.proofs.waits.add.Goals as goal

pub loop-init : goal.loop-init
loop-init g c =
    let pr = g.T.Item.priority_of in
    let old = c.args.pass.now in
    (tt, tt, refl, refl, refl, start (full_add (g.T.Item.mark c.args.item)) c.args.token.now (λ b. DidOrRests pr old b old) (rests pr old))

pub returns-in-Ok-Done-clause-added : goal.returns-in-Ok-Done-clause-added
returns-in-Ok-Done-clause-added g c =
    let pr = g.T.Item.priority_of in
    let m = g.T.Item.mark c.args.item in
    let old = c.args.pass.now in
    let did : Did pr c.loop.pass (added m Done ∷ []) c.try_add.new.pass =
    did_step pr _ _ _ _ c.try_add.ensures.pass (rw (c.in-Ok-Done.field-0-is, c.loop.invariant.2) at c.in-Ok-Done.ensures.added) in
    ends (full_add m) _ (λ b. DidOrRests pr old b c.loop.pass) (λ b. Did pr old (b ++ added m Done ∷ []) c.try_add.new.pass) _ c.loop.invariant.5 (λ b a. did_after pr _ _ _ b (added m Done ∷ []) a did)

pub returns-in-Ok-Closed-clause-added : goal.returns-in-Ok-Closed-clause-added
returns-in-Ok-Closed-clause-added g c =
    let pr = g.T.Item.priority_of in
    let m = g.T.Item.mark c.args.item in
    let old = c.args.pass.now in
    let one = rw (c.in-Ok-Closed.field-0-is, c.loop.invariant.2) at c.in-Ok-Closed.ensures.added in
    let did : Did pr c.loop.pass (added m Closed ∷ []) c.try_add.new.pass = did_step pr _ _ _ _ c.try_add.ensures.pass one.1 in (
      one.0,
      ends (full_add m) _ (λ b. DidOrRests pr old b c.loop.pass) (λ b. Did pr old (b ++ added m Closed ∷ []) c.try_add.new.pass) _ c.loop.invariant.5 (λ b a. did_after pr _ _ _ b (added m Closed ∷ []) a did),
    )

pub returns-then-is_cancelled-clause-added : goal.returns-then-is_cancelled-clause-added
returns-then-is_cancelled-clause-added g c =
    let pr = g.T.Item.priority_of in
    let m = g.T.Item.mark c.args.item in
    let old = c.args.pass.now in
    let one = rw (c.in-Ok-Full.field-0-is, c.loop.invariant.2) at c.in-Ok-Full.ensures.added in
    let did : Did pr c.loop.pass (added m Full ∷ []) c.try_add.new.pass = did_step pr _ _ _ _ c.try_add.ensures.pass one.1 in (
      one.0,
      stops (full_add m) _ (λ b. DidOrRests pr old b c.loop.pass) (λ b. Did pr old b c.try_add.new.pass) _ c.loop.invariant.5 _ c.if-is_cancelled.ensures.looked (λ b a. did_after pr _ _ _ b (full_add m) a did),
    )

pub returns-in-Err-clause-added : goal.returns-in-Err-clause-added
returns-in-Err-clause-added g c =
    let pr = g.T.Item.priority_of in
    let m = g.T.Item.mark c.args.item in
    let old = c.args.pass.now in
    let d = unpaid_add m ∷ [] in
    let back = rw c.loop.invariant.2 at c.in-Err.ensures.added in
    let did : Did pr c.loop.pass d c.try_add.new.pass = did_keep pr _ _ _ c.try_add.ensures.pass back.1 in (
      back.0,
      ends (full_add m) _ (λ b. DidOrRests pr old b c.loop.pass) (λ b. Did pr old (b ++ d) c.try_add.new.pass) _ c.loop.invariant.5 (λ b a. did_after pr _ _ _ b d a did),
    )

pub loop-preserved : goal.loop-preserved
loop-preserved g c =
    let pr = g.T.Item.priority_of in
    let m = g.T.Item.mark c.args.item in
    let old = c.args.pass.now in
    let one = rw (c.in-Ok-Full.field-0-is, c.loop.invariant.2) at c.in-Ok-Full.ensures.added in
    let did : Did pr c.loop.pass (added m Full ∷ []) c.try_add.new.pass = did_step pr _ _ _ _ c.try_add.ensures.pass one.1 in
    let word : c.is_cancelled.new.self.word ≡ c.loop.token.word = search rules in (
      tt,
      tt,
      one.0,
      did.same.table ∙ c.loop.invariant.3,
      word ∙ c.loop.invariant.4,
      more (full_add m) _ (λ b. DidOrRests pr old b c.loop.pass) (λ b. DidOrRests pr old b c.try_add.new.pass) _ c.loop.invariant.5 _ c.if-is_cancelled.ensures.looked c.if-is_cancelled.ensures.for_good (λ b a. inr (did_after pr _ _ _ b (full_add m) a did)),
    )
