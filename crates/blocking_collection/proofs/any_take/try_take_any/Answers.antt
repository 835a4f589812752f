use Rattle.std.proofs.Common.{rules, ◌<◌, ◌+◌, length, [], ◌∷◌, subst, sym, arith, get_or, set, Bool}
use Rattle.ho_model.specs.declared.marks.ReplyMark.TheVariants.{Item}
use Rattle.blocking_collection.specs.Own.{Did, taken}
use Rattle.blocking_collection.specs.Several.{no_item}
use Rattle.blocking_collection.proofs.Doing.{did_step}
use Rattle.blocking_collection.proofs.Places.{round_at}
use Rattle.blocking_collection.proofs.Trying.{Taking, taking_start, taking_empty, taking_ended, taken_all, taken_none}
use Rattle.blocking_collection.specs.declared.any_take.AnyTake.TheVariants as take
use Rattle.blocking_collection.proofs.Still.{take_still}
use Rattle.blocking_collection.proofs.any_take.try_take_any.Goals as goal
use Rattle.blocking_collection.proofs.any_take.try_take_any.Goals.{in-Empty, in-Ended}

pub loop-i-init : goal.loop-i-init
loop-i-init g c = taking_start g.T.Item.priority_of c.args.passes.now

pub returns-in-Item-clause-tried : goal.returns-in-Item-clause-tried
returns-in-Item-clause-tried g c =
    let pr = g.T.Item.priority_of in
    let lt : c.loop-i.i < length c.args.passes.now = omega (arith, c.loop-i-test.true, c.requires.size) in
    let t = c.loop-i.invariant in
    let last = taken (Item (g.T.Item.mark c.in-Item.item)) ∷ [] in
    let did : Did pr (get_or c.loop-i.passes c.loop-i.i c.index-passes-i.result) last c.try_take.new.pass = did_step pr _ _ _ _ c.try_take.ensures.pass c.in-Item.ensures.taken in
    (t.0, lt, round_at pr _ _ _ c.index-passes-i.result _ (λ j. no_item j (t.0 j)) last t.1 lt did)

pub loop-i-preserved : goal.loop-i-preserved
loop-i-preserved g c =
    let pr = g.T.Item.priority_of in
    let lt : c.loop-i.i < length c.args.passes.now = omega (arith, c.loop-i-test.true, c.requires.size) in
    let old = c.args.passes.now in
    let new = set c.loop-i.passes c.loop-i.i c.try_take.new.pass in
    elim c.match-try_take.branch [
      | in-Empty w ↦ subst (λ (b : Bool). Taking pr old (c.loop-i.i + 1) b new) (sym w.all_ended-is)
          (taking_empty pr old c.loop-i.passes c.loop-i.i c.index-passes-i.result c.try_take.new.pass c.loop-i.all_ended c.loop-i.invariant lt (did_step pr _ _ _ _ c.try_take.ensures.pass w.in-Empty.ensures.taken))
      | in-Ended w ↦ subst (λ (b : Bool). Taking pr old (c.loop-i.i + 1) b new) (sym w.all_ended-is)
          (taking_ended pr old c.loop-i.passes c.loop-i.i c.index-passes-i.result c.try_take.new.pass c.loop-i.all_ended c.loop-i.invariant lt (did_step pr _ _ _ _ c.try_take.ensures.pass w.in-Ended.ensures.taken))
    ]

pub returns-then-all_ended-clause-tried : goal.returns-then-all_ended-clause-tried
returns-then-all_ended-clause-tried g c =
    let pr = g.T.Item.priority_of in
    (search rules, taken_all pr c.args.passes.now c.loop-i.passes c.loop-i.i (search rules) (subst (λ (b : Bool). Taking pr c.args.passes.now c.loop-i.i b c.loop-i.passes) c.if-all_ended.true c.loop-i.invariant))

pub returns-else-all_ended-clause-tried : goal.returns-else-all_ended-clause-tried
returns-else-all_ended-clause-tried g c =
    let pr = g.T.Item.priority_of in
    taken_none pr c.args.passes.now c.loop-i.passes c.loop-i.i (search rules) (subst (λ (b : Bool). Taking pr c.args.passes.now c.loop-i.i b c.loop-i.passes) c.if-all_ended.false c.loop-i.invariant)

pub returns-in-Item-clause-still : goal.returns-in-Item-clause-still
returns-in-Item-clause-still g c = take_still g.T.Item.priority_of g.T.Item.mark c.args.collections.now (λ j. []) c.args.passes.now _ (take.Index c.loop-i.i c.in-Item.item) c.requires (returns-in-Item-clause-tried g c)

pub returns-then-all_ended-clause-still : goal.returns-then-all_ended-clause-still
returns-then-all_ended-clause-still g c = take_still g.T.Item.priority_of g.T.Item.mark c.args.collections.now (λ j. []) c.args.passes.now _ take.Ended c.requires (returns-then-all_ended-clause-tried g c)

pub returns-else-all_ended-clause-still : goal.returns-else-all_ended-clause-still
returns-else-all_ended-clause-still g c = take_still g.T.Item.priority_of g.T.Item.mark c.args.collections.now (λ j. []) c.args.passes.now _ take.NoneUsed c.requires (returns-else-all_ended-clause-tried g c)
