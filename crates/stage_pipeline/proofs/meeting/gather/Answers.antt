use Rattle.std.proofs.Common.{◌≡◌, ◌∷◌, ◌∙◌, List, [], length, ap, sym, subst, arith}
use Rattle.std.proofs.lemmas.List.{nil_from_length}
use Rattle.std.specs.Vec.Iter.{into_iter_items}
use Rattle.stage_pipeline.specs.declared.kits.CrewEnd.{CrewEnd}
use Rattle.stage_pipeline.proofs.Gathering.{SoFar, so_far_all, so_far_more}
use Rattle.stage_pipeline.proofs.meeting.gather.Goals as goal

pub ends-preserved : goal.ends-preserved
ends-preserved c =
    let at = c.ends in
    let steps : into_iter_items at.end-iterator ≡ c.in-Some.end ∷ into_iter_items c.next.new.self = c.in-Some.ensures.steps.0 in
    let so = subst (λ (rest : List CrewEnd). SoFar c.args.flow c.args.joints.now at.joint at.side rest at.done) steps at.invariant.0 in (
      so_far_more c.args.flow c.args.joints.now at.joint at.side c.in_ok-side.side c.in-Some.end (into_iter_items c.next.new.self) at.done c.gather_joint.new.done so c.in_ok-side.ensures,
      let was = at.invariant.1 in
          let gone = c.in-Some.ensures.steps.1 in
          let short = ap length steps in
          omega (arith, was, gone, short),
    )

pub returns : goal.returns
returns c =
    let at = c.ends in
    let none = c.in-None.ensures.steps in
    let empty : into_iter_items at.end-iterator ≡ [] = nil_from_length _ (sym at.invariant.1 ∙ none.0) in
    so_far_all c.args.flow c.args.joints.now at.joint at.side (into_iter_items at.end-iterator) at.done c.if-not-fed.false empty at.invariant.0
