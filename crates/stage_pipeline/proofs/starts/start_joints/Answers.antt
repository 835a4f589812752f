use Rattle.std.proofs.Common.{◌≡◌, ◌+◌, ◌-◌, ◌∙◌, ◌++◌, ◌∷◌, [], ℕ, List, Some, None, refl, subst, sym, arith, length}
use Rattle.std.specs.List.{slice_get}
use Rattle.atomic_table.specs.Seated.{TableId}
use Rattle.stage_pipeline.specs.Starts.{StartJoints}
use Rattle.stage_pipeline.specs.declared.kits.Kit.{Kit}
use Rattle.stage_pipeline.proofs.Starting.{BeginsAll, are_starts, begins_more, begins_whole}
use Rattle.stage_pipeline.proofs.starts.start_joints.Goals as goal

pub stages-preserved : goal.stages-preserved
stages-preserved c =
    let at = c.stages in
    let all = c.args.pipeline.now.joints in
    let sides = c.in_ok-next.sides in
    let kit : Kit = record { stage = at.stage; workers = c.args.workers; read = at.read; write = Some sides.write } in
    let place : at.stage + 1 - 1 ≡ at.stage = omega arith in
    let line : slice_get all at.stage ≡ Some c.joint-in-stages.result = subst (λ (n : ℕ). slice_get all n ≡ Some c.joint-in-stages.result) place c.joint-in-stages.ensures.joint in
    let more = begins_more c.args.workers at.stage at.read at.starts.joints.items at.starts.feeds at.starts.kits.items all kit c.in_ok-next.next c.joint-in-stages.result sides.write sides.read at.auto.stage at.invariant refl refl refl refl line c.in_ok-next.ensures in
    let tables = subst (λ (ts : List TableId). BeginsAll c.args.workers (at.stage + 1) sides.read ts at.starts.feeds (at.starts.kits.items ++ kit ∷ []) all) (sym c.in_ok-push-2.ensures.items) more in
    subst (λ (ks : List Kit). BeginsAll c.args.workers (at.stage + 1) sides.read c.push-in-stages.new.self.items at.starts.feeds ks all) (sym c.in_ok-push-3.ensures.items) tables

pub returns : goal.returns
returns c =
    let at = c.stages in
    let all = c.args.pipeline.now.joints in
    let asked = c.stages-stages.ensures in
    let has = asked.joints in
    let last : c.stages-stages.result ≡ at.stage = (let a = c.stages-test.false in let b = at.auto.stage-end in let d = asked.some in omega (arith, a, b, d)) in
    let end : at.stage ≡ length all = sym last ∙ asked.count ∙ sym has.fed in
    let kit : Kit = record { stage = c.stages-stages.result; workers = c.args.workers; read = at.read; write = None } in
    let whole = begins_whole c.args.workers at.stage at.read at.starts.joints.items at.starts.feeds at.starts.kits.items all kit at.invariant refl last refl refl end in
    let start = subst (λ (ks : List Kit). StartJoints c.args.workers 0 at.starts.joints.items all (Some at.starts.feeds) ks) (sym c.in_ok-push-4.ensures.items) whole in
    are_starts c.args.pipeline.now c.args.workers (record { joints = at.starts.joints; kits = c.push-2.new.self; feeds = at.starts.feeds }) c.requires.0 c.requires.1 has start
