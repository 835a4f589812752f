use Rattle.std.proofs.Common.{rules, ◌≡◌, IfOk, List, map, subst}
use Rattle.drive_kit.specs.Playing.{HasPlayed, IsFirst, IsPlayed, pass_of}
use Rattle.drive_kit.specs.declared.scripts.ScriptRow.{ScriptRow}
use Rattle.weave.specs.Parts.{PartMade, Told, OfDifferentCallers, entry_told}
use Rattle.weave.specs.Places.{IsPlaced}
use Rattle.ho_model.specs.declared.objects.Object.{Object}
use Rattle.drive_kit.proofs.DriveLemmas.{is_driven}
use Rattle.drive_kit.proofs.drive.drive_script.Goals as goal

pub returns : goal.returns
returns g c =
    let played = subst (λ (l : List ScriptRow). IsPlayed c.in_ok-stand.stand l (pass_of c.in_ok-stand.pass) c.play_all-pass.result) c.rows.ensures.rows c.play_all-pass.ensures in
    let first = subst (λ (o : Object). IsFirst o c.caller_count.result (pass_of c.in_ok-stand.pass)) c.object.ensures.object c.in_ok-stand.ensures.1 in
    let has = subst (λ r. IfOk r (λ v. HasPlayed c.in_ok-stand.stand c.args.script.now.rows (pass_of c.play_all-pass.result.pass) v.items)) c.in_ok-parts.was played.made in
    let same : c.deref.result.now ≡ c.in_ok-parts.parts.items = search rules in
    is_driven c.args.script.now c.caller_count.result c.caller_count.ensures.count (pass_of c.in_ok-stand.pass) first c.in_ok-stand.stand c.play_all-pass.result played c.in_ok-parts.parts.items has c.in_ok-history.history
    (subst (λ (l : List PartMade). OfDifferentCallers l → (told : List Told) → IsPlaced l told → c.in_ok-history.history ≡ map entry_told told) same c.in_ok-history.ensures)
