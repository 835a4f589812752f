use Rattle.std.proofs.Common.{◌≡◌, ◌≤◌, ◌∙◌, sym, ap, subst, arith, Bool}
use Rattle.seg_rule.specs.declared.form.Form.{Form}
use Rattle.seg_rule.specs.Tells.{places_in, place_count}
use Rattle.queue_tries.specs.Scans.{TriesPlace}
use Rattle.queue_tries.proofs.Placing.{scanned_on}
use Rattle.queue_tries.proofs.scans.find_place.Goals as goal

pub loop-place-preserved : goal.loop-place-preserved
loop-place-preserved c =
    let before = c.loop-place.invariant in (
      c.try_place.ensures.same ∙ before.0,
      scanned_on c.args.pass.now.view c.loop-place.pass.view c.try_place.new.pass.view c.pass_current-current.result c.args.head c.loop-place.place before.1
          (subst (λ (b : Bool). TriesPlace c.loop-place.pass.view c.pass_current-current.result c.args.head c.loop-place.place b c.try_place.new.pass.view) c.if-try_place.false c.try_place.ensures.tried),
    )

pub returns-clause-searched : goal.returns-clause-searched
returns-clause-searched c =
    let s = c.loop-place.invariant.1 in
    let form = c.args.table.now.form in
    let places : c.form-place-end.result.places ≡ form.places = ap (λ (f : Form). f.places) c.form-place-end.ensures.value in
    let count : place_count c.args.pass.now.view ≡ form.places = (λ i. places_in (c.requires.of.1 i) (c.requires.of.2 i)) ∙ sym c.form-place-end.ensures.shape.places in
    let past : c.form-place-end.result.places ≤ c.loop-place.place = c.loop-place-test.false in
    (s.read, s.scan, s.left, λ place below. s.in_use place (omega arith))
