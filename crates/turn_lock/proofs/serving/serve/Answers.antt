use Rattle.std.proofs.Common.{ap, subst, refl}
use Rattle.ho_base.specs.declared.receipts.Receipt.TheVariants.{Place}
use Rattle.ho_model.specs.declared.marks.Tally.{Tally}
use Rattle.ho_model.proofs.Standing.{stands_next}
use Rattle.passes.proofs.Seen.{lawful_more}
use Rattle.turn_lock.proofs.UnderTurn.{stands_lent, rest_is}
use Rattle.turn_lock.proofs.serving.serve.Goals as goal

pub enter-number-requires-clause-legal : goal.enter-number-requires-clause-legal
enter-number-requires-clause-legal g c =
    let x = g.M.Stepper in let v = c.args.seat.now.me.0 in let m = c.requires.machine in let b = c.in-Ok.ensures in
    let s = stands_lent x.priority x.object x.callers x.state x.steps x.tally v.object v.callers _ _ m.0 c.slot_mut.result.now v.seen m.1 c.slot_mut.ensures.value m.2 in
    let t = stands_next x.priority x.object x.callers x.state x.steps x.tally v.object v.callers c.slot_mut.result.now c.take_step.new.self v.seen _ s b.object b.callers b.entry b.steps b.tally in
    rw (c.requires.caller.0, c.of-said.ensures) (x.state c.take_step.new.self, t.2)

pub leave-requires-clause-machine : goal.leave-requires-clause-machine
leave-requires-clause-machine g c =
    let x = g.M.Stepper in let v = c.args.seat.now.me.0 in let m = c.requires.machine in let b = c.in-Ok.ensures in
    let s = stands_lent x.priority x.object x.callers x.state x.steps x.tally v.object v.callers _ _ m.0 c.slot_mut.result.now v.seen m.1 c.slot_mut.ensures.value m.2 in
    let t = stands_next x.priority x.object x.callers x.state x.steps x.tally v.object v.callers c.slot_mut.result.now c.take_step.new.self v.seen _ s b.object b.callers b.entry b.steps b.tally in
    (c.take_step.new.self, rw (c.enter-number.ensures.entry, rest_is c.args.seat.now.me.1 m.0 m.1) refl, rw (c.enter-number.ensures.entry, c.requires.caller.0, c.of-said.ensures) t)

pub returns-in-Ok-clause-ok : goal.returns-in-Ok-clause-ok
returns-in-Ok-clause-ok g c =
    let x = g.M.Stepper in let v = c.args.seat.now.me.0 in let m = c.requires.machine in let b = c.in-Ok.ensures in
    let s = stands_lent x.priority x.object x.callers x.state x.steps x.tally v.object v.callers _ _ m.0 c.slot_mut.result.now v.seen m.1 c.slot_mut.ensures.value m.2 in
    let t = stands_next x.priority x.object x.callers x.state x.steps x.tally v.object v.callers c.slot_mut.result.now c.take_step.new.self v.seen _ s b.object b.callers b.entry b.steps b.tally in (
      rw (c.leave.ensures.left, c.enter-number.ensures.entry, c.requires.caller.0, c.of-said.ensures) refl,
      lawful_more x.priority v.object v.callers v.seen _ c.requires.lawful (x.state c.take_step.new.self, t.2) c.requires.caller.1,
      subst (λ (counts : Tally). x.fits counts c.args.call c.in-Ok.reply) s.4 b.fits,
      ap Place c.enter-number.ensures.number,
    )
