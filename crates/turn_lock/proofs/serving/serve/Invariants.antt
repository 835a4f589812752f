use Rattle.ho_model.specs.Entries.{entry}
use Rattle.turn_lock.proofs.serving.serve.Given as goal

abbrev pub ghosts-enter : goal.ghosts-enter
ghosts-enter g a = record { entry = entry a.seat.now.me.0.caller (g.M.Stepper.call_mark a.call.now.value) (g.M.Stepper.reply_mark a.reply.now) }
