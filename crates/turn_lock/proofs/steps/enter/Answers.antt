use Rattle.std.proofs.Common.{rules, ap}
use Rattle.ho_model.specs.declared.marks.EntryMark.{EntryMark}
use Rattle.turn_lock.proofs.Holding.{enters}
use Rattle.turn_lock.proofs.steps.enter.Goals as goal

pub fetch_add-requires : goal.fetch_add-requires
fetch_add-requires g c = (search rules, search rules, enters _ _ _ _ _ _ _ _ _ c.requires.turn (ap (λ (e : EntryMark). e.caller) c.requires.entry) c.requires.legal)
