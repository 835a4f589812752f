use Rattle.std.proofs.lemmas.Result.{IfOk-weaker}
use Rattle.ho_model.specs.declared.histories.Entry.{Entry}
use Rattle.weave.specs.Cursors.{part_left, parts_left, TakesNext}
use Rattle.std.proofs.Common.{◌∷◌, [], set}
use Rattle.weave.proofs.Lefts.{taken_at, inside}
use Rattle.weave.proofs.cursors.take_next.Goals as goal

pub returns : goal.returns
returns c =
    let cursors = c.args.cursors.now.items in
    let old = c.index_mut.result.now in let new = c.take_first.new.cursor in
    IfOk-weaker c.take_first.result
    (λ (e : Entry). TakesNext (part_left old ∷ []) 0 e (part_left new ∷ []))
    (λ (e : Entry). TakesNext (parts_left cursors) c.args.i e (parts_left (set cursors c.args.i new)))
    (λ (e : Entry) takes. taken_at cursors c.args.i old new e (inside cursors c.args.i c.requires) c.index_mut.ensures.value takes)
    c.take_first.ensures
