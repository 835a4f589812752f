use Rattle.std.proofs.Common.{arith, rules}
use Rattle.std.proofs.lemmas.List.{take_rest}
use Rattle.ho_io.proofs.WholeLemmas.{took_more}
use Rattle.ho_io.proofs.whole.put_whole.Goals as goal

pub pieces-preserved : goal.pieces-preserved
pieces-preserved g c =
    let took = rw take_rest at c.in-Took.ensures.taken in
    record {
      within = omega (arith, c.in-Took.ensures.spare);
      room = omega (arith, c.in-Took.ensures.spare);
      spare = omega (arith, c.in-Took.ensures.spare);
      taken = took_more _ _ _ c.args.text.now c.pieces.done c.in-Took.count c.pieces.invariant.taken took;
      puts = omega (arith, c.in-Took.ensures.spare);
      reserves = search rules;
      asked = search rules;
      faults = search rules;
    }
