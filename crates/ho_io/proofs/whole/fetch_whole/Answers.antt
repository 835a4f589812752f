use Rattle.std.proofs.Common.{◌≡◌, ◌≤◌, ◌++◌, length, take, true, arith, rules, ◌∙◌}
use Rattle.std.specs.Result.{is_ok}
use Rattle.std.proofs.lemmas.Grind.{common_steps}
use Rattle.std.proofs.lemmas.List.{length-append, length-take}
use Rattle.ho_io.proofs.WholeLemmas.{told_more}
use Rattle.ho_io.proofs.whole.fetch_whole.Goals as goal

pub pieces-preserved : goal.pieces-preserved
pieces-preserved g c =
    let good : is_ok c.extend_from_slice.result ≡ true = search rules in
    let items : c.extend_from_slice.new.self.items ≡ c.pieces.bytes.items ++ take c.in-Bytes.count c.fetch.new.buf = rw good at c.extend_from_slice.ensures.items in
    let here : c.len-at.result ≡ length c.pieces.bytes.items = search rules in
    let fits : c.in-Bytes.count ≤ length c.fetch.new.buf = c.in-Bytes.ensures.count in
    record {
      files = c.fetch.ensures.files ∙ c.pieces.invariant.files;
      within = rw (items, length-append, length-take) (grind (arith, common_steps));
      so_far = told_more _ (g.S.Shelf.files c.pieces.shelf) c.args.name.now c.pieces.bytes.items _ c.fetch.new.buf c.len-at.result c.in-Bytes.count c.pieces.invariant.files c.pieces.invariant.so_far c.in-Bytes.ensures.piece here fits items;
      given = rw (items, length-append, length-take) (grind (arith, common_steps));
      idle = search rules;
      faults = search rules;
      failing = search rules;
    }
