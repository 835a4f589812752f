use Rattle.std.proofs.Common.{◌∙◌, ap, sym}
use Rattle.std.specs.Str.{bytes_eq}
use Rattle.ho_io.proofs.PlaceLemmas.{is_name_at}
use Rattle.ho_io.proofs.free.find.Goals as goal

pub returns-then-eq-clause-named : goal.returns-then-eq-clause-named
returns-then-eq-clause-named c =
    let same = ap (λ z. bytes_eq z c.args.name.now) (sym c.bytes.ensures) ∙ sym c.eq.ensures ∙ c.if-eq.true in
    is_name_at c.args.files.now c.loop-place.place c.index-files-place.result c.args.name.now c.loop-place-test.true c.index-files-place.is same
