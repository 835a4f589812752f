use Rattle.std.proofs.Common.{◌≡◌, codes, rules, arith, refl}
use Rattle.std.proofs.lemmas.Slice.Eq.{text_from_reads}
use Rattle.record_lang.specs.Words.{mode_of}
use Rattle.record_lang.proofs.words.mode_in.Goals as goal

pub returns-in-dropwrite : goal.returns-in-dropwrite
unfolding mode_of
returns-in-dropwrite c =
    let is : c.args.word.now ≡ codes "dropwrite" = text_from_reads c.args.word.now (codes "dropwrite") (omega arith) (search rules) in
    rw is refl

pub returns-in-dropnewest : goal.returns-in-dropnewest
unfolding mode_of
returns-in-dropnewest c =
    let is : c.args.word.now ≡ codes "dropnewest" = text_from_reads c.args.word.now (codes "dropnewest") (omega arith) (search rules) in
    rw is refl

pub returns-in-dropoldest : goal.returns-in-dropoldest
unfolding mode_of
returns-in-dropoldest c =
    let is : c.args.word.now ≡ codes "dropoldest" = text_from_reads c.args.word.now (codes "dropoldest") (omega arith) (search rules) in
    rw is refl
