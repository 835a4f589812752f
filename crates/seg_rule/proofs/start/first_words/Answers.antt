use Rattle.std.proofs.Common.{◌≡◌, sym, subst, rules, replicate}
use Rattle.seg_rule.specs.Blank.{IsFilled}
use Rattle.seg_rule.specs.Words.{words_of}
use Rattle.seg_rule.proofs.Fills.{fills_first}
use Rattle.seg_rule.proofs.start.first_words.Goals as goal

pub close_tails-requires-clause-filled : goal.close_tails-requires-clause-filled
close_tails-requires-clause-filled c = let f = c.args.form.now in
    let is : c.as_mut_slice-row.result.now ≡ replicate (words_of f.places f.slots) 0 = search rules in
    subst (IsFilled f 1 0 0) (sym is) (fills_first f)
