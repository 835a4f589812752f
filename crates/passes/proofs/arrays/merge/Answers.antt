use Rattle.std.proofs.Common.{rules, arith, ◌≡◌, length, sym, ◌∙◌, false}
use Rattle.passes.specs.Numbers.{held_both, made_both}
use Rattle.passes.proofs.Flags.{list_same, held_both_at, made_both_at, held_both_length, made_both_length}
use Rattle.passes.proofs.arrays.merge.Goals as goal

pub returns-clause-held : goal.returns-clause-held
returns-clause-held c =
    let h = c.args.held.now in let f = c.args.other_held.now in
    let a : length h ≡ 64 = search rules in let b : length f ≡ 64 = search rules in let w = c.loop-number.invariant.wide in let last : c.loop-number.number ≡ 64 = search rules in
    list_same false c.loop-number.held (held_both h f) (w ∙ sym (held_both_length h f (a ∙ sym b) ∙ a))
    (λ k lt. c.loop-number.invariant.flags k (omega arith) ∙ sym (held_both_at h f k))

pub returns-clause-made : goal.returns-clause-made
returns-clause-made c =
    let h = c.args.made.now in let f = c.args.other_held.now in let n = c.args.other_made.now in
    let a : length h ≡ 64 = search rules in let d : length n ≡ 64 = search rules in let w = c.loop-number.invariant.wide_made in let last : c.loop-number.number ≡ 64 = search rules in
    list_same 0 c.loop-number.made (made_both f h n) (w ∙ sym (made_both_length f h n ∙ a))
    (λ k lt. c.loop-number.invariant.counts k (omega arith) ∙ sym (made_both_at f h n k (a ∙ sym d)))
