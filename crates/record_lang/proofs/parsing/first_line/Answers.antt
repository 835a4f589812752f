use Rattle.std.proofs.Common.{◌≡◌, ◌∙◌, ◌+◌, ◌-◌, ◌<◌, sym, arith, length, take, drop}
use Rattle.std.proofs.lemmas.Grind.{common_steps}
use Rattle.std.proofs.lemmas.List.{length-drop, take_all}
use Rattle.record_lang.proofs.LineLemmas.{IsFirstLine-ended, IsFirstLine-last}
use Rattle.record_lang.proofs.parsing.first_line.Goals as goal

pub returns-in-Some : goal.returns-in-Some
returns-in-Some c =
    let text = c.args.text.now in
    let n = c.in-Some.end in
    let ended = IsFirstLine-ended text n (sym c.end_of_line.ensures ∙ c.in-Some.is) in
    let after : take (length text - (n + 1)) (drop (n + 1) text) ≡ drop (n + 1) text = take_all (length text - (n + 1)) (drop (n + 1) text) (omega (arith, length-drop (n + 1) text)) in
    rw (c.without_return.ensures, after) (ended.1)

pub returns-else-is_empty : goal.returns-else-is_empty
returns-else-is_empty c =
    let text = c.args.text.now in
    let some : 0 < length text = grind (arith, common_steps) in
    IsFirstLine-last text (sym c.end_of_line.ensures ∙ c.in-None.is) some
