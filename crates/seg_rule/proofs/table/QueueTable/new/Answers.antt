use Rattle.std.proofs.Common.{sym, subst, rules}
use Rattle.seg_rule.specs.declared.form.Form.{Form}
use Rattle.seg_rule.specs.Rule.{IsShape}
use Rattle.seg_rule.specs.Blank.{IsFilled}
use Rattle.seg_rule.proofs.Fills.{shape_of, opens}
use Rattle.seg_rule.proofs.table.QueueTable.new.Goals as goal

pub of_words-requires : goal.of_words-requires
of_words-requires c =
    let form : Form = record { room = c.args.room; first_len = c.args.first_len; callers = c.args.callers; places = c.places.result; slots = c.longest.result } in
    let shape : IsShape form = subst IsShape (λ i. record { room = c.args.room; first_len = c.args.first_len; callers = c.args.callers; places = sym c.places.ensures i; slots = sym c.longest.ensures.value i })
    (shape_of c.args.room c.args.first_len c.args.callers c.requires.room c.requires.first_len c.requires.callers c.requires.small) in
    let filled : IsFilled form form.places form.places form.first_len c.as_slice.result.now = search rules in
    opens form c.as_slice.result.now shape filled
