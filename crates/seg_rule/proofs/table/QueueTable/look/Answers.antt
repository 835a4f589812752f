use Rattle.std.proofs.Common.{◌≡◌, sym, subst}
use Rattle.seg_rule.specs.Looks.{MayLook}
use Rattle.seg_rule.specs.Passes.{QueueView, QueueShape, IsOf}
use Rattle.seg_rule.specs.Words.{IsWord}
use Rattle.seg_rule.proofs.Mirrors.{word_in, reads_pass}
use Rattle.seg_rule.proofs.table.QueueTable.look.Goals as goal

pub invariant_of-pass : goal.invariant_of-pass
invariant_of-pass c =
    let me = c.pass.inside.seat.me in let form = c.self.inside.form in
    let pass : c.args.pass.now ≡ record { table = c.pass.inside.seat.table_id; view = me.0 } = sym c.pass.view_is in
    let table : c.args.self.now ≡ record { table = c.self.inside.table.shared.table_id; form = form } = sym c.self.view_is in
    let of : IsOf (record { table = c.self.inside.table.shared.table_id; form = form }) (record { table = c.pass.inside.seat.table_id; view = me.0 }) = subst (λ (z : QueueShape × QueueView). IsOf z.0 z.1) (λ i. (table i, pass i)) c.requires.of in
    reads_pass me c.load-value.new.seat.me c.pass.inside.numbers c.pass.inside.here c.read-pass-inside.result c.args.word c.load-value.result c.pass.invariant c.load-value.ensures.same.1 c.load-value.ensures.read
    (subst (λ (z : QueueView). MayLook c.args.word z.view) pass c.requires.may)
    (word_in form me.0 c.args.word of.1 of.2 c.self.invariant.shape (subst (λ (z : QueueShape). IsWord z.form.places z.form.slots c.args.word) table c.requires.word)) c.read-pass-inside.ensures
