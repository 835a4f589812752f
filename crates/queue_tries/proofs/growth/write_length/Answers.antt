use Rattle.std.proofs.Common.{◌≡◌, ℕ, ◌≤◌, ◌∙◌, sym, refl, subst, arith}
use Rattle.queue_tries.specs.Growth.{ended_tail}
use Rattle.queue_tries.proofs.growth.write_length.Goals as goal

pub place_words-requires-clause-may : goal.place_words-requires-clause-may
place_words-requires-clause-may c =
    let form = c.args.table.now.form in
    let shape = c.form-form.ensures.shape in
    let least : 2 ≤ form.first_len = shape.first_len.0 in
    let first : form.first_len ≤ c.args.next = c.requires.length.0 in
    let most : c.args.next ≤ form.slots = subst (λ (n : ℕ). c.args.next ≤ n) (sym shape.slots) c.requires.length.1 in
    let same : c.from.result ≡ c.args.next = c.from.ensures in (
      omega arith,
      omega arith,
      (
        c.args.current,
        c.args.tail,
        c.args.length,
        ended_tail c.args.current c.args.tail c.args.length c.requires.tail.0,
        c.requires.next.0,
        c.requires.stage,
        c.requires.tail.1,
        refl,
        refl,
        refl,
        c.requires.next.1,
        same ∙ c.requires.next.2,
      ),
    )
