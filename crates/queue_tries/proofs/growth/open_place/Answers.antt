use Rattle.std.proofs.Common.{ap, ◌∙◌}
use Rattle.seg_rule.specs.declared.view.View.{View}
use Rattle.queue_tries.proofs.growth.open_place.Goals as goal

pub write_words-requires-clause-tail : goal.write_words-requires-clause-tail
write_words-requires-clause-tail c = (c.args.length, ap (λ (v : View). v.notes.tail) c.begin_place-next.ensures.begun ∙ c.requires.tail)
