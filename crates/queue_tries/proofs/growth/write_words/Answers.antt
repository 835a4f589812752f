use Rattle.std.proofs.Common.{refl, ap, ◌∙◌}
use Rattle.seg_rule.specs.Passes.{QueueView}
use Rattle.seg_rule.specs.Steps.{more_stage}
use Rattle.queue_tries.specs.Growth.{ended_tail}
use Rattle.queue_tries.proofs.growth.write_words.Goals as goal

pub place_words-requires-2-clause-may : goal.place_words-requires-2-clause-may
place_words-requires-2-clause-may c = (refl, (c.args.current, c.args.tail, c.args.length, ap (λ (p : QueueView). p.view.stage) c.place_words.ensures ∙ ap more_stage c.requires.stage))

pub place_words-requires-3-clause-may : goal.place_words-requires-3-clause-may
place_words-requires-3-clause-may c = (
  c.args.current,
  c.args.tail,
  c.args.length,
  c.args.number,
  ended_tail c.args.current c.args.tail c.requires.tail.0 c.args.number,
  ap (λ (p : QueueView). p.view.stage) c.place_words-2.ensures ∙ ap more_stage (ap (λ (p : QueueView). p.view.stage) c.place_words.ensures ∙ ap more_stage c.requires.stage),
  ap (λ (p : QueueView). p.view.notes.tail) c.place_words-2.ensures ∙ (ap (λ (p : QueueView). p.view.notes.tail) c.place_words.ensures ∙ c.requires.tail.1),
  refl,
  refl,
  refl,
  refl,
)
