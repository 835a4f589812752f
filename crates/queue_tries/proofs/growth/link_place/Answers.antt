use Rattle.std.proofs.Common.{sym, ap, ◌∙◌, ℕ}
use Rattle.seg_rule.specs.Passes.{QueueView}
use Rattle.seg_rule.specs.Steps.{opened_stage, linked_stage}
use Rattle.seg_rule.specs.declared.view.Stage.TheVariants.{Opened}
use Rattle.queue_tries.proofs.growth.link_place.Goals as goal

pub place_words-requires-clause-may : goal.place_words-requires-clause-may
place_words-requires-clause-may c = (c.args.tail, ap (λ (p : QueueView). p.view.stage) c.tail_open.ensures ∙ (ap opened_stage c.requires.stage ∙ ap (λ (n : ℕ). Opened c.args.current n c.args.tail) (sym c.from.ensures)))

pub current_store-requires-clause-stage : goal.current_store-requires-clause-stage
current_store-requires-clause-stage c = (c.args.tail, ap (λ (p : QueueView). p.view.stage) c.place_words.ensures ∙ ap linked_stage (ap (λ (p : QueueView). p.view.stage) c.tail_open.ensures ∙ ap opened_stage c.requires.stage))
