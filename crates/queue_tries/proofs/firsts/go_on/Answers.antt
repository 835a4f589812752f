use Rattle.std.proofs.Common.{rules, ap, ◌∙◌, ◌≡◌}
use Rattle.seg_rule.specs.declared.view.View.{View}
use Rattle.seg_rule.specs.Loads.{loaded}
use Rattle.seg_rule.specs.declared.word.QueueWord.TheVariants.{Next}
use Rattle.queue_tries.proofs.firsts.go_on.Goals as goal

pub first_store-requires-clause-may : goal.first_store-requires-clause-may
first_store-requires-clause-may c =
    let v = c.args.pass.now.view in let e = c.requires.ended in
    let is : c.load-word.new.pass.view ≡ loaded (Next c.args.first) c.load-word.result v = c.load-word.ensures.read.sees in record {
      stage = search rules;
      place = c.args.first;
      current = c.args.current;
      head = e.1;
      closed = e.0;
      first = ap (λ (z : View). z.notes.scan.first) is ∙ c.requires.first;
      is_current = ap (λ (z : View). z.notes.scan.current) is ∙ c.requires.current;
      other = c.requires.other;
      noted = ap (λ (z : View). z.notes.head) is ∙ e.3;
      ended = ap (λ (z : View). z.notes.scan.candidate) is ∙ e.2;
      there = e.4;
      below = e.5;
      next = search rules;
    }
