use Rattle.std.proofs.Common.{ap, subst, ℕ}
use Rattle.seg_rule.specs.Tells.{place_count}
use Rattle.queue_tries.specs.Scans.{Searches}
use Rattle.queue_tries.proofs.Enqueuing.{searches_after}
use Rattle.queue_tries.proofs.enqueues.find_next.Goals as goal

pub returns-clause-searched : goal.returns-clause-searched
returns-clause-searched c =
    let moved = c.move_first.ensures.moved in
    searches_after c.args.pass.now.view c.move_first.new.pass.view c.find_place.new.pass.view c.args.head c.move_first.result (place_count c.args.pass.now.view) c.find_place.result moved
    (subst (λ (n : ℕ). Searches c.move_first.new.pass.view n c.find_place.result c.find_place.new.pass.view) (ap place_count moved.left) c.find_place.ensures.searched)
