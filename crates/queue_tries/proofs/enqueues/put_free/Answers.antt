use Rattle.std.proofs.Common.{ap}
use Rattle.seg_rule.specs.declared.view.View.{View}
use Rattle.queue_tries.proofs.Enqueuing.{lost_free, found_closed}
use Rattle.queue_tries.proofs.enqueues.put_free.Goals as goal

pub fill-requires-clause-hand : goal.fill-requires-clause-hand
fill-requires-clause-hand c = let won = c.in-Ok.ensures.won in (won.0, c.args.value, ap (λ (z : View). z.hand) won.1.left)

pub returns-then-found-eq0-clause-told : goal.returns-then-found-eq0-clause-told
returns-then-found-eq0-clause-told c = let lost = c.in-Err.ensures.lost in
    lost_free c.args.place c.args.tail c.in-Err.found c.args.pass.now.view c.tail_reserve.new.pass.view c.requires.away c.requires.may.1.idle lost.0 lost.1 c.if-found-eq0.true

pub returns-else-found-eq0-clause-told : goal.returns-else-found-eq0-clause-told
returns-else-found-eq0-clause-told c = let lost = c.in-Err.ensures.lost in
    found_closed c.args.place c.args.tail c.in-Err.found c.args.pass.now.view c.tail_reserve.new.pass.view c.requires.away c.requires.may.1.idle c.requires.current lost.1 c.if-found-eq0.false
