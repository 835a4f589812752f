use Rattle.std.proofs.Common.{◌≤◌, subst, sym, ℕ, length}
use Rattle.queue_tries.specs.Windows.{items_of}
use Rattle.queue_snapshot.proofs.Following.{gives_none, gives_on, gives_end, all_given, more_fits}
use Rattle.queue_snapshot.proofs.items.read_all.Goals as goal

pub loop-init : goal.loop-init
loop-init g c = (
  c.requires.of,
  c.requires.opened,
  gives_none c.args.pass.now c.args.window.now c.args.numbers.now.items c.requires.unread.1,
  c.requires.room,
)

pub loop-preserved : goal.loop-preserved
loop-preserved g c = let gives = c.in-Some-next_item.ensures.gives in (
  c.next_item.ensures.of,
  c.next_item.ensures.opened,
  gives_on c.args.pass.now c.args.window.now c.loop.pass c.loop.window c.loop.numbers.items c.requires.unread.0 c.loop.invariant.2 c.next_item.new.pass c.next_item.new.window c.in-Some-next_item.item c.push_reserved.new.self.items gives.0 gives.1 c.push_reserved.ensures.items,
  subst (λ (n : ℕ). length (items_of c.args.pass.now.pass.seen c.args.window.now) ≤ n) (sym c.push_reserved.ensures.capacity) c.loop.invariant.3,
)
