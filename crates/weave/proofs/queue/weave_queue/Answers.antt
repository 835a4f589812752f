use Rattle.std.proofs.Common.{rules, ◌≡◌, ◌∙◌, List, length, Some, None, sym, subst}
use Rattle.std.proofs.lemmas.List.{length-map}
use Rattle.weave.specs.declared.aheads.Ahead.{Ahead}
use Rattle.weave.specs.Cursors.{part_left, parts_left}
use Rattle.weave.specs.Aheads.{aheads_of, IsLeast}
use Rattle.weave.proofs.Lefts.{fewer_left}
use Rattle.weave.proofs.Turns.{IsWeaving, nothing_yet, next_of, turn, woven}
use Rattle.weave.proofs.queue.weave_queue.Goals as goal

pub turns-init : goal.turns-init
turns-init c =
    let is : c.in_ok-aheads.aheads.items ≡ aheads_of (parts_left c.in_ok-cursors.cursors.items) = search rules in (
      λ differ told of_queue. subst (IsWeaving c.args.room c.args.parts.now (parts_left c.in_ok-cursors.cursors.items)) (sym c.new-entries.ensures.items)
          (nothing_yet c.args.room c.args.parts.now (parts_left c.in_ok-cursors.cursors.items) c.in_ok-cursors.ensures differ told of_queue),
      is,
    )

pub turns-smaller : goal.turns-smaller
turns-smaller c = fewer_left (parts_left c.turns.cursors.items) (parts_left c.take_turn.new.cursors.items) c.in-Some.least.index c.in_ok-entry.entry c.in_ok-entry.ensures.takes

pub take_turn-requires-clause-next : goal.take_turn-requires-clause-next
take_turn-requires-clause-next c =
    let least : IsLeast c.args.room c.turns.aheads.items (parts_left c.turns.cursors.items) (length c.turns.cursors.items) (Some c.in-Some.least) = search rules in
    let next = next_of c.args.room c.turns.aheads.items least.0.made least.3 in
    (least.0, next.0, next.1, least.1, next.2)

pub turns-preserved : goal.turns-preserved
turns-preserved c =
    let cursors = c.turns.cursors.items in let left = parts_left cursors in let room = c.args.room in
    let new = parts_left c.take_turn.new.cursors.items in let best = c.in-Some.least in
    let least : IsLeast room c.turns.aheads.items left (length cursors) (Some best) = search rules in
    let goes = subst (λ (a : List Ahead). IsLeast room a left (length cursors) (Some best)) c.turns.invariant.1 least in (
      λ differ told of_queue. subst (IsWeaving room c.args.parts.now new) (sym c.in_ok-push.ensures.items)
          (turn room c.args.parts.now left c.turns.entries.items (c.turns.invariant.0 differ told of_queue) (length cursors) (sym (length-map cursors part_left)) best goes c.in_ok-entry.entry new c.in_ok-entry.ensures.takes),
      c.in_ok-entry.ensures.ahead,
    )

pub returns : goal.returns
returns c = λ differ told of_queue.
    let cursors = c.turns.cursors.items in let left = parts_left cursors in let room = c.args.room in
    let least : IsLeast room c.turns.aheads.items left (length cursors) None = search rules in
    let stuck = subst (λ (a : List Ahead). IsLeast room a left (length cursors) None) c.turns.invariant.1 least in
    let w = woven room c.args.parts.now left c.turns.entries.items (c.turns.invariant.0 differ told of_queue) (length cursors) (sym (length-map cursors part_left)) stuck in
    (w.0, w.1, w.2, c.from_vec.ensures ∙ w.3)
