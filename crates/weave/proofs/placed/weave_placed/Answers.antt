use Rattle.std.proofs.Common.{rules, ◌≡◌, ◌∙◌, length, Some, None, sym, subst}
use Rattle.std.specs.List.{position}
use Rattle.weave.specs.Cursors.{parts_left}
use Rattle.weave.proofs.Lefts.{fewer_left}
use Rattle.weave.proofs.ByPlace.{begins, begins_there, begins_nowhere, first_at, IsWovenUpTo, nothing_woven, one_more, all_woven}
use Rattle.weave.proofs.placed.weave_placed.Goals as goal

pub turns-init : goal.turns-init
turns-init c = λ differ told placed.
    subst (IsWovenUpTo told (parts_left c.in_ok-cursors.cursors.items)) (sym c.new-entries.ensures.items)
    (nothing_woven c.args.parts.now (parts_left c.in_ok-cursors.cursors.items) told c.in_ok-cursors.ensures differ placed)

pub take_next-requires : goal.take_next-requires
take_next-requires c =
    let at : position (begins (length c.turns.entries.items)) c.turns.cursors.items ≡ Some c.in-Some.i = search rules in
    let there = begins_there c.turns.cursors.items (length c.turns.entries.items) c.in-Some.i at in
    let first = first_at (length c.turns.entries.items) there.0.made there.2 in
    (there.0, first.0, first.1, there.1, first.2)

pub turns-smaller : goal.turns-smaller
turns-smaller c = fewer_left (parts_left c.turns.cursors.items) (parts_left c.take_next.new.cursors.items) c.in-Some.i c.in_ok-entry.entry c.in_ok-entry.ensures

pub turns-preserved : goal.turns-preserved
turns-preserved c = λ differ told placed.
    let left = parts_left c.turns.cursors.items in
    let entries = c.turns.entries.items in
    let at : position (begins (length entries)) c.turns.cursors.items ≡ Some c.in-Some.i = search rules in
    let there = begins_there c.turns.cursors.items (length entries) c.in-Some.i at in
    subst (IsWovenUpTo told (parts_left c.take_next.new.cursors.items)) (sym c.in_ok-push.ensures.items)
    (one_more c.args.parts.now told placed left entries (c.turns.invariant differ told placed) c.in-Some.i there.0 there.1 there.2 c.in_ok-entry.entry (parts_left c.take_next.new.cursors.items) c.in_ok-entry.ensures)

pub returns : goal.returns
returns c = λ differ told placed.
    let entries = c.turns.entries.items in
    let at : position (begins (length entries)) c.turns.cursors.items ≡ None = search rules in
    c.from_vec.ensures ∙ all_woven c.args.parts.now told placed (parts_left c.turns.cursors.items) entries (c.turns.invariant differ told placed) (begins_nowhere c.turns.cursors.items (length entries) at)
