use Rattle.std.proofs.Common.{rules, arith, ◌≡◌, ◌<◌, length}
use Rattle.passes.proofs.Flags.{other_flag}
use Rattle.passes.proofs.arrays.least_spare.Goals as goal

pub unreachable-requires : goal.unreachable-requires
unreachable-requires c =
    let held = c.args.held.now in
    let other = other_flag held c.args.caller c.requires in
    let wide : length held ≡ 64 = search rules in
    let inside : other.0 < length held = other.1 in
    c.loop-number.invariant other.0 (omega arith) (other.2, other.3)
