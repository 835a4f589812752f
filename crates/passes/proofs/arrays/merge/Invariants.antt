use Rattle.std.proofs.Common.{◌≡◌, ℕ, ◌<◌, ◌≤◌, get_or, cond, true, false, length}
use Rattle.passes.proofs.arrays.merge.Given as goal

abbrev pub invariant-loop-number : goal.invariant-loop-number
invariant-loop-number l = record {
  wide : length l.held ≡ 64;
  wide_made : length l.made ≡ 64;
  flags : (k : ℕ) → k < l.number → get_or l.held k false ≡ cond (get_or l.other_held k false) true (get_or l.initial.held k false);
  flags_left : (k : ℕ) → l.number ≤ k → get_or l.held k false ≡ get_or l.initial.held k false;
  counts : (k : ℕ) → k < l.number → get_or l.made k 0 ≡ cond (get_or l.other_held k false) (get_or l.other_made k 0) (get_or l.initial.made k 0);
  counts_left : (k : ℕ) → l.number ≤ k → get_or l.made k 0 ≡ get_or l.initial.made k 0;
}
