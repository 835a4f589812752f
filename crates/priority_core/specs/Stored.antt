-- What contracts see of items that leave by priority, and what every store of them keeps.
use Rattle.std.specs.Prelude.{◌≡◌, ℕ, ◌<◌, ◌≤◌, ◌==◌, List, map, All}
use Rattle.std.specs.List.{count_by}
use Rattle.std.specs.declared.cmp.Reverse.{Reverse}
use Rattle.std.specs.declared.cmp.Ordering.{Ordering}
use Rattle.std.specs.Ordering.{nat_cmp, ordering_then}
use Rattle.std.specs.BinaryHeap.{IsHeap}
use Rattle.ho_base.specs.Marks.{Mark}
use Rattle.priority_core.specs.Rank.{ordered_by}
use Rattle.priority_core.specs.declared.store.Ranked.{Ranked}

-- arrivals is how many were put in, and room is how many fit without more memory
pub record Stored : Type 0 where
  pub items : List Mark
  pub arrivals : ℕ
  pub room : ℕ

abbrev pub arrival_of : {T : Type 0} → Reverse (Ranked T) → ℕ
arrival_of y = y.0.arrival

abbrev pub mark_of : {T : Type 0} → (T → Mark) → Reverse (Ranked T) → Mark
mark_of mark y = mark y.0.item

-- the marks in the order of arrival
abbrev pub in_order : {T : Type 0} → (T → Mark) → List (Reverse (Ranked T)) → List Mark
in_order mark heap = map (mark_of mark) (ordered_by arrival_of heap)

-- the heap's greatest item is the one that leaves first
abbrev pub rank_cmp : {T : Type 0} → Reverse (Ranked T) → Reverse (Ranked T) → Ordering
rank_cmp x y = ordering_then (nat_cmp y.0.priority x.0.priority) (nat_cmp y.0.arrival x.0.arrival)

-- arrivals are distinct and below the next, and each item has its priority
pub record IsRanked {T : Type 0} (mark : T → Mark) (priority_of : Mark → ℕ) (next : ℕ) (heap : List (Reverse (Ranked T))) : Type 0 where
  pub heap_order : IsHeap rank_cmp heap
  pub distinct : (k : ℕ) → count_by (λ y. arrival_of y == k) heap ≤ 1
  pub below : All (λ y. arrival_of y < next) heap
  pub ranked : All (λ y. y.0.priority ≡ priority_of (mark y.0.item)) heap
