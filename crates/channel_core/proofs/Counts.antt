-- Counts of begins.
use Rattle.std.proofs.Common.{◌≡◌, ℕ, zero, suc, ◌≤◌, List, get_or, replicate, arith}
use Rattle.std.specs.Prelude.{slice_index, Option, None}
use Rattle.ho_model.specs.declared.objects.Mode.{Mode}
use Rattle.ho_model.specs.declared.objects.Mode.TheVariants.{Wait}
use Rattle.channel_core.specs.Kept.{IsSound}
use Rattle.channel_core.specs.Store.{HasRoom}

no_count : (n k : ℕ) → get_or (replicate n 0) k 0 ≤ 0
no_count zero k = omega arith
no_count (suc n) zero = omega arith
no_count (suc n) (suc k) = no_count n k

pub zero_counts : (k : ℕ) → slice_index (replicate 64 0) k ≤ 0
zero_counts k = no_count 64 k

-- what a new machine keeps
pub sound_start : (callers : ℕ) (begins : List ℕ) (capacity : Option ℕ) (mode : Mode) → callers ≤ 64 → begins ≡ replicate 64 0 → HasRoom capacity → (capacity ≡ None → mode ≡ Wait) → IsSound callers 0 0 begins capacity mode
sound_start callers begins capacity mode few fresh room waits =
    record { few = few; counted = λ k. rw fresh (zero_counts k); arrived = omega arith; room = room; waits = waits }
