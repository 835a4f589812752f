-- Numbers below a count, shared out among workers.
use Rattle.std.specs.Prelude.{ℕ, zero, suc, ◌+◌, ◌*◌, ◌/◌}

-- where the share of a worker begins, and that of the worker before ends
abbrev pub share_start : ℕ → ℕ → ℕ → ℕ
share_start count workers worker = count * worker / workers

-- the sum of the numbers below a count
unfoldable pub sum_below : ℕ → ℕ
sum_below zero = 0
sum_below (suc n) = sum_below n + n
