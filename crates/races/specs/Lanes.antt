-- The places of threads in a race.
use Rattle.std.specs.Prelude.{IfSome}
use Rattle.races.specs.declared.race.Lane.{Lane}

-- a pass with which a thread is still to start is of the object
abbrev pub IsReady : {P T O : Type 0} → (P → Type 0) → Lane P T O → Type 0
IsReady is_of lane = IfSome lane.entry (λ entry. is_of entry.0)
