-- In which order dropped records are told.
use Rattle.std.specs.Prelude.{Bool}
use Rattle.std.specs.Ordering.{is_lt, nat_cmp, ordering_then}
use Rattle.record_lang.specs.declared.reports.Dropped.{Dropped}

-- by joint, and then by number
abbrev pub is_told_before : Dropped → Dropped → Bool
is_told_before a b = is_lt (ordering_then (nat_cmp a.joint b.joint) (nat_cmp a.number b.number))
