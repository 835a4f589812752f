-- What a script plans: an object, and who makes which call on it.
use Rattle.std.specs.Prelude.{◌≡◌, ◌≤◌, ◌+◌, ℕ, List, [], ◌∷◌, All, fold, Bool, true, false, length, max, ◌==◌, if◌then◌else◌}
use Rattle.std.specs.List.{count_by}
use Rattle.ho_model.specs.declared.objects.Object.{Object}
use Rattle.ho_model.specs.declared.histories.Call.{Call}
use Rattle.ho_model.specs.declared.histories.Call.TheVariants as call
use Rattle.drive_kit.specs.Calls.{IsCallOf, kind_of}
use Rattle.drive_kit.specs.Objects.{IsBuildable}
use Rattle.drive_kit.specs.declared.calls.Kind.{Kind}
use Rattle.drive_kit.specs.declared.scripts.ScriptRow.{ScriptRow}

-- an object, and the calls that are to be made on it, with their callers
pub record Plan : Type 0 where
  pub object : Object
  pub rows : List ScriptRow

-- how many callers there are: the greatest caller plus 1, or 1 without rows
abbrev pub callers_of : List ScriptRow → ℕ
callers_of rows = fold (λ most row. max most (row.caller + 1)) 1 rows

-- the calls of one caller, in order
abbrev pub calls_by : ℕ → List ScriptRow → List Call
calls_by caller [] = []
calls_by caller (row ∷ rows) = if row.caller == caller then row.call ∷ calls_by caller rows else calls_by caller rows

abbrev pub is_snap : Call → Bool
is_snap call.Snap = true
is_snap _ = false

-- how many snapshots there are, with this call
abbrev pub snaps_with : ℕ → Call → ℕ
snaps_with snaps called = if is_snap called then snaps + 1 else snaps

-- how many of the calls are snapshots
abbrev pub snaps_in : List ScriptRow → ℕ
snaps_in rows = count_by (λ row. is_snap row.call) rows

-- a caller below 16, and a call that such an object has
pub record IsRowOf (kind : Kind) (row : ScriptRow) : Type 0 where
  pub few : row.caller ≤ 15
  pub of_kind : IsCallOf kind row.call

-- a script within its limits, and its count of snapshots
pub record IsPlan (object : Object) (rows : List ScriptRow) (snaps : ℕ) : Type 0 where
  pub buildable : IsBuildable object
  pub of_object : All (IsRowOf (kind_of object)) rows
  pub few : length rows ≤ 20000
  pub counted : snaps ≡ snaps_in rows
  pub few_snaps : snaps ≤ 100
