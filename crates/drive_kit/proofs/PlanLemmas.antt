-- A script with one row more.
use Rattle.std.proofs.Common.{◌≡◌, ◌≢◌, ◌≤◌, ◌+◌, ◌++◌, ◌∙◌, ℕ, zero, suc, List, [], ◌∷◌, length, cond, All, Bool, true, false, refl, ap, sym, arith}
use Rattle.std.proofs.lemmas.List.{length-append}
use Rattle.std.proofs.lemmas.List.Elements.{All-append}
use Rattle.std.proofs.lemmas.List.Sums.{fold-append}
use Rattle.ho_model.specs.declared.objects.Object.{Object}
use Rattle.drive_kit.specs.Calls.{kind_of}
use Rattle.drive_kit.specs.Plans.{IsPlan, IsRowOf, is_snap, snaps_in, snaps_with}
use Rattle.drive_kit.specs.declared.calls.Kind.{Kind}
use Rattle.drive_kit.specs.declared.scripts.ScriptRow.{ScriptRow}

one_more : (b : Bool) (n : ℕ) → n + cond b 1 0 ≡ cond b (n + 1) n
one_more true n = refl
one_more false n = omega arith

snaps_push : (rows : List ScriptRow) (row : ScriptRow) → snaps_in (rows ++ row ∷ []) ≡ snaps_with (snaps_in rows) row.call
snaps_push rows row =
    fold-append (λ (n : ℕ) (r : ScriptRow). n + cond (is_snap r.call) 1 0) 0 rows (row ∷ []) ∙ one_more (is_snap row.call) (snaps_in rows)

only : (kind : Kind) (row : ScriptRow) → IsRowOf kind row → All (IsRowOf kind) (row ∷ [])
only kind row h zero d lt = h
only kind row h (suc k) d lt = absurd (omega (arith, lt))

pub plan_more : (object : Object) (rows : List ScriptRow) (snaps more : ℕ) (row : ScriptRow) → IsPlan object rows snaps → length rows ≢ 20000 → IsRowOf (kind_of object) row → more ≡ snaps_with snaps row.call → more ≤ 100 → IsPlan object (rows ++ row ∷ []) more
plan_more object rows snaps more row is room of_kind counts few = record {
  buildable = is.buildable;
  of_object = All-append (IsRowOf (kind_of object)) rows (row ∷ []) is.of_object (only (kind_of object) row of_kind);
  few = let longer = length-append rows (row ∷ []) in let old = is.few in omega (arith, longer, old, room);
  counted = counts ∙ ap (λ (n : ℕ). snaps_with n row.call) is.counted ∙ sym (snaps_push rows row);
  few_snaps = few;
}
