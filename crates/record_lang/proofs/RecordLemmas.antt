-- Rows that keep their numbers.
use Rattle.std.proofs.Common.{◌≡◌, ◌+◌, ◌++◌, ℕ, List, [], ◌∷◌, length, Bool, true, false, arith, if◌then◌else◌}
use Rattle.record_lang.specs.Records.{Row, AreNumberedFrom}

numbered_push : (rows : List Row) (row : Row) (n : ℕ) → AreNumberedFrom n rows → row.number ≡ n + length rows → AreNumberedFrom n (rows ++ row ∷ [])
numbered_push [] row n h e = (omega (arith, e), tt)
numbered_push (r ∷ rows) row n h e =
    let next : row.number ≡ n + 1 + length rows = omega (arith, e) in
    (h.0, numbered_push rows row (n + 1) h.1 next)

-- one more row, if it was pushed
pub pushed_numbered : (pushed : Bool) (rows : List Row) (row : Row) → AreNumberedFrom 0 rows → row.number ≡ length rows → AreNumberedFrom 0 (if pushed then rows ++ row ∷ [] else rows)
pushed_numbered true rows row h e = numbered_push rows row 0 h (omega (arith, e))
pushed_numbered false rows row h e = h
