-- The text of a history, one entry after another.
use Rattle.std.proofs.Common.{◌≡◌, ◌<◌, ◌+◌, ◌++◌, ◌∙◌, ℕ, List, [], ◌∷◌, length, take, get_or, ap, sym, arith}
use Rattle.std.proofs.lemmas.Grind.{flat_map-append}
use Rattle.std.proofs.lemmas.List.{append-nil, length-take-le, take_more}
use Rattle.ho_model.specs.declared.histories.Entry.{Entry}
use Rattle.text_rows.specs.Written.{text_of_row, text_of_rows}
use Rattle.drive_kit.specs.Histories.{row_of_entry, rows_from, text_of}
use Rattle.drive_kit.proofs.HistoryLemmas.{rows_push}

pub text_push : (es : List Entry) (e : Entry) → text_of (es ++ e ∷ []) ≡ text_of es ++ text_of_row (row_of_entry (length es) e)
unfolding text_of
text_push es e =
    let none : 0 + length es ≡ length es = omega arith in
    ap text_of_rows (rows_push 0 es e)
    ∙ flat_map-append text_of_row (rows_from 0 es) (row_of_entry (0 + length es) e ∷ [])
    ∙ ap (λ (z : List ℕ). text_of_rows (rows_from 0 es) ++ z) (append-nil (text_of_row (row_of_entry (0 + length es) e)))
    ∙ ap (λ (n : ℕ). text_of_rows (rows_from 0 es) ++ text_of_row (row_of_entry n e)) none

taken : (es : List Entry) (i : ℕ) → i < length es → length (take i es) ≡ i
taken es i h = length-take-le i es (omega arith)

pub text_more : (es : List Entry) (i : ℕ) (e : Entry) → i < length es → e ≡ get_or es i e → text_of (take (i + 1) es) ≡ text_of (take i es) ++ text_of_row (row_of_entry i e)
text_more es i e h here =
    let few = taken es i h in
    ap text_of (take_more es i e h)
    ∙ ap (λ (x : Entry). text_of (take i es ++ x ∷ [])) (sym here)
    ∙ text_push (take i es) e
    ∙ ap (λ (n : ℕ). text_of (take i es) ++ text_of_row (row_of_entry n e)) few
