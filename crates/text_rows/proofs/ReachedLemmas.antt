-- The rows of a file, as a reader gives them one after another.
use Rattle.std.proofs.Common.{◌≡◌, ◌≤◌, ◌<◌, ◌+◌, ◌-◌, ◌++◌, ◌∙◌, ℕ, zero, suc, List, [], ◌∷◌, length, Bool, true, false, Option, Some, None, refl, ap, arith, if◌then◌else◌, ◌==◌, ◌||◌}
use Rattle.std.proofs.Math.Nat.{suc-sub-suc}
use Rattle.std.proofs.lemmas.List.{append-nil}
use Rattle.csv.specs.Machine.{Read, after_end, ends_at_end, field_after, fields_after, in_field, is_end, next_record, start_field, start_record, step}
use Rattle.csv.specs.Reading.{Reached, default_config, records_from, strip_bom}
use Rattle.text_rows.specs.Rows.{rows_of}
use Rattle.csv.specs.declared.parser.State.{State}
use Rattle.csv.specs.declared.parser.State.TheVariants as st
use Rattle.csv.specs.declared.parser.Action.{Action}
use Rattle.csv.specs.declared.parser.Action.TheVariants as act

-- a step that ends a record leaves a state in which the end of the text ends none
abbrev pub Rests : State × Action → Type 0
Rests p = is_end p.1 ≡ true → ends_at_end p.0 ≡ false

either : (b : Bool) (p q : State × Action) → Rests p → Rests q → Rests (if b then p else q)
either true p q hp hq = hp
either false p q hp hq = hq

ended : (b : Bool) → ends_at_end (if b then st.AfterCr else st.StartRecord) ≡ false
ended true = refl
ended false = refl

in_field-rests : (c : ℕ) → Rests (in_field default_config c)
in_field-rests c =
    either (c == 44) (st.StartField, act.EndField) _ (λ e. cc) (either ((c == 13) || (c == 10)) (after_end default_config.terminator c, act.EndRecord) (st.InField, act.Copy) (λ e. ended (c == 13)) (λ e. cc))

start_field-rests : (c : ℕ) → Rests (start_field default_config c)
start_field-rests c = either (c == 34) (st.InQuoted, act.Skip) _ (λ e. cc) (in_field-rests c)

start_record-rests : (c : ℕ) → Rests (start_record default_config c)
start_record-rests c = either ((c == 13) || (c == 10)) (st.StartRecord, act.Skip) _ (λ e. cc) (start_field-rests c)

step-rests : (s : State) (c : ℕ) → Rests (step default_config s c)
step-rests st.StartRecord c = start_record-rests c
step-rests st.StartField c = start_field-rests c
step-rests st.InField c = in_field-rests c
step-rests st.InQuoted c = either (c == 34) (st.AfterQuote, act.Skip) (st.InQuoted, act.Copy) (λ e. cc) (λ e. cc)
step-rests st.InEscape c = λ e. cc
step-rests st.AfterQuote c = either (c == 34) (st.InQuoted, act.Copy) _ (λ e. cc) (in_field-rests c)
step-rests st.InComment c = either (c == 10) (st.StartRecord, act.Skip) (st.InComment, act.Skip) (λ e. cc) (λ e. cc)
step-rests st.AfterCr c = either (c == 10) (st.StartRecord, act.Skip) _ (λ e. cc) (start_record-rests c)

-- the record that a read of a text gives stands before some of its bytes, and the reader rests after it
abbrev pub Left : List ℕ → Option Read → Type 0
Left xs None = Unit {0}
Left xs (Some p) = (length p.2 ≤ length xs) × (ends_at_end p.1 ≡ false)

left-if : (b : Bool) (xs : List ℕ) (p q : Option Read) → (b ≡ true → Left xs p) → (b ≡ false → Left xs q) → Left xs (if b then p else q)
left-if true xs p q hp hq = hp refl
left-if false xs p q hp hq = hq refl

left-more : (c : ℕ) (xs : List ℕ) (o : Option Read) → Left xs o → Left (c ∷ xs) o
left-more c xs None h = tt
left-more c xs (Some p) h = (omega (arith, h.0), h.1)

next-left : (xs : List ℕ) (s : State) (fields : List (List ℕ)) (field : List ℕ) → Left xs (next_record default_config s fields field xs)
unfolding next_record
next-left [] s fields field = left-if (ends_at_end s) [] (Some (fields ++ (field ∷ []), st.StartRecord, [])) None (λ e. (omega arith, refl)) (λ e. tt)
next-left (c ∷ rest) s fields field =
    left-more c rest (next_record default_config s fields field (c ∷ rest)) (left-if (is_end (step default_config s c).1) rest (Some (fields_after (step default_config s c).1 fields field, (step default_config s c).0, rest)) (next_record default_config (step default_config s c).0 (fields_after (step default_config s c).1 fields field) (field_after (step default_config s c).1 c field) rest)
    (λ e. (omega arith, step-rests s c e))
    (λ e. next-left rest (step default_config s c).0 (fields_after (step default_config s c).1 fields field) (field_after (step default_config s c).1 c field)))

step-left : (c : ℕ) (rest : List ℕ) (s : State) → Left rest (next_record default_config s [] [] (c ∷ rest))
unfolding next_record
step-left c rest s =
    left-if (is_end (step default_config s c).1) rest (Some (fields_after (step default_config s c).1 [] [], (step default_config s c).0, rest)) (next_record default_config (step default_config s c).0 (fields_after (step default_config s c).1 [] []) (field_after (step default_config s c).1 c []) rest)
    (λ e. (omega arith, step-rests s c e))
    (λ e. next-left rest (step default_config s c).0 (fields_after (step default_config s c).1 [] []) (field_after (step default_config s c).1 c []))

no-bytes : (s : State) (p : Read) → ends_at_end s ≡ false → next_record default_config s [] [] [] ≡ Some p → ⊥
unfolding next_record
no-bytes s p rests is = let h : ◌≡◌ {A = Option Read} None (Some p) = rw rests at is in cc

-- a reader that rests takes a byte at least for a record
takes_a_byte : (xs : List ℕ) (s : State) (p : Read) → ends_at_end s ≡ false → next_record default_config s [] [] xs ≡ Some p → (length p.2 < length xs) × (ends_at_end p.1 ≡ false)
takes_a_byte [] s p rests is = absurd (no-bytes s p rests is)
takes_a_byte (c ∷ rest) s p rests is = let h = rw is at (step-left c rest s) in (omega (arith, h.0), h.1)

-- the rows reached are as few as the bytes before them
pub reached-few : (rows : List (List (List ℕ))) (s s2 : State) (xs ys : List ℕ) → ends_at_end s ≡ false → Reached default_config s xs rows s2 ys → length rows + length ys ≤ length xs
unfolding Reached
reached-few [] s s2 xs ys rests h = omega (arith, ap length h.1)
reached-few (r ∷ rows) s s2 xs ys rests h =
    let less = takes_a_byte xs s h.0 rests h.1 in
    let later = reached-few rows h.0.1 s2 h.0.2 ys less.1 h.3 in
    omega (arith, less.0, later)

-- the first rows of a text, and those after them
pub reached-first : (rows : List (List (List ℕ))) (n : ℕ) (s s2 : State) (xs ys : List ℕ) → length rows ≤ n → Reached default_config s xs rows s2 ys → records_from default_config n s xs ≡ rows ++ records_from default_config (n - length rows) s2 ys
unfolding Reached records_from
reached-first [] n s s2 xs ys few h = let none : n - 0 ≡ n = omega arith in rw (none, h.0, h.1) refl
reached-first (r ∷ rows) zero s s2 xs ys few h = absurd (omega arith)
reached-first (r ∷ rows) (suc n) s s2 xs ys few h =
    let later = reached-first rows n h.0.1 s2 h.0.2 ys (omega arith) h.3 in
    rw (h.1, h.2, suc-sub-suc) (ap (λ z. h.0.0 ∷ z) later)

pub none-left : (n : ℕ) (s : State) (xs : List ℕ) → next_record default_config s [] [] xs ≡ None → records_from default_config n s xs ≡ []
unfolding records_from
none-left zero s xs h = refl
none-left (suc n) s xs h = rw h refl

-- every row of a file that a reader has reached the end of
pub all-reached : (text : List ℕ) (rows : List (List (List ℕ))) (s2 : State) (ys : List ℕ) → Reached default_config st.StartRecord (strip_bom text) rows s2 ys → next_record default_config s2 [] [] ys ≡ None → rows_of text ≡ rows
all-reached text rows s2 ys h done =
    let few = reached-few rows st.StartRecord s2 (strip_bom text) ys refl h in
    reached-first rows (length (strip_bom text) + 1) st.StartRecord s2 (strip_bom text) ys (omega arith) h
    ∙ ap (λ z. rows ++ z) (none-left (length (strip_bom text) + 1 - length rows) s2 ys done)
    ∙ append-nil rows

-- the rows that a reader has reached are the first
pub some-reached : (text : List ℕ) (rows : List (List (List ℕ))) (s2 : State) (ys : List ℕ) → Reached default_config st.StartRecord (strip_bom text) rows s2 ys → (rest : List (List (List ℕ))) × (rows_of text ≡ rows ++ rest)
some-reached text rows s2 ys h =
    let few = reached-few rows st.StartRecord s2 (strip_bom text) ys refl h in
    (records_from default_config (length (strip_bom text) + 1 - length rows) s2 ys, reached-first rows (length (strip_bom text) + 1) st.StartRecord s2 (strip_bom text) ys (omega arith) h)
