-- The refused line is the first.
use Rattle.std.proofs.Common.{◌≡◌, ◌+◌, ◌∙◌, ℕ, suc, List, [], ◌∷◌, take, Result, Ok, Err, refl, ap, sym, arith, inl, inr, subst}
use Rattle.std.specs.Str.Lines.{lines}
use Rattle.record_lang.specs.Causes.{Refusal, and_then, cause_number}
use Rattle.record_lang.specs.Parsing.{at_place, nothing_yet, reading_from, whole, with_text}
use Rattle.record_lang.specs.Pipelines.{Meaning}
use Rattle.record_lang.specs.Refusals.{HasCauseAt, RefusedLinesAreFirst, said_by}
use Rattle.record_lang.specs.SoFar.{SoFar}
use Rattle.record_lang.specs.declared.causes.Cause.{Cause}

-- n of the lines, the first of which has this place, are read, and then one is refused
record Stops (place : ℕ) (before : SoFar) (all : List (List ℕ)) (refusal : Refusal) : Type 0 where
  count : ℕ
  after : SoFar
  cause : Cause
  read : said_by before (take count all) ≡ Ok after
  there : HasCauseAt all count after cause
  told : refusal.cause ≡ cause_number cause
  is : refusal.place ≡ place + count

at_end : (place : ℕ) (before : SoFar) (refusal : Refusal) (all : Result Meaning Cause) → whole before ≡ all → at_place place all ≡ Err refusal → Stops place before [] refusal
at_end place before refusal (Ok m) is h = cc
at_end place before refusal (Err cause) is h =
    let e : ◌≡◌ {A = Refusal} (record { place = place; cause = cause_number cause }) refusal = cc in
    record {
      count = 0;
      after = before;
      cause = cause;
      read = refl;
      there = inr (refl, is);
      told = sym (ap (λ (r : Refusal). r.cause) e);
      is = let p = sym (ap (λ (r : Refusal). r.place) e) in omega (arith, p);
    }

next-there : (next : List ℕ) (rest : List (List ℕ)) (n : ℕ) (after : SoFar) (cause : Cause) → HasCauseAt rest n after cause → HasCauseAt (next ∷ rest) (suc n) after cause
next-there next rest n after cause (inl h) = inl (omega (arith, h.0), h.1)
next-there next rest n after cause (inr h) = inr (omega (arith, h.0), h.1)

one-line : (place : ℕ) (before : SoFar) (next : List ℕ) (rest : List (List ℕ)) (refusal : Refusal) (told : Result SoFar Cause) → with_text before next ≡ told
    → ((after : SoFar) → reading_from (place + 1) after rest ≡ Err refusal → Stops (place + 1) after rest refusal)
    → and_then (at_place place told) (λ after. reading_from (place + 1) after rest) ≡ Err refusal → Stops place before (next ∷ rest) refusal
one-line place before next rest refusal (Ok after) is later h =
    let s = later after h in
    record {
      count = suc s.count;
      after = s.after;
      cause = s.cause;
      read = ap (λ z. and_then z (λ after. said_by after (take s.count rest))) is ∙ s.read;
      there = next-there next rest s.count s.after s.cause s.there;
      told = s.told;
      is = omega (arith, s.is);
    }
one-line place before next rest refusal (Err cause) is later h =
    let e : ◌≡◌ {A = Refusal} (record { place = place; cause = cause_number cause }) refusal = cc in
    record {
      count = 0;
      after = before;
      cause = cause;
      read = refl;
      there = inl (omega arith, is);
      told = sym (ap (λ (r : Refusal). r.cause) e);
      is = let p = sym (ap (λ (r : Refusal). r.place) e) in omega (arith, p);
    }

stops : (all : List (List ℕ)) (place : ℕ) (before : SoFar) (refusal : Refusal) → reading_from place before all ≡ Err refusal → Stops place before all refusal
unfolding reading_from
stops [] place before refusal h = at_end place before refusal (whole before) refl h
stops (next ∷ rest) place before refusal h =
    one-line place before next rest refusal (with_text before next) refl (λ after later. stops rest (place + 1) after refusal later) h

pub refused_first : RefusedLinesAreFirst
refused_first text refusal h =
    let s = stops (lines text) 0 nothing_yet refusal h in
    let here : refusal.place ≡ s.count = omega (arith, s.is) in
    record {
      before = s.after;
      cause = s.cause;
      read = ap (λ (k : ℕ). said_by nothing_yet (take k (lines text))) here ∙ s.read;
      there = subst (λ (k : ℕ). HasCauseAt (lines text) k s.after s.cause) (sym here) s.there;
      told = s.told;
    }
