-- The text of a report and of a run, from its parts.
use Rattle.std.proofs.Common.{◌≡◌, ◌++◌, ◌∙◌, ℕ, List, Bool, true, false, Option, Result, Ok, Err, length, map, ap, append_assoc, if◌then◌else◌}
use Rattle.std.specs.List.{flat_map}
use Rattle.std.specs.Result.{OnOk}
use Rattle.record_lang.specs.Guards.{fed_rows, stop_code}
use Rattle.record_lang.specs.Outcomes.{record_outcome}
use Rattle.record_lang.specs.Pipelines.{Meaning}
use Rattle.record_lang.specs.Records.{Row}
use Rattle.record_lang.specs.Texts.{Counts, Told, counts_line, counts_of, counts_rows, drop_counts_line, dropped_line, ending_line, refused_line, report_text, result_line, run_text}
use Rattle.record_lang.specs.declared.outcomes.Outcome.{Outcome}
use Rattle.record_lang.specs.declared.pipelines.Stage.{Stage}

-- what follows from what was ensured, if it was
pub on_ok : {T E : Type 0} (r : Result T E) (P Q : Type 0) → (P → Q) → OnOk r P → OnOk r Q
on_ok (Ok u) P Q more h = more h
on_ok (Err e) P Q more h = h

parts : (b : Bool) (results refusals drops with without ending : List ℕ)
    → ((results ++ refusals) ++ (if b then drops ++ with else without)) ++ ending ≡ (if b then results ++ (refusals ++ (drops ++ (with ++ ending))) else results ++ (refusals ++ (without ++ ending)))
parts true results refusals drops with without ending = append_assoc (results ++ refusals) (drops ++ with) ending ∙ append_assoc results refusals ((drops ++ with) ++ ending) ∙ ap (λ z. results ++ (refusals ++ z)) (append_assoc drops with ending)
parts false results refusals drops with without ending = append_assoc (results ++ refusals) without ending ∙ append_assoc results refusals (without ++ ending)

pub report_is : (told : Told) (code : Option ℕ) (a b : List Outcome) → a ≡ told.outcomes → b ≡ told.outcomes
    → ((flat_map result_line a ++ flat_map refused_line b) ++ counts_rows told) ++ ending_line code ≡ report_text told code
report_is told code a b ea eb =
    rw (ea, eb) (parts told.has_drops (flat_map result_line told.outcomes) (flat_map refused_line told.outcomes) (flat_map dropped_line told.dropped) (drop_counts_line (counts_of told.outcomes) (length told.dropped)) (counts_line (counts_of told.outcomes)) (ending_line code))

pub text_is : (p : Meaning) (stages : List Stage) (rows fed : List Row) (code : Option ℕ) (t r : List ℕ) (counts : Counts) → stages ≡ p.stages → fed ≡ fed_rows p.guard rows → code ≡ stop_code p.guard rows
    → t ≡ flat_map result_line (map (record_outcome stages) fed)
    → r ≡ (flat_map refused_line (map (record_outcome stages) fed) ++ counts_line counts) ++ ending_line code
    → counts ≡ counts_of (map (record_outcome stages) fed) → t ++ r ≡ run_text p rows
unfolding run_text
text_is p stages rows fed code t r counts same whole stops results rest tally =
    rw (results, rest, tally, ← whole, ← stops, ← same) (ap (λ (z : List ℕ). flat_map result_line (map (record_outcome stages) fed) ++ z) (append_assoc (flat_map refused_line (map (record_outcome stages) fed)) (counts_line (counts_of (map (record_outcome stages) fed))) (ending_line code)))
