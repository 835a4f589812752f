-- The text of a run on one thread.
use Rattle.std.specs.Prelude.{ℕ, ◌+◌, if◌then◌else◌, List, [], ◌∷◌, ◌++◌, Bool, true, false, Option, Some, None, codes, decimal, map, length}
use Rattle.std.specs.List.{flat_map, count_by}
use Rattle.text_rows.specs.Written.{text_of_row}
use Rattle.record_lang.specs.Guards.{fed_rows, stop_code}
use Rattle.record_lang.specs.Outcomes.{record_outcome}
use Rattle.record_lang.specs.Pipelines.{Meaning}
use Rattle.record_lang.specs.Records.{Row}
use Rattle.record_lang.specs.declared.outcomes.Outcome.{Outcome}
use Rattle.record_lang.specs.declared.outcomes.Outcome.TheVariants as to
use Rattle.record_lang.specs.declared.reports.Dropped.{Dropped}

-- the line of an outcome that is a result
abbrev pub result_line : Outcome → List ℕ
result_line (to.Result row) = text_of_row (codes "result" ∷ decimal row.number ∷ row.fields)
result_line (to.Refused number stage cause) = []
result_line (to.Filtered number) = []

-- the line of an outcome that is a refusal
abbrev pub refused_line : Outcome → List ℕ
refused_line (to.Result row) = []
refused_line (to.Refused number stage cause) = text_of_row (codes "refused" ∷ decimal number ∷ decimal stage ∷ decimal cause ∷ [])
refused_line (to.Filtered number) = []

abbrev pub is_result : Outcome → Bool
is_result (to.Result row) = true
is_result (to.Refused number stage cause) = false
is_result (to.Filtered number) = false

abbrev pub is_refused : Outcome → Bool
is_refused (to.Result row) = false
is_refused (to.Refused number stage cause) = true
is_refused (to.Filtered number) = false

abbrev pub is_filtered : Outcome → Bool
is_filtered (to.Result row) = false
is_filtered (to.Refused number stage cause) = false
is_filtered (to.Filtered number) = true

-- how many records were fed, and what became of them
pub record Counts : Type 0 where
  pub fed : ℕ
  pub results : ℕ
  pub refused : ℕ
  pub filtered : ℕ

abbrev pub counts_of : List Outcome → Counts
counts_of outcomes = record { fed = length outcomes; results = count_by is_result outcomes; refused = count_by is_refused outcomes; filtered = count_by is_filtered outcomes }

abbrev pub counts_fields : Counts → List (List ℕ)
counts_fields c = codes "counts" ∷ decimal c.fed ∷ decimal c.results ∷ decimal c.refused ∷ decimal c.filtered ∷ []

abbrev pub counts_line : Counts → List ℕ
counts_line c = text_of_row (counts_fields c)

-- the row of a dropped record
abbrev pub dropped_line : Dropped → List ℕ
dropped_line d = text_of_row (codes "dropped" ∷ decimal d.number ∷ decimal d.joint ∷ [])

-- the counts of the records that were not dropped, and of the dropped, which were fed, too
abbrev pub drop_counts_line : Counts → ℕ → List ℕ
drop_counts_line c dropped = text_of_row (counts_fields (record c { fed = c.fed + dropped }) ++ decimal dropped ∷ [])

-- how the run ended: with the guard's code, if it was met
abbrev pub ending_line : Option ℕ → List ℕ
ending_line None = text_of_row (codes "ending" ∷ codes "done" ∷ [])
ending_line (Some code) = text_of_row (codes "ending" ∷ codes "guard" ∷ decimal code ∷ [])

-- the text of these outcomes, in order of their records' numbers
abbrev pub outcomes_text : List Outcome → Option ℕ → List ℕ
outcomes_text outcomes code = flat_map result_line outcomes ++ (flat_map refused_line outcomes ++ (counts_line (counts_of outcomes) ++ ending_line code))

-- the same where joints may drop, with the dropped records in order of joint and then of number
abbrev pub drop_text : List Outcome → List Dropped → Option ℕ → List ℕ
drop_text outcomes dropped code =
    flat_map result_line outcomes ++ (flat_map refused_line outcomes ++ (flat_map dropped_line dropped ++ (drop_counts_line (counts_of outcomes) (length dropped) ++ ending_line code)))

-- what a report tells: the outcomes, whether joints may drop, and the dropped records
pub record Told : Type 0 where
  pub outcomes : List Outcome
  pub has_drops : Bool
  pub dropped : List Dropped

abbrev pub report_text : Told → Option ℕ → List ℕ
report_text told code = if told.has_drops then drop_text told.outcomes told.dropped code else outcomes_text told.outcomes code

-- its rows between the refusals and the ending
abbrev pub counts_rows : Told → List ℕ
counts_rows told = if told.has_drops then flat_map dropped_line told.dropped ++ drop_counts_line (counts_of told.outcomes) (length told.dropped) else counts_line (counts_of told.outcomes)

-- the outcomes of the fed records
abbrev pub run_outcomes : Meaning → List Row → List Outcome
run_outcomes pipeline rows = map (record_outcome pipeline.stages) (fed_rows pipeline.guard rows)

-- the text of a run of a pipeline on these records
unfoldable pub run_text : Meaning → List Row → List ℕ
run_text pipeline rows = outcomes_text (run_outcomes pipeline rows) (stop_code pipeline.guard rows)
