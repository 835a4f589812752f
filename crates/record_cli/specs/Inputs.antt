-- What a pipeline's file and a record file mean, and what is told of them on one thread.
use Rattle.std.specs.Prelude.{◌≡◌, ℕ, List, Bool, Option, Some, None, Result, Ok, Err, if◌then◌else◌}
use Rattle.std.specs.Result.{is_ok}
use Rattle.text_rows.specs.Rows.{rows_of}
use Rattle.drive_kit.specs.Causes.{made_of}
use Rattle.record_lang.specs.Causes.{Refusal}
use Rattle.record_lang.specs.Guards.{is_stopped}
use Rattle.record_lang.specs.Parsing.{reading_of}
use Rattle.record_lang.specs.Pipelines.{Meaning}
use Rattle.record_lang.specs.Records.{Row}
use Rattle.record_lang.specs.Rows.{RowsRefusal, RefusedRow, RowTooMany, numbered_from, row_fault}
use Rattle.record_lang.specs.Texts.{run_text}
use Rattle.record_cli.specs.Answers.{Answer, refused_place, refused_row, too_large, two_files}
use Rattle.record_cli.specs.Reading.{Files, Reading, TwoFiles}
use Rattle.record_cli.specs.declared.finished.Shown.TheVariants as show
use Rattle.record_cli.specs.declared.inputs.Inputs.{Inputs}
use Rattle.record_cli.specs.declared.status.Status.{Status}
use Rattle.record_cli.specs.declared.status.Status.TheVariants as status

-- the pipeline that was read, or the row of its refused line
abbrev pub read_pipeline : List ℕ → Result Meaning Refusal → Result Meaning Answer
read_pipeline name (Ok pipeline) = Ok pipeline
read_pipeline name (Err refusal) = Err (refused_place name refusal.place refusal.cause)

-- the pipeline that a text means
abbrev pub pipeline_of : List ℕ → List ℕ → Result Meaning Answer
pipeline_of name text = read_pipeline name (reading_of text)

-- the records that were read, or the row of the refused one
abbrev pub read_rows : List ℕ → List (List (List ℕ)) → Option RowsRefusal → Result (List Row) Answer
read_rows name rows None = Ok (numbered_from 0 rows)
read_rows name rows (Some (RefusedRow row cause)) = Err (refused_row row cause)
read_rows name rows (Some RowTooMany) = Err (too_large name)

-- the records of a file's bytes
abbrev pub records_of : List ℕ → List ℕ → Result (List Row) Answer
records_of name bytes = read_rows name (rows_of bytes) (row_fault (rows_of bytes))

abbrev pub beside : Meaning → List Row → Inputs
beside pipeline rows = record { pipeline = pipeline; records = rows }

-- the pipeline and the records of two files, or the answer that refuses one of them
abbrev pub inputs_of : Files → List ℕ → List ℕ → Result Inputs Answer
inputs_of files pipe file =
    two_files files pipe 65536 (pipeline_of pipe) file 16777216 (λ pipeline bytes. made_of (beside pipeline) (records_of file bytes))

-- how the two files are read
abbrev pub inputs_reading : List ℕ → List ℕ → Reading
inputs_reading pipe file = TwoFiles pipe 65536 (λ text. is_ok (pipeline_of pipe text)) file 16777216

-- the status of a run that went to its end: whether the guard was met
abbrev pub end_status : Inputs → Status
end_status inputs = if is_stopped inputs.pipeline.guard inputs.records then status.Ended else status.Done

-- what `plain` writes: the one-thread text
abbrev pub plain_text : Inputs → Answer
plain_text inputs = record { status = end_status inputs; text = run_text inputs.pipeline inputs.records; shown = show.Nothing }

abbrev pub answer_for : Result Inputs Answer → Answer
answer_for (Ok inputs) = plain_text inputs
answer_for (Err refusal) = refusal

-- the answer of `plain PIPE FILE`, where the files are these
abbrev pub plain_answer : Files → List ℕ → List ℕ → Answer
plain_answer files pipe file = answer_for (inputs_of files pipe file)
