use Rattle.std.proofs.Common.{refl}
use Rattle.std.specs.Fmt.{digits}
use Rattle.record_lang.specs.Outcomes.{outcome_from}
use Rattle.joint_reports.proofs.rows.the_worked_rows_are_told.Goals as goal

pub returns : goal.returns
unfolding outcome_from digits
returns c = record {
  adding_first = refl;
  adding_second = refl;
  adding_dropped = refl;
  adding_left = refl;
  adding_told = refl;
  waiting_told = refl;
  keeping_first = refl;
  keeping_second = refl;
  keeping_dropped = refl;
  keeping_left = refl;
  keeping_outcomes = refl;
  keeping_told = refl;
}
