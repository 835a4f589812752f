-- What a run of a pipeline on many threads leaves: its text, and each joint's whole pass.
use Rattle.std.specs.Prelude.{◌≡◌, ℕ, zero, suc, ◌+◌, ◌*◌, ◌≤◌, List, [], false, count_by, min, map, flat_map, length, slice_get, Some}
use Rattle.std.specs.List.Sorted.{IsPermutation}
use Rattle.ho_base.specs.Marks.{number_of}
use Rattle.ho_model.specs.declared.objects.Object.{Object}
use Rattle.ho_model.specs.declared.objects.Object.TheVariants as object
use Rattle.ho_model.specs.declared.objects.Mode.TheVariants as mode
use Rattle.passes.specs.Seen.{IsLawful}
use Rattle.passes.specs.Views.{IsWhole}
use Rattle.turn_lock.specs.Passes.{LockPass}
use Rattle.channel_core.specs.Marks.{fault_number}
use Rattle.channel_flow.specs.Items.{written_in, taken_in, dropped_in}
use Rattle.channel_flow.specs.Ends.{first_fault, is_begun, is_closed, is_completing, is_finished}
use Rattle.record_lang.specs.Guards.{fed_rows, stop_code}
use Rattle.record_lang.specs.Marks.{mark_of}
use Rattle.record_lang.specs.Pipelines.{Meaning}
use Rattle.record_lang.specs.Records.{Row}
use Rattle.record_lang.specs.Texts.{report_text, run_text}
use Rattle.record_lang.specs.declared.pipelines.Joint.{Joint}
use Rattle.record_lang.specs.declared.pipelines.Joint.TheVariants as joint
use Rattle.joint_reports.specs.Reports.{dropped_of, has_drop_joint, left_of, reached, told_of}
use Rattle.stage_pipeline.specs.Callers.{IsReadBy}

-- the channel that a joint is
abbrev pub channel_of : Joint → Object
channel_of (joint.Wait capacity) = object.Bounded capacity mode.Wait
channel_of (joint.DropNewest capacity) = object.Bounded capacity mode.DropNewest
channel_of (joint.DropOldest capacity) = object.Bounded capacity mode.DropOldest
channel_of (joint.DropWrite capacity) = object.Bounded capacity mode.DropWrite
channel_of joint.Unbounded = object.Unbounded

-- who calls on the joint at an index: the workers that read it and their crew, and beside them the feeder or the crew before it
abbrev pub callers_at : ℕ → ℕ → ℕ
callers_at workers zero = workers + 2
callers_at workers (suc index) = 2 * (workers + 1)

-- the numbers of the records that a joint dropped, as its whole pass has seen it, and of all joints
abbrev pub dropped_numbers : LockPass → List ℕ
dropped_numbers p = map number_of (flat_map dropped_in p.seen)

abbrev pub drops_of : List LockPass → List (List ℕ)
drops_of passes = map dropped_numbers passes

-- nothing was dropped; where a joint may drop, as many of the records that reached it are left as it has room for, or all
abbrev pub DropsLawfully : Joint → List Row → List ℕ → Type 0
DropsLawfully (joint.Wait capacity) arrived dropped = dropped ≡ []
DropsLawfully (joint.DropNewest capacity) arrived dropped = min (length arrived) capacity ≤ length (left_of dropped arrived)
DropsLawfully (joint.DropOldest capacity) arrived dropped = min (length arrived) capacity ≤ length (left_of dropped arrived)
DropsLawfully (joint.DropWrite capacity) arrived dropped = min (length arrived) capacity ≤ length (left_of dropped arrived)
DropsLawfully joint.Unbounded arrived dropped = dropped ≡ []

-- The whole pass of a joint that these records reached: what was written to it is these records, what it dropped is those of
-- the dropped numbers, and what was taken is the others, each once. It was completed once, with this fault. Its end was
-- told to so many reads. The workers and their crew are its readers, and no other calls were made; each wait that a call began was
-- ended by a poll.
pub record IsJointPass (line : Joint) (callers workers : ℕ) (arrived : List Row) (fault : ℕ) (p : LockPass) : Type 0 where
  pub whole : IsWhole p
  pub object : p.object ≡ channel_of line
  pub callers_are : p.callers ≡ callers
  pub lawful : IsLawful number_of p.object p.callers p.seen
  pub written : IsPermutation (flat_map written_in p.seen) (map mark_of arrived)
  pub lost : IsPermutation (flat_map dropped_in p.seen) (map mark_of (dropped_of (dropped_numbers p) arrived))
  pub taken : IsPermutation (flat_map taken_in p.seen) (map mark_of (left_of (dropped_numbers p) arrived))
  pub drops : DropsLawfully line arrived (dropped_numbers p)
  pub completed : (count_by is_completing p.seen ≡ 1) × (first_fault p.seen ≡ Some fault)
  pub readers : count_by is_closed p.seen ≡ workers
  pub sides : IsReadBy (workers + 1) p
  pub settled : count_by is_begun p.seen ≡ count_by is_finished p.seen

-- there is a whole pass for each joint, in order, and what each dropped tells which records reach the next
pub record AreJointPasses (pipeline : Meaning) (rows : List Row) (workers : ℕ) (passes : List LockPass) : Type 0 where
  pub count : length passes ≡ length pipeline.joints
  pub each : (j : ℕ) (line : Joint) (p : LockPass) → slice_get pipeline.joints j ≡ Some line → slice_get passes j ≡ Some p
      → IsJointPass line (callers_at workers j) workers (reached pipeline.stages (drops_of passes) j (fed_rows pipeline.guard rows)) (fault_number (stop_code pipeline.guard rows)) p

-- what contracts see of a run
pub record RanView : Type 0 where
  pub text : List ℕ
  pub joints : List LockPass

-- The text is that of the report which the joints tell. Where no joint may drop it is the one-thread text.
pub record IsRan (pipeline : Meaning) (rows : List Row) (workers : ℕ) (ran : RanView) : Type 0 where
  pub joints : AreJointPasses pipeline rows workers ran.joints
  pub text : ran.text ≡ report_text (told_of pipeline (drops_of ran.joints) rows) (stop_code pipeline.guard rows)
  pub plain : has_drop_joint pipeline.joints ≡ false → ran.text ≡ run_text pipeline rows
