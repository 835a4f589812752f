-- What a worker does by its two passes.
use Rattle.std.specs.Prelude.{◌≡◌, ℕ, ◌+◌, List, [], Bool, true, false, cond, Option, None, Some, sum_by}
use Rattle.ho_base.specs.Marks.{Mark, number_of}
use Rattle.ho_model.specs.declared.marks.EntryMark.{EntryMark}
use Rattle.ho_model.specs.declared.marks.ReplyMark.{ReplyMark}
use Rattle.turn_lock.specs.Passes.{LockPass}
use Rattle.record_lang.specs.declared.outcomes.Outcome.{Outcome}
use Rattle.channel_flow.specs.Items.{written_in, taken_in, dropped_in, refused_in, given_back_in, gives, weight}
use Rattle.channel_flow.specs.Ends.{is_begun, is_finished, is_closed_reply_with, is_closed_with, is_closed_reply, is_closed, is_completing}
use Rattle.joint_reports.specs.Through.{goes, ends}
use Rattle.stage_pipeline.specs.Callers.{strays}
use Rattle.stage_pipeline.specs.Joints.{tally, tally_of}
use Rattle.stage_pipeline.specs.declared.workers.Turn.{Turn}
use Rattle.stage_pipeline.specs.declared.workers.Turn.TheVariants.{More, Ended, GaveUp}

-- the weight of a pass's own entries, and how many of them pass a test
abbrev pub weighs : (EntryMark → ℕ) → LockPass → ℕ
weighs f p = tally f p.held p.seen

abbrev pub counts : (EntryMark → Bool) → LockPass → ℕ
counts p pass = tally_of p pass.held pass.seen

-- the same of a pass that is there or not
abbrev pub weighs_to : (EntryMark → ℕ) → Option LockPass → ℕ
weighs_to f None = 0
weighs_to f (Some p) = weighs f p

abbrev pub counts_to : (EntryMark → Bool) → Option LockPass → ℕ
counts_to p None = 0
counts_to p (Some pass) = counts p pass

-- the last stage has nothing to write to
abbrev pub is_last : Option LockPass → Bool
is_last None = true
is_last (Some p) = false

-- what entries weigh whose item is dropped, by the items' numbers
abbrev pub lost_by : (ℕ → ℕ) → EntryMark → ℕ
lost_by g = weight (λ m. g (number_of m)) dropped_in

-- Of what was read all was worked off: it was written on, or its outcome is kept, or its number where it was dropped. Each wait
-- was finished. The reader wrote and completed nothing, the writer read and completed nothing, and neither made any other call.
pub record WorksOff (does : Mark → Outcome) (r : LockPass) (w : Option LockPass) (over : List Outcome) (lost : List ℕ) : Type 0 where
  pub goes_on : (h : Mark → ℕ) → weighs_to (weight h written_in) w ≡ weighs (weight (λ m. goes (is_last w) h (does m)) taken_in) r
  pub ends_here : (k : Outcome → ℕ) → sum_by k over ≡ weighs (weight (λ m. ends (is_last w) k (does m)) taken_in) r
  pub loses : (g : ℕ → ℕ) → sum_by g lost ≡ weighs_to (lost_by g) w
  pub settled : counts is_begun r ≡ counts is_finished r
  pub settled_to : counts_to is_begun w ≡ counts_to is_finished w
  pub quiet : (h : Mark → ℕ) → (weighs (weight h written_in) r ≡ 0) × (weighs (weight h dropped_in) r ≡ 0) × (weighs (weight h refused_in) r ≡ 0) × (weighs (weight h given_back_in) r ≡ 0)
  pub uncompleting : counts is_completing r ≡ 0
  pub quiet_to : (h : Mark → ℕ) → (weighs_to (weight h taken_in) w ≡ 0) × (weighs_to (weight h given_back_in) w ≡ 0)
  pub uncompleting_to : counts_to is_completing w ≡ 0
  pub untold_to : counts_to is_closed w ≡ 0
  pub reads_alone : counts (strays true) r ≡ 0
  pub writes_alone : counts_to (strays false) w ≡ 0

-- a pass is of the same object, and holds the same numbers
pub record KeepsPlace (p q : LockPass) : Type 0 where
  pub table : q.table ≡ p.table
  pub object : q.object ≡ p.object
  pub callers : q.callers ≡ p.callers
  pub caller : q.caller ≡ p.caller
  pub held : q.held ≡ p.held

-- the same of a pass that is there or not
abbrev pub KeepsPlaceTo : Option LockPass → Option LockPass → Type 0
KeepsPlaceTo None None = Unit {0}
KeepsPlaceTo None (Some w) = ⊥
KeepsPlaceTo (Some v) None = ⊥
KeepsPlaceTo (Some v) (Some w) = KeepsPlace v w

-- one record was written, and was refused, dropped another or neither
pub record Sends (m : Mark) (p q : LockPass) (lost lost' : List ℕ) : Type 0 where
  pub writes : (h : Mark → ℕ) → weighs (weight h written_in) q ≡ weighs (weight h written_in) p + h m
  pub loses : (g : ℕ → ℕ) → sum_by g lost' + weighs (lost_by g) p ≡ sum_by g lost + weighs (lost_by g) q
  pub settled : counts is_begun q + counts is_finished p ≡ counts is_begun p + counts is_finished q
  pub quiet : (h : Mark → ℕ) → (weighs (weight h taken_in) q ≡ weighs (weight h taken_in) p) × (weighs (weight h given_back_in) q ≡ weighs (weight h given_back_in) p)
  pub uncompleting : counts is_completing q ≡ counts is_completing p
  pub untold : counts is_closed q ≡ counts is_closed p
  pub alone : counts (strays false) q ≡ counts (strays false) p

-- what became of one record: it ended here, or it was written on
pub record PassesOn (o : Outcome) (w w' : Option LockPass) (over over' : List Outcome) (lost lost' : List ℕ) : Type 0 where
  pub goes_on : (h : Mark → ℕ) → weighs_to (weight h written_in) w' ≡ weighs_to (weight h written_in) w + goes (is_last w) h o
  pub ends_here : (k : Outcome → ℕ) → sum_by k over' ≡ sum_by k over + ends (is_last w) k o
  pub loses : (g : ℕ → ℕ) → sum_by g lost' + weighs_to (lost_by g) w ≡ sum_by g lost + weighs_to (lost_by g) w'
  pub settled : counts_to is_begun w' + counts_to is_finished w ≡ counts_to is_begun w + counts_to is_finished w'
  pub quiet : (h : Mark → ℕ) → (weighs_to (weight h taken_in) w' ≡ weighs_to (weight h taken_in) w) × (weighs_to (weight h given_back_in) w' ≡ weighs_to (weight h given_back_in) w)
  pub uncompleting : counts_to is_completing w' ≡ counts_to is_completing w
  pub untold : counts_to is_closed w' ≡ counts_to is_closed w
  pub alone : counts_to (strays false) w' ≡ counts_to (strays false) w

-- a read was answered so
pub record Takes (reply : ReplyMark) (p q : LockPass) : Type 0 where
  pub takes : (h : Mark → ℕ) → weighs (weight h taken_in) q ≡ weighs (weight h taken_in) p + sum_by h (gives reply)
  pub told : counts is_closed q ≡ counts is_closed p + cond (is_closed_reply reply) 1 0
  pub told_fault : (fault : ℕ) → counts (is_closed_with fault) q ≡ counts (is_closed_with fault) p + cond (is_closed_reply_with fault reply) 1 0
  pub settled : counts is_begun q + counts is_finished p ≡ counts is_begun p + counts is_finished q
  pub quiet : (h : Mark → ℕ) → (weighs (weight h written_in) q ≡ weighs (weight h written_in) p) × (weighs (weight h dropped_in) q ≡ weighs (weight h dropped_in) p) × (weighs (weight h refused_in) q ≡ weighs (weight h refused_in) p) × (weighs (weight h given_back_in) q ≡ weighs (weight h given_back_in) p)
  pub uncompleting : counts is_completing q ≡ counts is_completing p
  pub alone : counts (strays true) q ≡ counts (strays true) p

-- a fact about how a turn ended
abbrev pub IfMore : Turn → Type 0 → Type 0
IfMore More P = P
IfMore (Ended fault) P = Unit {0}
IfMore GaveUp P = Unit {0}

abbrev pub IfEnded : Turn → (Option ℕ → Type 0) → Type 0
IfEnded More P = Unit {0}
IfEnded (Ended fault) P = P fault
IfEnded GaveUp P = Unit {0}

-- a pass that has seen nothing yet, if it is there
abbrev pub IsNewTo : Option LockPass → Type 0
IsNewTo None = Unit {0}
IsNewTo (Some p) = p.seen ≡ []
