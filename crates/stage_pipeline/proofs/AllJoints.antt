-- What joints that were met, each worked off into the next one, tell together.
use Rattle.std.specs.Prelude.{ℕ, suc, zero, List, [], ◌∷◌, true, false, map, length, All, Some, None, slice_get}
use Rattle.std.specs.List.{flat_map}
use Rattle.std.proofs.Common.{◌≡◌, refl, ap, sym, ◌∙◌, subst, ◌+◌, arith}
use Rattle.std.proofs.lemmas.List.Elements.{All-head, All-tail}
use Rattle.std.proofs.lemmas.Option.{same_Some, none-some}
use Rattle.ho_base.specs.Marks.{Mark}
use Rattle.turn_lock.specs.Passes.{LockPass}
use Rattle.channel_flow.specs.Items.{written_in, taken_in, dropped_in}
use Rattle.record_lang.specs.Pipelines.{IsBuildable}
use Rattle.record_lang.specs.Records.{Row}
use Rattle.record_lang.specs.declared.pipelines.Joint.{Joint}
use Rattle.record_lang.specs.declared.pipelines.Stage.{Stage}
use Rattle.joint_reports.specs.Through.{Passage, PassesJoint, PassesJoints, says, goes, ends, going_on, weight_of_rows}
use Rattle.stage_pipeline.specs.Works.{WorksOff}
use Rattle.stage_pipeline.specs.Crews.{Feeds}
use Rattle.stage_pipeline.specs.Runs.{callers_at}
use Rattle.stage_pipeline.specs.Meetings.{JointEnd, MeetsJoint, MeetJoints, WorkStages, FeedsFirst}
use Rattle.stage_pipeline.proofs.OneJoint.{WritesAll, ShowsJoint, joint_shows}

-- what passed a joint, as its whole pass has seen it, and the outcomes that ended behind it
abbrev pub passage : JointEnd → Passage
passage e = record { written = flat_map written_in e.whole.seen; taken = flat_map taken_in e.whole.seen; lost = flat_map dropped_in e.whole.seen; over = e.over }

-- the whole pass of each joint
abbrev pub wholes : List JointEnd → List LockPass
wholes es = map (λ e. e.whole) es

abbrev WritesFirst : ((Mark → ℕ) → ℕ) → List JointEnd → Type 0
WritesFirst arriving [] = ⊥
WritesFirst arriving (e ∷ es) = WritesAll arriving e.before e.lost

pub record JointMet (workers index : ℕ) (line : Joint) (fault : ℕ) (e : JointEnd) : Type 0 where
  pub meets : MeetsJoint line (callers_at workers index) workers fault e
  pub shows : ShowsJoint line fault e

-- each joint is completed with the one fault
abbrev pub JointsMet : ℕ → ℕ → List Joint → ℕ → List JointEnd → Type 0
JointsMet workers index [] fault [] = Unit {0}
JointsMet workers index [] fault (e ∷ es) = ⊥
JointsMet workers index (line ∷ lines) fault [] = ⊥
JointsMet workers index (line ∷ lines) fault (e ∷ es) = JointMet workers index line fault e × JointsMet workers (index + 1) lines fault es

pub record Passed (workers index fault : ℕ) (stages : List Stage) (stage : ℕ) (lines : List Joint) (arriving : (Mark → ℕ) → ℕ) (es : List JointEnd) : Type 0 where
  pub passes : PassesJoints stages stage arriving (map passage es)
  pub met : JointsMet workers index lines fault es

-- 1. One joint and its stage

module _ (what : Stage) (stage : ℕ) (line : Joint) (fault : ℕ) (e : JointEnd) (arriving : (Mark → ℕ) → ℕ) (shows : ShowsJoint line fault e) (a : WritesAll arriving e.before e.lost) where
  passes_last : WorksOff (says what stage) e.read None e.over [] → PassesJoint what stage true arriving (passage e)
  passes_last r = record {
    arrives = λ h. shows.written h ∙ a.writes h;
    adds_up = shows.adds_up;
    ends_here = λ k. r.ends_here k ∙ sym (shows.taken (λ m. ends true k (says what stage m)));
  }

  module _ (f : JointEnd) (r : WorksOff (says what stage) e.read (Some f.before) e.over f.lost) where
    passes_on : PassesJoint what stage false arriving (passage e)
    passes_on = record {
      arrives = λ h. shows.written h ∙ a.writes h;
      adds_up = shows.adds_up;
      ends_here = λ k. r.ends_here k ∙ sym (shows.taken (λ m. ends false k (says what stage m)));
    }

    writes_next : WritesAll (going_on what stage (passage e)) f.before f.lost
    writes_next = record {
      writes = λ h. r.goes_on h ∙ sym (shows.taken (λ m. goes false h (says what stage m)));
      loses = r.loses;
      settled = r.settled_to;
      quiet = r.quiet_to;
      uncompleting = r.uncompleting_to;
      untold = r.untold_to;
      alone = r.writes_alone;
    }

-- 2. All of them

all_pass : (workers index fault : ℕ) (stages : List Stage) (stage : ℕ) (lines : List Joint) (arriving : (Mark → ℕ) → ℕ) (es : List JointEnd)
    → All IsBuildable lines → MeetJoints workers index lines fault es → WorkStages stages stage es → WritesFirst arriving es → Passed workers index fault stages stage lines arriving es
all_pass workers index fault [] stage lines arriving es b m r a = absurd r
all_pass workers index fault (what ∷ []) stage lines arriving [] b m r a = absurd a
all_pass workers index fault (what ∷ []) stage lines arriving (e ∷ f ∷ es) b m r a = absurd r
all_pass workers index fault (what ∷ []) stage [] arriving (e ∷ []) b m r a = absurd m
all_pass workers index fault (what ∷ []) stage (line ∷ next ∷ lines) arriving (e ∷ []) b m r a = absurd m.1.2
all_pass workers index fault (what ∷ []) stage (line ∷ []) arriving (e ∷ []) b m r a =
    let shows = joint_shows line (callers_at workers index) workers fault e (All-head IsBuildable line [] b) m.0 arriving (says what stage) None [] a r m.1.0 m.1.1 in
    record { passes = passes_last what stage line fault e arriving shows a r; met = (record { meets = m.0; shows = shows }, tt) }
all_pass workers index fault (what ∷ after ∷ stages) stage lines arriving [] b m r a = absurd a
all_pass workers index fault (what ∷ after ∷ stages) stage lines arriving (e ∷ []) b m r a = absurd r
all_pass workers index fault (what ∷ after ∷ stages) stage [] arriving (e ∷ f ∷ es) b m r a = absurd m
all_pass workers index fault (what ∷ after ∷ stages) stage (line ∷ lines) arriving (e ∷ f ∷ es) b m r a =
    let shows = joint_shows line (callers_at workers index) workers fault e (All-head IsBuildable line lines b) m.0 arriving (says what stage) (Some f.before) f.lost a r.0 m.1.0 m.1.1 in
    let same = shows.told m.1.0 m.1.1 in
    let rest = all_pass workers (index + 1) fault (after ∷ stages) (stage + 1) lines (going_on what stage (passage e)) (f ∷ es) (All-tail IsBuildable line lines b) (subst (λ (t : ℕ). MeetJoints workers (index + 1) lines t (f ∷ es)) same m.1.2) r.1
    (writes_next what stage line fault e arriving shows a f r.0) in
    record { passes = (passes_on what stage line fault e arriving shows a f r.0, rest.passes); met = (record { meets = m.0; shows = shows }, rest.met) }

feeds_all : (fed : List Row) (p : LockPass) (lost : List ℕ) → Feeds fed p lost → WritesAll (weight_of_rows fed) p lost
feeds_all fed p lost f = record { writes = f.writes; loses = f.loses; settled = f.settled; quiet = f.quiet; uncompleting = f.uncompleting; untold = f.untold; alone = f.alone }

feeds_first : (fed : List Row) (es : List JointEnd) → FeedsFirst fed es → WritesFirst (weight_of_rows fed) es
feeds_first fed [] f = absurd f
feeds_first fed (e ∷ es) f = feeds_all fed e.before e.lost f

pub fed_pass : (workers fault : ℕ) (stages : List Stage) (lines : List Joint) (fed : List Row) (es : List JointEnd)
    → All IsBuildable lines → MeetJoints workers 0 lines fault es → WorkStages stages 1 es → FeedsFirst fed es → Passed workers 0 fault stages 1 lines (weight_of_rows fed) es
fed_pass workers fault stages lines fed es b m r f = all_pass workers 0 fault stages 1 lines (weight_of_rows fed) es b m r (feeds_first fed es f)

-- 3. The joint at an index

abbrev JointAt : ℕ → ℕ → Joint → ℕ → List JointEnd → ℕ → LockPass → Type 0
JointAt workers index line fault es j p = (e : JointEnd) × (slice_get es j ≡ Some e) × (e.whole ≡ p) × JointMet workers index line fault e

pub met_at : (workers index fault : ℕ) (lines : List Joint) (es : List JointEnd) → JointsMet workers index lines fault es
    → (j : ℕ) (line : Joint) (p : LockPass) → slice_get lines j ≡ Some line → slice_get (wholes es) j ≡ Some p → JointAt workers (index + j) line fault es j p
met_at workers index fault [] [] met j line p l at = absurd (none-some line l)
met_at workers index fault [] (e ∷ es) met j line p l at = absurd met
met_at workers index fault (first ∷ lines) [] met j line p l at = absurd met
met_at workers index fault (first ∷ lines) (e ∷ es) met zero line p l at =
    let same : first ≡ line = same_Some first line l in
    let here : index ≡ index + 0 = omega arith in
    (e, refl, same_Some e.whole p at, subst (λ (i : ℕ). JointMet workers i line fault e) here (subst (λ (x : Joint). JointMet workers index x fault e) same met.0))
met_at workers index fault (first ∷ lines) (e ∷ es) met (suc j) line p l at =
    let rest = met_at workers (index + 1) fault lines es met.1 j line p l at in
    let there : index + 1 + j ≡ index + suc j = omega arith in
    (rest.0, rest.1, rest.2, subst (λ (i : ℕ). JointMet workers i line fault rest.0) there rest.3)

pub met_count : (workers index fault : ℕ) (lines : List Joint) (es : List JointEnd) → JointsMet workers index lines fault es → length (wholes es) ≡ length lines
met_count workers index fault [] [] met = refl
met_count workers index fault [] (e ∷ es) met = absurd met
met_count workers index fault (line ∷ lines) [] met = absurd met
met_count workers index fault (line ∷ lines) (e ∷ es) met = ap suc (met_count workers (index + 1) fault lines es met.1)
