-- Why what has met tells the run.
use Rattle.std.specs.Prelude.{ℕ, suc, List, [], ◌∷◌, Bool, true, false, cond, map, min, length, Option, Some, slice_get}
use Rattle.std.specs.List.{sum_by, flat_map}
use Rattle.std.specs.List.Sorted.{IsPermutation}
use Rattle.std.specs.Option.{option_map}
use Rattle.std.proofs.Common.{◌≡◌, refl, ap, sym, ◌∙◌, subst, ◌+◌, ◌≤◌, arith}
use Rattle.std.proofs.lemmas.List.{length-map}
use Rattle.std.proofs.lemmas.List.Sorted.{IsPermutation-map, IsPermutation-trans, length_permutation, sum_by-IsPermutation}
use Rattle.std.proofs.lemmas.List.Sums.{sum_by-cons, sum_by-append}
use Rattle.std.proofs.lemmas.Option.{slice_get-map}
use Rattle.ho_base.specs.Marks.{Mark, number_of}
use Rattle.passes.specs.Numbers.{HoldsBelow}
use Rattle.turn_lock.specs.Passes.{LockPass}
use Rattle.channel_core.specs.Marks.{fault_number}
use Rattle.record_lang.specs.Guards.{fed_rows, stop_code, meets}
use Rattle.record_lang.specs.Marks.{mark_of}
use Rattle.record_lang.specs.Pipelines.{Meaning}
use Rattle.record_lang.specs.Records.{Row, AreNumberedFrom}
use Rattle.record_lang.specs.declared.outcomes.Outcome.{Outcome}
use Rattle.record_lang.specs.declared.pipelines.Guard.{Guard}
use Rattle.record_lang.specs.declared.pipelines.Joint.{Joint}
use Rattle.record_lang.specs.declared.pipelines.Joint.TheVariants as joint
use Rattle.record_lang.specs.declared.pipelines.Stage.{Stage}
use Rattle.record_lang.specs.declared.reports.Dropped.{Dropped}
use Rattle.joint_reports.specs.Laws.{IsFlow, TellsJoint, drops_in}
use Rattle.joint_reports.specs.Reports.{dropped_at, dropped_from, dropped_of, kept_outcomes, left_of, reached}
use Rattle.joint_reports.specs.Through.{Passage, lost_numbers}
use Rattle.joint_reports.proofs.Permutations.{same_marks, same_outcomes}
use Rattle.joint_reports.proofs.Weights.{mapped_weight}
use Rattle.joint_reports.proofs.Reaching.{records_reach, dropped_fed}
use Rattle.joint_reports.proofs.Outcomes.{outcomes_kept}
use Rattle.stage_pipeline.specs.Runs.{AreJointPasses, IsJointPass, DropsLawfully, callers_at, dropped_numbers, drops_of}
use Rattle.stage_pipeline.specs.Meetings.{JointEnd, lost_from}
use Rattle.stage_pipeline.specs.Tellings.{MeetingsTellRuns}
use Rattle.stage_pipeline.specs.declared.runs.Done.{Done}
use Rattle.stage_pipeline.proofs.OneJoint.{ShowsJoint, HasRoom, few_as}
use Rattle.stage_pipeline.proofs.AllJoints.{passage, wholes, JointsMet, JointMet, fed_pass, met_at, met_count}

-- 1. The records that are fed

cond_numbered : (b : Bool) (n : ℕ) (row : Row) (rest : List Row) → row.number ≡ n → AreNumberedFrom (n + 1) rest → AreNumberedFrom n (cond b [] (row ∷ rest))
cond_numbered true n row rest is numbered = tt
cond_numbered false n row rest is numbered = (is, numbered)

fed_numbered : (guard : Option Guard) (n : ℕ) (rows : List Row) → AreNumberedFrom n rows → AreNumberedFrom n (fed_rows guard rows)
fed_numbered guard n [] numbered = tt
fed_numbered guard n (row ∷ rows) numbered = cond_numbered (meets guard row) n row (fed_rows guard rows) numbered.0 (fed_numbered guard (n + 1) rows numbered.1)

-- 2. Each joint's pass

few_left : (capacity : ℕ) (arrived : List Row) (p : Passage) → min (length p.written) capacity ≤ length p.taken → TellsJoint arrived p → min (length arrived) capacity ≤ length (left_of (lost_numbers p) arrived)
few_left capacity arrived p few t =
    let a = length_permutation p.written (map mark_of arrived) t.written in
    let b = length_permutation p.taken (map mark_of (left_of (lost_numbers p) arrived)) t.taken in
    few_as (length p.written) (length p.taken) (length arrived) (length (left_of (lost_numbers p) arrived)) capacity (sym a ∙ length-map arrived mark_of) (sym b ∙ length-map (left_of (lost_numbers p) arrived) mark_of) few

drops_lawfully : (line : Joint) (arrived : List Row) (p : Passage) → HasRoom line p.written p.taken p.lost → TellsJoint arrived p → DropsLawfully line arrived (lost_numbers p)
drops_lawfully (joint.Wait capacity) arrived p room t = ap (map number_of) room
drops_lawfully (joint.DropNewest capacity) arrived p room t = few_left capacity arrived p room t
drops_lawfully (joint.DropOldest capacity) arrived p room t = few_left capacity arrived p room t
drops_lawfully (joint.DropWrite capacity) arrived p room t = few_left capacity arrived p room t
drops_lawfully joint.Unbounded arrived p room t = ap (map number_of) room

joint_pass : (workers index : ℕ) (line : Joint) (arrived : List Row) (fault : ℕ) (e : JointEnd) → JointMet workers index line fault e → TellsJoint arrived (passage e) → IsJointPass line (callers_at workers index) workers arrived fault e.whole
joint_pass workers index line arrived fault e m t = record {
  whole = m.meets.all;
  object = m.meets.object;
  callers_are = m.meets.callers_are;
  lawful = m.meets.joined.lawful;
  written = t.written;
  lost = t.lost;
  taken = t.taken;
  drops = drops_lawfully line arrived (passage e) m.shows.room t;
  completed = m.shows.completed;
  readers = m.shows.closed ∙ m.meets.closed;
  sides = record {
    readers = e.read.held;
    many = m.meets.readers;
    below = subst (λ (n : ℕ). HoldsBelow n e.read.held) (sym m.meets.callers_are) m.meets.below;
    calls = m.shows.sides;
  };
  settled = m.shows.settled;
}

drops_same : (es : List JointEnd) → drops_in (map passage es) ≡ drops_of (wholes es)
drops_same [] = refl
drops_same (e ∷ es) = ap (λ (ds : List (List ℕ)). dropped_numbers e.whole ∷ ds) (drops_same es)

passage_at : (es : List JointEnd) (j : ℕ) (e : JointEnd) → slice_get es j ≡ Some e → slice_get (map passage es) j ≡ Some (passage e)
passage_at es j e at = slice_get-map passage es j ∙ ap (option_map passage) at

module _ (pipeline : Meaning) (rows : List Row) (workers : ℕ) (es : List JointEnd) where
  abbrev those_fed : List Row
  those_fed = fed_rows pipeline.guard rows

  abbrev stopped : ℕ
  stopped = fault_number (stop_code pipeline.guard rows)

  abbrev reaching : ℕ → List Row
  reaching j = reached pipeline.stages (drops_of (wholes es)) j those_fed

  joint_passes : IsFlow pipeline.stages those_fed (map passage es) → JointsMet workers 0 pipeline.joints stopped es → AreJointPasses pipeline rows workers (wholes es)
  joint_passes flow met = record {
    count = met_count workers 0 stopped pipeline.joints es met;
    each = λ j line p l at. (
        let here = met_at workers 0 stopped pipeline.joints es met j line p l at in
        let told = records_reach pipeline.stages those_fed (map passage es) flow j (passage here.0) (passage_at es j here.0 here.1) in
        let told' = subst (λ (ds : List (List ℕ)). TellsJoint (reached pipeline.stages ds j those_fed) (passage here.0)) (drops_same es) told in
        let index : 0 + j ≡ j = omega arith in
        let m = subst (λ (i : ℕ). JointMet workers i line stopped here.0) index here.3 in
        subst (λ (q : LockPass). IsJointPass line (callers_at workers j) workers (reaching j) stopped q) here.2 (joint_pass workers j line (reaching j) stopped here.0 m told')
        );
  }

-- 3. The outcomes

overs_weigh : (k : Outcome → ℕ) (es : List JointEnd) → sum_by k (flat_map (λ p. p.over) (map passage es)) ≡ sum_by (λ e. sum_by k e.over) es
overs_weigh k [] = refl
overs_weigh k (e ∷ es) =
    let a = sum_by-append k e.over (flat_map (λ p. p.over) (map passage es)) in
    let b = sum_by-cons (λ (x : JointEnd). sum_by k x.over) e es in
    let c = overs_weigh k es in
    omega arith

outcomes_told : (stages : List Stage) (fed : List Row) (es : List JointEnd) (outcomes : List Outcome) → IsFlow stages fed (map passage es) → ((k : Outcome → ℕ) → sum_by k outcomes ≡ sum_by (λ e. sum_by k e.over) es)
    → IsPermutation outcomes (kept_outcomes stages (drops_of (wholes es)) fed)
outcomes_told stages fed es outcomes flow same =
    let all = flat_map (λ (p : Passage). p.over) (map passage es) in
    let kept = subst (λ (ds : List (List ℕ)). IsPermutation all (kept_outcomes stages ds fed)) (drops_same es) (outcomes_kept stages fed (map passage es) flow) in
    IsPermutation-trans outcomes all (kept_outcomes stages (drops_of (wholes es)) fed) (same_outcomes outcomes all (λ k. same k ∙ sym (overs_weigh k es))) kept

-- 4. The dropped records

abbrev mark_of_dropped : Dropped → Mark
mark_of_dropped d = d.number ∷ d.joint ∷ []

abbrev dropped_of_mark : Mark → Dropped
dropped_of_mark [] = record { number = 0; joint = 0 }
dropped_of_mark (number ∷ []) = record { number = number; joint = 0 }
dropped_of_mark (number ∷ joint ∷ rest) = record { number = number; joint = joint }

read_back : (ds : List Dropped) → map dropped_of_mark (map mark_of_dropped ds) ≡ ds
read_back [] = refl
read_back (d ∷ ds) = ap (λ (rest : List Dropped). d ∷ rest) (read_back ds)

same_dropped : (xs ys : List Dropped) → ((g : Dropped → ℕ) → sum_by g xs ≡ sum_by g ys) → IsPermutation xs ys
same_dropped xs ys same =
    let marks = same_marks (map mark_of_dropped xs) (map mark_of_dropped ys) (λ h. mapped_weight h mark_of_dropped xs ∙ (same (λ d. h (mark_of_dropped d)) ∙ sym (mapped_weight h mark_of_dropped ys))) in
    let back = IsPermutation-map dropped_of_mark (map mark_of_dropped xs) (map mark_of_dropped ys) marks in
    subst (λ (z : List Dropped × List Dropped). IsPermutation z.0 z.1) (λ i. (read_back xs i, read_back ys i)) back

abbrev number_in : Row → ℕ
number_in row = row.number

-- the numbers that a joint dropped are those of fed records
abbrev AreFed : List Row → JointEnd → Type 0
AreFed fed e = IsPermutation (dropped_numbers e.whole) (map number_in (dropped_of (dropped_numbers e.whole) fed))

lost_here : (line : Joint) (fault number : ℕ) (fed : List Row) (e : JointEnd) → ShowsJoint line fault e → AreFed fed e → (g : Dropped → ℕ)
    → sum_by (λ n. g (record { number = n; joint = number })) e.lost ≡ sum_by g (dropped_at number (dropped_numbers e.whole) fed)
lost_here line fault number fed e shows is g =
    let numbers = dropped_numbers e.whole in
    let a = shows.numbers (λ n. g (record { number = n; joint = number })) in
    let b = sum_by-IsPermutation (λ (n : ℕ). g (record { number = n; joint = number })) numbers (map number_in (dropped_of numbers fed)) is in
    let c = mapped_weight (λ (n : ℕ). g (record { number = n; joint = number })) number_in (dropped_of numbers fed) in
    let d = mapped_weight g (λ (row : Row). record { number = row.number; joint = number }) (dropped_of numbers fed) in
    a ∙ (sym b ∙ (c ∙ sym d))

lost_weighs : (workers index fault : ℕ) (fed : List Row) (lines : List Joint) (es : List JointEnd) → JointsMet workers index lines fault es → ((j : ℕ) (e : JointEnd) → slice_get es j ≡ Some e → AreFed fed e)
    → (number : ℕ) (g : Dropped → ℕ) → lost_from number es g ≡ sum_by g (dropped_from number (drops_of (wholes es)) fed)
lost_weighs workers index fault fed [] [] met is number g = refl
lost_weighs workers index fault fed [] (e ∷ es) met is number g = absurd met
lost_weighs workers index fault fed (line ∷ lines) [] met is number g = absurd met
lost_weighs workers index fault fed (line ∷ lines) (e ∷ es) met is number g =
    let here = lost_here line fault number fed e met.0.shows (is 0 e refl) g in
    let later = lost_weighs workers (index + 1) fault fed lines es met.1 (λ j f at. is (suc j) f at) (number + 1) g in
    let all = sum_by-append g (dropped_at number (dropped_numbers e.whole) fed) (dropped_from (number + 1) (drops_of (wholes es)) fed) in
    omega arith

dropped_told : (workers fault : ℕ) (stages : List Stage) (lines : List Joint) (fed : List Row) (es : List JointEnd) (dropped : List Dropped) → IsFlow stages fed (map passage es) → JointsMet workers 0 lines fault es
    → ((g : Dropped → ℕ) → sum_by g dropped ≡ lost_from 1 es g) → IsPermutation dropped (dropped_from 1 (drops_of (wholes es)) fed)
dropped_told workers fault stages lines fed es dropped flow met same =
    same_dropped dropped (dropped_from 1 (drops_of (wholes es)) fed)
    (λ g. same g ∙ lost_weighs workers 0 fault fed lines es met (λ j e at. dropped_fed stages fed (map passage es) flow j (passage e) (passage_at es j e at)) 1 g)

-- 5. The run

abbrev TellsBy : Meaning → List Row → ℕ → Done → List LockPass → Type 0
TellsBy pipeline rows workers done passes =
    AreJointPasses pipeline rows workers passes
    × IsPermutation done.outcomes.items (kept_outcomes pipeline.stages (drops_of passes) (fed_rows pipeline.guard rows))
    × IsPermutation done.dropped.items (dropped_from 1 (drops_of passes) (fed_rows pipeline.guard rows))

pub meetings_tell : MeetingsTellRuns
meetings_tell pipeline rows workers done built numbered h =
    let es = h.ends in
    let fed = fed_rows pipeline.guard rows in
    let stopped = fault_number (stop_code pipeline.guard rows) in
    let all = fed_pass workers stopped pipeline.stages pipeline.joints fed es built.buildable h.met.meet h.met.work h.met.feeds in
    let flow : IsFlow pipeline.stages fed (map passage es) = record { numbered = fed_numbered pipeline.guard 0 rows numbered; passes = all.passes } in
    let tells = subst (TellsBy pipeline rows workers done) (sym h.joints) (
      joint_passes pipeline rows workers es flow all.met,
      outcomes_told pipeline.stages fed es done.outcomes.items flow h.outcomes,
      dropped_told workers stopped pipeline.stages pipeline.joints fed es done.dropped.items flow all.met h.dropped,
    ) in
    record { joints = tells.0; outcomes = tells.1; dropped = tells.2 }
