-- What a run tells: its outcomes and dropped records in their order, and the text without drops.
use Rattle.std.proofs.Common.{◌≡◌, ℕ, ◌+◌, ◌<◌, ◌≤◌, List, [], ◌∷◌, Bool, true, false, not, cond, Equal, Greater, Less, nat_lt, ◌==◌, length, map, get_or, ap, sym, subst, ◌∙◌, refl, arith, Option, None, if◌then◌else◌}
use Rattle.std.proofs.lemmas.Bool.{false_from_ne_true, both_ways, lt-ltb, le-ltb}
use Rattle.std.proofs.lemmas.Cmp.{nat_cmp_total, on_total, then_total, tied_itself}
use Rattle.std.proofs.lemmas.List.Elements.{All-append, All-cons, All-map, All-nil, All-weaker}
use Rattle.std.proofs.lemmas.List.Folds.{list_any_at, list_any_none}
use Rattle.std.proofs.lemmas.List.Kept.{AllPairs-cons, AllPairs-filter}
use Rattle.std.proofs.lemmas.List.Sorted.{IsPermutation-sym, IsPermutation-trans, IsStrictWeakOrder-by_number, ranks_by, sorted_far}
use Rattle.std.proofs.lemmas.Option.{slice_get-get_or}
use Rattle.std.specs.Cmp.{IsStrictWeakOrder}
use Rattle.std.specs.List.{All, AllPairs, filter}
use Rattle.std.specs.List.Sorted.{IsNonDecreasingBy, IsPermutation, IsSortedBy}
use Rattle.std.specs.Ordering.{is_lt, nat_cmp, ordering_then}
use Rattle.joint_reports.specs.Reports.{dropped_at, dropped_from, has_drop_joint, has_number, is_kept, kept_outcomes, may_drop, told_of}
use Rattle.record_lang.proofs.AccountLemmas.{each_told_once}
use Rattle.record_lang.specs.Guards.{fed_rows, meets, stop_code}
use Rattle.record_lang.specs.Outcomes.{number_of_outcome, record_outcome}
use Rattle.record_lang.specs.Pipelines.{Meaning}
use Rattle.record_lang.specs.Records.{AreNumbered, AreNumberedFrom, Row}
use Rattle.record_lang.specs.Texts.{outcomes_text, drop_text, report_text, run_outcomes, run_text}
use Rattle.record_lang.specs.declared.outcomes.Outcome.{Outcome}
use Rattle.record_lang.specs.declared.pipelines.Guard.{Guard}
use Rattle.record_lang.specs.declared.pipelines.Joint.{Joint}
use Rattle.record_lang.specs.declared.pipelines.Joint.TheVariants as joint
use Rattle.record_lang.specs.declared.pipelines.Stage.{Stage}
use Rattle.record_lang.specs.declared.reports.Dropped.{Dropped}
use Rattle.turn_lock.specs.Passes.{LockPass}
use Rattle.stage_pipeline.specs.Orders.{is_told_before}
use Rattle.stage_pipeline.specs.Runs.{AreJointPasses, IsRan, DropsLawfully, RanView, dropped_numbers, drops_of}
use Rattle.stage_pipeline.specs.Tellings.{HasRun}
use Rattle.stage_pipeline.specs.declared.runs.Done.{Done}
use Rattle.stage_pipeline.proofs.OrderLemmas.{IsInOrder, Rises, pairs_append, pairs_map, pairs_nil, sorted_is_one}

-- 1. Numbered records rise

numbered_above : (n m : ℕ) (rows : List Row) → AreNumberedFrom n rows → m < n → All (λ row. m < row.number) rows
numbered_above n m [] h below = All-nil (λ row. m < row.number)
numbered_above n m (row ∷ rows) h below =
    All-cons (λ r. m < r.number) row rows (let e = h.0 in omega (arith, e, below)) (numbered_above (n + 1) m rows h.1 (omega (arith, below)))

numbered_rise : (n : ℕ) (rows : List Row) → AreNumberedFrom n rows → AllPairs (λ a b. a.number < b.number) rows
numbered_rise n [] h = pairs_nil (λ (a b : Row). a.number < b.number)
numbered_rise n (row ∷ rows) h =
    AllPairs-cons (λ a b. a.number < b.number) row rows (numbered_above (n + 1) row.number rows h.1 (let e = h.0 in omega (arith, e))) (numbered_rise (n + 1) rows h.1)

fed_numbered : (guard : Option Guard) (n : ℕ) (rows : List Row) → AreNumberedFrom n rows → AreNumberedFrom n (fed_rows guard rows)
fed_numbered guard n [] h = tt
fed_numbered guard n (row ∷ rows) h = on (meets guard row) (fed_numbered guard (n + 1) rows h.1)
  where
    on : (b : Bool) → AreNumberedFrom (n + 1) (fed_rows guard rows) → AreNumberedFrom n (if b then [] else row ∷ fed_rows guard rows)
    on true rest = tt
    on false rest = (h.0, rest)

fed_rise : (guard : Option Guard) (rows : List Row) → AreNumbered rows → AllPairs (λ a b. a.number < b.number) (fed_rows guard rows)
fed_rise guard rows h = numbered_rise 0 (fed_rows guard rows) (fed_numbered guard 0 rows h)

-- 2. The outcomes

outcome_number : (stages : List Stage) (row : Row) → number_of_outcome (record_outcome stages row) ≡ row.number
outcome_number stages row =
    ap (λ ns. get_or ns 0 0) ((each_told_once (record { stages = stages; joints = []; guard = None }) (row ∷ [])).numbers)

abbrev is_before : Outcome → Outcome → Bool
is_before a b = nat_lt (number_of_outcome a) (number_of_outcome b)

before_is_order : IsStrictWeakOrder is_before
before_is_order = IsStrictWeakOrder-by_number number_of_outcome

outcomes_rise : (stages : List Stage) (drops : List (List ℕ)) (fed : List Row) → AllPairs (λ a b. a.number < b.number) fed → Rises is_before (kept_outcomes stages drops fed)
outcomes_rise stages drops fed h =
    let kept = AllPairs-filter (λ a b. a.number < b.number) (is_kept drops) fed h in
    pairs_map (λ a b. is_before a b ≡ true) (record_outcome stages) (filter (is_kept drops) fed) (λ i j d lt within. by_number _ _ (kept i j d lt within))
  where
    by_number : (a b : Row) → a.number < b.number → is_before (record_outcome stages a) (record_outcome stages b) ≡ true
    by_number a b lt =
        let ea = outcome_number stages a in let eb = outcome_number stages b in
        lt-ltb (number_of_outcome (record_outcome stages a)) (number_of_outcome (record_outcome stages b)) (omega (arith, ea, eb, lt))

outcomes_in_order : (outcomes : List Outcome) → IsNonDecreasingBy number_of_outcome outcomes → IsInOrder is_before outcomes
outcomes_in_order outcomes h =
    λ i j d lt within. le-ltb (number_of_outcome (get_or outcomes j d)) (number_of_outcome (get_or outcomes i d)) (h i j d (omega (arith, lt)) within)

pub outcomes_are : (stages : List Stage) (drops : List (List ℕ)) (guard : Option Guard) (rows : List Row) (given told : List Outcome) → AreNumbered rows
    → IsPermutation given (kept_outcomes stages drops (fed_rows guard rows)) → IsPermutation given told → IsNonDecreasingBy number_of_outcome told → told ≡ kept_outcomes stages drops (fed_rows guard rows)
outcomes_are stages drops guard rows given told numbered same moved up =
    sorted_is_one is_before before_is_order told (kept_outcomes stages drops (fed_rows guard rows))
    (IsPermutation-trans told given (kept_outcomes stages drops (fed_rows guard rows)) (IsPermutation-sym given told moved) same)
    (outcomes_in_order told up) (outcomes_rise stages drops (fed_rows guard rows) (fed_rise guard rows numbered))

-- 3. The dropped records

told_is_order : IsStrictWeakOrder is_told_before
told_is_order = ranks_by (then_total (on_total (λ d. d.joint) nat_cmp_total) (on_total (λ d. d.number) nat_cmp_total)) (λ (d : Dropped). d)

less : (m n : ℕ) → m < n → nat_cmp m n ≡ Less
less m n h = ap (λ b. cond b Less (cond (m == n) Equal Greater)) (lt-ltb m n h)

same_joint : (j m n : ℕ) → m < n → is_told_before (record { number = m; joint = j }) (record { number = n; joint = j }) ≡ true
same_joint j m n lt = ap (λ o. is_lt (ordering_then o (nat_cmp m n))) (tied_itself nat_cmp_total j) ∙ ap is_lt (less m n lt)

lower_joint : (a b : Dropped) → a.joint < b.joint → is_told_before a b ≡ true
lower_joint a b lt = ap (λ o. is_lt (ordering_then o (nat_cmp a.number b.number))) (less a.joint b.joint lt)

at_joint : (j : ℕ) (numbers : List ℕ) (fed : List Row) → All (λ d. d.joint ≡ j) (dropped_at j numbers fed)
at_joint j numbers fed = All-map (λ d. d.joint ≡ j) (λ row. record { number = row.number; joint = j }) (filter (has_number numbers) fed) (λ k d within. refl)

from_joint : (j : ℕ) (drops : List (List ℕ)) (fed : List Row) → All (λ d. j ≤ d.joint) (dropped_from j drops fed)
from_joint j [] fed = All-nil (λ d. j ≤ d.joint)
from_joint j (numbers ∷ drops) fed =
    All-append (λ d. j ≤ d.joint) (dropped_at j numbers fed) (dropped_from (j + 1) drops fed)
    (All-weaker (λ d. d.joint ≡ j) (λ d. j ≤ d.joint) (λ d e. omega (arith, e)) (dropped_at j numbers fed) (at_joint j numbers fed))
    (All-weaker (λ d. j + 1 ≤ d.joint) (λ d. j ≤ d.joint) (λ d le. omega (arith, le)) (dropped_from (j + 1) drops fed) (from_joint (j + 1) drops fed))

dropped_rise : (j : ℕ) (drops : List (List ℕ)) (fed : List Row) → AllPairs (λ a b. a.number < b.number) fed → Rises is_told_before (dropped_from j drops fed)
dropped_rise j [] fed h = pairs_nil (λ a b. is_told_before a b ≡ true)
dropped_rise j (numbers ∷ drops) fed h =
    pairs_append (λ a b. is_told_before a b ≡ true) (dropped_at j numbers fed) (dropped_from (j + 1) drops fed)
    (pairs_map (λ a b. is_told_before a b ≡ true) (λ row. record { number = row.number; joint = j }) (filter (has_number numbers) fed)
    (λ i k d lt within. same_joint j _ _ (AllPairs-filter (λ a b. a.number < b.number) (has_number numbers) fed h i k d lt within)))
    (dropped_rise (j + 1) drops fed h)
    (All-weaker (λ d. d.joint ≡ j) (λ a. All (λ b. is_told_before a b ≡ true) (dropped_from (j + 1) drops fed)) below (dropped_at j numbers fed) (at_joint j numbers fed))
  where
    below : (a : Dropped) → a.joint ≡ j → All (λ b. is_told_before a b ≡ true) (dropped_from (j + 1) drops fed)
    below a e = All-weaker (λ b. j + 1 ≤ b.joint) (λ b. is_told_before a b ≡ true) (λ b le. lower_joint a b (omega (arith, e, le))) (dropped_from (j + 1) drops fed) (from_joint (j + 1) drops fed)

pub dropped_are : (drops : List (List ℕ)) (guard : Option Guard) (rows : List Row) (given told : List Dropped) → AreNumbered rows
    → IsPermutation given (dropped_from 1 drops (fed_rows guard rows)) → IsPermutation given told → IsSortedBy is_told_before told → told ≡ dropped_from 1 drops (fed_rows guard rows)
dropped_are drops guard rows given told numbered same moved up =
    sorted_is_one is_told_before told_is_order told (dropped_from 1 drops (fed_rows guard rows))
    (IsPermutation-trans told given (dropped_from 1 drops (fed_rows guard rows)) (IsPermutation-sym given told moved) same)
    (λ i j d lt within. sorted_far is_told_before told_is_order told up i j d (omega (arith, lt)) within)
    (dropped_rise 1 drops (fed_rows guard rows) (fed_rise guard rows numbered))

-- 4. Where no joint may drop, nothing was dropped

no_drop : (line : Joint) (arrived : List Row) (numbers : List ℕ) → may_drop line ≡ false → DropsLawfully line arrived numbers → numbers ≡ []
no_drop (joint.Wait capacity) arrived numbers never h = h
no_drop (joint.DropNewest capacity) arrived numbers never h = absurd (both_ways true never refl)
no_drop (joint.DropOldest capacity) arrived numbers never h = absurd (both_ways true never refl)
no_drop (joint.DropWrite capacity) arrived numbers never h = absurd (both_ways true never refl)
no_drop joint.Unbounded arrived numbers never h = h

none_dropped : (pipeline : Meaning) (rows : List Row) (workers : ℕ) (passes : List LockPass) → AreJointPasses pipeline rows workers passes → has_drop_joint pipeline.joints ≡ false → All (λ p. dropped_numbers p ≡ []) passes
none_dropped pipeline rows workers passes h never = λ k d within.
    let line_within : k < length pipeline.joints = (let e = h.count in omega (arith, e, within)) in
    let line : Joint = get_or pipeline.joints k joint.Unbounded in
    let waits : may_drop line ≡ false = false_from_ne_true (may_drop line) (λ e. both_ways (has_drop_joint pipeline.joints) never (list_any_at may_drop pipeline.joints k joint.Unbounded line_within e)) in
    no_drop line _ (dropped_numbers (get_or passes k d)) waits ((h.each k line (get_or passes k d) (slice_get-get_or pipeline.joints k joint.Unbounded line_within) (slice_get-get_or passes k d within)).drops)

all_kept : (passes : List LockPass) (row : Row) → All (λ p. dropped_numbers p ≡ []) passes → is_kept (drops_of passes) row ≡ true
all_kept passes row none =
    ap not (list_any_none (λ numbers. has_number numbers row) (drops_of passes)
    (All-map (λ numbers. has_number numbers row ≡ false) dropped_numbers passes (λ k d within. ap (λ numbers. has_number numbers row) (none k d within))))

filter_all : {X : Type 0} (p : X → Bool) (xs : List X) → ((x : X) → p x ≡ true) → filter p xs ≡ xs
filter_all p [] all = refl
filter_all p (x ∷ xs) all = ap (λ b. cond b (x ∷ filter p xs) (filter p xs)) (all x) ∙ ap (λ zs. x ∷ zs) (filter_all p xs all)

pub kept_are_all : (pipeline : Meaning) (rows : List Row) (workers : ℕ) (passes : List LockPass) → AreJointPasses pipeline rows workers passes → has_drop_joint pipeline.joints ≡ false
    → kept_outcomes pipeline.stages (drops_of passes) (fed_rows pipeline.guard rows) ≡ run_outcomes pipeline rows
kept_are_all pipeline rows workers passes h never =
    let none = none_dropped pipeline rows workers passes h never in
    ap (map (record_outcome pipeline.stages)) (filter_all (is_kept (drops_of passes)) (fed_rows pipeline.guard rows) (λ row. all_kept passes row none))

-- 5. The text

-- dropped records are told only where a joint may drop
told_text : (b : Bool) (outcomes : List Outcome) (dropped : List Dropped) (code : Option ℕ)
    → report_text (record { outcomes = outcomes; has_drops = b; dropped = if b then dropped else [] }) code ≡ report_text (record { outcomes = outcomes; has_drops = b; dropped = dropped }) code
told_text true outcomes dropped code = refl
told_text false outcomes dropped code = refl

plain_text : (b : Bool) (outcomes : List Outcome) (dropped : List Dropped) (code : Option ℕ) → b ≡ false → report_text (record { outcomes = outcomes; has_drops = b; dropped = dropped }) code ≡ outcomes_text outcomes code
plain_text b outcomes dropped code e = ap (λ z. if z then drop_text outcomes dropped code else outcomes_text outcomes code) e

outcomes_text_is_run : (pipeline : Meaning) (rows : List Row) → outcomes_text (run_outcomes pipeline rows) (stop_code pipeline.guard rows) ≡ run_text pipeline rows
unfolding run_text
outcomes_text_is_run pipeline rows = refl

-- a run of these joints, whose outcomes and dropped records were sorted and told
pub is_ran : (pipeline : Meaning) (rows : List Row) (workers : ℕ) (done : Done) (code : Option ℕ) (outcomes : List Outcome) (dropped : List Dropped) (ran : RanView)
    → IsPermutation done.outcomes.items outcomes → IsNonDecreasingBy number_of_outcome outcomes
    → IsPermutation done.dropped.items dropped → IsSortedBy is_told_before dropped
    → ran.text ≡ report_text (record { outcomes = outcomes; has_drops = has_drop_joint pipeline.joints; dropped = if has_drop_joint pipeline.joints then dropped else [] }) code
    → ran.joints ≡ done.joints.items
    → AreNumbered rows → HasRun pipeline rows workers done → code ≡ stop_code pipeline.guard rows → IsRan pipeline rows workers ran
is_ran pipeline rows workers done code outcomes dropped ran moved up moved_dropped up_dropped text joints numbered run stops =
    let fed = fed_rows pipeline.guard rows in
    let drops = drops_of done.joints.items in
    let told = outcomes_are pipeline.stages drops pipeline.guard rows done.outcomes.items outcomes numbered run.outcomes moved up in
    let lost = dropped_are drops pipeline.guard rows done.dropped.items dropped numbered run.dropped moved_dropped up_dropped in
    let whole : ran.text ≡ report_text (told_of pipeline drops rows) (stop_code pipeline.guard rows) =
    text ∙ told_text (has_drop_joint pipeline.joints) outcomes dropped code
    ∙ ap (λ z. report_text (record { outcomes = z; has_drops = has_drop_joint pipeline.joints; dropped = dropped }) code) told
    ∙ ap (λ z. report_text (record { outcomes = kept_outcomes pipeline.stages drops fed; has_drops = has_drop_joint pipeline.joints; dropped = z }) code) lost
    ∙ ap (report_text (told_of pipeline drops rows)) stops in
    record {
      joints = subst (AreJointPasses pipeline rows workers) (sym joints) run.joints;
      text = subst (λ (ps : List LockPass). ran.text ≡ report_text (told_of pipeline (drops_of ps) rows) (stop_code pipeline.guard rows)) (sym joints) whole;
      plain = λ never.
          whole ∙ plain_text (has_drop_joint pipeline.joints) (kept_outcomes pipeline.stages drops fed) (dropped_from 1 drops fed) (stop_code pipeline.guard rows) never
          ∙ ap (λ z. outcomes_text z (stop_code pipeline.guard rows)) (kept_are_all pipeline rows workers done.joints.items run.joints never)
          ∙ outcomes_text_is_run pipeline rows;
    }
