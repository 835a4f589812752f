-- The calls of callers.
use Rattle.std.proofs.Common.{◌≡◌, ◌≢◌, ◌<◌, ◌≤◌, ◌+◌, ◌++◌, ◌∙◌, ◌==◌, ℕ, suc, List, [], ◌∷◌, length, take, get_or, eqb, ltb, All, true, false, Some, refl, sym, ap, arith, inl, inr}
use Rattle.std.proofs.lemmas.Bool.{cases_Bool}
use Rattle.std.proofs.lemmas.Bool.Decides.{nat_tests}
use Rattle.std.proofs.lemmas.List.{append-nil, take_more}
use Rattle.ho_base.specs.Marks.{number_priority}
use Rattle.ho_model.specs.declared.objects.Object.{Object}
use Rattle.ho_model.specs.declared.histories.Call.{Call}
use Rattle.ho_model.specs.declared.histories.Entry.{Entry}
use Rattle.ho_model.specs.Histories.{fold_from}
use Rattle.ho_model.specs.Objects.{State, empty_state, object_step}
use Rattle.ho_model.specs.Written.{entry_of, history_of}
use Rattle.ho_model.proofs.Folds.{and_then_some}
use Rattle.ho_model.proofs.Replies.{accepted_caller}
use Rattle.drive_kit.specs.Checks.{AgreeBelow, IsLegalFor, IsWhole, calls_in_part}
use Rattle.drive_kit.specs.Plans.{IsRowOf, Plan, calls_by}
use Rattle.drive_kit.specs.declared.calls.Kind.{Kind}
use Rattle.drive_kit.specs.declared.scripts.ScriptRow.{ScriptRow}

pub calls_by-append : (caller : ℕ) (xs ys : List ScriptRow) → calls_by caller (xs ++ ys) ≡ calls_by caller xs ++ calls_by caller ys
calls_by-append caller [] ys = refl
calls_by-append caller (row ∷ xs) ys =
    let rest = calls_by-append caller xs ys in
    elim (cases_Bool (row.caller == caller)) [
      | inl is ↦ rw is (ap (λ (z : List Call). row.call ∷ z) rest)
      | inr not ↦ rw not rest
    ]

calls_in_part-append : (caller : ℕ) (xs ys : List Entry) → calls_in_part caller (xs ++ ys) ≡ calls_in_part caller xs ++ calls_in_part caller ys
calls_in_part-append caller [] ys = refl
calls_in_part-append caller (e ∷ xs) ys =
    let rest = calls_in_part-append caller xs ys in
    elim (cases_Bool (e.caller == caller)) [
      | inl is ↦ rw is (ap (λ (z : List Call). e.call ∷ z) rest)
      | inr not ↦ rw not rest
    ]

-- a caller past the others made no call
none_planned : (kind : Kind) (caller : ℕ) (rows : List ScriptRow) → 64 ≤ caller → All (IsRowOf kind) rows → calls_by caller rows ≡ []
none_planned kind caller [] past are = refl
none_planned kind caller (row ∷ rows) past are =
    let first = (are 0 row (omega arith)).few in
    let not : eqb row.caller caller ≡ false = grind (arith, nat_tests) in
    rw not (none_planned kind caller rows past (λ k d lt. are (suc k) d (omega (arith, lt))))

none_from : (object : Object) (caller : ℕ) (s t : State) (es : List Entry) → 64 ≤ caller → fold_from number_priority object s (history_of object es) ≡ Some t → calls_in_part caller es ≡ []
none_from object caller s t [] past h = refl
none_from object caller s t (e ∷ es) past h =
    let by = and_then_some (λ (n : State). fold_from number_priority object n (history_of object es)) (object_step number_priority object s (entry_of object e)) t h in
    let few = (accepted_caller number_priority object s by.0 (entry_of object e) by.1).0 in
    let small : e.caller < 64 = few in
    let not : eqb e.caller caller ≡ false = grind (arith, nat_tests) in
    rw not (none_from object caller by.0 t es past by.2)

-- where the callers that there can be agree, all do
pub all_agree : (kind : Kind) (plan : Plan) (history : List Entry) → All (IsRowOf kind) plan.rows → IsLegalFor plan history → AgreeBelow 64 plan history → IsWhole plan history
all_agree kind plan history are legal agree caller =
    elim (cases_Bool (ltb caller 64)) [
      | inl is ↦ agree caller (grind (arith, nat_tests))
      | inr not ↦
          let past : 64 ≤ caller = grind (arith, nat_tests) in
          none_from plan.object caller (empty_state plan.object) legal.0 history past legal.1 ∙ sym (none_planned kind caller plan.rows past are)
    ]

-- the calls so far, with those of one row or entry more
calls_by_more : (caller : ℕ) (rows : List ScriptRow) (i : ℕ) (row : ScriptRow) → i < length rows → calls_by caller (take (i + 1) rows) ≡ calls_by caller (take i rows) ++ calls_by caller (get_or rows i row ∷ [])
calls_by_more caller rows i row h = ap (calls_by caller) (take_more rows i row h) ∙ calls_by-append caller (take i rows) (get_or rows i row ∷ [])

pub calls_by-own : (caller : ℕ) (rows : List ScriptRow) (i : ℕ) (row : ScriptRow) (calls : List Call) → i < length rows → row ≡ get_or rows i row → row.caller ≡ caller → calls ≡ calls_by caller (take i rows) → calls ++ row.call ∷ [] ≡ calls_by caller (take (i + 1) rows)
calls_by-own caller rows i row calls h is own before =
    let test : eqb row.caller caller ≡ true = grind (arith, nat_tests) in
    let one : calls_by caller (row ∷ []) ≡ row.call ∷ [] = rw test refl in
    let more : calls_by caller (take (i + 1) rows) ≡ calls_by caller (take i rows) ++ calls_by caller (row ∷ []) = calls_by_more caller rows i row h ∙ ap (λ (z : ScriptRow). calls_by caller (take i rows) ++ calls_by caller (z ∷ [])) (sym is) in
    ap (λ (z : List Call). z ++ row.call ∷ []) before ∙ ap (λ (z : List Call). calls_by caller (take i rows) ++ z) (sym one) ∙ sym more

pub calls_by-other : (caller : ℕ) (rows : List ScriptRow) (i : ℕ) (row : ScriptRow) (calls : List Call) → i < length rows → row ≡ get_or rows i row → row.caller ≢ caller → calls ≡ calls_by caller (take i rows) → calls ≡ calls_by caller (take (i + 1) rows)
calls_by-other caller rows i row calls h is other before =
    let test : eqb row.caller caller ≡ false = grind (arith, nat_tests) in
    let none : calls_by caller (row ∷ []) ≡ [] = rw test refl in
    let more : calls_by caller (take (i + 1) rows) ≡ calls_by caller (take i rows) ++ calls_by caller (row ∷ []) = calls_by_more caller rows i row h ∙ ap (λ (z : ScriptRow). calls_by caller (take i rows) ++ calls_by caller (z ∷ [])) (sym is) in
    before ∙ sym (append-nil (calls_by caller (take i rows))) ∙ ap (λ (z : List Call). calls_by caller (take i rows) ++ z) (sym none) ∙ sym more

calls_in_part_more : (caller : ℕ) (es : List Entry) (i : ℕ) (e : Entry) → i < length es → calls_in_part caller (take (i + 1) es) ≡ calls_in_part caller (take i es) ++ calls_in_part caller (get_or es i e ∷ [])
calls_in_part_more caller es i e h = ap (calls_in_part caller) (take_more es i e h) ∙ calls_in_part-append caller (take i es) (get_or es i e ∷ [])

pub calls_in_part-own : (caller : ℕ) (es : List Entry) (i : ℕ) (e : Entry) (calls : List Call) → i < length es → e ≡ get_or es i e → e.caller ≡ caller → calls ≡ calls_in_part caller (take i es) → calls ++ e.call ∷ [] ≡ calls_in_part caller (take (i + 1) es)
calls_in_part-own caller es i e calls h is own before =
    let test : eqb e.caller caller ≡ true = grind (arith, nat_tests) in
    let one : calls_in_part caller (e ∷ []) ≡ e.call ∷ [] = rw test refl in
    let more : calls_in_part caller (take (i + 1) es) ≡ calls_in_part caller (take i es) ++ calls_in_part caller (e ∷ []) = calls_in_part_more caller es i e h ∙ ap (λ (z : Entry). calls_in_part caller (take i es) ++ calls_in_part caller (z ∷ [])) (sym is) in
    ap (λ (z : List Call). z ++ e.call ∷ []) before ∙ ap (λ (z : List Call). calls_in_part caller (take i es) ++ z) (sym one) ∙ sym more

pub calls_in_part-other : (caller : ℕ) (es : List Entry) (i : ℕ) (e : Entry) (calls : List Call) → i < length es → e ≡ get_or es i e → e.caller ≢ caller → calls ≡ calls_in_part caller (take i es) → calls ≡ calls_in_part caller (take (i + 1) es)
calls_in_part-other caller es i e calls h is other before =
    let test : eqb e.caller caller ≡ false = grind (arith, nat_tests) in
    let none : calls_in_part caller (e ∷ []) ≡ [] = rw test refl in
    let more : calls_in_part caller (take (i + 1) es) ≡ calls_in_part caller (take i es) ++ calls_in_part caller (e ∷ []) = calls_in_part_more caller es i e h ∙ ap (λ (z : Entry). calls_in_part caller (take i es) ++ calls_in_part caller (z ∷ [])) (sym is) in
    before ∙ sym (append-nil (calls_in_part caller (take i es))) ∙ ap (λ (z : List Call). calls_in_part caller (take i es) ++ z) (sym none) ∙ sym more
