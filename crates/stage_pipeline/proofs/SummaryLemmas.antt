-- What is told of a run on made records does not depend on the order of its outcomes.
use Rattle.std.proofs.Common.{◌≡◌, ◌++◌, ◌∷◌, ◌∙◌, [], ℕ, List, Bool, ap, cond, length, refl, subst, sym}
use Rattle.std.proofs.lemmas.List.Sorted.{length_permutation, sum_by-IsPermutation}
use Rattle.std.specs.Fmt.{decimal}
use Rattle.std.specs.List.{count_by, sum_by}
use Rattle.std.specs.List.Sorted.{IsPermutation}
use Rattle.std.specs.Prelude.{None, codes}
use Rattle.record_lang.specs.Texts.{Counts, counts_line, counts_of, ending_line, is_filtered, is_refused, is_result, run_outcomes}
use Rattle.record_lang.specs.declared.outcomes.Outcome.{Outcome}
use Rattle.text_rows.specs.Written.{text_of_row}
use Rattle.stage_pipeline.specs.Made.{IsMade, first_number, made_meaning, made_rows, made_summary}
use Rattle.stage_pipeline.specs.Runs.{AreJointPasses, RanView}
use Rattle.stage_pipeline.specs.Tellings.{HasRun}
use Rattle.stage_pipeline.specs.declared.runs.Done.{Done}
use Rattle.stage_pipeline.proofs.TellLemmas.{kept_are_all}

same_count : (p : Outcome → Bool) (xs ys : List Outcome) → IsPermutation xs ys → count_by p xs ≡ count_by p ys
same_count p xs ys h = sym (sum_by-IsPermutation (λ x. cond (p x) 1 0) xs ys h)

same_counts : (xs ys : List Outcome) → IsPermutation xs ys → counts_of xs ≡ counts_of ys
same_counts xs ys h =
    ap (λ n. record { fed = n; results = count_by is_result xs; refused = count_by is_refused xs; filtered = count_by is_filtered xs }) (sym (length_permutation xs ys h))
    ∙ ap (λ n. record { fed = length ys; results = n; refused = count_by is_refused xs; filtered = count_by is_filtered xs }) (same_count is_result xs ys h)
    ∙ ap (λ n. record { fed = length ys; results = count_by is_result ys; refused = n; filtered = count_by is_filtered xs }) (same_count is_refused xs ys h)
    ∙ ap (λ n. record { fed = length ys; results = count_by is_result ys; refused = count_by is_refused ys; filtered = n }) (same_count is_filtered xs ys h)

same_summary : (xs ys : List Outcome) → IsPermutation xs ys → made_summary xs ≡ made_summary ys
same_summary xs ys h =
    ap (λ (c : Counts). counts_line c ++ (text_of_row (codes "sum" ∷ decimal (sum_by first_number xs) ∷ []) ++ ending_line None)) (same_counts xs ys h)
    ∙ ap (λ (n : ℕ). counts_line (counts_of ys) ++ (text_of_row (codes "sum" ∷ decimal n ∷ []) ++ ending_line None)) (sym (sum_by-IsPermutation first_number xs ys h))

-- a run on made records whose outcomes were told
pub is_made : (done : Done) (ran : RanView) → ran.text ≡ made_summary done.outcomes.items → ran.joints ≡ done.joints.items
    → (count seed workers : ℕ) → HasRun made_meaning (made_rows count seed) workers done → IsMade count seed workers ran
is_made done ran text joints count seed workers run =
    record {
      joints = subst (AreJointPasses made_meaning (made_rows count seed) workers) (sym joints) run.joints;
      text =
          text ∙ same_summary done.outcomes.items (run_outcomes made_meaning (made_rows count seed))
          (subst (IsPermutation done.outcomes.items) (kept_are_all made_meaning (made_rows count seed) workers done.joints.items run.joints refl) run.outcomes);
    }
