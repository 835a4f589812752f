-- The table at the start.
use Rattle.std.proofs.Common.{◌≡◌, ℕ, suc, zero, ◌+◌, ◌*◌, ◌^◌, ◌<◌, ◌≤◌, List, [], ◌∷◌, length, map, replicate, sym, refl, ap, ◌∙◌, subst, inl, arith}
use Rattle.std.proofs.lemmas.List.{length-map}
use mathlib.Core.Option.{some, some-injective, some-ne-none}
use lib.ListN.{get_elem?}
use Rattle.atomic_table.specs.Table.{opening}
use Rattle.ho_base.specs.Marks.{Mark}
use Rattle.ho_model.specs.Bag.{list_of, item_count, empty_lists}
use Rattle.passes.proofs.Starts.{zero_counts, length-replicate, first_holder}
use Rattle.bag_rule.specs.declared.view.View.{View}
use Rattle.bag_rule.specs.Words.{word_count, list_word}
use Rattle.bag_rule.specs.Views.{first_view, hand_at}
use Rattle.bag_rule.specs.Rule.{Knows, Stands}
use Rattle.bag_rule.proofs.Lists.{bare_items, flag_no, is_kept, not_away, no_hand}

abbrev bare_lists : ℕ → List (List Mark)
bare_lists n = replicate n []

bare_at : (k c : ℕ) → list_of (bare_lists k) c ≡ []
bare_at zero c = refl
bare_at (suc k) zero = refl
bare_at (suc k) (suc c) = bare_at k c

no_items : item_count empty_lists ≡ 0
no_items = bare_items empty_lists (λ c _. bare_at 64 c)

home_at : (n c : ℕ) → c < n → get_elem? (map some (bare_lists n)) c ≡ some (some [])
home_at zero c lt = absurd (omega arith)
home_at (suc n) zero lt = refl
home_at (suc n) (suc c) lt = home_at n c (omega arith)

abbrev zeros : ℕ → List ℕ
zeros n = replicate n 0

module _ (pr : Mark → ℕ) (n : ℕ) (small : n ≤ 64) where
  first_knows : Knows n [] empty_lists (zeros n) (zeros n) (λ _. 0) (λ _. 0) 0 (first_view n)
  first_knows = record {
    of_callers = refl;
    wide = refl;
    holder = first_holder n;
    keeps = λ c items h. absurd (not_away (hand_at (first_view n) c) (is_kept (hand_at (first_view n) c) items h) (no_hand 64 c));
    begun = omega arith;
    bare = λ same c up. absurd (flag_no 64 c up);
    late = omega arith;
    last = λ same. sym no_items;
    joint = tt;
  }

  one_seat : (j : ℕ) (v : View) → get_elem? (first_view n ∷ []) j ≡ some v → Knows n [] empty_lists (zeros n) (zeros n) (λ _. 0) (λ _. 0) j v
  one_seat zero v e = subst (Knows n [] empty_lists (zeros n) (zeros n) (λ _. 0) (λ _. 0) 0) (some-injective (first_view n) v e) first_knows
  one_seat (suc j) v e = absurd (some-ne-none v (sym e))

  pub starts : Stands pr n (opening (zeros (word_count n)) (bare_lists n) (first_view n))
  starts = let none = no_items in record {
    log = [];
    lists = empty_lists;
    locks = zeros n;
    made = zeros n;
    owner = λ _. 0;
    keeper = λ _. 0;
    words = (
      zero_counts (word_count n) 0 ∙ (let a : 0 ≡ 1048576 * 0 + item_count empty_lists = omega arith in a),
      (λ c lt. zero_counts (word_count n) (list_word c) ∙ sym (zero_counts n c)),
      length-replicate {A = ℕ} (word_count n) 0 ∙ ap word_count (sym (length-replicate {A = ℕ} n 0)),
    );
    wide = (length-replicate {A = ℕ} n 0, length-replicate {A = List Mark} 64 [], length-map (bare_lists n) some ∙ length-replicate {A = List Mark} n []);
    small = small;
    state = refl;
    below = tt;
    sized = length-replicate {A = ℕ} n 0;
    few = omega arith;
    each = λ c. subst (λ (z : ℕ). z ≤ 2 ^ 37) (sym (zero_counts n c)) (omega arith);
    within = λ c. subst (λ (l : List Mark). length l ≤ 16383) (sym (bare_at 64 c)) (omega arith);
    beyond = λ c high. bare_at 64 c;
    place = λ c lt. inl (zero_counts n c, home_at n c lt ∙ ap (λ (l : List Mark). some (some l)) (sym (bare_at 64 c)));
    knows = one_seat;
  }
