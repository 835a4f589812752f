-- Lists by caller, hands and flags, one of which changes.
use Rattle.std.proofs.Common.{◌≡◌, ◌≢◌, ℕ, suc, zero, ◌+◌, ◌*◌, ◌<◌, ◌≤◌, ◌⊎◌, inl, inr, List, [], ◌∷◌, length, get_or, set, Bool, true, false, sym, refl, ap, ◌∙◌, subst, arith, true≢false, replicate, get_or-set_other, get_or-set_same}
use Rattle.std.proofs.lemmas.List.Sums.{sum_by-cons}
use mathlib.Core.Logic.{dite}
use native.Mathlib.Decide.{ℕ_discrete}
use Rattle.ho_base.specs.Marks.{Mark}
use Rattle.ho_model.specs.Bag.{Lists, list_of, item_count}
use Rattle.bag_rule.specs.declared.view.Hand.{Hand}
use Rattle.bag_rule.specs.declared.view.Hand.TheVariants.{Away, Kept}
use Rattle.bag_rule.specs.Views.{IsKept, items_of, noted}

counted : (items : List Mark) (lists : Lists) → item_count (items ∷ lists) ≡ length items + item_count lists
counted items lists = sum_by-cons length items lists

pub items_bound : (lists : Lists) → ((c : ℕ) → length (list_of lists c) ≤ 16383) → item_count lists ≤ length lists * 16383
items_bound [] h = omega arith
items_bound (x ∷ xs) h = let e = counted x xs in let a : length x ≤ 16383 = h 0 in let b : item_count xs ≤ length xs * 16383 = items_bound xs (λ c. h (suc c)) in omega arith

pub bare_items : (lists : Lists) → ((c : ℕ) → c < length lists → list_of lists c ≡ []) → item_count lists ≡ 0
bare_items [] h = refl
bare_items (x ∷ xs) h = let e = counted x xs in let a : length x ≡ 0 = ap length (h 0 (omega arith)) in let b : item_count xs ≡ 0 = bare_items xs (λ d lt. h (suc d) (omega arith)) in omega arith

pub items_set : (lists : Lists) (c : ℕ) (items : List Mark) → c < length lists → item_count (set lists c items) + length (list_of lists c) ≡ item_count lists + length items
items_set [] c items lt = absurd (omega arith)
items_set (x ∷ xs) zero items lt = let e = counted x xs in let f = counted items xs in omega arith
items_set (x ∷ xs) (suc c) items lt = let e = counted x xs in let f = counted x (set xs c items) in let b : item_count (set xs c items) + length (list_of xs c) ≡ item_count xs + length items = items_set xs c items (omega arith) in omega arith

pub by_hand : (h : Hand) → (h ≡ Away) ⊎ ((items : List Mark) × (h ≡ Kept items))
by_hand Away = inl refl
by_hand (Kept items) = inr (items, refl)

pub is_kept : (h : Hand) (items : List Mark) → h ≡ Kept items → IsKept h
is_kept h items e = subst IsKept (sym e) tt

pub kept_is : (h : Hand) → IsKept h → (items : List Mark) × (h ≡ Kept items)
kept_is Away k = absurd k
kept_is (Kept items) k = (items, refl)

pub not_away : (h : Hand) → IsKept h → h ≡ Away → ⊥
not_away h k e = subst IsKept e k

pub one_hand : (xs ys : List Mark) → Kept xs ≡ Kept ys → xs ≡ ys
one_hand xs ys e = ap items_of e

-- hands, one of which changes
module _ (hands : List Hand) (c : ℕ) (h : Hand) where
  pub hand_here : c < length hands → get_or (set hands c h) c Away ≡ h
  hand_here lt = get_or-set_same hands c h Away lt

  pub hand_else : (d : ℕ) → d ≢ c → get_or (set hands c h) d Away ≡ get_or hands d Away
  hand_else d ne = get_or-set_other hands c d h Away ne

pub no_hand : (k c : ℕ) → get_or (replicate k Away) c Away ≡ Away
no_hand zero c = refl
no_hand (suc k) zero = refl
no_hand (suc k) (suc c) = no_hand k c

pub kept_inside : (hands : List Hand) (c : ℕ) (items : List Mark) → get_or hands c Away ≡ Kept items → c < length hands
kept_inside [] c items e = absurd (not_away Away (is_kept Away items e) refl)
kept_inside (k ∷ ks) zero items e = omega arith
kept_inside (k ∷ ks) (suc c) items e = let t = kept_inside ks c items e in omega arith

pub flag_no : (k c : ℕ) → get_or (replicate k false) c false ≡ true → ⊥
flag_no zero c e = true≢false (sym e)
flag_no (suc k) zero e = true≢false (sym e)
flag_no (suc k) (suc c) e = flag_no k c e

-- a flag that is up was up, or is of a list that was kept without an item
pub noted_flag : (bare : List Bool) (c : ℕ) (h : Hand) (d : ℕ) → get_or (noted bare c h) d false ≡ true → (get_or bare d false ≡ true) ⊎ ((d ≡ c) × (h ≡ Kept []))
noted_flag bare c Away d up = inl up
noted_flag bare c (Kept []) d up = dite (ℕ_discrete d c) (λ e. inr (e, refl)) (λ ne. inl (sym (get_or-set_other bare c d true false ne) ∙ up))
noted_flag bare c (Kept (x ∷ xs)) d up = inl up
