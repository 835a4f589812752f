-- What the bag does with each entry.
use Rattle.std.proofs.Common.{◌≡◌, ℕ, ◌-◌, ◌<◌, ◌&&◌, eqb, cond, List, [], ◌∷◌, ◌++◌, length, set, take, drop, Bool, true, refl, ap, ◌∙◌, eq-eqb, Some, None}
use Rattle.std.specs.Prelude.{nat_lt}
use Rattle.std.proofs.lemmas.Bool.{lt-ltb}
use Rattle.std.proofs.lemmas.Slice.Eq.{bytes_eq-Decides}
use Rattle.ho_base.specs.Marks.{Mark}
use Rattle.ho_model.specs.declared.marks.CallMark.TheVariants.{Add, Take, Count, Snap}
use Rattle.ho_model.specs.declared.marks.ReplyMark.TheVariants.{Done, Full, ItemFrom, Empty, Counted, Numbers}
use Rattle.ho_model.specs.declared.marks.EntryMark.{EntryMark}
use Rattle.ho_model.specs.declared.objects.Object.TheVariants.{Bag}
use Rattle.ho_model.specs.Entries.{entry, same_mark}
use Rattle.ho_model.specs.Queue.{has_item, first_item}
use Rattle.ho_model.specs.Bag.{Lists, list_of, last_item, item_count, all_numbers, added, bag_step, without_last, without_first, with_last}
use Rattle.ho_model.specs.Objects.{BagState, object_step}
use Rattle.ho_model.proofs.Replies.{accepted_self, entry_of_caller}
use Rattle.std.specs.Option.{option_map}
use Rattle.bag_rule.specs.declared.view.View.{View}
use Rattle.bag_rule.specs.declared.view.Hand.TheVariants.{Kept}
use Rattle.bag_rule.specs.Views.{hand_at, Does, Leaves}

-- an entry that the bag takes is one of the object
pub bag_enters : (priority : Mark → ℕ) (lists lists' : Lists) (e : EntryMark) → e.caller < 64 → bag_step lists e.caller e.call e.reply ≡ Some lists' → object_step priority Bag (BagState lists) e ≡ Some (BagState lists')
bag_enters priority lists lists' e low h = entry_of_caller priority Bag (BagState lists) (BagState lists') e low (ap (option_map BagState) h)

same_self : (x : Mark) → same_mark x x ≡ true
same_self x = (bytes_eq-Decides x x).1 refl

pub count_does : (lists : Lists) (c : ℕ) → bag_step lists c Count (Counted (item_count lists)) ≡ Some lists
count_does lists c = accepted_self (Some (Counted (item_count lists), lists)) (Counted (item_count lists)) lists refl

pub snap_does : (lists : Lists) (c : ℕ) (numbers : List ℕ) → all_numbers lists ≡ numbers → bag_step lists c Snap (Numbers numbers) ≡ Some lists
snap_does lists c numbers is = accepted_self (Some (Numbers (all_numbers lists), lists)) (Numbers numbers) lists (ap (λ (z : List ℕ). Some (Numbers z, lists)) is)

pub empty_does : (lists : Lists) (c : ℕ) → item_count lists ≡ 0 → bag_step lists c Take Empty ≡ Some lists
empty_does lists c none = ap (λ (b : Bool). cond b (Some lists) None) (eq-eqb (item_count lists) 0 none)

module _ (v : View) (xs : List Mark) (own : hand_at v v.caller ≡ Kept xs) where
  pub full_does : (x : Mark) → length xs ≡ 16383 → Leaves v (entry v.caller (Add x) Full)
  full_does x full s a = accepted_self (Some (added s v.caller x)) Full s
      (ap (λ (ys : List Mark). Some (cond (nat_lt (length ys) 16383) (Done, with_last s v.caller x) (Full, s))) (a.1 v.caller xs own)
      ∙ ap (λ (k : ℕ). Some (cond (nat_lt k 16383) (Done, with_last s v.caller x) (Full, s))) full)

  pub add_does : (x : Mark) → length xs < 16383 → Does v (entry v.caller (Add x) Done) v.caller (xs ++ x ∷ [])
  add_does x short s a = accepted_self (Some (added s v.caller x)) Done (set s v.caller (xs ++ x ∷ []))
      (ap (λ (ys : List Mark). Some (cond (nat_lt (length ys) 16383) (Done, set s v.caller (ys ++ x ∷ [])) (Full, s))) (a.1 v.caller xs own)
      ∙ ap (λ (b : Bool). Some (cond b (Done, set s v.caller (xs ++ x ∷ [])) (Full, s))) (lt-ltb (length xs) 16383 short))

  -- the last of the own list
  pub take_own_does : (y : Mark) → 0 < length xs → last_item xs ≡ y → Does v (entry v.caller Take (ItemFrom y v.caller)) v.caller (take (length xs - 1) xs)
  take_own_does y some_item last s a = let c = v.caller in
      ap (λ (zs : List Mark). cond (has_item zs) (cond (eqb c c && same_mark y (last_item zs)) (Some (set s c (take (length zs - 1) zs))) None) (cond (has_item (list_of s c) && same_mark y (first_item (list_of s c))) (Some (without_first s c)) None)) (a.1 c xs own)
      ∙ (ap (λ (b : Bool). cond b (cond (eqb c c && same_mark y (last_item xs)) (Some (set s c (take (length xs - 1) xs))) None) (cond (has_item (list_of s c) && same_mark y (first_item (list_of s c))) (Some (without_first s c)) None)) (lt-ltb 0 (length xs) some_item)
      ∙ (ap (λ (z : Mark). cond (eqb c c && same_mark y z) (Some (set s c (take (length xs - 1) xs))) None) last
      ∙ ((λ i. cond (eq-eqb c c refl i && same_self y i) (Some (set s c (take (length xs - 1) xs))) None))))

  -- the first of another list, where the own list is kept without an item
  pub steal_does : (d : ℕ) (y : Mark) (ys : List Mark) → xs ≡ [] → 0 < length ys → first_item ys ≡ y → hand_at v d ≡ Kept ys → Does v (entry v.caller Take (ItemFrom y d)) d (drop 1 ys)
  steal_does d y ys bare some_item first theirs s a = let c = v.caller in
      ap (λ (zs : List Mark). cond (has_item zs) (cond (eqb d c && same_mark y (last_item zs)) (Some (without_last s c)) None) (cond (has_item (list_of s d) && same_mark y (first_item (list_of s d))) (Some (set s d (drop 1 (list_of s d)))) None)) (a.1 c xs own ∙ bare)
      ∙ (ap (λ (zs : List Mark). cond (has_item zs && same_mark y (first_item zs)) (Some (set s d (drop 1 zs))) None) (a.1 d ys theirs)
      ∙ (ap (λ (b : Bool). cond (b && same_mark y (first_item ys)) (Some (set s d (drop 1 ys))) None) (lt-ltb 0 (length ys) some_item)
      ∙ (ap (λ (z : Mark). cond (true && same_mark y z) (Some (set s d (drop 1 ys))) None) first
      ∙ ap (λ (b : Bool). cond (true && b) (Some (set s d (drop 1 ys))) None) (same_self y))))
