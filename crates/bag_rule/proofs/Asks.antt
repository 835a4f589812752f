-- What each entry asks of the lists that are kept, and the items that it adds to the event word.
use Rattle.std.proofs.Common.{◌≡◌, ℕ, ◌+◌, ◌-◌, ◌/◌, ◌<◌, ◌≤◌, List, [], ◌∷◌, ◌++◌, length, take, drop, refl, sym, ap, ◌∙◌, subst, arith, length-append}
use Rattle.std.proofs.lemmas.List.{length-take}
use Rattle.ho_base.specs.Marks.{Mark}
use Rattle.ho_model.specs.Entries.{entry}
use Rattle.ho_model.specs.Queue.{first_item}
use Rattle.ho_model.specs.Bag.{last_item}
use Rattle.ho_model.specs.declared.marks.EntryMark.{EntryMark}
use Rattle.ho_model.specs.declared.marks.CallMark.TheVariants.{Add, Take}
use Rattle.ho_model.specs.declared.marks.ReplyMark.TheVariants.{Done, ItemFrom}
use Rattle.bag_rule.specs.declared.view.View.{View}
use Rattle.bag_rule.specs.declared.view.Hand.TheVariants.{Kept}
use Rattle.bag_rule.specs.Views.{hand_at, items_of, kept_at, changed, entered, Does}
use Rattle.bag_rule.specs.Plays.{Sits, Enters, Makes}
use Rattle.bag_rule.proofs.Object.{add_does, take_own_does, steal_does}
use Rattle.bag_rule.proofs.Words.{place_of}

pub kept_is_at : (v : View) (c : ℕ) (items : List Mark) → hand_at v c ≡ Kept items → kept_at v c ≡ items
kept_is_at v c items e = ap items_of e

-- of the list c: what it has now and will have, and what is added to the event word
abbrev pub Asks : View → ℕ → List Mark → ℕ → EntryMark → Type 0
Asks v c items add e = ((old : List Mark) × (hand_at v c ≡ Kept old) × (length items + 1048576 ≡ length old + add)) × Does v e c items × (length items ≤ 16383)

module _ (v : View) (c : ℕ) (own : v.caller ≡ c) (xs : List Mark) (kept : hand_at v c ≡ Kept xs) where
  kept_own : hand_at v v.caller ≡ Kept xs
  kept_own = ap (hand_at v) own ∙ kept

  pub add_asks : (x : Mark) → length xs < 16383 → Asks v c (kept_at v c ++ x ∷ []) 1048577 (entry c (Add x) Done)
  add_asks x short = subst (λ (ys : List Mark). Asks v c (ys ++ x ∷ []) 1048577 (entry c (Add x) Done)) (sym (kept_is_at v c xs kept))
      (let l : length (xs ++ x ∷ []) ≡ length xs + 1 = length-append xs (x ∷ []) in
      ((xs, kept, omega arith), subst (λ (z : ℕ). Does v (entry z (Add x) Done) z (xs ++ x ∷ [])) own (add_does v xs kept_own x short), omega arith))

  pub take_asks : (y : Mark) → 0 < length xs → last_item xs ≡ y → length xs ≤ 16383 → Asks v c (take (length (kept_at v c) - 1) (kept_at v c)) 1048575 (entry c Take (ItemFrom y c))
  take_asks y some_item last short = subst (λ (ys : List Mark). Asks v c (take (length ys - 1) ys) 1048575 (entry c Take (ItemFrom y c))) (sym (kept_is_at v c xs kept))
      (let l : length (take (length xs - 1) xs) + 1 ≡ length xs = shorter in
      ((xs, kept, omega arith), subst (λ (z : ℕ). Does v (entry z Take (ItemFrom y z)) z (take (length xs - 1) xs)) own (take_own_does v xs kept_own y some_item last), omega arith))
    where
      shorter : length (take (length xs - 1) xs) + 1 ≡ length xs
      shorter = grind (arith, length-take (length xs - 1) xs, some_item)

pub steal_asks : (v : View) (c : ℕ) (y : Mark) (xs : List Mark) → hand_at v v.caller ≡ Kept [] → hand_at v c ≡ Kept xs → 0 < length xs → first_item xs ≡ y → length xs ≤ 16383
    → Asks v c (drop 1 (kept_at v c)) 1048575 (entry v.caller Take (ItemFrom y c))
steal_asks v c y xs own kept some_item first short = subst (λ (ys : List Mark). Asks v c (drop 1 ys) 1048575 (entry v.caller Take (ItemFrom y c))) (sym (kept_is_at v c xs kept))
    (let l : length (drop 1 xs) + 1 ≡ length xs = shorter xs some_item in ((xs, kept, omega arith), steal_does v [] own c y xs refl some_item first kept, omega arith))
  where
    shorter : (ys : List Mark) → 0 < length ys → length (drop 1 ys) + 1 ≡ length ys
    shorter [] no_item = absurd (omega arith)
    shorter (z ∷ zs) an_item = omega arith

-- the place of an entry, by the event word that it found
pub made_changed : (pr : Mark → ℕ) (v : View) (carried : List (ℕ × List Mark)) (e : EntryMark) (c : ℕ) (items : List Mark) (found : ℕ) (w : Sits)
    → (others : List EntryMark) × (w ≡ (changed v others e c items, carried)) × Enters pr v others e found → (others : List EntryMark) × (w ≡ (changed v others e c items, carried)) × Makes pr v others e (found / 1048576)
made_changed pr v carried e c items found w t = (t.0, t.1, (t.2.0, t.2.1, place_of _ _ _ t.2.3))

pub made_entered : (pr : Mark → ℕ) (v : View) (carried : List (ℕ × List Mark)) (e : EntryMark) (found : ℕ) (w : Sits)
    → (others : List EntryMark) × (w ≡ (entered v others e, carried)) × Enters pr v others e found → (others : List EntryMark) × (w ≡ (entered v others e, carried)) × Makes pr v others e (found / 1048576)
made_entered pr v carried e found w t = (t.0, t.1, (t.2.0, t.2.1, place_of _ _ _ t.2.3))
