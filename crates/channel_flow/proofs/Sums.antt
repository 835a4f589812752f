-- What the items of a buffer and the waits of a channel weigh, whatever is done to them.
use Rattle.std.specs.Prelude.{ℕ, ◌-◌, List, [], ◌∷◌, ◌++◌, Bool, true, false, map, remove, drop, take}
use Rattle.std.specs.List.{sum_by}
use Rattle.std.proofs.Common.{◌≡◌, refl, ap, ap₂, sym, ◌∙◌, ◌+◌, ◌<◌, length, arith}
use Rattle.std.proofs.lemmas.List.{take_all, length-append, length-drop, length-take-le}
use Rattle.std.proofs.lemmas.List.Edits.{length-remove}
use Rattle.std.proofs.lemmas.List.Sums.{sum_by-cons, sum_by_push, sum_by_more, sum_by-set, sum_by-remove}
use Rattle.ho_base.specs.Marks.{Mark}
use Rattle.ho_model.specs.declared.marks.ReplyMark.{ReplyMark}
use Rattle.ho_model.specs.declared.marks.ReplyMark.TheVariants.{Ready}
use Rattle.ho_model.specs.Channel.{Standing, LooksForItem, LooksForRoom, Answered, Waiter, looks_for_item, looks_for_room, item_at, waiter_at, no_waiter, answered, answer_if, answer_all, answer_at}
use Rattle.channel_laws.proofs.Table.{StandsAt}

-- 1. The buffer: one item comes, and one may leave

module _ (h : Mark → ℕ) where
  -- the last one leaves
  pub sum_newest : (xs : List Mark) (y : Mark) → 0 < length xs → sum_by h (take (length xs - 1) xs ++ y ∷ []) + h (item_at xs (length xs - 1)) ≡ sum_by h xs + h y
  sum_newest xs y some =
      let before = length xs - 1 in
      let a = sum_by_push h (take before xs) y in
      let b = sum_by_more h xs before [] (omega arith) in
      let c = ap (sum_by h) (take_all (before + 1) xs (omega arith)) in
      omega arith

  -- the first one leaves
  pub sum_oldest : (xs : List Mark) (y : Mark) → 0 < length xs → sum_by h (drop 1 xs ++ y ∷ []) + h (item_at xs 0) ≡ sum_by h xs + h y
  sum_oldest [] y some = absurd (omega arith)
  sum_oldest (x ∷ xs) y some = let a = sum_by_push h xs y in let b = sum_by-cons h x xs in omega arith

  -- that at a place leaves
  pub sum_swapped : (xs : List Mark) (place : ℕ) (y : Mark) → place < length xs → sum_by h (remove xs place ++ y ∷ []) + h (item_at xs place) ≡ sum_by h xs + h y
  sum_swapped xs place y below = let a = sum_by_push h (remove xs place) y in let b = sum_by-remove h xs place [] below in omega arith

-- as many stay
pub length_newest : (xs : List Mark) (y : Mark) → 0 < length xs → length (take (length xs - 1) xs ++ y ∷ []) ≡ length xs
length_newest xs y some =
    let a = length-append (take (length xs - 1) xs) (y ∷ []) in
    let b = length-take-le (length xs - 1) xs (omega arith) in
    omega arith

pub length_oldest : (xs : List Mark) (y : Mark) → 0 < length xs → length (drop 1 xs ++ y ∷ []) ≡ length xs
length_oldest xs y some = let a = length-append (drop 1 xs) (y ∷ []) in let b = length-drop 1 xs in omega arith

pub length_swapped : (xs : List Mark) (place : ℕ) (y : Mark) → place < length xs → length (remove xs place ++ y ∷ []) ≡ length xs
length_swapped xs place y below = let a = length-append (remove xs place) (y ∷ []) in let b = length-remove xs place below in omega arith

-- 2. The waits, each weighed by how it stands

looks_for_item_is : (st : Standing) → looks_for_item st ≡ true → st ≡ LooksForItem
looks_for_item_is LooksForItem h = refl
looks_for_item_is _ h = let no : false ≡ true = h in cc

looks_for_room_is : (st : Standing) → looks_for_room st ≡ true → st ≡ LooksForRoom
looks_for_room_is LooksForRoom h = refl
looks_for_room_is _ h = let no : false ≡ true = h in cc

module _ (g : Standing → ℕ) where
  abbrev pub by_standing : Waiter → ℕ
  by_standing w = g w.standing

  abbrev pub waits_sum : List Waiter → ℕ
  waits_sum ws = sum_by by_standing ws

  -- one is answered
  pub sum_answered : (ws : List Waiter) (place : ℕ) (standing : Standing) (r : ReplyMark) → StandsAt ws place standing → waits_sum (answer_at ws place r) + g standing ≡ waits_sum ws + g (Answered r)
  sum_answered ws place standing r at =
      let a = sum_by-set by_standing ws place (answered (waiter_at ws place) r) no_waiter at.below in
      let b = ap g at.stands in
      omega arith

  -- one goes
  pub sum_gone : (ws : List Waiter) (place : ℕ) (standing : Standing) → StandsAt ws place standing → waits_sum (remove ws place) + g standing ≡ waits_sum ws
  sum_gone ws place standing at =
      let a = sum_by-remove by_standing ws place no_waiter at.below in
      let b = ap g at.stands in
      omega arith

  -- one comes
  pub sum_stands : (ws : List Waiter) (w : Waiter) → waits_sum (ws ++ w ∷ []) ≡ waits_sum ws + g w.standing
  sum_stands ws w = sum_by_push by_standing ws w

  -- all are changed, under their weights
  pub sum_changed : (f : Waiter → Waiter) → ((w : Waiter) → g (f w).standing ≡ g w.standing) → (ws : List Waiter) → waits_sum (map f ws) ≡ waits_sum ws
  sum_changed f same [] = refl
  sum_changed f same (w ∷ ws) = sum_by-cons by_standing (f w) (map f ws) ∙ ap₂ (λ a b. a + b) (same w) (sum_changed f same ws) ∙ sym (sum_by-cons by_standing w ws)

  told_step : (kind : Standing → Bool) (r : ReplyMark) → ((st : Standing) → kind st ≡ true → g (Answered r) ≡ g st) → (w : Waiter) (k : Bool) → kind w.standing ≡ k → g (answer_if kind r w).standing ≡ g w.standing
  told_step kind r same w true e = simp e (same w.standing e)
  told_step kind r same w false e = simp e refl

  -- all that look for an item, or for room, are told, at the same weight
  pub sum_found : g (Answered (Ready true)) ≡ g LooksForItem → (ws : List Waiter) → waits_sum (answer_all looks_for_item (Ready true) ws) ≡ waits_sum ws
  sum_found same ws = sum_changed (answer_if looks_for_item (Ready true)) (λ w. told_step looks_for_item (Ready true) (λ st k. same ∙ ap g (sym (looks_for_item_is st k))) w (looks_for_item w.standing) refl) ws

  pub sum_freed : g (Answered (Ready true)) ≡ g LooksForRoom → (ws : List Waiter) → waits_sum (answer_all looks_for_room (Ready true) ws) ≡ waits_sum ws
  sum_freed same ws = sum_changed (answer_if looks_for_room (Ready true)) (λ w. told_step looks_for_room (Ready true) (λ st k. same ∙ ap g (sym (looks_for_room_is st k))) w (looks_for_room w.standing) refl) ws
