-- All lists in one hand.
use Rattle.std.proofs.Common.{◌≡◌, ℕ, suc, zero, ◌+◌, ◌<◌, ◌≤◌, List, [], ◌∷◌, ◌++◌, length, map, take, get_or, set, sym, refl, ap, ◌∙◌, subst, arith, append_assoc, append-nil, length-set}
use Rattle.std.specs.Prelude.{flat_map}
use Rattle.std.proofs.lemmas.List.{take_more}
use Rattle.std.proofs.lemmas.List.Concat.{flat_map-cons}
use Rattle.std.proofs.lemmas.Grind.{flat_map-append}
use Rattle.atomic_table.specs.Table.{rest}
use Rattle.ho_base.specs.Marks.{Mark, number_of}
use Rattle.ho_model.specs.Bag.{Lists, list_of, all_numbers}
use Rattle.bag_rule.specs.declared.view.View.{View}
use Rattle.bag_rule.specs.declared.view.Obstacle.{Obstacle}
use Rattle.bag_rule.specs.declared.view.Hand.{Hand}
use Rattle.bag_rule.specs.declared.view.Hand.TheVariants.{Away, Kept}
use Rattle.bag_rule.specs.Views.{hand_at, left_list, found, entered, Agrees}
use Rattle.bag_rule.specs.Plays.{Sits, Makes}
use Rattle.bag_rule.specs.Seats.{front_of, InHand}
use Rattle.bag_rule.proofs.Lists.{no_hand, hand_here, hand_else, not_away, is_kept}
use Rattle.bag_tries.specs.Seats.{IsIdle, HasRead, MadeEntry, MadeNone}
use Rattle.bag_tries.specs.Snaps.{AreFirst, hands_of, numbers_of, KeepsFirst, GotAtLast, Gathers, Released}
use Rattle.bag_tries.proofs.Hands.{none_long, back_once}
use Rattle.bag_tries.proofs.Lifts.{lift_law, lift_entry}
use Rattle.ho_model.specs.declared.marks.EntryMark.{EntryMark}

-- a list that was not taken is away
pub away_above : (n : ℕ) (carried : List (ℕ × List Mark)) → AreFirst n carried → (d : ℕ) → n ≤ d → get_or (hands_of carried) d Away ≡ Away
away_above zero [] f d le = no_hand 64 d
away_above zero (list ∷ lists) f d le = absurd f
away_above (suc n) [] f d le = absurd f
away_above (suc n) (list ∷ lists) f d le =
    let e : list.0 ≡ n = f.0 in hand_else (hands_of lists) list.0 (Kept list.1) d (λ (is : d ≡ list.0). omega arith) ∙ away_above n lists f.1 d (omega arith)

pub hands_wide : (carried : List (ℕ × List Mark)) → length (hands_of carried) ≡ 64
hands_wide [] = none_long
hands_wide (list ∷ lists) = length-set (hands_of lists) list.0 (Kept list.1) ∙ hands_wide lists

-- the next list is got
pub gathers_more : (pr : Mark → ℕ) (v : View) (m w : Sits) (n : ℕ) → Gathers pr v m n → GotAtLast pr m.0 m.1 n w → Gathers pr v w (n + 1)
gathers_more pr v m w n g got = subst (λ (z : Sits). Gathers pr v z (n + 1)) (sym got.1.1) record {
  keeps = (subst (λ (k : ℕ). AreFirst k ((n, got.1.0) ∷ m.1)) (let e : suc n ≡ n + 1 = omega arith in e) (refl, g.keeps.0), ap (λ (z : List Hand). set z n (Kept got.1.0)) g.keeps.1);
  joint = g.joint;
  lawful = λ _. lift_law pr v m.0 g.read g.has_read m got.1.3;
  read = g.read ++ (got.0 ++ found n got.1.0 ∷ []);
  has_read = let h = g.has_read in record {
    callers = h.callers;
    caller = h.caller;
    held = h.held;
    seen = h.seen;
    made = h.made;
    met = ap (λ (z : List Obstacle). (z ++ got.0) ++ found n got.1.0 ∷ []) h.met ∙ (append_assoc (v.met ++ g.read) got.0 (found n got.1.0 ∷ []) ∙ append_assoc v.met g.read (got.0 ++ found n got.1.0 ∷ []));
  };
}

pub gathers_none : (pr : Mark → ℕ) (m : Sits) → IsIdle m → Gathers pr m.0 m 0
gathers_none pr m idle = record {
  keeps = subst (λ (z : List (ℕ × List Mark)). AreFirst 0 z × (m.0.keeps ≡ hands_of z)) (sym idle.2) (tt, idle.0);
  joint = idle.1;
  lawful = λ pos. absurd (omega arith);
  read = [];
  has_read = record { callers = refl; caller = refl; held = refl; seen = refl; made = refl; met = sym (append-nil m.0.met) };
}

-- the list to be taken next is away
pub next_away : (m : Sits) (n : ℕ) → KeepsFirst m n → hand_at m.0 n ≡ Away
next_away m n k = ap (λ (z : List Hand). get_or z n Away) k.1 ∙ away_above n m.1 k.0 n (omega arith)

-- the list taken last is in the hand, and is given back
module _ (n : ℕ) (low : n < 64) where
  in_front : (carried : List (ℕ × List Mark)) (hands : List Hand) → AreFirst (suc n) carried → hands ≡ hands_of carried
      → (carried ≡ (n, front_of carried) ∷ rest carried) × (get_or hands n Away ≡ Kept (front_of carried)) × AreFirst n (rest carried) × (set hands n Away ≡ hands_of (rest carried))
  in_front [] hands f is = absurd f
  in_front (list ∷ lists) hands f is = (
    ap (λ (z : ℕ). (z, list.1) ∷ lists) f.0,
    ap (λ (z : List Hand). get_or z n Away) here ∙ hand_here (hands_of lists) n (Kept list.1) (let l = hands_wide lists in omega arith),
    f.1,
    ap (λ (z : List Hand). set z n Away) here ∙ back_once (hands_of lists) n (Kept list.1) (away_above n lists f.1 n (omega arith)),
  )
    where
      here : hands ≡ set (hands_of lists) n (Kept list.1)
      here = is ∙ ap (λ (z : ℕ). set (hands_of lists) z (Kept list.1)) f.0

  as_more : (m : Sits) (k : ℕ) → k ≡ n + 1 → KeepsFirst m k → AreFirst (suc n) m.1
  as_more m k is h = let e : n + 1 ≡ suc n = omega arith in subst (λ (z : ℕ). AreFirst z m.1) (is ∙ e) h.0

  pub last_in_hand : (m : Sits) (k : ℕ) → k ≡ n + 1 → KeepsFirst m k → InHand m n
  last_in_hand m k is h = let x = in_front m.1 m.0.keeps (as_more m k is h) h.1 in (x.0, x.1)

  pub last_left : (m w : Sits) (k : ℕ) → k ≡ n + 1 → KeepsFirst m k → w ≡ (left_list m.0 n, rest m.1) → KeepsFirst w n × (w.0.joint ≡ m.0.joint) × HasRead m.0 w.0 []
  last_left m w k is h left = let x = in_front m.1 m.0.keeps (as_more m k is h) h.1 in
      subst (λ (z : Sits). KeepsFirst z n × (z.0.joint ≡ m.0.joint) × HasRead m.0 z.0 []) (sym left)
      ((x.2, x.3), refl, record { callers = refl; caller = refl; held = refl; seen = refl; made = refl; met = sym (append-nil m.0.met) })

none_left : (carried : List (ℕ × List Mark)) → AreFirst 0 carried → carried ≡ []
none_left [] f = refl
none_left (list ∷ lists) f = absurd f

pub all_released : (m w : Sits) → KeepsFirst w 0 → w.0.joint ≡ m.0.joint → HasRead m.0 w.0 [] → Released m w
all_released m w k joint h = let none = none_left w.1 k.0 in record { keeps = k.1 ∙ ap hands_of none; carries = none; joint = joint; has_read = h }

-- the numbers of all items
module _ (lists : Lists) where
  bare_rest : (ls : Lists) (n : ℕ) → ((d : ℕ) → n ≤ d → list_of ls d ≡ []) → all_numbers ls ≡ all_numbers (take n ls)
  bare_rest [] zero bare = refl
  bare_rest [] (suc n) bare = refl
  bare_rest (x ∷ xs) zero bare = flat_map-cons (map number_of) x xs ∙ (λ i. map number_of (bare 0 (omega arith) i) ++ bare_rest xs 0 (λ d le. bare (suc d) (omega arith)) i)
  bare_rest (x ∷ xs) (suc n) bare = flat_map-cons (map number_of) x xs ∙ (ap (λ (z : List ℕ). map number_of x ++ z) (bare_rest xs n (λ d le. bare (suc d) (omega arith))) ∙ sym (flat_map-cons (map number_of) x (take n xs)))

  numbers_front : (n : ℕ) (carried : List (ℕ × List Mark)) → AreFirst n carried → n ≤ length lists → ((d : ℕ) (items : List Mark) → get_or (hands_of carried) d Away ≡ Kept items → list_of lists d ≡ items) → length lists ≡ 64 → all_numbers (take n lists) ≡ numbers_of carried
  numbers_front zero [] f le has wide = refl
  numbers_front zero (list ∷ more) f le has wide = absurd f
  numbers_front (suc n) [] f le has wide = absurd f
  numbers_front (suc n) (list ∷ more) f le has wide =
      let e : suc n ≡ n + 1 = omega arith in
      let its : list_of lists n ≡ list.1 = has n list.1 (ap (λ (z : ℕ). get_or (set (hands_of more) z (Kept list.1)) n Away) f.0 ∙ hand_here (hands_of more) n (Kept list.1) (let l = hands_wide more in omega arith)) in
      ap (λ (k : ℕ). all_numbers (take k lists)) e
      ∙ (ap all_numbers (take_more lists n [] (omega arith))
      ∙ (flat_map-append (map number_of) (take n lists) (list_of lists n ∷ [])
      ∙ (λ i. numbers_front n more f.1 (omega arith) before wide i ++ last its i)))
    where
      before : (d : ℕ) (items : List Mark) → get_or (hands_of more) d Away ≡ Kept items → list_of lists d ≡ items
      before d items k = has d items (hand_else (hands_of more) list.0 (Kept list.1) d (λ (is : d ≡ list.0).
          not_away (get_or (hands_of more) d Away) (is_kept (get_or (hands_of more) d Away) items k) (away_above n more f.1 d (let x : list.0 ≡ n = f.0 in omega arith))) ∙ k)

      last : list_of lists n ≡ list.1 → flat_map (map number_of) (list_of lists n ∷ []) ≡ map number_of list.1
      last its = flat_map-cons (map number_of) (list_of lists n) [] ∙ (append-nil (map number_of (list_of lists n)) ∙ ap (map number_of) its)

  pub all_shown : (m : Sits) (n : ℕ) → n ≤ 64 → m.0.callers ≡ n → KeepsFirst m n → Agrees m.0 lists → all_numbers lists ≡ numbers_of m.1
  all_shown m n low callers k a =
      bare_rest lists n (λ d le. a.2 d (omega arith))
      ∙ numbers_front n m.1 k.0 (let l = a.0 in omega arith) (λ d items h. a.1 d items (ap (λ (z : List Hand). get_or z d Away) k.1 ∙ h)) a.0

-- how a snapshot ends
module _ (pr : Mark → ℕ) (v : View) (m : Sits) (n : ℕ) (g : Gathers pr v m n) where
  pub snap_ends : (e : EntryMark) (place : ℕ) (others : List EntryMark) (w u : Sits) → w ≡ (entered m.0 others e, m.1) → Makes pr m.0 others e place → Released w u → MadeEntry pr v e place u
  snap_ends e place others w u is makes r = lift_entry pr v m.0 g.read g.has_read u e place (over (subst (λ (z : Sits). Released z u) is r))
    where
      over : Released (entered m.0 others e, m.1) u → MadeEntry pr m.0 e place u
      over r = let h = r.has_read in record {
        back = record { idle = (r.keeps, r.joint ∙ g.joint, r.carries); callers = h.callers; caller = h.caller; held = h.held };
        others = others;
        makes = makes;
        seen = h.seen;
        made = h.made;
        read = [];
        met = h.met;
      }

  pub none_ends : (u : Sits) → 0 < n → Released m u → (read : List Obstacle) × MadeNone pr v read u
  none_ends u pos r = let a = g.has_read in let h = r.has_read in (
    g.read,
    record {
      back = record { idle = (r.keeps, r.joint ∙ g.joint, r.carries); callers = h.callers ∙ a.callers; caller = h.caller ∙ a.caller; held = h.held ∙ a.held };
      seen = h.seen ∙ a.seen;
      made = h.made ∙ a.made;
      met = h.met ∙ (append-nil m.0.met ∙ a.met);
      lawful = g.lawful pos;
    },
  )

  -- the lists are kept at the entry
  pub keeps_entered : (e : EntryMark) (others : List EntryMark) (w : Sits) → w ≡ (entered m.0 others e, m.1) → KeepsFirst w n
  keeps_entered e others w is = subst (λ (z : Sits). KeepsFirst z n) (sym is) g.keeps

-- a count of a seat that keeps no list
pub count_ends : (pr : Mark → ℕ) (m : Sits) → IsIdle m → (e : EntryMark) (place : ℕ) (others : List EntryMark) (w : Sits) → w ≡ (entered m.0 others e, m.1) → Makes pr m.0 others e place → MadeEntry pr m.0 e place w
count_ends pr m idle e place others w is makes = subst (λ (z : Sits). MadeEntry pr m.0 e place z) (sym is) record {
  back = record { idle = idle; callers = refl; caller = refl; held = refl };
  others = others;
  makes = makes;
  seen = refl;
  made = refl;
  read = [];
  met = sym (append-nil m.0.met);
}
