-- Looks into other lists, one after another.
use Rattle.std.proofs.Common.{◌≡◌, ◌≢◌, ℕ, ◌+◌, ◌-◌, ◌<◌, ◌≤◌, inl, inr, ⊎_elim, List, [], ◌∷◌, ◌++◌, length, get_or, set, drop, Bool, true, false, true≢false, sym, refl, ap, ◌∙◌, subst, arith, append_assoc, append-nil, get_or-set_same, get_or-set_other, length-set, length-append}
use Rattle.std.specs.Prelude.{Contains}
use Rattle.std.proofs.lemmas.Bool.{cases_lt}
use Rattle.std.proofs.lemmas.List.Elements.{Contains-append_left, Contains-append_right}
use mathlib.Core.Logic.{dite}
use native.Mathlib.Decide.{ℕ_discrete}
use Rattle.atomic_table.specs.Table.{rest}
use Rattle.ho_base.specs.Marks.{Mark}
use Rattle.ho_model.specs.declared.marks.EntryMark.{EntryMark}
use Rattle.bag_rule.specs.declared.view.View.{View}
use Rattle.bag_rule.specs.declared.view.Hand.{Hand}
use Rattle.bag_rule.specs.declared.view.Hand.TheVariants.{Away, Kept}
use Rattle.bag_rule.specs.declared.view.Obstacle.{Obstacle}
use Rattle.bag_rule.specs.declared.view.Obstacle.TheVariants.{Held, Bare}
use Rattle.bag_rule.specs.Views.{hand_at, took_list, left_list, changed, found, noted}
use Rattle.bag_rule.specs.Plays.{Sits, Makes, GotList}
use Rattle.bag_rule.specs.Seats.{front_of}
use Rattle.bag_rule.proofs.Lists.{hand_here, hand_else}
use Rattle.bag_tries.specs.Causes.{IsOther, WasTried, IsRound, IsBareRound, HasSkipped}
use Rattle.bag_tries.specs.Seats.{HasOwnBare}
use Rattle.bag_tries.specs.Takes.{wandered, robbed, other_list, Went, KeptSteals, Steals, item_entry}
use Rattle.bag_tries.proofs.Hands.{back_once, back_twice, own_kept, own_away, own_wide}

-- one other list, which was got
module _ (pr : Mark → ℕ) (m : Sits) (c : ℕ) (own : HasOwnBare m c) (low : c < 64) (list : ℕ) (ne : list ≢ c) (list_low : list < 64) (t : Sits) (got : GotList pr m.0 m.1 list t) where
  abbrev v : View
  v = m.0

  away : get_or v.keeps list Away ≡ Away
  away = own_away m c own low list ne

  pub got_own : hand_at t.0 c ≡ Kept []
  got_own = ap (λ (z : Sits). hand_at z.0 c) got.1 ∙ (hand_else v.keeps list (Kept got.0) c (λ e. ne (sym e)) ∙ own_kept m c own low)

  pub got_steals : {T : Type 0} (mark : T → Mark) (item : T) (place : ℕ) (w : Sits) → KeptSteals pr mark c t list w (item, place) → Steals pr mark c m list item place w
  got_steals mark item place w k =
      let e : EntryMark = item_entry pr mark c item list in
      let bare : List Bool = noted v.bare list (hand_at (changed (took_list v list got.0) k.0 e list (drop 1 got.0)) list) in (
        found list got.0 ∷ [],
        bare,
        k.0,
        k.1 ∙ (ap (λ (z : Sits). (left_list (changed z.0 k.0 e list (drop 1 (front_of z.1))) list, rest z.1)) got.1
            ∙ ap (λ (hands : List Hand). (record (robbed v (found list got.0 ∷ []) bare k.0 e) { keeps = hands }, m.1)) (back_twice v.keeps list (Kept got.0) (Kept (drop 1 got.0)) away)),
        subst (λ (z : Sits). Makes pr z.0 k.0 e place) got.1 k.2,
      )

  pub got_bare : (w : Sits) → front_of t.1 ≡ [] → w ≡ (left_list t.0 list, rest t.1) → w ≡ (wandered v (Bare list ∷ []) (set v.bare list true), m.1)
  got_bare w bare is =
      let none : got.0 ≡ [] = sym (ap (λ (z : Sits). front_of z.1) got.1) ∙ bare in
      let here = hand_here v.keeps list (Kept []) (let l = own_wide m c own low in omega arith) in
      is ∙ (ap (λ (z : Sits). (left_list z.0 list, rest z.1)) got.1
      ∙ (ap (λ (items : List Mark). (left_list (took_list v list items) list, m.1)) none
      ∙ (λ i. (record (wandered v (Bare list ∷ []) (noted v.bare list (here i))) { keeps = back_once v.keeps list (Kept []) away i }, m.1))))

-- what was read stays read
pub tried_more : (n c : ℕ) (held : List Bool) (read more : List Obstacle) (list : ℕ) → WasTried n c held read list → WasTried n c held (read ++ more) list
tried_more n c held read more list = ⊎_elim (λ b. inl (Contains-append_left read more (Bare list) b)) (λ h. inr (h.0, h.1, Contains-append_left read more (Held list h.0) h.2))

pub last_read : (read : List Obstacle) (o : Obstacle) → Contains (read ++ o ∷ []) o
last_read read o = Contains-append_right read (o ∷ []) o (0, omega arith, refl)

module _ (c : ℕ) (v : View) (n : ℕ) where
  pub went_none : length v.bare ≡ 64 → Went c v v n 1 false
  went_none wide = record {
    read = [];
    bare = v.bare;
    is = ap (λ (z : List Obstacle). record v { met = z }) (sym (append-nil v.met));
    wide = wide;
    once = refl;
    tried = λ j pos lt. absurd (omega arith);
    all_bare = λ _ j pos lt. absurd (omega arith);
    one_held = λ up. absurd (true≢false (sym up));
  }

  module _ (k : ℕ) (skipped : Bool) (w : View) (g : Went c v w n k skipped) (list : ℕ) (at : list ≡ other_list c k n) where
    went_is : (o : Obstacle) (bare : List Bool) (w' : View) → w' ≡ wandered w (o ∷ []) bare → w' ≡ wandered v (g.read ++ o ∷ []) bare
    went_is o bare w' is = is ∙ (ap (λ (z : View). wandered z (o ∷ []) bare) g.is ∙ ap (λ (z : List Obstacle). record v { met = z; bare = bare }) (append_assoc v.met g.read (o ∷ [])))

    tried_next : (o : Obstacle) → WasTried v.callers c v.held (g.read ++ o ∷ []) list → (j : ℕ) → 0 < j → j < k + 1 → WasTried v.callers c v.held (g.read ++ o ∷ []) (other_list c j n)
    tried_next o new j pos lt = dite (ℕ_discrete j k)
        (λ (e : j ≡ k). subst (WasTried v.callers c v.held (g.read ++ o ∷ [])) (at ∙ ap (λ (z : ℕ). other_list c z n) (sym e)) new)
        (λ (ne : j ≢ k). tried_more v.callers c v.held g.read (o ∷ []) (other_list c j n) (g.tried j pos (omega arith)))

    held_next : (o : Obstacle) → skipped ≡ true → HasSkipped v.callers c v.held (g.read ++ o ∷ [])
    held_next o up = let h = g.one_held up in (h.0, h.1, h.2, h.3, h.4, Contains-append_left g.read (o ∷ []) (Held h.0 h.1) h.5)

    once_next : (o : Obstacle) → length (g.read ++ o ∷ []) + 1 ≡ k + 1
    once_next o = let a = length-append g.read (o ∷ []) in let b = g.once in omega arith

    pub went_bare : list < 64 → (w' : View) → w' ≡ wandered w (Bare list ∷ []) (set w.bare list true) → Went c v w' n (k + 1) skipped
    went_bare low w' is = record {
      read = g.read ++ Bare list ∷ [];
      bare = set g.bare list true;
      is = went_is (Bare list) (set g.bare list true) w' (is ∙ ap (λ (z : List Bool). wandered w (Bare list ∷ []) (set z list true)) (ap (λ (z : View). z.bare) g.is));
      wide = length-set g.bare list true ∙ g.wide;
      once = once_next (Bare list);
      tried = tried_next (Bare list) (inl (last_read g.read (Bare list)));
      all_bare = λ down j pos lt. (flagged down j pos lt, bare_next down j pos lt);
      one_held = held_next (Bare list);
    }
      where
        flagged : skipped ≡ false → (j : ℕ) → 0 < j → j < k + 1 → get_or (set g.bare list true) (other_list c j n) false ≡ true
        flagged down j pos lt = dite (ℕ_discrete (other_list c j n) list)
            (λ (e : other_list c j n ≡ list). ap (λ (z : ℕ). get_or (set g.bare list true) z false) e ∙ get_or-set_same g.bare list true false (let l : length g.bare ≡ 64 = g.wide in omega arith))
            (λ (ne : other_list c j n ≢ list). get_or-set_other g.bare list (other_list c j n) true false ne
            ∙ (g.all_bare down j pos (let apart : j ≢ k = (λ (e : j ≡ k). ne (ap (λ (z : ℕ). other_list c z n) e ∙ sym at)) in omega arith)).0)

        bare_next : skipped ≡ false → (j : ℕ) → 0 < j → j < k + 1 → Contains (g.read ++ Bare list ∷ []) (Bare (other_list c j n))
        bare_next down j pos lt = dite (ℕ_discrete j k)
            (λ (e : j ≡ k). subst (λ (z : ℕ). Contains (g.read ++ Bare list ∷ []) (Bare z)) (at ∙ ap (λ (z : ℕ). other_list c z n) (sym e)) (last_read g.read (Bare list)))
            (λ (ne : j ≢ k). Contains-append_left g.read (Bare list ∷ []) (Bare (other_list c j n)) (g.all_bare down j pos (omega arith)).1)

    pub went_held : list < v.callers → list ≢ c → (other : ℕ) → IsOther w.callers c w.held other → (w' : View) → w' ≡ wandered w (Held list other ∷ []) w.bare → Went c v w' n (k + 1) true
    went_held low apart other is_other w' is =
        let its = subst (λ (z : View). IsOther z.callers c z.held other) g.is is_other in record {
          read = g.read ++ Held list other ∷ [];
          bare = g.bare;
          is = went_is (Held list other) g.bare w' (is ∙ ap (λ (z : List Bool). wandered w (Held list other ∷ []) z) (ap (λ (z : View). z.bare) g.is));
          wide = g.wide;
          once = once_next (Held list other);
          tried = tried_next (Held list other) (inr (other, its, last_read g.read (Held list other)));
          all_bare = λ down. absurd (true≢false down);
          one_held = λ up. (list, other, low, apart, its, last_read g.read (Held list other));
        }

    pub went_stolen : {T : Type 0} (pr : Mark → ℕ) (mark : T → Mark) (carried : List (ℕ × List Mark)) (from : ℕ) (item : T) (place : ℕ) (w' : Sits) → Steals pr mark c (w, carried) from item place w' → Steals pr mark c (v, carried) from item place w'
    went_stolen pr mark carried from item place w' s =
        let e : EntryMark = item_entry pr mark c item from in (
          g.read ++ s.0,
          s.1,
          s.2,
          s.3 ∙ (ap (λ (z : View). (robbed z s.0 s.1 s.2 e, carried)) g.is ∙ ap (λ (z : List Obstacle). (record (robbed v [] s.1 s.2 e) { met = z }, carried)) (append_assoc v.met g.read s.0)),
          subst (λ (z : View). Makes pr z s.2 e place) g.is s.4,
        )

-- each list but the own one is some steps behind it
pub steps_behind : (c n list : ℕ) → c < n → list < n → list ≢ c → (j : ℕ) × (0 < j) × (j < n) × (other_list c j n ≡ list)
steps_behind c n list low list_low ne = ⊎_elim
    (λ (above : c < list). (list - c, omega arith, omega arith, (let e : c + (list - c) ≡ list = omega arith in grind (arith, e, list_low))))
    (λ (below : list ≤ c). (list + n - c, (let x : list ≢ c = ne in omega arith), (let x : list ≢ c = ne in omega arith), (let e : c + (list + n - c) ≡ list + n = omega arith in grind (arith, e))))
    (cases_lt c list)

-- a whole round
module _ (c : ℕ) (v w : View) (n : ℕ) (callers : v.callers ≡ n) (low : c < n) (skipped : Bool) (g : Went c v w n n skipped) where
  pub round_made : IsRound v.callers c v.held g.read
  round_made = record {
    each = λ list lt ne. let j = steps_behind c n list low (omega arith) ne in subst (WasTried v.callers c v.held g.read) j.3 (g.tried j.0 j.1 j.2);
    once = g.once ∙ sym callers;
  }

  pub bare_made : skipped ≡ false → IsBareRound v.callers c v.held g.read
  bare_made down = record {
    each = λ list lt ne. let j = steps_behind c n list low (omega arith) ne in subst (λ (z : ℕ). Contains g.read (Bare z)) j.3 (g.all_bare down j.0 j.1 j.2).1;
    once = g.once ∙ sym callers;
  }
