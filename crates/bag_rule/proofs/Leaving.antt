-- A list is given back.
use Rattle.std.proofs.Common.{◌≡◌, ◌≢◌, ℕ, ◌<◌, ◌⊎◌, List, [], ◌∷◌, length, get_or, set, true, false, sym, refl, ap, ◌∙◌, subst, inl, inr, ⊎_elim, arith, length-set, get_or-set_other, get_or-set_same}
use mathlib.Core.Logic.{dite}
use mathlib.Core.Option.{some, none}
use native.Mathlib.Decide.{ℕ_discrete}
use lib.ListN.{get_elem?}
use Rattle.atomic_table.specs.Table.{step, gives, put_back, Allows}
use Rattle.atomic_table.proofs.Lists.{set_here, set_else}
use Rattle.ho_base.specs.Marks.{Mark}
use Rattle.ho_model.specs.Bag.{list_of}
use Rattle.passes.proofs.Seats.{seats_stay, some_seat}
use Rattle.bag_rule.specs.declared.view.View.{View}
use Rattle.bag_rule.specs.declared.view.Hand.TheVariants.{Away, Kept}
use Rattle.bag_rule.specs.Words.{list_word}
use Rattle.bag_rule.specs.Views.{hand_at, IsKept, left_list, noted}
use Rattle.bag_rule.specs.Rule.{Lain, Has, Knows, Names, AtHome, IsOut, Stands}
use Rattle.bag_rule.specs.Plays.{Sits, left}
use Rattle.bag_rule.proofs.Lists.{is_kept, not_away, one_hand, hand_here, hand_else, noted_flag}
use Rattle.bag_rule.proofs.Words.{words_list}
use Rattle.bag_rule.proofs.Laws.{word}

module _ (pr : Mark → ℕ) (n : ℕ) where
  module _ (s : Lain) (r : Stands pr n s) (id c : ℕ) (v : View) (at : get_elem? s.views id ≡ some v) (items : List Mark) (kept : hand_at v c ≡ Kept items) where
    known : Knows n r.log r.lists r.locks r.made r.owner r.keeper id v
    known = r.knows id v at

    has : Has n r.locks r.lists r.keeper id v c items
    has = known.keeps c items kept

    abbrev locks' : List ℕ
    locks' = set r.locks c 0

    lock_inside : c < length r.locks
    lock_inside = let a : length r.locks ≡ n = r.wide.0 in let b = has.0 in omega arith

    lock_here : get_or locks' c 0 ≡ 0
    lock_here = get_or-set_same r.locks c 0 0 lock_inside

    lock_else : (d : ℕ) → d ≢ c → get_or locks' d 0 ≡ get_or r.locks d 0
    lock_else d ne = get_or-set_other r.locks c d 0 0 ne

    abbrev gave : View
    gave = left_list v c

    hand_gave : hand_at gave c ≡ Away
    hand_gave = let a : length v.keeps ≡ 64 = known.wide in let b = r.small in let lt = has.0 in hand_here v.keeps c Away (omega arith)

    has_else : (j : ℕ) (u : View) (d : ℕ) (ys : List Mark) → d ≢ c → Has n r.locks r.lists r.keeper j u d ys → Has n locks' r.lists r.keeper j u d ys
    has_else j u d ys ne h = (h.0, h.1, (λ e. h.2 (sym (lock_else d ne) ∙ e)), h.3, h.4)

    abbrev after : Lain
    after = record { words = set s.words (list_word c) 0; homes = set s.homes c (some items); views = set s.views id gave }

    gave_place : (d : ℕ) → d < n → AtHome s r.lists r.locks d ⊎ IsOut s r.locks r.keeper d → AtHome after r.lists locks' d ⊎ IsOut after locks' r.keeper d
    gave_place d lt p = dite (ℕ_discrete d c)
        (λ (is : d ≡ c). inl (
          ap (λ (z : ℕ). get_or locks' z 0) is ∙ lock_here,
          ap (get_elem? (set s.homes c (some items))) is ∙ (set_here s.homes c (some items) (subst (λ (z : ℕ). c < z) (sym r.wide.2) has.0) ∙ ap (λ (z : List Mark). some (some z)) (sym has.3 ∙ ap (list_of r.lists) (sym is))),
        ))
        (λ (ne : d ≢ c). ⊎_elim
        (λ (h : AtHome s r.lists r.locks d). inl (lock_else d ne ∙ h.0, set_else s.homes c d (some items) ne ∙ h.1))
        (λ (h : IsOut s r.locks r.keeper d).
        let y = some_seat (Names r.locks d) s.views id (r.keeper d) v gave at (λ o. (o.0, subst IsKept (sym (hand_else v.keeps c Away d ne)) o.1)) h in
        inr (y.0, y.1, (lock_else d ne ∙ y.2.0, y.2.1)))
        p)

    gave_keeps : (d : ℕ) (ys : List Mark) → hand_at gave d ≡ Kept ys → Has n locks' r.lists r.keeper id gave d ys
    gave_keeps d ys e = dite (ℕ_discrete d c)
        (λ (is : d ≡ c). absurd (not_away (hand_at gave d) (is_kept (hand_at gave d) ys e) (ap (hand_at gave) is ∙ hand_gave)))
        (λ (ne : d ≢ c). has_else id gave d ys ne (known.keeps d ys (sym (hand_else v.keeps c Away d ne) ∙ e)))

    gave_bare : v.since ≡ length r.log → (d : ℕ) → get_or (noted v.bare c (hand_at v c)) d false ≡ true → list_of r.lists d ≡ []
    gave_bare same d up = ⊎_elim (known.bare same d)
        (λ (t : (d ≡ c) × (hand_at v c ≡ Kept [])). ap (list_of r.lists) t.0 ∙ (has.3 ∙ one_hand items [] (sym kept ∙ t.1)))
        (noted_flag v.bare c (hand_at v c) d up)

    pub gave_kept : Stands pr n after
    gave_kept = record {
      log = r.log;
      lists = r.lists;
      locks = locks';
      made = r.made;
      owner = r.owner;
      keeper = r.keeper;
      words = words_list s.words (word pr n s r) r.locks r.words c 0 lock_inside;
      wide = (length-set r.locks c 0 ∙ r.wide.0, r.wide.1, length-set s.homes c (some items) ∙ r.wide.2);
      small = r.small;
      state = r.state;
      below = r.below;
      sized = r.sized;
      few = r.few;
      each = r.each;
      within = r.within;
      beyond = r.beyond;
      place = λ d lt. gave_place d lt (r.place d lt);
      knows = seats_stay (Knows n r.log r.lists locks' r.made r.owner r.keeper) s.views id gave
          record {
            of_callers = known.of_callers;
            wide = length-set v.keeps c Away ∙ known.wide;
            holder = known.holder;
            keeps = gave_keeps;
            begun = known.begun;
            bare = gave_bare;
            late = known.late;
            last = known.last;
            joint = known.joint;
          }
          (λ j u not e. let y = r.knows j u e in record {
            of_callers = y.of_callers;
            wide = y.wide;
            holder = y.holder;
            keeps = λ d ys h. let z = y.keeps d ys h in has_else j u d ys (λ (is : d ≡ c). not (sym z.1 ∙ (ap r.keeper is ∙ has.1))) z;
            begun = y.begun;
            bare = y.bare;
            late = y.late;
            last = y.last;
            joint = y.joint;
          });
    }

  pub list_leaves : (slots id c : ℕ) (m : Sits) (items : List Mark) (more : List (ℕ × List Mark)) → hand_at m.0 c ≡ Kept items → m.1 ≡ (c, items) ∷ more
      → Allows (Stands pr n) slots id m (list_word c) (λ _. 0) (λ _. left c (step slots (list_word c) 0 0 none) m 0)
  list_leaves slots id c m items more kept carried s r _ at _ = (
    left_list m.0 c,
    gives,
    tt,
    subst (λ (z : List (ℕ × List Mark)). Stands pr n record { words = set s.words (list_word c) 0; homes = put_back s.homes z; views = set s.views id (left_list m.0 c) }) (sym carried) (gave_kept s r id c m.0 at items kept),
    refl,
  )
