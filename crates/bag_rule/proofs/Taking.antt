-- A list is taken, or found in another's hand.
use Rattle.std.proofs.Common.{◌≡◌, ◌≢◌, ℕ, suc, ◌+◌, ◌<◌, ◌⊎◌, eqb, cond, List, length, get_or, set, Bool, sym, refl, ap, ◌∙◌, subst, inl, inr, ⊎_elim, arith, eq-eqb, ne_eqb, length-set, get_or-set_other, get_or-set_same}
use mathlib.Core.Logic.{dite}
use mathlib.Core.Option.{some, none}
use native.Mathlib.Decide.{ℕ_discrete}
use lib.ListN.{get_elem?}
use lib.Seq.{set-get_or}
use prog.Atomic.{either}
use Rattle.atomic_table.specs.Table.{Act, step, keeps, takes, stepped, Valid, carried_after, Allows}
use Rattle.atomic_table.proofs.Lists.{set_here, set_else, exchanged}
use Rattle.ho_base.specs.Marks.{Mark}
use Rattle.ho_model.specs.Bag.{list_of}
use Rattle.passes.specs.Numbers.{HasNumber}
use Rattle.passes.proofs.Seats.{seats_stay, some_seat, at_inside, one_view}
use Rattle.passes.proofs.Holders.{not_theirs}
use Rattle.bag_rule.specs.declared.view.View.{View}
use Rattle.bag_rule.specs.declared.view.Hand.TheVariants.{Away, Kept}
use Rattle.bag_rule.specs.Words.{list_word}
use Rattle.bag_rule.specs.Views.{hand_at, IsKept, took_list, held_by}
use Rattle.bag_rule.specs.Rule.{Lain, Has, Knows, Names, AtHome, IsOut, Stands}
use Rattle.bag_rule.specs.Plays.{Sits, took}
use Rattle.bag_rule.proofs.Lists.{is_kept, kept_is, not_away, one_hand, hand_here, hand_else}
use Rattle.bag_rule.proofs.Words.{words_list}
use Rattle.bag_rule.proofs.Laws.{sees_law, quiet, word}

module _ (pr : Mark → ℕ) (n : ℕ) where
  module _ (s : Lain) (r : Stands pr n s) (id c : ℕ) (m : Sits) (at : get_elem? s.views id ≡ some m.0) (inside : c < n) (active : HasNumber m.0.held m.0.caller) (free : hand_at m.0 c ≡ Away) where
    abbrev v : View
    v = m.0

    known : Knows n r.log r.lists r.locks r.made r.owner r.keeper id v
    known = r.knows id v at

    abbrev k : ℕ
    k = v.caller + 1

    abbrev items : List Mark
    items = list_of r.lists c

    abbrev keeper' : ℕ → ℕ
    keeper' d = cond (eqb d c) id (r.keeper d)

    keeper_here : keeper' c ≡ id
    keeper_here = ap (λ (b : Bool). cond b id (r.keeper c)) (eq-eqb c c refl)

    keeper_else : (d : ℕ) → d ≢ c → keeper' d ≡ r.keeper d
    keeper_else d ne = ap (λ (b : Bool). cond b id (r.keeper d)) (ne_eqb d c ne)

    abbrev locks' : List ℕ
    locks' = set r.locks c k

    lock_inside : c < length r.locks
    lock_inside = let a : length r.locks ≡ n = r.wide.0 in omega arith

    lock_here : get_or locks' c 0 ≡ suc v.caller
    lock_here = let b : v.caller + 1 ≡ suc v.caller = omega arith in get_or-set_same r.locks c k 0 lock_inside ∙ b

    lock_else : (d : ℕ) → d ≢ c → get_or locks' d 0 ≡ get_or r.locks d 0
    lock_else d ne = get_or-set_other r.locks c d k 0 ne

    has_else : (j : ℕ) (u : View) (d : ℕ) (ys : List Mark) → d ≢ c → Has n r.locks r.lists r.keeper j u d ys → Has n locks' r.lists keeper' j u d ys
    has_else j u d ys ne h = (h.0, keeper_else d ne ∙ h.1, (λ e. h.2 (sym (lock_else d ne) ∙ e)), h.3, h.4)

    module _ (zero_at : get_or r.locks c 0 ≡ 0) where
      home : AtHome s r.lists r.locks c
      home = ⊎_elim (λ h. h) (λ (h : IsOut s r.locks r.keeper c). let a : get_or r.locks c 0 ≡ suc h.0.caller = h.2.0 in absurd (omega arith)) (r.place c inside)

      abbrev got : View
      got = took_list v c items

      hand_got : hand_at got c ≡ Kept items
      hand_got = let a : length v.keeps ≡ 64 = known.wide in let b = r.small in hand_here v.keeps c (Kept items) (omega arith)

      got_keeps : (d : ℕ) (ys : List Mark) → hand_at got d ≡ Kept ys → Has n locks' r.lists keeper' id got d ys
      got_keeps d ys e = dite (ℕ_discrete d c)
          (λ (is : d ≡ c). subst (λ (z : ℕ). Has n locks' r.lists keeper' id got z ys) (sym is)
          (inside, keeper_here, (λ z. let a = lock_here in omega arith), one_hand items ys (sym hand_got ∙ (ap (hand_at got) (sym is) ∙ e)), active))
          (λ (ne : d ≢ c). has_else id got d ys ne (known.keeps d ys (sym (hand_else v.keeps c (Kept items) d ne) ∙ e)))

      abbrev after : Lain
      after = record { words = set s.words (list_word c) k; homes = set s.homes c none; views = set s.views id got }

      got_place : (d : ℕ) → d < n → AtHome s r.lists r.locks d ⊎ IsOut s r.locks r.keeper d → AtHome after r.lists locks' d ⊎ IsOut after locks' keeper' d
      got_place d lt p = dite (ℕ_discrete d c)
          (λ (is : d ≡ c). inr (
            got,
            ap (get_elem? (set s.views id got)) (ap keeper' is ∙ keeper_here) ∙ set_here s.views id got (at_inside s.views id v at),
            (ap (λ (z : ℕ). get_or locks' z 0) is ∙ lock_here, is_kept (hand_at got d) items (ap (hand_at got) is ∙ hand_got)),
          ))
          (λ (ne : d ≢ c). ⊎_elim
          (λ (h : AtHome s r.lists r.locks d). inl (lock_else d ne ∙ h.0, set_else s.homes c d none ne ∙ h.1))
          (λ (h : IsOut s r.locks r.keeper d).
          let x = some_seat (Names r.locks d) s.views id (r.keeper d) v got at (λ o. (o.0, subst IsKept (sym (hand_else v.keeps c (Kept items) d ne)) o.1)) h in
          inr (x.0, ap (get_elem? (set s.views id got)) (keeper_else d ne) ∙ x.1, (lock_else d ne ∙ x.2.0, x.2.1)))
          p)

      got_kept : Stands pr n after
      got_kept = record {
        log = r.log;
        lists = r.lists;
        locks = locks';
        made = r.made;
        owner = r.owner;
        keeper = keeper';
        words = words_list s.words (word pr n s r) r.locks r.words c k lock_inside;
        wide = (length-set r.locks c k ∙ r.wide.0, r.wide.1, length-set s.homes c none ∙ r.wide.2);
        small = r.small;
        state = r.state;
        below = r.below;
        sized = r.sized;
        few = r.few;
        each = r.each;
        within = r.within;
        beyond = r.beyond;
        place = λ d lt. got_place d lt (r.place d lt);
        knows = seats_stay (Knows n r.log r.lists locks' r.made r.owner keeper') s.views id got
            record {
              of_callers = known.of_callers;
              wide = length-set v.keeps c (Kept items) ∙ known.wide;
              holder = known.holder;
              keeps = got_keeps;
              begun = known.begun;
              bare = known.bare;
              late = known.late;
              last = known.last;
              joint = known.joint;
            }
            (λ j u not e. let x = r.knows j u e in record {
              of_callers = x.of_callers;
              wide = x.wide;
              holder = x.holder;
              keeps = λ d ys h. let y = x.keeps d ys h in has_else j u d ys (λ (is : d ≡ c). y.2 (ap (λ (z : ℕ). get_or r.locks z 0) is ∙ zero_at)) y;
              begun = x.begun;
              bare = x.bare;
              late = x.late;
              last = x.last;
              joint = x.joint;
            });
      }

    Took : ℕ → ℕ → ℕ → Type 0
    Took slots x y = (w : View) × (a : Act (List Mark)) × Valid s.homes m.1 a × Stands pr n (stepped s (list_word c) y id m.1 w a) × took pr c (step slots (list_word c) 0 k none) m x (w, carried_after m.1 a)

    hit : (slots : ℕ) → get_or r.locks c 0 ≡ 0 → Took slots (get_or r.locks c 0) k
    unfolding Took
    hit slots z = (got z, takes c items, (home z).1, got_kept z, ((λ _. (items, refl, r.within c, sees_law pr n s r id v at)), (λ ne. absurd (ne z))))

    out_there : get_or r.locks c 0 ≢ 0 → IsOut s r.locks r.keeper c
    out_there ne = ⊎_elim (λ (h : AtHome s r.lists r.locks c). absurd (ne h.0)) (λ h. h) (r.place c inside)

    miss : (slots : ℕ) → get_or r.locks c 0 ≢ 0 → Took slots (get_or r.locks c 0) (get_or r.locks c 0)
    unfolding Took
    miss slots ne =
        let o = out_there ne in let j : ℕ = o.0.caller in let w : View = held_by v c j in
        let u = r.knows (r.keeper c) o.0 o.1 in let xs = kept_is (hand_at o.0 c) o.2.1 in let h = u.keeps c xs.0 xs.1 in
        let apart : r.keeper c ≢ id = (λ (is : r.keeper c ≡ id). not_away (hand_at o.0 c) o.2.1 (ap (λ (z : View). hand_at z c) (one_view s.views (r.keeper c) id o.0 v o.1 at is) ∙ free)) in
        let theirs = u.holder.owns j h.4 in (
          w,
          keeps,
          tt,
          subst (λ (ws : List ℕ). Stands pr n record { words = ws; homes = s.homes; views = set s.views id w }) (sym (set-get_or s.words (list_word c) 0) ∙ ap (set s.words (list_word c)) (r.words.1 c lock_inside))
              (quiet pr n s r id v at w
              record {
                of_callers = known.of_callers;
                wide = known.wide;
                holder = known.holder;
                keeps = known.keeps;
                begun = known.begun;
                bare = known.bare;
                late = known.late;
                last = known.last;
                joint = known.joint;
              }
              (λ d x. x)),
          (
            (λ z. absurd (ne z)),
            (λ _. (j, refl, (o.2.0, not_theirs n r.log r.made r.owner id v.held v.made v.seen known.holder (r.keeper c) j (λ e. apart (sym e)) theirs.0, subst (λ (z : ℕ). j < z) (sym known.of_callers) theirs.1), sees_law pr n s r id v at)),
          ),
        )

    took_at : (slots : ℕ) → Took slots (get_or s.words (list_word c) 0) (either (eqb (get_or s.words (list_word c) 0) 0) k (get_or s.words (list_word c) 0))
    took_at slots = subst (λ (z : ℕ). Took slots z (either (eqb z 0) k z)) (sym (r.words.1 c lock_inside)) (exchanged (get_or r.locks c 0) 0 k (Took slots (get_or r.locks c 0)) (hit slots) (miss slots))

  pub list_takes : (slots id c caller : ℕ) (m : Sits) → c < m.0.callers → m.0.caller ≡ caller → HasNumber m.0.held m.0.caller → hand_at m.0 c ≡ Away
      → Allows (Stands pr n) slots id m (list_word c) (λ x. either (eqb x 0) (caller + 1) x) (took pr c (step slots (list_word c) 0 (caller + 1) none) m)
  unfolding Took
  list_takes slots id c caller m inside is active free =
      subst (λ (z : ℕ). Allows (Stands pr n) slots id m (list_word c) (λ x. either (eqb x 0) (z + 1) x) (took pr c (step slots (list_word c) 0 (z + 1) none) m)) is
      (λ s r _ at _. took_at s r id c m at (subst (λ (z : ℕ). c < z) (r.knows id m.0 at).of_callers inside) active free slots)
