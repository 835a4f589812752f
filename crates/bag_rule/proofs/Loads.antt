-- Loads of the event word.
use Rattle.std.proofs.Common.{◌≡◌, ℕ, ◌<◌, ◌≤◌, ⊎_elim, [], length, refl, subst, le_refl, arith}
use Rattle.std.proofs.lemmas.Bool.{cases_lt}
use mathlib.Core.Option.{some, none}
use lib.ListN.{get_elem?}
use Rattle.atomic_table.specs.Table.{step, Allows}
use Rattle.ho_base.specs.Marks.{Mark}
use Rattle.ho_model.specs.Bag.{list_of, item_count}
use Rattle.bag_rule.specs.declared.view.View.{View}
use Rattle.bag_rule.specs.Views.{began, looked_again, told, AreBare}
use Rattle.bag_rule.specs.Rule.{JointFact, Stands}
use Rattle.bag_rule.specs.Plays.{Sits, begins, looks, tells}
use Rattle.bag_rule.proofs.Lists.{bare_items, flag_no}
use Rattle.bag_rule.proofs.Laws.{shows, sees_all, sees_law, quiet, load_at}

module _ (pr : Mark → ℕ) (n : ℕ) where
  pub loads_begin : (slots id : ℕ) (m : Sits) → Allows (Stands pr n) slots id m 0 (λ x. x) (begins (step slots 0 0 0 none) m)
  loads_begin slots id m s r _ at _ =
      let k = r.knows id m.0 at in let w : View = began m.0 (length r.log) (item_count r.lists) in
      load_at pr n s r id m.0 at m.1 (begins (step slots 0 0 0 none) m) w
      (quiet pr n s r id m.0 at w
      record {
        of_callers = k.of_callers;
        wide = k.wide;
        holder = k.holder;
        keeps = k.keeps;
        begun = le_refl (length r.log);
        bare = λ e c up. absurd (flag_no 64 c up);
        late = le_refl (length r.log);
        last = λ e. refl;
        joint = k.joint;
      }
      (λ c h. h))
      (length r.log, item_count r.lists, shows pr n s r, refl, sees_all pr n s r id m.0 at)

  pub loads_look : (slots id : ℕ) (m : Sits) → Allows (Stands pr n) slots id m 0 (λ x. x) (looks (step slots 0 0 0 none) m)
  loads_look slots id m s r _ at _ =
      let k = r.knows id m.0 at in let w : View = looked_again m.0 (length r.log) (item_count r.lists) in
      load_at pr n s r id m.0 at m.1 (looks (step slots 0 0 0 none) m) w
      (quiet pr n s r id m.0 at w
      record {
        of_callers = k.of_callers;
        wide = k.wide;
        holder = k.holder;
        keeps = k.keeps;
        begun = k.begun;
        bare = k.bare;
        late = le_refl (length r.log);
        last = λ e. refl;
        joint = k.joint;
      }
      (λ c h. h))
      (length r.log, item_count r.lists, shows pr n s r, refl, k.begun, (λ all same. bare_items r.lists (all_bare s r id m.0 at all same)), sees_all pr n s r id m.0 at)
    where
      all_bare : (s : _) (r : Stands pr n s) (id : ℕ) (v : View) (at : get_elem? s.views id ≡ some v) → AreBare v → v.since ≡ length r.log → (c : ℕ) → c < length r.lists → list_of r.lists c ≡ []
      all_bare s r id v at all same c lt = let k = r.knows id v at in let e = k.of_callers in ⊎_elim
          (λ (low : c < n). ⊎_elim (λ up. k.bare same c up) (λ is. (k.keeps c [] is).3) (all c (omega arith)))
          (λ (high : n ≤ c). r.beyond c high)
          (cases_lt c n)

  -- the load after a join
  pub loads_tell : (slots id : ℕ) (m : Sits) → Allows (Stands pr n) slots id m 0 (λ x. x) (tells pr (step slots 0 0 0 none) m)
  loads_tell slots id m s r _ at _ =
      let k = r.knows id m.0 at in
      load_at pr n s r id m.0 at m.1 (tells pr (step slots 0 0 0 none) m) (told m.0)
      (quiet pr n s r id m.0 at (told m.0)
      record {
        of_callers = k.of_callers;
        wide = k.wide;
        holder = k.holder;
        keeps = k.keeps;
        begun = k.begun;
        bare = k.bare;
        late = k.late;
        last = k.last;
        joint = tt;
      }
      (λ c h. h))
      (refl, (λ j is. subst (JointFact m.0.seen) is k.joint), sees_law pr n s r id m.0 at)
