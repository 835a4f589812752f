-- The fields of a pass, after a split, a join, and a call that made no entry.
use Rattle.std.proofs.Common.{◌≡◌, ℕ, ◌+◌, ◌<◌, List, [], ◌∷◌, set, get_or, Bool, false, sym, refl, ap, ◌∙◌, subst, arith, append-nil}
use Rattle.std.proofs.lemmas.List.{set-get_or}
use Rattle.std.specs.Prelude.{None}
use Rattle.atomic_table.specs.Seated.{TableId}
use Rattle.atomic_table.specs.declared.badge.Badge.{Badge}
use Rattle.ho_base.specs.Marks.{Mark}
use Rattle.ho_model.specs.declared.marks.EntryMark.{EntryMark}
use Rattle.ho_model.specs.declared.objects.Object.TheVariants as object
use Rattle.passes.specs.Numbers.{HasNumber, NumbersView, HoldsBelow, only, give, held_both, made_both}
use Rattle.passes.specs.Seen.{IsLawful}
use Rattle.passes.proofs.Flags.{by_flag, only_one, down_held, both_up}
use Rattle.bag_rule.specs.declared.view.View.{View}
use Rattle.bag_rule.specs.declared.view.Obstacle.{Obstacle}
use Rattle.bag_rule.specs.Views.{none_kept, without, alone, joined, told}
use Rattle.bag_rule.specs.Seats.{HasWords}
use Rattle.bag_rule.specs.Plays.{Sits}
use Rattle.bag_tries.specs.Seats.{MadeNone}
use Rattle.concurrent_bag.specs.Passes.{LacksMemory}
use Rattle.concurrent_bag.specs.Seats.{BagView, pass_view, the_view, view_of, IsPass}

-- what a pass's view and numbers have in common
pub record Agree (table : TableId) (v : View) (numbers : NumbersView) : Type 0 where
  pub keeps : v.keeps ≡ none_kept
  pub joint : v.joint ≡ None
  pub words : HasWords table v.callers
  pub is_caller : v.caller ≡ numbers.caller
  pub is_callers : v.callers ≡ numbers.callers
  pub is_held : v.held ≡ numbers.held
  pub is_made : v.made ≡ numbers.made
  pub below : HoldsBelow numbers.callers numbers.held

pub agree_of : (badge : Badge View) (v : View) (numbers : NumbersView) → badge.views ≡ v ∷ [] → IsPass badge numbers → Agree badge.table_id v numbers
agree_of badge v numbers is p = subst (λ (z : List View). Agree badge.table_id (the_view z) numbers) is
    record { keeps = p.keeps; joint = p.joint; words = p.words; is_caller = p.is_caller; is_callers = p.is_callers; is_held = p.is_held; is_made = p.is_made; below = p.below }

pub pass_of : (badge : Badge View) (v : View) (numbers : NumbersView) → badge.views ≡ v ∷ [] → Agree badge.table_id v numbers → IsPass badge numbers
pass_of badge v numbers is a =
    let here : the_view badge.views ≡ v = ap the_view is in
    let b = subst (λ (z : View). Agree badge.table_id z numbers) (sym here) a in
    record { one = is ∙ ap (λ (z : View). z ∷ []) (sym here); keeps = b.keeps; joint = b.joint; words = b.words; is_caller = b.is_caller; is_callers = b.is_callers; is_held = b.is_held; is_made = b.is_made; below = b.below }

-- a split
module _ (table : TableId) (v : View) (numbers : NumbersView) (a : Agree table v numbers) (c : ℕ) (has : HasNumber numbers.held c) where
  pub left_agrees : (numbers' : NumbersView) → numbers' ≡ record numbers { held = give numbers.held c } → Agree table (without v c) numbers'
  left_agrees numbers' is = subst (λ (z : NumbersView). Agree table (without v c) z) (sym is) record {
    keeps = a.keeps;
    joint = a.joint;
    words = a.words;
    is_caller = a.is_caller;
    is_callers = a.is_callers;
    is_held = ap (λ (z : List Bool). give z c) a.is_held;
    is_made = a.is_made;
    below = λ d up. a.below d (down_held numbers.held c d up).1;
  }

  pub right_agrees : (numbers' : NumbersView) → numbers' ≡ record numbers { caller = c; held = only c } → Agree table (alone v c) numbers'
  right_agrees numbers' is = subst (λ (z : NumbersView). Agree table (alone v c) z) (sym is) record {
    keeps = a.keeps;
    joint = a.joint;
    words = a.words;
    is_caller = refl;
    is_callers = a.is_callers;
    is_held = refl;
    is_made = a.is_made;
    below = λ d up. subst (λ (z : ℕ). z < numbers.callers) (sym (only_one c d up)) (a.below c has);
  }

-- a join
pub joined_agrees : (table : TableId) (v w : View) (numbers numbers1 numbers' : NumbersView) → Agree table v numbers → Agree table w numbers1
    → numbers' ≡ record numbers { held = held_both numbers.held numbers1.held; made = made_both numbers1.held numbers.made numbers1.made } → Agree table (told (joined v w)) numbers'
joined_agrees table v w numbers numbers1 numbers' a b is = subst (λ (z : NumbersView). Agree table (told (joined v w)) z) (sym is) record {
  keeps = a.keeps;
  joint = refl;
  words = a.words;
  is_caller = a.is_caller;
  is_callers = a.is_callers;
  is_held = λ i. held_both (a.is_held i) (b.is_held i);
  is_made = λ i. made_both (b.is_held i) (a.is_made i) (b.is_made i);
  below = λ c up. by_flag (get_or numbers1.held c false) (λ its. subst (λ (z : ℕ). c < z) same (b.below c its)) (λ down. a.below c (both_up numbers.held numbers1.held c up down));
}
  where
    same : numbers1.callers ≡ numbers.callers
    same = sym b.is_callers ∙ (sym b.words.1 ∙ (a.words.1 ∙ a.is_callers))

-- want of memory: no entry, and no call counted
pub lacks : (pr : Mark → ℕ) (old new : Badge View) (v : View) (m : Sits) → old.views ≡ v ∷ [] → new.views ≡ m.0 ∷ [] → new.table_id ≡ old.table_id → HasNumber v.held v.caller → (read : List Obstacle) → MadeNone pr v read m
    → LacksMemory pr (view_of old) (view_of new)
lacks pr old new v m is is' table own read n =
    subst (λ (z : BagView × BagView). LacksMemory pr z.0 z.1) (λ i. (pass_view old.table_id (the_view (sym is i)), pass_view (sym table i) (the_view (sym is' i)))) (
      record {
        same = record { table = refl; object = refl; callers = n.back.callers; caller = n.back.caller; held = n.back.held; own = subst (λ (z : List Bool × ℕ). HasNumber z.0 z.1) (λ i. (sym n.back.held i, sym n.back.caller i)) own };
        no_entry = record { seen = ([], n.seen ∙ sym (append-nil v.seen), tt); lawful = subst (λ (z : List EntryMark). IsLawful pr object.Bag v.callers z) (sym n.seen) n.lawful };
        counted = (0, uncounted);
        met = (read, n.met);
      },
      (0, omega arith, uncounted),
    )
  where
    uncounted : m.0.made ≡ set v.made v.caller (get_or v.made v.caller 0 + 0)
    uncounted = let e : get_or v.made v.caller 0 ≡ get_or v.made v.caller 0 + 0 = omega arith in n.made ∙ (sym (set-get_or v.made v.caller 0) ∙ ap (set v.made v.caller) e)
