-- A pass that is split is two passes, and two that are joined are one.
use Rattle.std.proofs.Common.{◌≡◌, List, [], ◌∷◌, sym, refl, subst}
use Rattle.passes.specs.Numbers.{NumbersView, only, held_both, made_both}
use Rattle.turn_lock.specs.declared.view.View.{View}
use Rattle.turn_lock.specs.declared.view.Turn.TheVariants.{Idle}
use Rattle.turn_lock.specs.Views.{alone, joined, in_turn}
use Rattle.turn_lock.specs.Passes.{IsPass}

-- a pass from its one view, and the view's fields from a pass
pass_of : (views : List View) (v : View) (numbers : NumbersView) → views ≡ v ∷ [] → IsPass (v ∷ []) numbers → IsPass views numbers
pass_of views v numbers is p = subst (λ (l : List View). IsPass l numbers) (sym is) p

fields_of : (views : List View) (v : View) (numbers : NumbersView) → views ≡ v ∷ [] → IsPass views numbers → IsPass (v ∷ []) numbers
fields_of views v numbers is p = subst (λ (l : List View). IsPass l numbers) is p

pub right_pass : (views views' : List View) (v : View) (numbers numbers' : NumbersView) → IsPass views numbers → views ≡ v ∷ [] → views' ≡ alone v numbers'.caller ∷ []
    → numbers' ≡ record numbers { caller = numbers'.caller; held = only numbers'.caller } → IsPass views' numbers'
right_pass views views' v numbers numbers' p one one' is =
    let a = fields_of views v numbers one p in
    subst (λ (x : NumbersView). IsPass views' x) (sym is) (pass_of views' (alone v numbers'.caller) record numbers { caller = numbers'.caller; held = only numbers'.caller } one'
    record { one = refl; idle = refl; is_caller = refl; is_callers = a.is_callers; is_held = refl; is_made = a.is_made })

pub joined_pass : (views views1 views' : List View) (v w : View) (numbers numbers1 numbers' : NumbersView)
    → IsPass views numbers → IsPass views1 numbers1 → views ≡ v ∷ [] → views1 ≡ w ∷ [] → views' ≡ in_turn (joined v w) Idle ∷ []
    → numbers' ≡ record numbers { held = held_both numbers.held numbers1.held; made = made_both numbers1.held numbers.made numbers1.made } → IsPass views' numbers'
joined_pass views views1 views' v w numbers numbers1 numbers' p q one one1 one' is =
    let a = fields_of views v numbers one p in let b = fields_of views1 w numbers1 one1 q in
    subst (λ (x : NumbersView). IsPass views' x) (sym is) (pass_of views' (in_turn (joined v w) Idle) record numbers { held = held_both numbers.held numbers1.held; made = made_both numbers1.held numbers.made numbers1.made } one'
    record {
      one = refl;
      idle = refl;
      is_caller = a.is_caller;
      is_callers = a.is_callers;
      is_held = λ i. held_both (a.is_held i) (b.is_held i);
      is_made = λ i. made_both (b.is_held i) (a.is_made i) (b.is_made i);
    })
