-- The machine under the turn, and what a turn leaves of a view.
use Rattle.std.proofs.Common.{◌≡◌, ℕ, List, [], ◌∷◌, sym, ap, ◌∙◌, subst}
use Rattle.atomic_table.specs.Table.{Me, rest}
use Rattle.ho_base.specs.Marks.{Mark}
use Rattle.ho_model.specs.declared.marks.EntryMark.{EntryMark}
use Rattle.ho_model.specs.declared.marks.Tally.{Tally}
use Rattle.ho_model.specs.declared.objects.Object.{Object}
use Rattle.ho_model.specs.Objects.{State}
use Rattle.ho_model.specs.Histories.{StandsFor}
use Rattle.turn_lock.specs.declared.view.View.{View}
use Rattle.turn_lock.specs.declared.view.Turn.TheVariants.{Idle, Looked}
use Rattle.turn_lock.specs.Views.{in_turn, counted}
use Rattle.turn_lock.specs.Plays.{Got}
use Rattle.turn_lock.specs.Turns.{GaveUp}

pub rest_is : {S : Type 0} (m : List (ℕ × S)) (x : S) → m ≡ (0, x) ∷ [] → rest m ≡ []
rest_is m x is = ap rest is

module _ {S : Type 0} (pr : Mark → ℕ) (object : S → Object) (callers : S → ℕ) (state : S → State) (steps : S → ℕ) (tally : S → Tally) (o : Object) (n : ℕ) where
  abbrev first_slot : S → List (ℕ × S) → S
  first_slot d [] = d
  first_slot d (x ∷ xs) = x.1

  -- the machine that is lent is the one that the seat has
  pub stands_lent : (m more : List (ℕ × S)) (x y : S) (h : List EntryMark) → m ≡ (0, x) ∷ [] → m ≡ (0, y) ∷ more → StandsFor pr object callers state steps tally o n x h → StandsFor pr object callers state steps tally o n y h
  stands_lent m more x y h is also s = subst (λ (z : S). StandsFor pr object callers state steps tally o n z h) (ap (first_slot x) (sym is ∙ also)) s

module _ {S : Type 0} (pr : Mark → ℕ) (stands : Object → ℕ → S → List EntryMark → Type 0) where
  -- a turn that was given back with no entry
  pub gives_up : (v : View) (t w : Me S View) (k : ℕ) (c : List (ℕ × S)) → Got pr stands (counted v) c k t → w ≡ (in_turn t.0 Idle, []) → GaveUp pr v w.0
  gives_up v t w k c won left = (won.1, won.3, won.7, ap (λ (m : Me S View). m.0) left ∙ ap (λ (m : Me S View). in_turn m.0 Idle) won.2)

  pub got_object : (v : View) (t : Me S View) (k : ℕ) (c : List (ℕ × S)) → Got pr stands (counted v) c k t → t.0.object ≡ v.object
  got_object v t k c won = ap (λ (m : Me S View). m.0.object) won.2

  -- the same after a look
  pub got_looked : (v : View) (l t : Me S View) (k : ℕ) (c : List (ℕ × S)) → l ≡ (in_turn v (Looked k), c) → Got pr stands (counted l.0) l.1 k t → Got pr stands (counted v) c k t
  got_looked v l t k c looked won = subst (λ (z : Me S View). Got pr stands (counted z.0) z.1 k t) looked won
