-- All lists in one hand.
use Rattle.std.specs.Prelude.{◌≡◌, ℕ, suc, zero, ◌<◌, ◌++◌, List, [], ◌∷◌, map, slice_set, None}
use Rattle.ho_base.specs.Marks.{Mark, number_of}
use Rattle.bag_rule.specs.declared.view.View.{View}
use Rattle.bag_rule.specs.declared.view.Hand.{Hand}
use Rattle.bag_rule.specs.declared.view.Hand.TheVariants.{Kept}
use Rattle.bag_rule.specs.declared.view.Obstacle.{Obstacle}
use Rattle.bag_rule.specs.Views.{none_kept}
use Rattle.bag_rule.specs.Plays.{Sits, GotList, SeesLaw}
use Rattle.bag_tries.specs.Seats.{HasRead}

-- the first n lists were taken, one after another
abbrev pub AreFirst : ℕ → List (ℕ × List Mark) → Type 0
AreFirst zero [] = Unit {0}
AreFirst (suc n) (list ∷ lists) = (list.0 ≡ n) × AreFirst n lists
AreFirst _ _ = ⊥

-- what a view keeps that keeps just these
abbrev pub hands_of : List (ℕ × List Mark) → List Hand
hands_of [] = none_kept
hands_of (list ∷ lists) = slice_set (hands_of lists) list.0 (Kept list.1)

-- the numbers of their items, the list taken first at the front
abbrev pub numbers_of : List (ℕ × List Mark) → List ℕ
numbers_of [] = []
numbers_of (list ∷ lists) = numbers_of lists ++ map number_of list.1

-- the seat keeps the first n lists and no other
abbrev pub KeepsFirst : Sits → ℕ → Type 0
KeepsFirst m n = AreFirst n m.1 × (m.0.keeps ≡ hands_of m.1)

module _ (priority : Mark → ℕ) where
  -- a list was got, after tries in vain
  abbrev pub GotAtLast : View → List (ℕ × List Mark) → ℕ → Sits → Type 0
  GotAtLast v carried list w = (read : List Obstacle) × GotList priority (record v { met = v.met ++ read }) carried list w

  -- the first n lists were got by a seat that kept none
  pub record Gathers (v : View) (m : Sits) (n : ℕ) : Type 0 where
    pub keeps : KeepsFirst m n
    pub joint : m.0.joint ≡ None
    pub lawful : 0 < n → SeesLaw priority v
    pub read : List Obstacle
    pub has_read : HasRead v m.0 read

-- all lists were given back
pub record Released (m w : Sits) : Type 0 where
  pub keeps : w.0.keeps ≡ none_kept
  pub carries : w.1 ≡ []
  pub joint : w.0.joint ≡ m.0.joint
  pub has_read : HasRead m.0 w.0 []
