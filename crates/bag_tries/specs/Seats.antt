-- What a call leaves of a seat that keeps no list before and after: v is its view before, and m the seat after.
use Rattle.std.specs.Prelude.{◌≡◌, ℕ, ◌++◌, List, [], ◌∷◌, None, slice_set}
use Rattle.ho_base.specs.Marks.{Mark}
use Rattle.ho_model.specs.declared.marks.EntryMark.{EntryMark}
use Rattle.passes.specs.Numbers.{raised}
use Rattle.bag_rule.specs.declared.view.View.{View}
use Rattle.bag_rule.specs.declared.view.Obstacle.{Obstacle}
use Rattle.bag_rule.specs.declared.view.Hand.TheVariants.{Kept}
use Rattle.bag_rule.specs.Views.{none_kept}
use Rattle.bag_rule.specs.Plays.{Sits, Makes, SeesLaw}

-- it keeps no list
abbrev pub IsIdle : Sits → Type 0
IsIdle m = (m.0.keeps ≡ none_kept) × (m.0.joint ≡ None) × (m.1 ≡ [])

-- it keeps the list c alone, its own, in which there is no item
abbrev pub HasOwnBare : Sits → ℕ → Type 0
HasOwnBare m c = (m.0.keeps ≡ slice_set none_kept c (Kept [])) × (m.1 ≡ (c, []) ∷ [])

-- it is the same pass, and idle
pub record IsBack (v : View) (m : Sits) : Type 0 where
  pub idle : IsIdle m
  pub callers : m.0.callers ≡ v.callers
  pub caller : m.0.caller ≡ v.caller
  pub held : m.0.held ≡ v.held

-- it has read this more, and made no entry
pub record HasRead (v w : View) (read : List Obstacle) : Type 0 where
  pub callers : w.callers ≡ v.callers
  pub caller : w.caller ≡ v.caller
  pub held : w.held ≡ v.held
  pub seen : w.seen ≡ v.seen
  pub made : w.made ≡ v.made
  pub met : w.met ≡ v.met ++ read

module _ (priority : Mark → ℕ) (v : View) where
  -- it made one entry, which has this place
  pub record MadeEntry (e : EntryMark) (place : ℕ) (m : Sits) : Type 0 where
    pub back : IsBack v m
    pub others : List EntryMark
    pub makes : Makes priority v others e place
    pub seen : m.0.seen ≡ (v.seen ++ others) ++ e ∷ []
    pub made : m.0.made ≡ raised v.made v.caller
    pub read : List Obstacle
    pub met : m.0.met ≡ v.met ++ read

  -- it made none, and read this
  pub record MadeNone (read : List Obstacle) (m : Sits) : Type 0 where
    pub back : IsBack v m
    pub seen : m.0.seen ≡ v.seen
    pub made : m.0.made ≡ v.made
    pub met : m.0.met ≡ v.met ++ read
    pub lawful : SeesLaw priority v
