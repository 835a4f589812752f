-- A pass of a turn lock, as contracts see it and as its fields make it.
use Rattle.std.specs.Prelude.{◌≡◌, List, [], ◌∷◌}
use Rattle.atomic_table.specs.Seated.{TableId}
use Rattle.passes.specs.Numbers.{NumbersView}
use Rattle.passes.specs.Views.{PassView}
use Rattle.turn_lock.specs.declared.view.View.{View}
use Rattle.turn_lock.specs.declared.view.Obstacle.{Obstacle}
use Rattle.turn_lock.specs.declared.view.Turn.TheVariants.{Idle}
use Rattle.turn_lock.specs.Views.{no_view}

-- what contracts see of it
abbrev pub LockPass : Type 0
LockPass = PassView Obstacle

abbrev pub pass_view : TableId → View → LockPass
pass_view table v = record { table = table; object = v.object; callers = v.callers; caller = v.caller; held = v.held; made = v.made; seen = v.seen; met = v.met }

abbrev pub the_view : List View → View
the_view [] = no_view
the_view (v ∷ views) = v

-- what holds of each pass between calls: its badge has one view, which is idle, and its numbers are those of the view
pub record IsPass (views : List View) (numbers : NumbersView) : Type 0 where
  pub one : views ≡ the_view views ∷ []
  pub idle : (the_view views).turn ≡ Idle
  pub is_caller : (the_view views).caller ≡ numbers.caller
  pub is_callers : (the_view views).callers ≡ numbers.callers
  pub is_held : (the_view views).held ≡ numbers.held
  pub is_made : (the_view views).made ≡ numbers.made
