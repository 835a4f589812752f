-- What contracts see of the pass of a bag of local lists, and how its fields make it.
use Rattle.std.specs.Prelude.{◌≡◌, List, [], ◌∷◌, None}
use Rattle.atomic_table.specs.Seated.{TableId}
use Rattle.atomic_table.specs.declared.badge.Badge.{Badge}
use Rattle.ho_model.specs.declared.objects.Object.TheVariants as object
use Rattle.passes.specs.Numbers.{NumbersView, HoldsBelow}
use Rattle.passes.specs.Views.{PassView}
use Rattle.bag_rule.specs.declared.view.View.{View}
use Rattle.bag_rule.specs.declared.view.Obstacle.{Obstacle}
use Rattle.bag_rule.specs.Views.{none_kept, no_view}
use Rattle.bag_rule.specs.Seats.{HasWords}

abbrev pub BagView : Type 0
BagView = PassView Obstacle

abbrev pub pass_view : TableId → View → BagView
pass_view table v = record { table = table; object = object.Bag; callers = v.callers; caller = v.caller; held = v.held; made = v.made; seen = v.seen; met = v.met }

abbrev pub the_view : List View → View
the_view [] = no_view
the_view (v ∷ views) = v

abbrev pub view_of : Badge View → BagView
view_of badge = pass_view badge.table_id (the_view badge.views)

-- What holds of each pass between calls: its badge has one view, which keeps no list, its numbers are
-- those of the view, and each is below the number of callers of its table.
pub record IsPass (badge : Badge View) (numbers : NumbersView) : Type 0 where
  pub one : badge.views ≡ the_view badge.views ∷ []
  pub keeps : (the_view badge.views).keeps ≡ none_kept
  pub joint : (the_view badge.views).joint ≡ None
  pub words : HasWords badge.table_id (the_view badge.views).callers
  pub is_caller : (the_view badge.views).caller ≡ numbers.caller
  pub is_callers : (the_view badge.views).callers ≡ numbers.callers
  pub is_held : (the_view badge.views).held ≡ numbers.held
  pub is_made : (the_view badge.views).made ≡ numbers.made
  pub below : HoldsBelow numbers.callers numbers.held
