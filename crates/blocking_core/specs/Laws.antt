-- The law of completion.
use Rattle.std.specs.Prelude.{◌≡◌, ℕ, Option, Some, Bool, true, IsTrue, ◌↔◌}
use Rattle.ho_base.specs.Marks.{Mark}
use Rattle.ho_model.specs.declared.objects.Store.{Store}
use Rattle.ho_model.specs.declared.objects.Object.TheVariants as object
use Rattle.ho_model.specs.declared.marks.CallMark.TheVariants.{Completed}
use Rattle.ho_model.specs.declared.marks.ReplyMark.TheVariants.{Flag}
use Rattle.ho_model.specs.Entries.{entry}
use Rattle.ho_model.specs.Bag.{item_count}
use Rattle.ho_model.specs.Blocking as blocking
use Rattle.ho_model.specs.Objects.{State, BlockingState, object_step}

-- adding has ended, and there is no item
abbrev pub HasEnded : blocking.Blocking → Type 0
HasEnded b = (b.closed ≡ true) × (item_count b.lists ≡ 0)

-- a collection that takes the entry `Completed` with this reply was ended exactly where that is yes
abbrev pub CompletedIsExact : Type 0
CompletedIsExact =
    (priority : Mark → ℕ) (store : Store) (bound : Option ℕ) (before : blocking.Blocking) (after : State) (caller : ℕ) (told : Bool)
    → object_step priority (object.Blocking store bound) (BlockingState before) (entry caller Completed (Flag told)) ≡ Some after
    → IsTrue told ↔ HasEnded before
