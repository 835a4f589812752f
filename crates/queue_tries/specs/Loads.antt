-- A load by a pass that has no window.
use Rattle.std.specs.Prelude.{ℕ, ◌++◌}
use Rattle.ho_base.specs.Marks.{number_priority}
use Rattle.passes.specs.Seen.{IsLawful}
use Rattle.seg_rule.specs.declared.word.QueueWord.{QueueWord}
use Rattle.seg_rule.specs.declared.view.View.{View}
use Rattle.seg_rule.specs.Loads.{begun, obstacles, noted, hand_after, stage_after}
use Rattle.seg_rule.specs.Tells.{Told, Sees, sees_in_flight}

-- what a load leaves then
abbrev pub told_alone : QueueWord → ℕ → View → View
told_alone w x v = record v {
  met = v.met ++ obstacles v.stage w x v.notes;
  notes = noted v.stage w x v.notes;
  hand = hand_after w x v.hand;
  stage = stage_after w x v.notes v.stage;
}

pub record ReadsAlone (w : QueueWord) (x : ℕ) (v v' : View) : Type 0 where
  pub told : Told w x (begun w v)
  pub lawful : IsLawful number_priority v.object v.callers v.seen
  pub sees : Sees (sees_in_flight w x v) (told_alone w x (begun w v)) v'
