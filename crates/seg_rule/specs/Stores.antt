-- The stores of one word of a place, by the word.
use Rattle.std.specs.Prelude.{◌≡◌, ℕ, ◌≤◌}
use Rattle.seg_rule.specs.declared.word.QueueWord.{QueueWord}
use Rattle.seg_rule.specs.declared.word.QueueWord.TheVariants.{Start, Length, Done, Next, Segment, Number}
use Rattle.seg_rule.specs.declared.form.Form.{Form}
use Rattle.seg_rule.specs.declared.view.View.{View}
use Rattle.seg_rule.specs.declared.view.Stage.{Stage}
use Rattle.seg_rule.specs.declared.view.Stage.TheVariants.{Preparing, Opened}
use Rattle.seg_rule.specs.Steps.{begun_stage, more_stage, linked_stage, MayBegin, MayNumber, MayShow}

-- the pass is at the store of this word, with this value
abbrev pub MayStore : Form → QueueWord → ℕ → View → Type 0
MayStore f (Length p) x v = (2 ≤ x) × (x ≤ f.slots) × MayBegin f.first_len v p x
MayStore f (Start p) x v = (d n : ℕ) × (v.stage ≡ Preparing d p x n 1)
MayStore f (Done p) x v = (x ≡ 0) × ((d t n : ℕ) × (v.stage ≡ Preparing d p t n 2))
MayStore f (Segment p) x v = MayNumber v p x
MayStore f (Number p i) x v = MayShow v p i x
MayStore f (Next p) x v = (t : ℕ) × (v.stage ≡ Opened p x t)
MayStore f _ x v = ⊥

abbrev pub stage_by : QueueWord → ℕ → Stage → Stage
stage_by (Length p) x s = begun_stage x s
stage_by (Next p) x s = linked_stage s
stage_by _ x s = more_stage s
