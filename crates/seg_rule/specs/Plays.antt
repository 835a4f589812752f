-- What each kind of load tells: of the step, the seat before, the number read and the seat after.
use Rattle.std.specs.Prelude.{◌≡◌, ℕ, ◌+◌, ◌*◌, ◌≤◌, Bool, None, IfSome}
use Rattle.atomic_table.specs.Table.{Me, Step}
use Rattle.ho_base.specs.Marks.{number_priority}
use Rattle.passes.specs.Seen.{IsLawful}
use Rattle.passes.specs.Holders.{Meet}
use Rattle.seg_rule.specs.declared.word.QueueWord.{QueueWord}
use Rattle.seg_rule.specs.declared.word.QueueWord.TheVariants.{Head, Tail}
use Rattle.seg_rule.specs.declared.view.View.{View}
use Rattle.seg_rule.specs.Steps.{joined}
use Rattle.seg_rule.specs.Loads.{begun, loaded, first_moved}
use Rattle.seg_rule.specs.Entering.{EntersFull, EntersEmpty, EntersPeek, EntersCount}
use Rattle.seg_rule.specs.Tells.{Told, TellsWindow, Sees, sees_in_flight}

-- What a load of a word tells that read x: what it read before, that all that the pass has seen is legal, what stands in its window, and the view that it leaves.
pub record Reads (w : QueueWord) (x : ℕ) (v v' : View) : Type 0 where
  pub told : Told w x (begun w v)
  pub lawful : IsLawful number_priority v.object v.callers v.seen
  pub window : IfSome v.window (TellsWindow w x v)
  pub sees : Sees (sees_in_flight w x v) (loaded w x v) v'

abbrev pub looks : QueueWord → Step ℕ → Me ℕ View → ℕ → Me ℕ View → Type 0
looks w st m r m' = Reads w r m.0 m'.0 × (m'.1 ≡ m.1)

-- E where P holds, and else R
abbrev pub Decided : Type 0 → Type 0 → Type 0 → Type 0
Decided P E R = (P → E) × ((P → ⊥) → R)

abbrev pub sees_full : ℕ → ℕ → ℕ → Step ℕ → Me ℕ View → ℕ → Me ℕ View → Type 0
sees_full room y t st m r m' = Decided (r + room ≡ t) (EntersFull m.0 y t m'.0) (Reads Head r m.0 m'.0) × (m'.1 ≡ m.1)

abbrev pub sees_empty : ℕ → ℕ → Bool → Step ℕ → Me ℕ View → ℕ → Me ℕ View → Type 0
sees_empty p h peek st m r m' = Decided (r ≡ 2 * h) (EntersEmpty m.0 h peek m'.0) (Reads (Tail p) r m.0 m'.0) × (m'.1 ≡ m.1)

abbrev pub sees_front : ℕ → ℕ → Step ℕ → Me ℕ View → ℕ → Me ℕ View → Type 0
sees_front h y st m r m' = Decided (r ≡ h) (EntersPeek m.0 h y m'.0) (Reads Head r m.0 m'.0) × (m'.1 ≡ m.1)

abbrev pub sees_count : ℕ → Step ℕ → Me ℕ View → ℕ → Me ℕ View → Type 0
sees_count t st m r m' = EntersCount m.0 t r m'.0 × (r ≤ t) × (m'.1 ≡ m.1)

-- the load after a join tells what the two seats had seen
abbrev pub tells : Step ℕ → Me ℕ View → ℕ → Me ℕ View → Type 0
tells st m r m' = (m' ≡ (record m.0 { joint = None }, m.1)) × IfSome m.0.joint (λ x. Meet x.first_held x.second_held x.first x.second m.0.seen) × IsLawful number_priority m.0.object m.0.callers m.0.seen

-- what that says of the views v and w before
abbrev pub TellsJoin : View → View → Type 0
TellsJoin v w = Meet v.held w.held v.seen w.seen (joined v w).seen × IsLawful number_priority v.object v.callers (joined v w).seen

abbrev pub moves_first : Step ℕ → Me ℕ View → ℕ → Me ℕ View → Type 0
moves_first st m r m' = m' ≡ (first_moved m.0 st.first, m.1)
