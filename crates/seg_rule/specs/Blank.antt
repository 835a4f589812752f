-- The words of a new table, filled in one after another.
use Rattle.std.specs.Prelude.{◌≡◌, ℕ, ◌*◌, ◌<◌, List, length}
use Rattle.seg_rule.specs.declared.form.Form.{Form}
use Rattle.seg_rule.specs.declared.word.QueueWord.{QueueWord}
use Rattle.seg_rule.specs.declared.word.QueueWord.TheVariants.{Tail, Length, Number, Item}
use Rattle.seg_rule.specs.Words.{words_of, memory}

-- a word that is 0 in a new table
abbrev pub IsZero : QueueWord → Type 0
IsZero (Tail q) = ⊥
IsZero (Length q) = ⊥
IsZero (Number q i) = ⊥
IsZero (Item q i) = ⊥
IsZero _ = Unit {0}

-- the tails of the places from 1 up to `tails` are closed, the lengths of those below `lengths` are the first length, and the first so many slots of place 0 are free for their first positions
pub record IsFilled (f : Form) (tails lengths numbers : ℕ) (words : List ℕ) : Type 0 where
  pub wide : length words ≡ words_of f.places f.slots
  pub zero_words : (w : QueueWord) → IsZero w → memory f.places f.slots words w ≡ 0
  pub open_tail : memory f.places f.slots words (Tail 0) ≡ 0
  pub closed_tails : (q : ℕ) → 0 < q → q < tails → memory f.places f.slots words (Tail q) ≡ 1
  pub first_lengths : (q : ℕ) → q < lengths → memory f.places f.slots words (Length q) ≡ f.first_len
  pub free_slots : (i : ℕ) → i < numbers → memory f.places f.slots words (Number 0 i) ≡ 2 * i
  pub even : (q i : ℕ) → (p : ℕ) × (memory f.places f.slots words (Number q i) ≡ 2 * p)
