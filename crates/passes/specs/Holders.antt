-- What the rule of an object says of each pass, whatever the object's words are.
use Rattle.std.specs.Prelude.{◌≡◌, ℕ, ◌<◌, List, Bool, length, slice_index, slice_index_or, ◌==◌, false, if◌then◌else◌}
use Rattle.ho_model.specs.declared.marks.EntryMark.{EntryMark}
use Rattle.passes.specs.Numbers.{HasNumber, AreApart}
use Rattle.passes.specs.Seen.{SeesOthers}

-- n is the number of callers, log the history, made the count of each caller's calls, and owner names the seat that holds a number. The pass at this seat holds these numbers, with these counts, and has seen this
pub record Holder (n : ℕ) (log : List EntryMark) (made : List ℕ) (owner : ℕ → ℕ) (seat : ℕ) (held : List Bool) (counts : List ℕ) (seen : List EntryMark) : Type 0 where
  pub behind : SeesOthers held seen log
  pub owns : (c : ℕ) → HasNumber held c → (owner c ≡ seat) × (c < n)
  pub agrees : (c : ℕ) → HasNumber held c → slice_index counts c ≡ slice_index made c
  pub wide : length counts ≡ 64

-- two passes had no number in common, and each one's list begins the later one, which goes on with entries of callers other than its own
pub record Meet (held held' : List Bool) (seen seen' later : List EntryMark) : Type 0 where
  pub first : SeesOthers held seen later
  pub second : SeesOthers held' seen' later
  pub apart : AreApart held held'

-- the number c goes to a fresh seat
abbrev pub split_owner : (ℕ → ℕ) → ℕ → ℕ → ℕ → ℕ
split_owner owner c fresh d = if d == c then fresh else owner d

-- the numbers held go to the seat
abbrev pub join_owner : (ℕ → ℕ) → List Bool → ℕ → ℕ → ℕ
join_owner owner held seat d = if slice_index_or held d false then seat else owner d
