-- The numbers that a pass holds, as a list of flags, and the calls made under each, as a list of counts.
use Rattle.std.specs.Prelude.{◌≡◌, ◌≢◌, ℕ, ◌+◌, ◌-◌, ◌<◌, ◌++◌, List, [], ◌∷◌, Bool, true, false, slice_index, slice_index_or, slice_set, replicate, count_by, if◌then◌else◌}

-- the number c is among those held
abbrev pub HasNumber : List Bool → ℕ → Type 0
HasNumber held c = slice_index_or held c false ≡ true

-- each number below n is held, so there is no other caller
abbrev pub HasAll : ℕ → List Bool → Type 0
HasAll n held = (c : ℕ) → c < n → HasNumber held c

-- each number that is held is below n
abbrev pub HoldsBelow : ℕ → List Bool → Type 0
HoldsBelow n held = (c : ℕ) → HasNumber held c → c < n

-- a number that is held beside the caller's own
abbrev pub IsSpare : List Bool → ℕ → ℕ → Type 0
IsSpare held caller c = HasNumber held c × (c ≢ caller)

-- no number is in both
abbrev pub AreApart : List Bool → List Bool → Type 0
AreApart held held' = (c : ℕ) → HasNumber held c → ¬ HasNumber held' c

-- how many numbers are held
abbrev pub held_count : List Bool → ℕ
held_count held = count_by (λ flag. flag) held

-- the number c alone
abbrev pub only : ℕ → List Bool
only c = slice_set (replicate 64 false) c true

-- each number below n
abbrev pub first_held : ℕ → List Bool
first_held n = replicate n true ++ replicate (64 - n) false

-- the number c is given away
abbrev pub give : List Bool → ℕ → List Bool
give held c = slice_set held c false

-- the numbers of both
abbrev pub held_both : List Bool → List Bool → List Bool
held_both [] ys = ys
held_both (x ∷ xs) [] = x ∷ xs
held_both (x ∷ xs) (y ∷ ys) = (if y then true else x) ∷ held_both xs ys

-- the second's count of each number that the second holds, and else the first's
abbrev pub made_both : List Bool → List ℕ → List ℕ → List ℕ
made_both [] xs ys = xs
made_both (flag ∷ flags) [] ys = []
made_both (flag ∷ flags) (x ∷ xs) [] = x ∷ xs
made_both (flag ∷ flags) (x ∷ xs) (y ∷ ys) = (if flag then y else x) ∷ made_both flags xs ys

-- one call more of the caller c is counted
abbrev pub raised : List ℕ → ℕ → List ℕ
raised made c = slice_set made c (slice_index made c + 1)

-- What contracts see of the numbers of a pass: the one under which it calls, how many callers its
-- object has, at each number below 64 whether it is held, and how many calls were counted under it.
pub record NumbersView : Type 0 where
  pub caller : ℕ
  pub callers : ℕ
  pub held : List Bool
  pub made : List ℕ

-- those of the first pass of an object: caller 0 holds all numbers, and no call was made
abbrev pub first_numbers : ℕ → NumbersView
first_numbers n = record { caller = 0; callers = n; held = first_held n; made = replicate 64 0 }
