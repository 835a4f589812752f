-- The rule of a word that goes from 0 to 1 once, and what its steps tell.
use Rattle.std.specs.Prelude.{◌≡◌, ℕ, ◌+◌, ◌≤◌, List, slice_index, Bool, true, false, ◌==◌}
use mathlib.Core.Option.{some}
use lib.ListN.{get_elem?}
use Rattle.cancel_flag.specs.declared.rule.View.{View}

abbrev pub source_view : Bool → View
source_view seen = record { is_source = true; has_seen = seen; looks = 0; is_shown = false }

abbrev pub token_view : ℕ → Bool → View
token_view looks seen = record { is_source = false; has_seen = seen; looks = looks; is_shown = false }

abbrev pub the_word : List ℕ → ℕ
the_word words = slice_index words 0

-- what a view knows of the word is so
abbrev pub Knows : View → List ℕ → Type 0
Knows v words = (v.has_seen ≡ true → the_word words ≡ 1) × (v.is_shown ≡ true → the_word words ≡ 1)

-- The word is 0 or 1. It is 1 wherever a view has seen 1, and only where the source's view has.
-- The source, and it alone, sits at seat 0.
pub record IsOneWay (words : List ℕ) (views : List View) : Type 0 where
  pub bit : the_word words ≤ 1
  pub wherever_seen : (seat : ℕ) (v : View) → get_elem? views seat ≡ some v → Knows v words
  pub source : View
  pub seat : get_elem? views 0 ≡ some source
  pub is_source : source.is_source ≡ true
  pub only_where_source_has : the_word words ≡ 1 → source.has_seen ≡ true
  pub no_other_source : (seat : ℕ) (v : View) → get_elem? views seat ≡ some v → v.is_source ≡ true → seat ≡ 0

-- A look by a token: its load counts, and it has seen 1 exactly where it read 1.
abbrev pub LoadsWord : View → List ℕ → List ℕ → View → Type 0
LoadsWord v before after w =
    (w ≡ token_view (v.looks + 1) (the_word before == 1)) × (v.has_seen ≡ true → the_word before ≡ 1)

-- A look by the source: it read 1 exactly where it has seen 1, and only so was it shown a 1.
abbrev pub ReadsBack : View → List ℕ → List ℕ → View → Type 0
ReadsBack v before after w =
    (w ≡ source_view v.has_seen) × ((the_word before == 1) ≡ v.has_seen) × (v.is_shown ≡ true → v.has_seen ≡ true)

-- what the source is shown by a token, and a token by the source
abbrev pub shown : View → View → View
shown v w = record v { is_shown = w.has_seen }

abbrev pub told : View → View → View
told v w = token_view v.looks w.has_seen

-- A cancel: the source has seen the 1 that it left.
abbrev pub LeavesOne : View → List ℕ → List ℕ → View → Type 0
LeavesOne v before after w = w ≡ source_view true
