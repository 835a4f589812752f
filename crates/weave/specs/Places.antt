-- Histories whose receipts are places.
use Rattle.std.specs.Prelude.{◌≡◌, ◌⊎◌, ◌+◌, ◌<◌, ◌≤◌, ℕ, List, [], ◌∷◌, slice_get, Some}
use Rattle.ho_base.specs.declared.receipts.Receipt.TheVariants.{Place}
use Rattle.weave.specs.declared.made.Made.{Made}
use Rattle.weave.specs.Parts.{PartMade, Told, OfDifferentCallers, HasParts}

-- the receipt of each call is the number of calls before it
abbrev pub AreAtPlaces : List Told → Type 0
AreAtPlaces told = (k : ℕ) (t : Told) → slice_get told k ≡ Some t → t.made.receipt ≡ Place k

-- a history with just these parts and places
pub record IsPlaced (parts : List PartMade) (told : List Told) : Type 0 where
  pub has : HasParts parts told
  pub places : AreAtPlaces told

-- places that rise, from a number on
abbrev pub Rise : ℕ → List Made → Type 0
Rise from [] = Unit {0}
Rise from (m ∷ ms) = (k : ℕ) × (m.receipt ≡ Place k) × (from ≤ k) × Rise (k + 1) ms

-- one of the calls has this place
abbrev pub HasPlace : ℕ → List Made → Type 0
HasPlace place [] = ⊥
HasPlace place (m ∷ ms) = (m.receipt ≡ Place place) ⊎ HasPlace place ms

-- the receipts are places that rise within each part, and they are the numbers from the first up to the
-- second, each once
pub record TakePlaces (from count : ℕ) (parts : List PartMade) : Type 0 where
  pub rise : (i : ℕ) (p : PartMade) → slice_get parts i ≡ Some p → Rise from p.made
  pub below : (i : ℕ) (p : PartMade) → slice_get parts i ≡ Some p → (k : ℕ) → HasPlace k p.made → k < count
  pub each : (k : ℕ) → from ≤ k → k < count → (i : ℕ) × (p : PartMade) × (slice_get parts i ≡ Some p) × HasPlace k p.made
  pub once : (k i j : ℕ) (p q : PartMade) → slice_get parts i ≡ Some p → slice_get parts j ≡ Some q → HasPlace k p.made → HasPlace k q.made → i ≡ j

-- such parts, from 0 on, have a history at their places
abbrev pub PlacesMakeHistories : Type 0
PlacesMakeHistories = (count : ℕ) (parts : List PartMade) → OfDifferentCallers parts → TakePlaces 0 count parts → (told : List Told) × IsPlaced parts told
