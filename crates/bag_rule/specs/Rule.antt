-- The rule of the bag's table. While the word of a list is 0 its slot has the list; else the seat whose
-- caller the word names keeps it.
use Rattle.std.specs.Prelude.{◌≡◌, ◌≢◌, ℕ, suc, ◌<◌, ◌≤◌, ◌⊎◌, ◌^◌, List, [], length, sum, true, false, slice_index, slice_index_or, Some, None, Option}
use mathlib.Core.Option.{some}
use lib.ListN.{get_elem?}
use Rattle.atomic_table.specs.Table.{State}
use Rattle.ho_base.specs.Marks.{Mark}
use Rattle.ho_model.specs.declared.marks.EntryMark.{EntryMark}
use Rattle.ho_model.specs.declared.objects.Object.TheVariants.{Bag}
use Rattle.ho_model.specs.Bag.{Lists, list_of, item_count}
use Rattle.ho_model.specs.Objects.{BagState}
use Rattle.ho_model.specs.Histories.{state_after}
use Rattle.passes.specs.Numbers.{HasNumber}
use Rattle.passes.specs.Seen.{AreBelow}
use Rattle.passes.specs.Holders.{Holder, Meet}
use Rattle.bag_rule.specs.declared.view.View.{View}
use Rattle.bag_rule.specs.declared.view.Joint.{Joint}
use Rattle.bag_rule.specs.declared.view.Hand.TheVariants.{Kept}
use Rattle.bag_rule.specs.Words.{AreWords, event_word}
use Rattle.bag_rule.specs.Views.{hand_at, IsKept}

-- a table whose slots have lists of items
abbrev pub Lain : Type 0
Lain = State (List Mark) View

abbrev pub JointFact : List EntryMark → Option Joint → Type 0
JointFact seen None = Unit {0}
JointFact seen (Some j) = Meet j.first_held j.second_held j.first j.second seen

-- A seat that keeps the list c is its one keeper and holds its caller's number, the word is not 0, and
-- the bag has these items there.
abbrev pub Has : ℕ → List ℕ → Lists → (ℕ → ℕ) → ℕ → View → ℕ → List Mark → Type 0
Has n locks lists keeper seat v c items = (c < n) × (keeper c ≡ seat) × (slice_index locks c ≢ 0) × (list_of lists c ≡ items) × HasNumber v.held v.caller

pub record Knows (n : ℕ) (log : List EntryMark) (lists : Lists) (locks made : List ℕ) (owner keeper : ℕ → ℕ) (seat : ℕ) (v : View) : Type 0 where
  pub of_callers : v.callers ≡ n
  pub wide : length v.keeps ≡ 64
  pub holder : Holder n log made owner seat v.held v.made v.seen
  pub keeps : (c : ℕ) (items : List Mark) → hand_at v c ≡ Kept items → Has n locks lists keeper seat v c items
  -- the first load of a take was not later than now; with no event since, the lists found bare are bare
  pub begun : v.since ≤ length log
  pub bare : v.since ≡ length log → (c : ℕ) → slice_index_or v.bare c false ≡ true → list_of lists c ≡ []
  -- nor was the last load; with no event since, there are as many items
  pub late : v.events ≤ length log
  pub last : v.events ≡ length log → v.items ≡ item_count lists
  pub joint : JointFact v.seen v.joint

-- the seat keeps the list c, and its caller is named
abbrev pub Names : List ℕ → ℕ → View → Type 0
Names locks c v = (slice_index locks c ≡ suc v.caller) × IsKept (hand_at v c)

-- the list c is at home
abbrev pub AtHome : Lain → Lists → List ℕ → ℕ → Type 0
AtHome s lists locks c = (slice_index locks c ≡ 0) × (get_elem? s.homes c ≡ some (some (list_of lists c)))

-- or out with its keeper
abbrev pub IsOut : Lain → List ℕ → (ℕ → ℕ) → ℕ → Type 0
IsOut s locks keeper c = (v : View) × (get_elem? s.views (keeper c) ≡ some v) × Names locks c v

pub record Stands (priority : Mark → ℕ) (n : ℕ) (s : Lain) : Type 0 where
  pub log : List EntryMark
  pub lists : Lists
  pub locks : List ℕ
  pub made : List ℕ
  pub owner : ℕ → ℕ
  pub keeper : ℕ → ℕ
  pub words : AreWords s.words (event_word (length log) lists) locks
  pub wide : (length locks ≡ n) × (length lists ≡ 64) × (length s.homes ≡ n)
  pub small : n ≤ 64
  pub state : state_after priority Bag log ≡ Some (BagState lists)
  pub below : AreBelow n log
  -- events are bounded by the calls that were counted, and each caller's calls by its limit
  pub sized : length made ≡ n
  pub few : length log ≤ sum made
  pub each : (c : ℕ) → slice_index made c ≤ 2 ^ 37
  -- items are bounded by the limit of a list
  pub within : (c : ℕ) → length (list_of lists c) ≤ 16383
  pub beyond : (c : ℕ) → n ≤ c → list_of lists c ≡ []
  pub place : (c : ℕ) → c < n → AtHome s lists locks c ⊎ IsOut s locks keeper c
  pub knows : (j : ℕ) (v : View) → get_elem? s.views j ≡ some v → Knows n log lists locks made owner keeper j v
