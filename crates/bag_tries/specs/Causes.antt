-- Why a try gave no answer: all that it has read, step by step.
use Rattle.std.specs.Prelude.{◌≡◌, ◌≢◌, ℕ, ◌+◌, ◌<◌, ◌++◌, ◌⊎◌, List, [], ◌∷◌, length, Bool, false, slice_index_or, Contains}
use Rattle.passes.specs.Numbers.{HasAll}
use Rattle.bag_rule.specs.declared.view.Obstacle.{Obstacle}
use Rattle.bag_rule.specs.declared.view.Obstacle.TheVariants.{Held, Bare, Stocked, Event, Missed}

-- the own list was taken at once, without an item or with some
abbrev pub OwnIsFree : ℕ → List Obstacle → Type 0
OwnIsFree caller read = (read ≡ Bare caller ∷ []) ⊎ (read ≡ Stocked caller ∷ [])

-- a pass of the caller, which holds these numbers among those below `callers`
module _ (callers caller : ℕ) (held : List Bool) where
  -- another caller, so that the pass does not hold all numbers
  abbrev pub IsOther : ℕ → Type 0
  IsOther other = (other < callers) × (slice_index_or held other false ≡ false)

  -- others held the own list, each time that it was tried
  abbrev pub AreHeld : List Obstacle → Type 0
  AreHeld [] = Unit {0}
  AreHeld (o ∷ read) = ((other : ℕ) × IsOther other × (o ≡ Held caller other)) × AreHeld read

  module _ (read : List Obstacle) where
    -- another caller held the own list
    abbrev pub OwnIsHeld : Type 0
    OwnIsHeld = (other : ℕ) × IsOther other × (read ≡ Held caller other ∷ [])

    -- the list had no item, or another caller held it
    abbrev pub WasTried : ℕ → Type 0
    WasTried list = Contains read (Bare list) ⊎ ((other : ℕ) × IsOther other × Contains read (Held list other))

    -- each list but the own one was tried, and none twice
    pub record IsRound : Type 0 where
      pub each : (list : ℕ) → list < callers → list ≢ caller → WasTried list
      pub once : length read + 1 ≡ callers

    -- each list but the own one was taken once, and had no item
    pub record IsBareRound : Type 0 where
      pub each : (list : ℕ) → list < callers → list ≢ caller → Contains read (Bare list)
      pub once : length read + 1 ≡ callers

    -- another caller held a list other than the own one
    abbrev pub HasSkipped : Type 0
    HasSkipped = (list : ℕ) × (other : ℕ) × (list < callers) × (list ≢ caller) × IsOther other × Contains read (Held list other)

  -- The own list had no item, the event word showed items, then this round was made, and then this was read.
  pub record WentRound (read round last : List Obstacle) (events : ℕ) : Type 0 where
    pub items : ℕ
    pub some : 0 < items
    pub is : read ≡ Bare caller ∷ Event events items ∷ (round ++ last)

  -- A round skipped a list, and then the event word showed items.
  pub record SkipsAList (read : List Obstacle) : Type 0 where
    pub events : ℕ
    pub round : List Obstacle
    pub tried : IsRound round
    pub skipped : HasSkipped round
    pub later : ℕ
    pub items : ℕ
    pub went : WentRound read round (Event later items ∷ []) events
    pub some : 0 < items

  -- The event word showed no items to a load, and the exchange then found more events. That load was
  -- the first, or the one after a round.
  abbrev pub LosesAtOnce : List Obstacle → ℕ → ℕ → ℕ → Type 0
  LosesAtOnce read events later items = read ≡ Bare caller ∷ Event events 0 ∷ Missed events later items ∷ []

  abbrev pub LosesAfterRound : List Obstacle → ℕ → ℕ → ℕ → Type 0
  LosesAfterRound read events later items = (first : ℕ) × (round : List Obstacle) × IsRound round × WentRound read round (Event events 0 ∷ Missed events later items ∷ []) first

  -- No other list had an item, and yet the event word showed items before and afterwards.
  abbrev pub FindsAllBare : List Obstacle → ℕ → ℕ → ℕ → Type 0
  FindsAllBare read events later items = (round : List Obstacle) × IsBareRound round × WentRound read round (Event later items ∷ []) events × (0 < items)

  -- There were more events after an earlier reading, so another caller has made an entry.
  pub record MissesAnEvent (read : List Obstacle) : Type 0 where
    pub events : ℕ
    pub later : ℕ
    pub items : ℕ
    pub more : events < later
    pub how : LosesAtOnce read events later items ⊎ (LosesAfterRound read events later items ⊎ FindsAllBare read events later items)
    pub others : ¬ HasAll callers held

-- The cause of `Held` in a take: the own list was held, or it had no item and a list was skipped.
abbrev pub TakeIsHeld : ℕ → ℕ → List Bool → List Obstacle → Type 0
TakeIsHeld callers caller held read = OwnIsHeld callers caller held read ⊎ SkipsAList callers caller held read
