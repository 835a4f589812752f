-- What a try of a take tells.
use Rattle.std.specs.Prelude.{◌≡◌, ℕ, ◌+◌, ◌-◌, ◌<◌, ◌++◌, ◌⊎◌, List, [], ◌∷◌, length, take, drop, slice_set, Bool, true, false, slice_index_or, Contains, nat_lt, if◌then◌else◌}
use Rattle.atomic_table.specs.Table.{rest}
use Rattle.ho_base.specs.Marks.{Mark}
use Rattle.ho_model.specs.declared.marks.EntryMark.{EntryMark}
use Rattle.ho_model.specs.declared.marks.CallMark.TheVariants.{Take}
use Rattle.ho_model.specs.declared.marks.ReplyMark.TheVariants as reply
use Rattle.ho_model.specs.Entries.{entry}
use Rattle.passes.specs.Numbers.{raised}
use Rattle.bag_rule.specs.declared.view.View.{View}
use Rattle.bag_rule.specs.declared.view.Obstacle.{Obstacle}
use Rattle.bag_rule.specs.declared.view.Obstacle.TheVariants as obstacle
use Rattle.bag_rule.specs.Views.{left_list, changed}
use Rattle.bag_rule.specs.Plays.{Sits, Makes, SeesAll}
use Rattle.bag_rule.specs.Seats.{front_of}
use Rattle.bag_tries.specs.Causes.{IsOther, WasTried, HasSkipped, TakeIsHeld, SkipsAList, MissesAnEvent}
use Rattle.bag_tries.specs.Seats.{MadeEntry, MadeNone}
use Rattle.bag_tries.specs.declared.searches.Search.{Search}
use Rattle.bag_tries.specs.declared.searches.Search.TheVariants as search
use Rattle.bag_tries.specs.declared.searches.Round.{Round}
use Rattle.bag_tries.specs.declared.searches.Round.TheVariants as round
use Rattle.bag_tries.specs.declared.takes.TakeTry.{TakeTry}
use Rattle.bag_tries.specs.declared.takes.TakeTry.TheVariants as tries

-- a seat that has read more, and found lists without an item
abbrev pub wandered : View → List Obstacle → List Bool → View
wandered v read bare = record v { met = v.met ++ read; bare = bare }

-- and has made an entry
abbrev pub robbed : View → List Obstacle → List Bool → List EntryMark → EntryMark → View
robbed v read bare others e = record (wandered v read bare) { seen = (v.seen ++ others) ++ e ∷ []; made = raised v.made v.caller }

-- the k-th list behind the own one, of n in a ring
abbrev pub other_list : ℕ → ℕ → ℕ → ℕ
other_list own k n = if nat_lt (own + k) n then own + k else (own + k) - n

-- the first lists behind the own one c, up to the k-th, were tried; those found without an item are flagged
pub record Went (c : ℕ) (v w : View) (n k : ℕ) (skipped : Bool) : Type 0 where
  pub read : List Obstacle
  pub bare : List Bool
  pub is : w ≡ wandered v read bare
  pub wide : length bare ≡ 64
  pub once : length read + 1 ≡ k
  pub tried : (j : ℕ) → 0 < j → j < k → WasTried v.callers c v.held read (other_list c j n)
  pub all_bare : skipped ≡ false → (j : ℕ) → 0 < j → j < k → (slice_index_or bare (other_list c j n) false ≡ true) × Contains read (obstacle.Bare (other_list c j n))
  pub one_held : skipped ≡ true → HasSkipped v.callers c v.held read

-- c is the caller
module _ {T : Type 0} (priority : Mark → ℕ) (mark : T → Mark) (c : ℕ) where
  abbrev pub item_entry : T → ℕ → EntryMark
  item_entry item from = entry c Take (reply.ItemFrom (mark item) from)

  abbrev pub bare_entry : EntryMark
  bare_entry = entry c Take reply.Empty

  -- the last item of the own list, which is in hand and is then given back
  abbrev pub KeptTakes : Sits → Sits → T × ℕ → Type 0
  KeptTakes m w (item, place) =
      let e = item_entry item c in
      (others : List EntryMark) × (w ≡ (left_list (changed m.0 others e c (take (length (front_of m.1) - 1) (front_of m.1))) c, rest m.1)) × Makes priority m.0 others e place

  -- the first item of another list, which is in hand and is then given back
  abbrev pub KeptSteals : Sits → ℕ → Sits → T × ℕ → Type 0
  KeptSteals m list w (item, place) =
      let e = item_entry item list in
      (others : List EntryMark) × (w ≡ (left_list (changed m.0 others e list (drop 1 (front_of m.1))) list, rest m.1)) × Makes priority m.0 others e place

  -- an item was taken out of a list; the seat keeps what it kept
  abbrev pub Steals : Sits → ℕ → T → ℕ → Sits → Type 0
  Steals m list item place w =
      let e = item_entry item list in
      (read : List Obstacle) × (bare : List Bool) × (others : List EntryMark) × (w ≡ (robbed m.0 read bare others e, m.1)) × Makes priority m.0 others e place

  -- one other list
  abbrev pub Searches : Sits → ℕ → Sits → Search T → Type 0
  Searches m list w (search.Stolen item place) = Steals m list item place w
  Searches m list w search.Bare = w ≡ (wandered m.0 (obstacle.Bare list ∷ []) (slice_set m.0.bare list true), m.1)
  Searches m list w search.Held = (other : ℕ) × IsOther m.0.callers c m.0.held other × (w ≡ (wandered m.0 (obstacle.Held list other ∷ []) m.0.bare, m.1))

  -- all other lists of n, or up to one that has an item
  abbrev pub Rounds : Sits → ℕ → Sits → Round T → Type 0
  Rounds m n w (round.Stolen from item place) = Steals m from item place w
  Rounds m n w round.Bare = Went c m.0 w.0 n n false × (w.1 ≡ m.1)
  Rounds m n w round.Skipped = Went c m.0 w.0 n n true × (w.1 ≡ m.1)

  -- the event word showed no items
  abbrev pub FindsEmpty : View → Sits → TakeTry T → Type 0
  FindsEmpty v m (tries.Empty place) = MadeEntry priority v bare_entry place m
  FindsEmpty v m tries.Lost = (later : ℕ) × (items : ℕ) × MadeNone priority v (obstacle.Missed v.events later items ∷ []) m × (v.events < later) × SeesAll v later
  FindsEmpty v m _ = ⊥

  -- after a round: a load which showed items, although no list was skipped
  abbrev pub SettlesBare : View → Bool → Sits → ℕ → ℕ → Type 0
  SettlesBare v skipped m later items = (skipped ≡ false) × MadeNone priority v (obstacle.Event later items ∷ []) m × (v.since < later) × (0 < items)

  -- or one which showed none, and an exchange
  abbrev pub SettlesMissed : View → Sits → ℕ → ℕ → Type 0
  SettlesMissed v m later items = (events : ℕ) × MadeNone priority v (obstacle.Event events 0 ∷ obstacle.Missed events later items ∷ []) m × (events < later) × SeesAll v events

  abbrev pub Settles : View → Bool → Sits → TakeTry T → Type 0
  Settles v skipped m (tries.Empty place) = MadeEntry priority v bare_entry place m
  Settles v skipped m tries.Held = (skipped ≡ true) × (events : ℕ) × (items : ℕ) × MadeNone priority v (obstacle.Event events items ∷ []) m × (0 < items)
  Settles v skipped m tries.Lost = (later : ℕ) × (items : ℕ) × SeesAll v later × (SettlesBare v skipped m later items ⊎ SettlesMissed v m later items)
  Settles v skipped m (tries.Item from item place) = ⊥

  -- while the own list is kept, which was found without an item
  abbrev pub GoesRound : View → Sits → TakeTry T → Type 0
  GoesRound v m (tries.Item from item place) = MadeEntry priority v (item_entry item from) place m
  GoesRound v m (tries.Empty place) = MadeEntry priority v bare_entry place m
  GoesRound v m tries.Held = (read : List Obstacle) × MadeNone priority v read m × SkipsAList v.callers c v.held (obstacle.Bare c ∷ read)
  GoesRound v m tries.Lost = (read : List Obstacle) × MadeNone priority v read m × MissesAnEvent v.callers c v.held (obstacle.Bare c ∷ read)

  -- one try
  abbrev pub TryTakes : View → Sits → TakeTry T → Type 0
  TryTakes v m (tries.Item from item place) = MadeEntry priority v (item_entry item from) place m
  TryTakes v m (tries.Empty place) = MadeEntry priority v bare_entry place m
  TryTakes v m tries.Held = (read : List Obstacle) × MadeNone priority v read m × TakeIsHeld v.callers c v.held read
  TryTakes v m tries.Lost = (read : List Obstacle) × MadeNone priority v read m × MissesAnEvent v.callers c v.held read

  -- tries up to the first that made its entry
  abbrev pub EndsTakes : View → Sits → TakeTry T → Type 0
  EndsTakes v m (tries.Item from item place) = MadeEntry priority v (item_entry item from) place m
  EndsTakes v m (tries.Empty place) = MadeEntry priority v bare_entry place m
  EndsTakes v m _ = ⊥
