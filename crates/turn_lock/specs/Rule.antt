-- The rule of the turn lock's table. One word is the next ticket, one the number that is served, and
-- one the length of the history. The one slot has the machine while no seat has the turn.
use Rattle.std.specs.Prelude.{◌≡◌, ℕ, ◌+◌, ◌<◌, ◌≤◌, ◌⊎◌, ◌^◌, List, [], ◌∷◌, length, slice_index, sum, All}
use mathlib.Core.Option.{Option, some}
use lib.ListN.{get_elem?}
use Rattle.atomic_table.specs.Table.{State}
use Rattle.ho_base.specs.Marks.{Mark}
use Rattle.ho_model.specs.declared.marks.EntryMark.{EntryMark}
use Rattle.ho_model.specs.declared.objects.Object.{Object}
use Rattle.passes.specs.Numbers.{HasNumber}
use Rattle.passes.specs.Seen.{IsLawful}
use Rattle.passes.specs.Holders.{Holder, Meet}
use Rattle.turn_lock.specs.declared.view.View.{View}
use Rattle.turn_lock.specs.declared.view.Obstacle.{Obstacle}
use Rattle.turn_lock.specs.declared.view.Turn.{Turn}
use Rattle.turn_lock.specs.declared.view.Turn.TheVariants.{Idle, Looked, Drawn, Holds, Entered, Joined}
use Rattle.turn_lock.specs.Views.{HasTicket, HasTurn, IsWhole}

-- fifteen words of no meaning, so that callers that try for a ticket do not write to the cache line
-- of the words that the holder of the turn writes
abbrev pub gap : List ℕ → List ℕ
gap words = 0 ∷ 0 ∷ 0 ∷ 0 ∷ 0 ∷ 0 ∷ 0 ∷ 0 ∷ 0 ∷ 0 ∷ 0 ∷ 0 ∷ 0 ∷ 0 ∷ 0 ∷ words

abbrev pub spaced : ℕ → ℕ → ℕ → List ℕ
spaced ticket serving count = ticket ∷ gap (serving ∷ count ∷ [])

-- What the rule says of a seat's turn. `server` names the seat that has a ticket; `active` says that
-- the seat holds the number of its own caller, and `whole` that it holds all. A seat without the turn
-- has seen no more entries than turns are over.
module _ (serving ticket : ℕ) (log : List EntryMark) (server : ℕ → ℕ) (seat : ℕ) (seen : List EntryMark) (active whole : Type 0) where
  abbrev pub TurnFact : Turn → Type 0
  TurnFact Idle = length seen ≤ serving
  TurnFact (Looked r) = (r ≤ serving) × (whole → r ≡ serving) × (length seen ≤ r)
  TurnFact (Drawn k) = (serving ≤ k) × (k < ticket) × (server k ≡ seat) × active × (length seen ≤ serving)
  TurnFact (Holds k) = (k ≡ serving) × (k < ticket) × (server k ≡ seat) × active × (seen ≡ log) × (length log ≤ k)
  TurnFact (Entered k) = (k ≡ serving) × (k < ticket) × (server k ≡ seat) × active × (seen ≡ log) × (length log ≤ k + 1)
  TurnFact (Joined first second held held') = Meet held held' first second seen × (length seen ≤ serving)

-- an obstacle whose numbers the words once had: the serving number below the ticket number
abbrev pub WasOut : ℕ → ℕ → Obstacle → Type 0
WasOut serving ticket o = (o.serving < o.ticket) × (o.serving ≤ serving) × (o.ticket ≤ ticket)

pub record Knows (o : Object) (n serving ticket : ℕ) (log : List EntryMark) (made : List ℕ) (owner server : ℕ → ℕ) (seat : ℕ) (v : View) : Type 0 where
  pub of_object : v.object ≡ o
  pub of_callers : v.callers ≡ n
  pub holder : Holder n log made owner seat v.held v.made v.seen
  pub obstacles : All (WasOut serving ticket) v.met
  pub at_turn : TurnFact serving ticket log server seat v.seen (HasNumber v.held v.caller) (IsWhole v) v.turn

-- stands says which machines stand for a history of the object o with n callers
module _ {S : Type 0} (pr : Mark → ℕ) (stands : Object → ℕ → S → List EntryMark → Type 0) (o : Object) (n : ℕ) where
  pub record Kept (s : State S View) : Type 0 where
    pub ticket : ℕ
    pub serving : ℕ
    pub home : Option S
    pub log : List EntryMark
    pub made : List ℕ
    pub owner : ℕ → ℕ
    pub server : ℕ → ℕ
    pub words : s.words ≡ spaced ticket serving (length log)
    pub homes : s.homes ≡ home ∷ []
    pub lawful : IsLawful pr o n log
    pub order : serving ≤ ticket
    -- tickets are bounded by the calls that were counted, and each caller's calls by its limit
    pub sized : length made ≡ n
    pub small : n ≤ 64
    pub few : ticket ≤ sum made
    pub each : (c : ℕ) → slice_index made c ≤ 2 ^ 48
    -- the machine is at home and stands for the history, or a seat has the turn
    pub place : ((x : S) × (home ≡ some x) × stands o n x log × (length log ≤ serving))
        ⊎ ((v : View) × (get_elem? s.views (server serving) ≡ some v) × HasTurn v.turn serving)
    -- each number that was drawn and not served yet is the ticket of a seat
    pub queue : (t : ℕ) → serving ≤ t → t < ticket → (v : View) × (get_elem? s.views (server t) ≡ some v) × HasTicket v.turn t
    pub knows : (j : ℕ) (v : View) → get_elem? s.views j ≡ some v → Knows o n serving ticket log made owner server j v
