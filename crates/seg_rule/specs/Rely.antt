-- What a step of another seat may do to the ghost data. No word is named.
use Rattle.std.specs.Prelude.{◌≡◌, ◌≢◌, ℕ, suc, ◌+◌, ◌<◌, ◌≤◌, ◌⊎◌, true}
use mathlib.Core.Option.{some}
use lib.ListN.{get_elem?}
use Rattle.ho_base.specs.Marks.{Mark}
use Rattle.passes.specs.Holders.{Holder}
use Rattle.seg_rule.specs.declared.view.View.{View}
use Rattle.seg_rule.specs.declared.view.Hand.{Hand}
use Rattle.seg_rule.specs.declared.view.Hand.TheVariants.{Nothing, Reserved, Stored, Taking}
use Rattle.seg_rule.specs.Slots.{free, full, Cell, up, holder}
use Rattle.seg_rule.specs.declared.form.Form.{Form}
use Rattle.seg_rule.specs.Rule.{Ghosts, IsWhole, in_range, OutOfChain}

-- the last segment is full, in another place than q
abbrev pub IsLate : Ghosts → ℕ → Type 0
IsLate g q = ((g.segs g.last).place ≢ q) × ((g.segs g.last).start + (g.segs g.last).len ≤ g.put)

-- a slot keeps its position, and is published if it was
abbrev pub StaysIn : Cell → Cell → Type 0
StaysIn c c' = (c'.0 ≡ c.0) × (up c.1 ≤ up c'.1)

-- what every step does, whoever makes it
pub record Grows (g g' : Ghosts) : Type 0 where
  pub values : (p : ℕ) (x : Mark) → get_elem? g.values p ≡ some x → get_elem? g'.values p ≡ some x
  pub putters : (p c : ℕ) → get_elem? g.putters p ≡ some c → get_elem? g'.putters p ≡ some c
  pub put_up : g.put ≤ g'.put
  pub taken_up : g.taken ≤ g'.taken
  -- segments are opened at the tail, and stay
  pub segs : (k : ℕ) → k ≤ g.last → g'.segs k ≡ g.segs k
  pub last_up : g.last ≤ g'.last
  pub linked_up : g.linked ≤ g'.linked
  pub opens : suc g.last ≤ g'.last → g.put ≤ (g'.segs (suc g.last)).start
  pub bar_up : (k : ℕ) → g.bar k ≤ g'.bar k
  -- the slot that is free for the tail stays so while the tail does, and the slot that is published for the head
  pub free_stays : (q i : ℕ) → g.cells q i ≡ (g.put, free) → (g.put < g'.put) ⊎ ((g'.cells q i ≡ (g.put, free)) ⊎ IsLate g q)
  pub full_stays : (q i k : ℕ) → g.low ≤ k → k ≤ g.last → (g.segs k).place ≡ q → i < (g.segs k).len → g.cells q i ≡ (g.taken, full)
      → (g.taken < g'.taken) ⊎ ((g'.low ≤ k) × (g'.cells q i ≡ (g.taken, full)))
  -- a position from the bar on stays in its slot, and stays published
  pub kept : (q i k : ℕ) → g.home q ≡ suc k → g.prep ≢ suc q → i < (g.segs k).len → g.bar k ≤ (g.cells q i).0 → StaysIn (g.cells q i) (g'.cells q i)

-- the place of a position in hand
abbrev pub HandPlace : Hand → ℕ → Type 0
HandPlace Nothing q = ⊥
HandPlace (Reserved p q' i x) q = q' ≡ q
HandPlace (Stored p q' i x) q = q' ≡ q
HandPlace (Taking p q' i leave) q = q' ≡ q

-- how the chain stands, as the holder of the turn has read it
pub record SameChain (g g' : Ghosts) : Type 0 where
  pub now : g'.now ≡ g.now
  pub last : g'.last ≡ g.last
  pub low : g'.low ≡ g.low
  pub prep : g'.prep ≡ g.prep
  pub home : (q : ℕ) → g'.home q ≡ g.home q
  pub untold : (q : ℕ) → OutOfChain g q → g'.untold q ≤ g.untold q

-- what the holder of the turn knows
pub record SameTurn (g g' : Ghosts) : Type 0 where
  pub turn : g'.turn ≡ g.turn
  pub called : g'.called ≡ g.called
  pub shut : g'.shut ≡ g.shut
  pub prep : g'.prep ≡ g.prep
  pub plan : g'.plan ≡ g.plan
  pub written : g'.written ≡ g.written
  pub now : g'.now ≡ g.now
  pub linked : g'.linked ≡ g.linked
  pub last : g'.last ≡ g.last
  pub low : g'.low ≡ g.low
  pub home : (q : ℕ) → g'.home q ≡ g.home q
  -- nobody begins a window, or takes from a place that is none of the chain
  pub watch : (k : ℕ) → g'.watch k ≤ g.watch k
  pub untold : (q : ℕ) → OutOfChain g q → g'.untold q ≤ g.untold q
  -- nobody enqueues while the tail is closed
  pub put : g.shut ≡ 1 → g'.put ≡ g.put

abbrev pub same_chain : (g g' : Ghosts) → SameTurn g g' → SameChain g g'
same_chain g g' s = record { now = s.now; last = s.last; low = s.low; prep = s.prep; home = s.home; untold = s.untold }

-- a step of another seat, as the seat j with the view v sees it
pub record Rely (f : Form) (j : ℕ) (v : View) (g g' : Ghosts) : Type 0 where
  pub grows : Grows g g'
  pub holds : Holder f.callers g.log g.made g.owner j v.held v.made v.seen → Holder f.callers g'.log g'.made g'.owner j v.held v.made v.seen
  -- a pass without other callers sees the head, the tail and the chain's end stand still
  pub still : IsWhole v → (g'.put ≡ g.put) × (g'.taken ≡ g.taken) × (g'.last ≡ g.last)
  -- the place of what it has in hand, and the places of its window, show the same segment
  pub hand_place : (q k : ℕ) → HandPlace v.hand q → g.home q ≡ suc k → g.prep ≢ suc q → (g'.home q ≡ suc k) × (g'.prep ≢ suc q)
  pub window_place : (q k : ℕ) → in_range k v.window ≡ true → g.home q ≡ suc k → g.prep ≢ suc q → (g'.home q ≡ suc k) × (g'.prep ≢ suc q) × (g'.bar k ≡ g.bar k)
  -- the slot that it holds stays, and it gets none
  pub held : (q i : ℕ) → holder (g.cells q i).1 ≡ suc j → g'.cells q i ≡ g.cells q i
  pub given : (q i : ℕ) → holder (g'.cells q i).1 ≡ suc j → holder (g.cells q i).1 ≡ suc j
  pub turned : g.turn ≡ suc j → SameTurn g g'
  pub turns : g'.turn ≡ suc j → g.turn ≡ suc j
