-- What each step tells: of the step, the seat before, the number found and the seat after.
use Rattle.std.specs.Prelude.{◌≡◌, ◌≢◌, ℕ, ◌<◌, ◌≤◌, ◌^◌, Bool, List, ◌∷◌, length}
use Rattle.atomic_table.specs.Table.{Me, Step, rest}
use Rattle.ho_base.specs.Marks.{Mark}
use Rattle.ho_model.specs.declared.marks.EntryMark.{EntryMark}
use Rattle.ho_model.specs.declared.objects.Object.{Object}
use Rattle.passes.specs.Seen.{SeesOthers, IsLawful}
use Rattle.passes.specs.Holders.{Meet}
use Rattle.turn_lock.specs.declared.view.View.{View}
use Rattle.turn_lock.specs.declared.view.Turn.TheVariants.{Idle, Looked, Drawn, Holds, Joined}
use Rattle.turn_lock.specs.Views.{IsWhole, in_turn, counted, drawn, holding, entered, met}

module _ {S : Type 0} where
  -- the load of the serving word with which a try begins
  abbrev pub looked : Step S → Me S View → ℕ → Me S View → Type 0
  looked st m r w = (w ≡ (in_turn m.0 (Looked r), m.1)) × (r < 2 ^ 60)

  module _ (pr : Mark → ℕ) (stands : Object → ℕ → S → List EntryMark → Type 0) where
    -- the turn k was got, and with it the machine, which stands for all that is seen now
    abbrev pub Got : View → List (ℕ × S) → ℕ → Me S View → Type 0
    Got v carried k w = (x : S) × (before : List EntryMark) × (w ≡ (holding v k before, (0, x) ∷ carried)) × SeesOthers v.held v.seen before
        × stands v.object v.callers x before × (v.caller < v.callers) × (length before < 2 ^ 60) × IsLawful pr v.object v.callers before

    -- the exchange of the ticket word from the number that was read as served: a ticket try
    abbrev pub tried : Step S → Me S View → ℕ → Me S View → Type 0
    tried st m r w = (r ≡ st.first → Got (counted m.0) m.1 r w)
        × (r ≢ st.first → (w ≡ (met m.0 st.first r, m.1)) × (st.first < r) × (length m.0.seen ≤ st.first) × (¬ IsWhole m.0) × IsLawful pr m.0.object m.0.callers m.0.seen)

    -- the same in a call that goes on trying, where a miss leaves no trace
    abbrev pub grabbed : Step S → Me S View → ℕ → Me S View → Type 0
    grabbed st m r w = (r ≡ st.first → Got (counted m.0) m.1 r w) × (r ≢ st.first → w ≡ (in_turn m.0 Idle, m.1))

    -- the load of the serving word by a seat with a ticket: turn reach, where it reads its number
    abbrev pub reached : Step S → Me S View → ℕ → Me S View → Type 0
    reached st m r w = (k : ℕ) → m.0.turn ≡ Drawn k → (r ≡ k → Got m.0 m.1 r w) × (r ≢ k → w ≡ m)

  -- ticket draw
  abbrev pub drew : Step S → Me S View → ℕ → Me S View → Type 0
  drew st m r w = w ≡ (drawn m.0 r, m.1)

  -- the entry, the one step at which the history grows
  abbrev pub adds : EntryMark → Step S → Me S View → ℕ → Me S View → Type 0
  adds e st m r w = (k : ℕ) → m.0.turn ≡ Holds k → (w ≡ (entered m.0 k e, m.1)) × (r ≡ length m.0.seen)

  -- turn leave
  abbrev pub left : Step S → Me S View → ℕ → Me S View → Type 0
  left st m r w = w ≡ (in_turn m.0 Idle, rest m.1)

  -- a load after a join, which tells what the rule keeps of the two seats
  abbrev pub told : (Mark → ℕ) → Step S → Me S View → ℕ → Me S View → Type 0
  told pr st m r w = (w ≡ (in_turn m.0 Idle, m.1))
      × ((p q : List EntryMark) (h h' : List Bool) → m.0.turn ≡ Joined p q h h' → Meet h h' p q m.0.seen)
      × IsLawful pr m.0.object m.0.callers m.0.seen
