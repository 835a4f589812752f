-- What each step tells: of the step, the seat before, the number found and the seat after.
use Rattle.std.specs.Prelude.{◌≡◌, ◌≢◌, ℕ, suc, ◌+◌, ◌*◌, ◌<◌, ◌≤◌, ◌^◌, ◌++◌, false, List, [], ◌∷◌, length, slice_index_or, Some}
use Rattle.atomic_table.specs.Table.{Me, Step, rest}
use Rattle.ho_base.specs.Marks.{Mark}
use Rattle.ho_model.specs.declared.marks.EntryMark.{EntryMark}
use Rattle.ho_model.specs.declared.objects.Object.TheVariants.{Bag}
use Rattle.passes.specs.Seen.{AreOthers, IsLawful}
use Rattle.passes.specs.Holders.{Meet}
use Rattle.bag_rule.specs.declared.view.View.{View}
use Rattle.bag_rule.specs.declared.view.Joint.{Joint}
use Rattle.bag_rule.specs.Views.{IsWhole, took_list, left_list, held_by, began, looked_again, missed, entered, changed, AreBare, count_entry, empty_entry, told}

-- a seat and the lists that are out with it, the last one taken first
abbrev pub Sits : Type 0
Sits = Me (List Mark) View

-- the event word shows so many events and items
abbrev pub Shows : ℕ → ℕ → ℕ → Type 0
Shows word events items = (word ≡ 1048576 * events + items) × (items < 1048576) × (events ≤ 2 ^ 43)

-- a seat that holds all numbers has seen all events
abbrev pub SeesAll : View → ℕ → Type 0
SeesAll v events = IsWhole v → events ≡ length v.seen

-- the word names another caller as the holder
abbrev pub IsOthers : View → ℕ → ℕ → Type 0
IsOthers v word other = (word ≡ suc other) × (slice_index_or v.held other false ≡ false) × (other < v.callers)

-- an exchange of the event word that is lost: there were more events than at the last load
abbrev pub LostEvent : View → List (ℕ × List Mark) → ℕ → Sits → Type 0
LostEvent v carried r w = (events : ℕ) × (items : ℕ) × Shows r events items × (v.events < events) × (w ≡ (missed v events items, carried)) × SeesAll v events

module _ (priority : Mark → ℕ) where
  -- all that the seat has seen is lawful
  abbrev pub SeesLaw : View → Type 0
  SeesLaw v = IsLawful priority Bag v.callers v.seen

  -- Entries of others, and then this one, which the bag takes. Before it the word showed so many events.
  abbrev pub Enters : View → List EntryMark → EntryMark → ℕ → Type 0
  Enters v others e word = AreOthers v.held others × IsLawful priority Bag v.callers ((v.seen ++ others) ++ e ∷ []) × (items : ℕ) × Shows word (length (v.seen ++ others)) items

  -- The same, by the place of the entry.
  abbrev pub Makes : View → List EntryMark → EntryMark → ℕ → Type 0
  Makes v others e place = AreOthers v.held others × IsLawful priority Bag v.callers ((v.seen ++ others) ++ e ∷ []) × (place ≡ length (v.seen ++ others))

  -- list take: the list was got, with what is in its slot, or another holds it
  abbrev pub GotList : View → List (ℕ × List Mark) → ℕ → Sits → Type 0
  GotList v carried c w = (items : List Mark) × (w ≡ (took_list v c items, (c, items) ∷ carried)) × (length items ≤ 16383) × SeesLaw v

  abbrev pub MissedList : View → List (ℕ × List Mark) → ℕ → ℕ → Sits → Type 0
  MissedList v carried c word w = (other : ℕ) × (w ≡ (held_by v c other, carried)) × IsOthers v word other × SeesLaw v

  abbrev pub took : ℕ → Step (List Mark) → Sits → ℕ → Sits → Type 0
  took c st m r w = (r ≡ 0 → GotList m.0 m.1 c w) × (r ≢ 0 → MissedList m.0 m.1 c r w)

  -- an event by which the list c has these items: add event and take event
  abbrev pub changes : EntryMark → ℕ → List Mark → Step (List Mark) → Sits → ℕ → Sits → Type 0
  changes e c items st m r w = (others : List EntryMark) × (w ≡ (changed m.0 others e c items, m.1)) × Enters m.0 others e r

  -- quiet event
  abbrev pub enters : EntryMark → Step (List Mark) → Sits → ℕ → Sits → Type 0
  enters e st m r w = (others : List EntryMark) × (w ≡ (entered m.0 others e, m.1)) × Enters m.0 others e r

  -- quiet event of a count, whose reply is what the word showed
  abbrev pub CountsItems : View → List (ℕ × List Mark) → ℕ → Sits → Type 0
  CountsItems v carried r w = (others : List EntryMark) × (items : ℕ) × (w ≡ (entered v others (count_entry v items), carried)) × Enters v others (count_entry v items) r
      × Shows r (length (v.seen ++ others)) items

  abbrev pub counts : Step (List Mark) → Sits → ℕ → Sits → Type 0
  counts st m r w = CountsItems m.0 m.1 r w

  -- empty exchange, from the word that was read last, which showed no items
  abbrev pub empties : Step (List Mark) → Sits → ℕ → Sits → Type 0
  empties st m r w = (r ≡ st.first → (others : List EntryMark) × (w ≡ (entered m.0 others (empty_entry m.0), m.1)) × Enters m.0 others (empty_entry m.0) r)
      × (r ≢ st.first → LostEvent m.0 m.1 r w)

  -- the load after a join
  abbrev pub tells : Step (List Mark) → Sits → ℕ → Sits → Type 0
  tells st m r w = (w ≡ (told m.0, m.1)) × ((j : Joint) → m.0.joint ≡ Some j → Meet j.first_held j.second_held j.first j.second m.0.seen) × SeesLaw m.0

-- list leave
abbrev pub left : ℕ → Step (List Mark) → Sits → ℕ → Sits → Type 0
left c st m r w = w ≡ (left_list m.0 c, rest m.1)

-- the first load of a take
abbrev pub Begins : View → List (ℕ × List Mark) → ℕ → Sits → Type 0
Begins v carried r w = (events : ℕ) × (items : ℕ) × Shows r events items × (w ≡ (began v events items, carried)) × SeesAll v events

abbrev pub begins : Step (List Mark) → Sits → ℕ → Sits → Type 0
begins st m r w = Begins m.0 m.1 r w

-- a later load: with no event since the first one, lists that are all bare have no items
abbrev pub LooksAgain : View → List (ℕ × List Mark) → ℕ → Sits → Type 0
LooksAgain v carried r w = (events : ℕ) × (items : ℕ) × Shows r events items × (w ≡ (looked_again v events items, carried)) × (v.since ≤ events)
    × (AreBare v → v.since ≡ events → items ≡ 0) × SeesAll v events

abbrev pub looks : Step (List Mark) → Sits → ℕ → Sits → Type 0
looks st m r w = LooksAgain m.0 m.1 r w
