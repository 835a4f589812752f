-- What a seat of the turn lock knows, and how each step changes that.
use Rattle.std.specs.Prelude.{◌≡◌, ℕ, ◌++◌, List, [], ◌∷◌, replicate}
use Rattle.ho_model.specs.declared.marks.EntryMark.{EntryMark}
use Rattle.ho_model.specs.declared.marks.CallMark.TheVariants.{Count}
use Rattle.ho_model.specs.declared.marks.ReplyMark.TheVariants.{Done}
use Rattle.ho_model.specs.declared.objects.Object.{Object}
use Rattle.ho_model.specs.declared.objects.Object.TheVariants as object
use Rattle.passes.specs.Numbers.{HasAll, only, first_held, give, held_both, made_both, raised}
use Rattle.passes.specs.Seen.{longer}
use Rattle.turn_lock.specs.declared.view.View.{View}
use Rattle.turn_lock.specs.declared.view.Turn.{Turn}
use Rattle.turn_lock.specs.declared.view.Turn.TheVariants.{Idle, Drawn, Holds, Entered, Joined}

-- the seat has the ticket t
abbrev pub HasTicket : Turn → ℕ → Type 0
HasTicket (Drawn k) t = k ≡ t
HasTicket (Holds k) t = k ≡ t
HasTicket (Entered k) t = k ≡ t
HasTicket _ t = ⊥

-- the seat has the turn t
abbrev pub HasTurn : Turn → ℕ → Type 0
HasTurn (Holds k) t = k ≡ t
HasTurn (Entered k) t = k ≡ t
HasTurn _ t = ⊥

-- all numbers are held, so there is no other caller
abbrev pub IsWhole : View → Type 0
IsWhole v = HasAll v.callers v.held

abbrev pub in_turn : View → Turn → View
in_turn v turn = record v { turn = turn }

-- a call of the seat is counted
abbrev pub counted : View → View
counted v = record v { made = raised v.made v.caller }

-- a call is counted, and its ticket drawn
abbrev pub drawn : View → ℕ → View
drawn v k = record (counted v) { turn = Drawn k }

-- the turn k came, and with it the seat has seen the whole history
abbrev pub holding : View → ℕ → List EntryMark → View
holding v k history = record v { turn = Holds k; seen = history }

-- the seat made its entry
abbrev pub entered : View → ℕ → EntryMark → View
entered v k e = record v { turn = Entered k; seen = v.seen ++ e ∷ [] }

-- a try found that other tickets were out
abbrev pub met : View → ℕ → ℕ → View
met v serving ticket = record v { turn = Idle; met = v.met ++ record { serving = serving; ticket = ticket } ∷ [] }

-- a split: the number c is given away, and a seat with c alone has seen as much
abbrev pub without : View → ℕ → View
without v c = record v { held = give v.held c }

abbrev pub alone : View → ℕ → View
alone v c = record v { caller = c; held = only c; met = []; turn = Idle }

-- a join: two views made one, and the one that has given its numbers away
abbrev pub joined : View → View → View
joined v w = record v {
  held = held_both v.held w.held;
  made = made_both w.held v.made w.made;
  seen = longer v.seen w.seen;
  met = v.met ++ w.met;
  turn = Joined v.seen w.seen v.held w.held;
}

abbrev pub gone : View → View
gone w = record w { held = []; turn = Idle }

abbrev pub first_view : Object → ℕ → View
first_view o n = record { object = o; callers = n; caller = 0; held = first_held n; made = replicate 64 0; seen = []; met = []; turn = Idle }

-- a view and an entry that are none, where one has to be named
abbrev pub no_view : View
no_view = first_view object.Bag 0

abbrev pub no_entry : EntryMark
no_entry = record { caller = 0; call = Count; reply = Done }
