-- What a seat of the bag's table knows, and how each step changes that.
use Rattle.std.specs.Prelude.{◌≡◌, ℕ, ◌<◌, ◌≤◌, ◌++◌, ◌⊎◌, List, [], ◌∷◌, length, Bool, true, false, slice_index_or, slice_set, replicate, Some, None}
use Rattle.ho_base.specs.Marks.{Mark}
use Rattle.ho_model.specs.declared.marks.EntryMark.{EntryMark}
use Rattle.ho_model.specs.declared.marks.CallMark.TheVariants.{Count, Take}
use Rattle.ho_model.specs.declared.marks.ReplyMark.TheVariants.{Empty, Counted}
use Rattle.ho_model.specs.Entries.{entry}
use Rattle.ho_model.specs.Bag.{Lists, list_of, bag_step}
use Rattle.passes.specs.Numbers.{HasAll, raised, first_held, give, only, held_both, made_both}
use Rattle.passes.specs.Seen.{longer}
use Rattle.bag_rule.specs.declared.view.View.{View}
use Rattle.bag_rule.specs.declared.view.Hand.{Hand}
use Rattle.bag_rule.specs.declared.view.Hand.TheVariants.{Away, Kept}
use Rattle.bag_rule.specs.declared.view.Obstacle.{Obstacle}
use Rattle.bag_rule.specs.declared.view.Obstacle.TheVariants.{Held, Bare, Stocked, Event, Missed}

abbrev pub hand_at : View → ℕ → Hand
hand_at v list = slice_index_or v.keeps list Away

abbrev pub IsKept : Hand → Type 0
IsKept Away = ⊥
IsKept (Kept items) = Unit {0}

abbrev pub items_of : Hand → List Mark
items_of Away = []
items_of (Kept items) = items

-- the items of a list that the seat keeps
abbrev pub kept_at : View → ℕ → List Mark
kept_at v list = items_of (hand_at v list)

abbrev pub none_kept : List Hand
none_kept = replicate 64 Away

-- no other caller is left
abbrev pub IsWhole : View → Type 0
IsWhole v = HasAll v.callers v.held

-- List take: it keeps the list, in which these items were.

abbrev pub found : ℕ → List Mark → Obstacle
found list [] = Bare list
found list (item ∷ items) = Stocked list

abbrev pub took_list : View → ℕ → List Mark → View
took_list v list items = record v { keeps = slice_set v.keeps list (Kept items); met = v.met ++ found list items ∷ [] }

-- it found a list in the hand of another caller
abbrev pub held_by : View → ℕ → ℕ → View
held_by v list other = record v { met = v.met ++ Held list other ∷ [] }

-- List leave: it remembers whether the list had no item.

abbrev pub noted : List Bool → ℕ → Hand → List Bool
noted bare list (Kept []) = slice_set bare list true
noted bare list _ = bare

abbrev pub left_list : View → ℕ → View
left_list v list = record v { keeps = slice_set v.keeps list Away; bare = noted v.bare list (hand_at v list) }

-- Loads of the event word: the first of a take, and one after it. And an exchange that is lost, from
-- the word that was read last.

abbrev pub missed : View → ℕ → ℕ → View
missed v events items = record v { met = v.met ++ Missed v.events events items ∷ [] }

abbrev pub looked_again : View → ℕ → ℕ → View
looked_again v events items = record v { met = v.met ++ Event events items ∷ []; events = events; items = items }

abbrev pub began : View → ℕ → ℕ → View
began v events items = record (looked_again v events items) { since = events; bare = replicate 64 false }

-- Entries: others came before, and the call is counted.

abbrev pub entered : View → List EntryMark → EntryMark → View
entered v others e = record v { seen = (v.seen ++ others) ++ e ∷ []; made = raised v.made v.caller }

-- one by which a list that is kept has these items
abbrev pub changed : View → List EntryMark → EntryMark → ℕ → List Mark → View
changed v others e list items = record (entered v others e) { keeps = slice_set v.keeps list (Kept items) }

-- the entries whose reply the event word decides
abbrev pub count_entry : View → ℕ → EntryMark
count_entry v items = entry v.caller Count (Counted items)

abbrev pub empty_entry : View → EntryMark
empty_entry v = entry v.caller Take Empty

-- What a call may ask of an entry: that the bag takes it wherever it has the lists that are kept.

abbrev pub Agrees : View → Lists → Type 0
Agrees v lists = (length lists ≡ 64) × ((c : ℕ) (items : List Mark) → hand_at v c ≡ Kept items → list_of lists c ≡ items) × ((c : ℕ) → v.callers ≤ c → list_of lists c ≡ [])

-- then this list has these items
abbrev pub Does : View → EntryMark → ℕ → List Mark → Type 0
Does v e list items = (lists : Lists) → Agrees v lists → bag_step lists e.caller e.call e.reply ≡ Some (slice_set lists list items)

-- and then the lists are as before
abbrev pub Leaves : View → EntryMark → Type 0
Leaves v e = (lists : Lists) → Agrees v lists → bag_step lists e.caller e.call e.reply ≡ Some lists

-- each list is kept without an item, or was found so since the first load
abbrev pub AreBare : View → Type 0
AreBare v = (c : ℕ) → c < v.callers → (slice_index_or v.bare c false ≡ true) ⊎ (hand_at v c ≡ Kept [])

-- A split: the number c is given away, and a seat with c alone has seen as much.

abbrev pub without : View → ℕ → View
without v c = record v { held = give v.held c }

abbrev pub alone : View → ℕ → View
alone v c = record v { caller = c; held = only c; met = [] }

-- A join: two views made one, and the one that has given its numbers away.

abbrev pub joined : View → View → View
joined v w = record v {
  held = held_both v.held w.held;
  made = made_both w.held v.made w.made;
  seen = longer v.seen w.seen;
  met = v.met ++ w.met;
  joint = Some record { first = v.seen; second = w.seen; first_held = v.held; second_held = w.held };
}

abbrev pub gone : View → View
gone w = record w { held = [] }

-- the load after a join tells what it left
abbrev pub told : View → View
told v = record v { joint = None }

abbrev pub first_view : ℕ → View
first_view n = record {
  callers = n;
  caller = 0;
  held = first_held n;
  made = replicate 64 0;
  seen = [];
  met = [];
  keeps = none_kept;
  since = 0;
  bare = replicate 64 false;
  events = 0;
  items = 0;
  joint = None;
}

-- a view and an entry that are none, where one has to be named
abbrev pub no_view : View
no_view = first_view 0

abbrev pub no_entry : EntryMark
no_entry = entry 0 Take Empty
