-- What a try of an add tells.
use Rattle.std.specs.Prelude.{◌≡◌, ℕ, ◌++◌, List, [], ◌∷◌}
use Rattle.atomic_table.specs.Table.{rest}
use Rattle.ho_base.specs.Marks.{Mark}
use Rattle.ho_model.specs.declared.marks.EntryMark.{EntryMark}
use Rattle.ho_model.specs.declared.marks.CallMark.TheVariants.{Add}
use Rattle.ho_model.specs.declared.marks.ReplyMark.TheVariants as reply
use Rattle.ho_model.specs.Entries.{entry}
use Rattle.bag_rule.specs.declared.view.View.{View}
use Rattle.bag_rule.specs.declared.view.Obstacle.{Obstacle}
use Rattle.bag_rule.specs.Views.{left_list, changed, entered}
use Rattle.bag_rule.specs.Plays.{Sits, Makes}
use Rattle.bag_rule.specs.Seats.{front_of}
use Rattle.bag_tries.specs.Causes.{OwnIsHeld, OwnIsFree, AreHeld}
use Rattle.bag_tries.specs.Seats.{MadeEntry, MadeNone}
use Rattle.bag_tries.specs.declared.adds.AddTry.{AddTry}
use Rattle.bag_tries.specs.declared.adds.AddTry.TheVariants.{Done, Full, Held, NoMemory}

-- c is the caller
module _ {T : Type 0} (priority : Mark → ℕ) (mark : T → Mark) (c : ℕ) where
  abbrev pub done_entry : T → EntryMark
  done_entry item = entry c (Add (mark item)) reply.Done

  abbrev pub full_entry : T → EntryMark
  full_entry item = entry c (Add (mark item)) reply.Full

  -- with the own list in hand, which is given back
  abbrev pub KeptAdds : Sits → T → Sits → AddTry T → Type 0
  KeptAdds m item w (Done place) =
      (others : List EntryMark) × (w ≡ (left_list (changed m.0 others (done_entry item) c (front_of m.1 ++ mark item ∷ [])) c, rest m.1)) × Makes priority m.0 others (done_entry item) place
  KeptAdds m item w (Full place back) =
      (back ≡ item) × (others : List EntryMark) × (w ≡ (left_list (entered m.0 others (full_entry item)) c, rest m.1)) × Makes priority m.0 others (full_entry item) place
  KeptAdds m item w (Held back) = ⊥
  KeptAdds m item w (NoMemory back) = (back ≡ item) × (w ≡ (left_list m.0 c, rest m.1))

  -- one try
  abbrev pub TryAdds : View → T → Sits → AddTry T → Type 0
  TryAdds v item m (Done place) = MadeEntry priority v (done_entry item) place m
  TryAdds v item m (Full place back) = (back ≡ item) × MadeEntry priority v (full_entry item) place m
  TryAdds v item m (Held back) = (back ≡ item) × (read : List Obstacle) × MadeNone priority v read m × OwnIsHeld v.callers c v.held read
  TryAdds v item m (NoMemory back) = (back ≡ item) × (read : List Obstacle) × MadeNone priority v read m × OwnIsFree c read

  -- tries up to the first that got the own list
  abbrev pub EndsAdds : View → T → Sits → AddTry T → Type 0
  EndsAdds v item m (Done place) = MadeEntry priority v (done_entry item) place m
  EndsAdds v item m (Full place back) = (back ≡ item) × MadeEntry priority v (full_entry item) place m
  EndsAdds v item m (Held back) = ⊥
  EndsAdds v item m (NoMemory back) = (back ≡ item) × (before : List Obstacle) × (read : List Obstacle) × MadeNone priority v (before ++ read) m × AreHeld v.callers c v.held before × OwnIsFree c read
