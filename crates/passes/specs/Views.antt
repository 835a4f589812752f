-- What contracts see of a pass of any shared object. O is the type of the obstacles that its tries meet.
use Rattle.std.specs.Prelude.{ℕ, List, [], Bool, replicate}
use Rattle.atomic_table.specs.Seated.{TableId}
use Rattle.ho_model.specs.declared.marks.EntryMark.{EntryMark}
use Rattle.ho_model.specs.declared.objects.Object.{Object}
use Rattle.passes.specs.Numbers.{HasAll, first_held}

pub record PassView (O : Type 0) : Type 0 where
  -- the shared object that it is a pass of, with its parameters and its number of callers
  pub table : TableId
  pub object : Object
  pub callers : ℕ
  -- the number under which it calls
  pub caller : ℕ
  -- at each number below 64 whether it is held, and at each number held how many calls were counted
  pub held : List Bool
  pub made : List ℕ
  -- the beginning of the object's history that it has seen, and the obstacles that it has met
  pub seen : List EntryMark
  pub met : List O

-- the first pass of an object: that of caller 0, which holds all numbers, has made no call and has
-- seen nothing
abbrev pub first_pass : {O : Type 0} → TableId → Object → ℕ → PassView O
first_pass table object callers = record {
  table = table;
  object = object;
  callers = callers;
  caller = 0;
  held = first_held callers;
  made = replicate 64 0;
  seen = [];
  met = [];
}

-- the pass holds all numbers, so there is no other caller
abbrev pub IsWhole : {O : Type 0} → PassView O → Type 0
IsWhole p = HasAll p.callers p.held
