-- What a lent reader or writer ends as after a begin. W is the type of the wait, E of the end, and X of
-- what stands for want of memory; P is what contracts see of the lender.
use Rattle.std.specs.Prelude.{◌≡◌, [], Result, Ok, Err, ⊤}
use Rattle.std.specs.Borrow.{Fml, GName, MutBor, RattleType, follows_so}
use mathlib.Core.Option as maybe
use mir.Syntax.{named}
use Rattle.ho_base.specs.declared.items.Item as item
use Rattle.turn_lock.specs.Passes.{LockPass}
use Rattle.channels.specs.contracts.reader.Reader as reader
use Rattle.channels.specs.contracts.writer.Writer as writer
use Rattle.channel_wait.specs.declared.lent.Lent.{Lent}
use Rattle.channel_wait.specs.declared.lent.Lent.TheVariants.{Waits, Ends, Lacks}
use Rattle.channel_wait.specs.declared.ends.Begun.{Begun}
use Rattle.channel_wait.specs.declared.ends.Begun.TheVariants.{Ended, Waiting}

module _ {W E X : Type 0} where
  -- of each answer of a begin: of the wait that it left, of its end, and of want of memory
  abbrev pub Comes : (W → Type 0) → (E → Type 0) → (X → Type 0) → Result (Begun W E) X → Type 0
  Comes OnWait OnEnd OnLack (Ok (Waiting w)) = OnWait w
  Comes OnWait OnEnd OnLack (Ok (Ended end)) = OnEnd end
  Comes OnWait OnEnd OnLack (Err x) = OnLack x

  -- the name under which the answer holds the lender, if it does
  abbrev pub name_in : (W → GName) → Result (Begun W E) X → maybe.Option GName
  name_in name (Ok (Waiting w)) = maybe.some (name w)
  name_in name (Ok (Ended end)) = maybe.none
  name_in name (Err x) = maybe.none

  module _ {P : Type 0} where
    -- where the answer holds the lender, that ends as the wait leaves it
    abbrev pub EndsAsLeft : Result (Begun W E) X → P → P → Type 0
    EndsAsLeft (Ok (Waiting w)) last after = after ≡ last
    EndsAsLeft (Ok (Ended end)) last after = ⊤
    EndsAsLeft (Err x) last after = ⊤

    module _ (AfterEnd : E → P → Type 0) (AfterLack : X → P → Type 0) where
      -- where it does not, that ends as the answer says
      abbrev pub Rests : Result (Begun W E) X → P → Type 0
      Rests (Ok (Waiting w)) after = ⊤
      Rests (Ok (Ended end)) after = AfterEnd end after
      Rests (Err x) after = AfterLack x after

      -- the answers of an inner begin, which hands the lender r back where no wait holds it
      abbrev pub IsLent : (W → Type 0) → MutBor P → Lent P W E X → Type 0
      IsLent OnWait r (Waits w) = OnWait w
      IsLent OnWait r (Ends back end) = (back.ghost_name ≡ r.ghost_name) × AfterEnd end back.now
      IsLent OnWait r (Lacks back x) = (back.ghost_name ≡ r.ghost_name) × AfterLack x back.now

module _ (T : RattleType) (g : item.Ghosts T.Denot) where
  -- the types of a reader and a writer, as the logic holds them
  abbrev pub reader_row : RattleType
  reader_row = reader.the_row (record { mir = named 1; lft = [] }) T g

  abbrev pub writer_row : RattleType
  writer_row = writer.the_row (record { mir = named 1; lft = [] }) T g

  -- A lent reader, or writer, ends as the wait leaves it that holds it under this name, where the answer
  -- is a wait. Else it ends as the answer says.
  module _ {W E X : Type 0} (name : W → GName) (AfterEnd : E → LockPass → Type 0) (AfterLack : X → LockPass → Type 0) (r : MutBor LockPass) (b : Result (Begun W E) X) where
    abbrev pub reader_rests : Fml
    reader_rests = follows_so reader_row reader_row r.ghost_name (name_in name b) (EndsAsLeft b) (Rests AfterEnd AfterLack b)

    abbrev pub writer_rests : Fml
    writer_rests = follows_so writer_row writer_row r.ghost_name (name_in name b) (EndsAsLeft b) (Rests AfterEnd AfterLack b)
