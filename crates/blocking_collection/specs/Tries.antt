-- Tries that are repeated while a token is looked at. t is the token before, and u afterwards.
use Rattle.std.specs.Prelude.{ℕ, List}
use Rattle.cancel_flag.specs.Seen.{Token}
use Rattle.cancel_flag.specs.Looks.{LooksInVain, SeesAtLast}
use Rattle.blocking_collection.specs.Own.{OwnCall, times}

-- So many rounds that ended nothing, with one look at the token after each, none of which saw 1; and
-- then what holds of the calls of these rounds.
pub record Tries (again : List OwnCall) (Then : List OwnCall → Type 0) (t u : Token) : Type 0 where
  pub rounds : ℕ
  pub looked : LooksInVain rounds t u
  pub then : Then (times rounds again)

-- At least one such round, the look after the last of which saw 1.
pub record Stops (again : List OwnCall) (Then : List OwnCall → Type 0) (t u : Token) : Type 0 where
  pub rounds : ℕ
  pub looked : SeesAtLast rounds t u
  pub then : Then (times rounds again)
