-- What looks at a token leave of it: t before them, and u afterwards.
use Rattle.std.specs.Prelude.{◌≡◌, ℕ, ◌+◌, ◌<◌, true, false}
use Rattle.cancel_flag.specs.Seen.{Token}

-- So many looks, after which the token has seen no more than before. If there was one, it had not seen
-- 1 before.
pub record LooksInVain (count : ℕ) (t u : Token) : Type 0 where
  pub looked : u ≡ record t { looks = t.looks + count }
  pub unseen : 0 < count → t.seen ≡ false

-- So many looks, at least one, of which only the last may have seen 1. If there was one before it, the
-- token had not seen 1 before them all. A token that had seen 1 still has.
pub record LooksOut (count : ℕ) (t u : Token) : Type 0 where
  pub some : 0 < count
  pub looked : u ≡ record t { looks = t.looks + count; seen = u.seen }
  pub unseen : 1 < count → t.seen ≡ false
  pub for_good : t.seen ≡ true → u.seen ≡ true

-- So many looks, the last of which saw 1.
pub record SeesAtLast (count : ℕ) (t u : Token) : Type 0 where
  pub out : LooksOut count t u
  pub seen : u.seen ≡ true
