-- What contracts see of a source and of a token.
use Rattle.std.specs.Prelude.{◌≡◌, ℕ, Bool, false}
use Rattle.atomic_table.specs.Seated.{TableId}

-- which word it is of, and whether it has seen 1 in it
pub record Source : Type 0 where
  pub word : TableId
  pub seen : Bool

-- the same, and how often it has loaded the word
pub record Token : Type 0 where
  pub word : TableId
  pub looks : ℕ
  pub seen : Bool

-- a token of a word that has not looked yet
abbrev pub new_token : TableId → Bool → Token
new_token word seen = record { word = word; looks = 0; seen = seen }

-- a source and a token of one word, of which neither has seen 1
pub record IsNewPair (source : Source) (token : Token) : Type 0 where
  pub unseen : source.seen ≡ false
  pub same_word : token ≡ new_token source.word false
