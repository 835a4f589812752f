-- The rows of a read, with what each call of the code leaves as a premise.
use Rattle.std.proofs.Common.{◌≡◌, ℕ, ◌<◌, List, length, Bool, true, sym}
use Rattle.std.specs.Prelude.{Some}
use Rattle.std.proofs.lemmas.List.Quantifiers.{position-Some}
use Rattle.ho_model.specs.Channel as channel

-- the oldest wait of a kind is of that kind
pub oldest_is : (kind : channel.Standing → Bool) (ws : List channel.Waiter) (place : ℕ) → Some place ≡ channel.oldest kind ws → kind (channel.waiter_at ws place).standing ≡ true
oldest_is kind ws place h = (position-Some (λ w. kind w.standing) ws place channel.no_waiter (sym h)).1

pub oldest_below : (kind : channel.Standing → Bool) (ws : List channel.Waiter) (place : ℕ) → Some place ≡ channel.oldest kind ws → place < length ws
oldest_below kind ws place h = (position-Some (λ w. kind w.standing) ws place channel.no_waiter (sym h)).0
