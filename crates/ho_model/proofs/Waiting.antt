-- Waits of a channel, and writes to a full buffer that has no item.
use Rattle.std.proofs.Common.{◌≡◌, ℕ, zero, suc, ◌+◌, ◌-◌, ◌<◌, List, [], ◌∷◌, ◌++◌, length, map, take, drop, set, get_or, refl, sym, ap, ◌∙◌, true, false, arith}
use Rattle.std.specs.Prelude.{Some}
use Rattle.std.proofs.lemmas.Bool.{ltb-false}
use Rattle.std.proofs.lemmas.List.Edits.{map_over_more}
use Rattle.std.proofs.lemmas.List.Quantifiers.{position-Some}
use Rattle.ho_base.specs.Marks.{Mark}
use Rattle.ho_model.specs.declared.objects.Mode.TheVariants.{DropNewest, DropOldest}
use Rattle.ho_model.specs.Entries.{Dropped}
use Rattle.ho_model.specs.Queue.{has_item}
use Rattle.ho_model.specs.Channel.{Channel, Waiter, item_at, overflow, oldest, no_waiter, wants_room}

-- the oldest write that waits is one of the waits, and wants room
pub oldest_below : (ws : List Waiter) (place : ℕ) → Some place ≡ oldest wants_room ws → place < length ws
oldest_below ws place h = (position-Some (λ w. wants_room w.standing) ws place no_waiter (sym h)).0

pub oldest_wants_room : (ws : List Waiter) (place : ℕ) (d : Waiter) → Some place ≡ oldest wants_room ws → wants_room (get_or ws place d).standing ≡ true
oldest_wants_room ws place d h = (position-Some (λ w. wants_room w.standing) ws place d (sym h)).1

-- a buffer without an item drops one that never was
nothing_at : (items : List Mark) (place : ℕ) → has_item items ≡ false → item_at items place ≡ []
nothing_at [] place h = refl
nothing_at (x ∷ items) place h = let none = ltb-false 0 (length (x ∷ items)) h in absurd (omega arith)

pub drops_no_first : (s : Channel) (item : Mark) → has_item s.buffer ≡ false → (t : Channel) × (overflow DropOldest s item ≡ Some (Dropped [], t))
drops_no_first s item h =
    let after : Channel = record s { buffer = drop 1 s.buffer ++ item ∷ [] } in
    (after, ap (λ (gone : Mark). Some (Dropped gone, after)) (nothing_at s.buffer 0 h))

pub drops_no_last : (s : Channel) (item : Mark) → has_item s.buffer ≡ false → (t : Channel) × (overflow DropNewest s item ≡ Some (Dropped [], t))
drops_no_last s item h =
    let after : Channel = record s { buffer = take (length s.buffer - 1) s.buffer ++ item ∷ [] } in
    (after, ap (λ (gone : Mark). Some (Dropped gone, after)) (nothing_at s.buffer (length s.buffer - 1) h))

-- one more turn of a loop that changes each wait in its place
any_default : (ws : List Waiter) (i : ℕ) (d e : Waiter) → i < length ws → get_or ws i d ≡ get_or ws i e
any_default [] i d e h = absurd (omega arith)
any_default (w ∷ ws) zero d e h = refl
any_default (w ∷ ws) (suc i) d e h = any_default ws i d e (omega arith)

pub changed_more : (f : Waiter → Waiter) (start now : List Waiter) (i : ℕ) (d x : Waiter) → i < length now → length now ≡ length start → now ≡ map f (take i start) ++ drop i start → x ≡ f (get_or now i d) → set now i x ≡ map f (take (i + 1) start) ++ drop (i + 1) start
changed_more f start now i d x inside same so_far changed =
    ap (set now i) changed
    ∙ map_over_more f start now i (get_or now i d) (omega arith) so_far (any_default now i d (get_or now i d) inside)
