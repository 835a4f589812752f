-- Which part may go on, by the first call left of each kind.
use Rattle.std.specs.Prelude.{◌≡◌, ℕ, ◌+◌, ◌<◌, ◌≤◌, List, [], ◌∷◌, map, slice_get, Option, Some, None, Bool, true, false, not, nat_lt, nat_le, if◌then◌else◌}
use Rattle.std.specs.List.{list_all}
use Rattle.ho_base.specs.declared.receipts.Receipt.{Receipt}
use Rattle.ho_base.specs.declared.receipts.Receipt.TheVariants.{Enqueued, Dequeued, Peeked, Looked}
use Rattle.weave.specs.declared.made.Made.{Made}
use Rattle.weave.specs.declared.aheads.Ahead.{Ahead}
use Rattle.weave.specs.declared.aheads.Kind.{Kind}
use Rattle.weave.specs.declared.aheads.Kind.TheVariants as kind
use Rattle.weave.specs.declared.least.Candidate.{Candidate}
use Rattle.weave.specs.Parts.{PartMade}

-- Whether the first call, or one of its kind and its caller behind it, may go before the second. Where
-- the order asks for an equal position this asks for one that is no greater.
abbrev pub may_go_before : ℕ → Receipt → Receipt → Bool
may_go_before room (Enqueued p s) (Enqueued q t) = nat_lt p q
may_go_before room (Dequeued p) (Dequeued q) = nat_lt p q
may_go_before room (Enqueued p s) (Dequeued q) = nat_le p q
may_go_before room (Enqueued p s) (Peeked q) = nat_le p q
may_go_before room (Dequeued p) (Enqueued q t) = nat_le (p + room) q
may_go_before room (Dequeued p) (Peeked q) = nat_lt p q
may_go_before room (Peeked p) (Dequeued q) = nat_le p q
may_go_before room (Enqueued p s) (Looked head tail) = nat_lt p tail
may_go_before room (Dequeued p) (Looked head tail) = nat_lt p head
may_go_before room (Looked head tail) (Enqueued q t) = nat_le tail q
may_go_before room (Looked head tail) (Dequeued q) = nat_le head q
may_go_before room _ _ = false

abbrev pub has_kind : Kind → Receipt → Bool
has_kind kind.Enqueued (Enqueued p s) = true
has_kind kind.Dequeued (Dequeued p) = true
has_kind kind.Peeked (Peeked p) = true
has_kind kind.Looked (Looked head tail) = true
has_kind _ _ = false

-- the receipt of the first call of a kind
abbrev pub first_of : Kind → List Made → Option Receipt
first_of kind [] = None
first_of kind (m ∷ ms) = if has_kind kind m.receipt then Some m.receipt else first_of kind ms

abbrev pub ahead_of : List Made → Ahead
ahead_of made = record { enqueued = first_of kind.Enqueued made; dequeued = first_of kind.Dequeued made; peeked = first_of kind.Peeked made; looked = first_of kind.Looked made }

abbrev pub aheads_of : List PartMade → List Ahead
aheads_of parts = map (λ p. ahead_of p.made) parts

abbrev pub first_may_go : ℕ → Option Receipt → Receipt → Bool
first_may_go room None y = false
first_may_go room (Some x) y = may_go_before room x y

-- no call of this part goes before y
abbrev pub leaves_free : ℕ → Receipt → Ahead → Bool
leaves_free room y a =
    if first_may_go room a.enqueued y then false
    else if first_may_go room a.dequeued y then false
    else if first_may_go room a.peeked y then false
    else not (first_may_go room a.looked y)

-- the part has a next call, and no call that is left goes before it
abbrev pub can_go : ℕ → List Ahead → List Made → Bool
can_go room aheads [] = false
can_go room aheads (m ∷ ms) = list_all (leaves_free room m.receipt) aheads

-- of the first n parts it is the one of the least caller that can go on
abbrev pub IsLeast : ℕ → List Ahead → List PartMade → ℕ → Option Candidate → Type 0
IsLeast room aheads left n None = (k : ℕ) (q : PartMade) → k < n → slice_get left k ≡ Some q → can_go room aheads q.made ≡ false
IsLeast room aheads left n (Some c) =
    (p : PartMade) × (slice_get left c.index ≡ Some p) × (p.caller ≡ c.caller) × (can_go room aheads p.made ≡ true)
    × ((k : ℕ) (q : PartMade) → k < n → slice_get left k ≡ Some q → can_go room aheads q.made ≡ true → c.caller ≤ q.caller)

-- the one of the two with the lesser caller
abbrev pub lesser : Option Candidate → Candidate → Candidate
lesser None other = other
lesser (Some best) other = if nat_le best.caller other.caller then best else other
