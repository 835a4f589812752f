-- Which of two calls on a queue goes before the other, by their receipts.
use Rattle.std.specs.Prelude.{◌≡◌, ℕ, ◌+◌, ◌<◌, ◌≤◌, List, [], ◌∷◌}
use Rattle.ho_base.specs.declared.receipts.Receipt.{Receipt}
use Rattle.ho_base.specs.declared.receipts.Receipt.TheVariants.{Enqueued, Dequeued, Peeked, Looked}
use Rattle.weave.specs.declared.made.Made.{Made}
use Rattle.weave.specs.Parts.{Told, made_by}

-- With so much room the first call goes before the second. Enqueues and takes go by their positions;
-- an enqueue goes before the take and the peeks at its position, and a take before the enqueue that
-- found its room; a peek stands between the takes below its position and those from it on; a look
-- stands behind what it counted, and before all that it did not.
abbrev pub GoesBefore : ℕ → Receipt → Receipt → Type 0
GoesBefore room (Enqueued p s) (Enqueued q t) = p < q
GoesBefore room (Dequeued p) (Dequeued q) = p < q
GoesBefore room (Enqueued p s) (Dequeued q) = p ≡ q
GoesBefore room (Enqueued p s) (Peeked q) = p ≡ q
GoesBefore room (Dequeued p) (Enqueued q t) = p + room ≡ q
GoesBefore room (Dequeued p) (Peeked q) = p < q
GoesBefore room (Peeked p) (Dequeued q) = p ≤ q
GoesBefore room (Enqueued p s) (Looked head tail) = p < tail
GoesBefore room (Dequeued p) (Looked head tail) = p < head
GoesBefore room (Looked head tail) (Enqueued q t) = tail ≤ q
GoesBefore room (Looked head tail) (Dequeued q) = head ≤ q
GoesBefore room _ _ = ⊥

-- each call has such a receipt
abbrev pub EachTold : (Receipt → Type 0) → List Told → Type 0
EachTold P [] = Unit {0}
EachTold P (x ∷ xs) = P x.made.receipt × EachTold P xs

-- none of these calls goes before the call with this receipt
abbrev pub NoneBefore : ℕ → Receipt → List Told → Type 0
NoneBefore room y xs = EachTold (λ x. GoesBefore room x y → ⊥) xs

-- no call goes before one that stands earlier
abbrev pub KeepsOrder : ℕ → List Told → Type 0
KeepsOrder room [] = Unit {0}
KeepsOrder room (x ∷ xs) = NoneBefore room x.made.receipt xs × KeepsOrder room xs

-- of the callers whose next call has no call left that goes before it this is the least
abbrev pub IsLeastCaller : ℕ → ℕ → List Told → Type 0
IsLeastCaller room caller left = (c : ℕ) (m : Made) (ms : List Made) → made_by c left ≡ m ∷ ms → NoneBefore room m.receipt left → caller ≤ c

-- each call, in turn, has no call left that goes before it, and is of the least caller of whose next call
-- that is so
abbrev pub IsChosen : ℕ → List Told → Type 0
IsChosen room [] = Unit {0}
IsChosen room (x ∷ xs) = NoneBefore room x.made.receipt xs × IsLeastCaller room x.caller (x ∷ xs) × IsChosen room xs
