-- Calls that stand one behind the other and may change places, a call that is pulled to the front, and
-- calls that come later, all by the counts that receipts name.
use Rattle.std.proofs.Common.{arith, sym, subst, ◌≡◌, ◌≤◌, ◌<◌, ◌+◌, ◌∷◌, ◌++◌, ℕ, List, []}
use Rattle.ho_base.specs.declared.receipts.Receipt.{Receipt}
use Rattle.ho_base.specs.declared.receipts.Receipt.TheVariants.{Place, Enqueued, Dequeued, Peeked, Looked}
use Rattle.weave.specs.Parts.{Told}
use Rattle.weave.specs.Order.{GoesBefore, EachTold, NoneBefore}

-- 1. After n takes and e enqueues a call may be made, and is as its receipt says
abbrev pub Fits : ℕ → ℕ → ℕ → Receipt → Type 0
Fits room n e (Enqueued p s) = (p ≡ e) × (e < n + room)
Fits room n e (Dequeued p) = (p ≡ n) × (n < e)
Fits room n e (Peeked p) = (p ≡ n) × (n < e)
Fits room n e (Looked head tail) = (head ≡ n) × (tail ≡ e)
Fits room n e (Place number) = ⊥

-- the counts after it
abbrev pub takes_then : ℕ → Receipt → ℕ
takes_then n (Dequeued p) = n + 1
takes_then n _ = n

abbrev pub enqueues_then : ℕ → Receipt → ℕ
enqueues_then e (Enqueued p s) = e + 1
enqueues_then e _ = e

abbrev pub AllFit : ℕ → ℕ → ℕ → List Told → Type 0
AllFit room n e [] = Unit {0}
AllFit room n e (x ∷ xs) = Fits room n e x.made.receipt × AllFit room (takes_then n x.made.receipt) (enqueues_then e x.made.receipt) xs

-- 2. The second fits first, the first then, and they leave the same counts
abbrev Swapped : ℕ → ℕ → ℕ → Receipt → Receipt → Type 0
Swapped room n e x y = Fits room n e y × Fits room (takes_then n y) (enqueues_then e y) x
    × (takes_then (takes_then n y) x ≡ takes_then (takes_then n x) y) × (enqueues_then (enqueues_then e y) x ≡ enqueues_then (enqueues_then e x) y)

swap : (room n e : ℕ) (x y : Receipt) → Fits room n e x → Fits room (takes_then n x) (enqueues_then e x) y → (GoesBefore room x y → ⊥) → Swapped room n e x y
swap room n e (Enqueued h s) (Enqueued i t) a b free = absurd (free (omega (arith, a, b)))
swap room n e (Enqueued h s) (Dequeued i) a b free = ((omega (arith, a, b, free), omega (arith, a, b, free)), (omega (arith, a, b, free), omega (arith, a, b, free)), omega (arith, a, b), omega (arith, a, b))
swap room n e (Enqueued h s) (Peeked i) a b free = ((omega (arith, a, b, free), omega (arith, a, b, free)), (omega (arith, a, b, free), omega (arith, a, b, free)), omega (arith, a, b), omega (arith, a, b))
swap room n e (Enqueued h s) (Looked i u) a b free = absurd (free (omega (arith, a, b)))
swap room n e (Dequeued h) (Enqueued i t) a b free = ((omega (arith, a, b, free), omega (arith, a, b, free)), (omega (arith, a, b, free), omega (arith, a, b, free)), omega (arith, a, b), omega (arith, a, b))
swap room n e (Dequeued h) (Dequeued i) a b free = absurd (free (omega (arith, a, b)))
swap room n e (Dequeued h) (Peeked i) a b free = absurd (free (omega (arith, a, b)))
swap room n e (Dequeued h) (Looked i u) a b free = absurd (free (omega (arith, a, b)))
swap room n e (Peeked h) (Enqueued i t) a b free = ((omega (arith, a, b), omega (arith, a, b)), (omega (arith, a, b), omega (arith, a, b)), omega (arith, a, b), omega (arith, a, b))
swap room n e (Peeked h) (Dequeued i) a b free = absurd (free (omega (arith, a, b)))
swap room n e (Peeked h) (Peeked i) a b free = ((omega (arith, a, b), omega (arith, a, b)), (omega (arith, a, b), omega (arith, a, b)), omega (arith, a, b), omega (arith, a, b))
swap room n e (Peeked h) (Looked i u) a b free = ((omega (arith, a, b), omega (arith, a, b)), (omega (arith, a, b), omega (arith, a, b)), omega (arith, a, b), omega (arith, a, b))
swap room n e (Looked h t) (Enqueued i u) a b free = absurd (free (omega (arith, a, b)))
swap room n e (Looked h t) (Dequeued i) a b free = absurd (free (omega (arith, a, b)))
swap room n e (Looked h t) (Peeked i) a b free = ((omega (arith, a, b), omega (arith, a, b)), (omega (arith, a, b), omega (arith, a, b)), omega (arith, a, b), omega (arith, a, b))
swap room n e (Looked h t) (Looked i u) a b free = ((omega (arith, a, b), omega (arith, a, b)), (omega (arith, a, b), omega (arith, a, b)), omega (arith, a, b), omega (arith, a, b))
swap room n e (Place k) y a b free = absurd a
swap room n e x (Place k) a b free = absurd b

pub pull : (room n e : ℕ) (xs : List Told) (y : Told) (zs : List Told) → AllFit room n e (xs ++ y ∷ zs) → NoneBefore room y.made.receipt xs → AllFit room n e (y ∷ xs ++ zs)
pull room n e [] y zs fit free = fit
pull room n e (x ∷ xs) y zs fit free =
    let a = x.made.receipt in let b = y.made.receipt in
    let inner = pull room (takes_then n a) (enqueues_then e a) xs y zs fit.1 free.1 in
    let s = swap room n e a b fit.0 inner.0 free.0 in (
      s.0,
      (
        s.1,
        subst (λ k. AllFit room k (enqueues_then (enqueues_then e b) a) (xs ++ zs)) (sym s.2) (subst (λ k. AllFit room (takes_then (takes_then n a) b) k (xs ++ zs)) (sym s.3) inner.1),
      ),
    )

pub pull_behind : (room n e : ℕ) (before xs : List Told) (y : Told) (zs : List Told) → AllFit room n e (before ++ (xs ++ y ∷ zs)) → NoneBefore room y.made.receipt xs → AllFit room n e (before ++ y ∷ (xs ++ zs))
pull_behind room n e [] xs y zs fit free = pull room n e xs y zs fit free
pull_behind room n e (b ∷ before) xs y zs fit free = (fit.0, pull_behind room (takes_then n b.made.receipt) (enqueues_then e b.made.receipt) before xs y zs fit.1 free)

-- 3. A wider relation, with which only the first call left of each kind has to be compared
abbrev pub MayGoBefore : ℕ → Receipt → Receipt → Type 0
MayGoBefore room (Enqueued p s) (Enqueued q t) = p < q
MayGoBefore room (Dequeued p) (Dequeued q) = p < q
MayGoBefore room (Enqueued p s) (Dequeued q) = p ≤ q
MayGoBefore room (Enqueued p s) (Peeked q) = p ≤ q
MayGoBefore room (Dequeued p) (Enqueued q t) = p + room ≤ q
MayGoBefore room (Dequeued p) (Peeked q) = p < q
MayGoBefore room (Peeked p) (Dequeued q) = p ≤ q
MayGoBefore room (Enqueued p s) (Looked head tail) = p < tail
MayGoBefore room (Dequeued p) (Looked head tail) = p < head
MayGoBefore room (Looked head tail) (Enqueued q t) = tail ≤ q
MayGoBefore room (Looked head tail) (Dequeued q) = head ≤ q
MayGoBefore room _ _ = ⊥

pub may_go : (room : ℕ) (x y : Receipt) → GoesBefore room x y → MayGoBefore room x y
may_go room (Enqueued p s) (Enqueued q t) h = h
may_go room (Dequeued p) (Dequeued q) h = h
may_go room (Enqueued p s) (Dequeued q) h = omega (arith, h)
may_go room (Enqueued p s) (Peeked q) h = omega (arith, h)
may_go room (Dequeued p) (Enqueued q t) h = omega (arith, h)
may_go room (Dequeued p) (Peeked q) h = h
may_go room (Peeked p) (Dequeued q) h = h
may_go room (Enqueued p s) (Looked head tail) h = h
may_go room (Dequeued p) (Looked head tail) h = h
may_go room (Looked head tail) (Enqueued q t) h = h
may_go room (Looked head tail) (Dequeued q) h = h
may_go room _ _ h = absurd h

-- a call that fits after later counts may not go before one that fits at n and e
later : (room n e n' e' : ℕ) (x y : Receipt) → n ≤ e → Fits room n e x → takes_then n x ≤ n' → enqueues_then e x ≤ e' → Fits room n' e' y → MayGoBefore room y x → ⊥
later room n e n' e' (Enqueued h s) (Enqueued i t) o a p q b w = omega (arith, o, a, p, q, b, w)
later room n e n' e' (Enqueued h s) (Dequeued i) o a p q b w = omega (arith, o, a, p, q, b, w)
later room n e n' e' (Enqueued h s) (Peeked i) o a p q b w = w
later room n e n' e' (Enqueued h s) (Looked i u) o a p q b w = omega (arith, o, a, p, q, b, w)
later room n e n' e' (Dequeued h) (Enqueued i t) o a p q b w = omega (arith, o, a, p, q, b, w)
later room n e n' e' (Dequeued h) (Dequeued i) o a p q b w = omega (arith, o, a, p, q, b, w)
later room n e n' e' (Dequeued h) (Peeked i) o a p q b w = omega (arith, o, a, p, q, b, w)
later room n e n' e' (Dequeued h) (Looked i u) o a p q b w = omega (arith, o, a, p, q, b, w)
later room n e n' e' (Peeked h) (Enqueued i t) o a p q b w = omega (arith, o, a, p, q, b, w)
later room n e n' e' (Peeked h) (Dequeued i) o a p q b w = omega (arith, o, a, p, q, b, w)
later room n e n' e' (Peeked h) (Peeked i) o a p q b w = w
later room n e n' e' (Peeked h) (Looked i u) o a p q b w = w
later room n e n' e' (Looked h t) (Enqueued i u) o a p q b w = omega (arith, o, a, p, q, b, w)
later room n e n' e' (Looked h t) (Dequeued i) o a p q b w = omega (arith, o, a, p, q, b, w)
later room n e n' e' (Looked h t) (Peeked i) o a p q b w = w
later room n e n' e' (Looked h t) (Looked i u) o a p q b w = w
later room n e n' e' (Place k) y o a p q b w = absurd a
later room n e n' e' x (Place k) o a p q b w = absurd b

-- counts never fall, and no more is taken than enqueued
pub steps : (room n e : ℕ) (y : Receipt) → n ≤ e → Fits room n e y → (n ≤ takes_then n y) × (e ≤ enqueues_then e y) × (takes_then n y ≤ enqueues_then e y)
steps room n e (Enqueued i s) o b = (omega (arith, o, b), omega (arith, o, b), omega (arith, o, b))
steps room n e (Dequeued i) o b = (omega (arith, o, b), omega (arith, o, b), omega (arith, o, b))
steps room n e (Peeked i) o b = (omega (arith, o, b), omega (arith, o, b), omega (arith, o, b))
steps room n e (Looked i u) o b = (omega (arith, o, b), omega (arith, o, b), omega (arith, o, b))
steps room n e (Place k) o b = absurd b

abbrev pub MayNot : ℕ → Receipt → Receipt → Type 0
MayNot room y x = MayGoBefore room x y → ⊥

all_later : (room n e n' e' : ℕ) (x : Receipt) (ys : List Told) → n ≤ e → n' ≤ e' → Fits room n e x → takes_then n x ≤ n' → enqueues_then e x ≤ e' → AllFit room n' e' ys → EachTold (MayNot room x) ys
all_later room n e n' e' x [] o o' a p q fit = tt
all_later room n e n' e' x (y ∷ ys) o o' a p q fit =
    let r = y.made.receipt in
    let s = steps room n' e' r o' fit.0 in (
      later room n e n' e' x r o a p q fit.0,
      all_later room n e (takes_then n' r) (enqueues_then e' r) x ys o s.2 a (omega (arith, p, s.0)) (omega (arith, q, s.1)) fit.1,
    )

-- no later call may go before the first
pub first_free : (room n e : ℕ) (x : Told) (ys : List Told) → n ≤ e → AllFit room n e (x ∷ ys) → EachTold (MayNot room x.made.receipt) ys
first_free room n e x ys o fit =
    let r = x.made.receipt in
    let s = steps room n e r o fit.0 in all_later room n e (takes_then n r) (enqueues_then e r) r ys o s.2 fit.0 (omega arith) (omega arith) fit.1
