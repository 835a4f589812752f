-- The order that takes the least caller first: that the wider test finds all callers whose next call has
-- no call left that goes before it.
use Rattle.std.proofs.Common.{◌≡◌, ◌≢◌, ℕ, ◌+◌, ◌≤◌, ◌<◌, List, [], ◌∷◌, ◌++◌, refl, sym, ap, ◌∙◌, subst, arith, append_assoc, append-nil}
use mathlib.Core.Logic.{dite}
use native.Mathlib.Decide.{ℕ_discrete}
use Rattle.ho_base.specs.declared.receipts.Receipt.{Receipt}
use Rattle.ho_base.specs.declared.receipts.Receipt.TheVariants.{Place, Enqueued, Dequeued, Peeked, Looked}
use Rattle.ho_model.specs.declared.histories.Call.{Call}
use Rattle.ho_model.specs.declared.histories.Reply.{Reply}
use Rattle.weave.specs.Parts.{Told, made_by}
use Rattle.weave.specs.Order.{GoesBefore, EachTold, NoneBefore, IsLeastCaller, IsChosen}
use Rattle.weave.proofs.CallsByCaller.{EachMade, each_made, each_told, each_front, made_behind, made_after}
use Rattle.weave.proofs.Swaps.{Fits, takes_then, enqueues_then, AllFit, MayNot, steps}

-- 1. Positions of calls that are left are no lower than the counts
abbrev Above : ℕ → ℕ → Receipt → Type 0
Above n e (Enqueued p s) = e ≤ p
Above n e (Dequeued p) = n ≤ p
Above n e _ = Unit {0}

fits_above : (room n e n' e' : ℕ) (r : Receipt) → n ≤ n' → e ≤ e' → Fits room n' e' r → Above n e r
fits_above room n e n' e' (Enqueued p s) a b fit = omega (arith, a, b, fit)
fits_above room n e n' e' (Dequeued p) a b fit = omega (arith, a, b, fit)
fits_above room n e n' e' _ a b fit = tt

all_above : (room n e n' e' : ℕ) (ts : List Told) → n' ≤ e' → n ≤ n' → e ≤ e' → AllFit room n' e' ts → EachTold (Above n e) ts
all_above room n e n' e' [] o a b fit = tt
all_above room n e n' e' (t ∷ ts) o a b fit =
    let r = t.made.receipt in let s = steps room n' e' r o fit.0 in (
      fits_above room n e n' e' r a b fit.0,
      all_above room n e (takes_then n' r) (enqueues_then e' r) ts s.2 (omega (arith, a, s.0)) (omega (arith, b, s.1)) fit.1,
    )

-- 2. What a call waits for is left, or was made before
-- the item at p is enqueued before a call that finds it
enqueue_step : (room n e p : ℕ) (r y : Receipt) → ((s : ℕ) → GoesBefore room (Enqueued p s) y) → Fits room n e r → (GoesBefore room r y → ⊥) → e ≤ p → enqueues_then e r ≤ p
enqueue_step room n e p (Enqueued q s) y goes fit free le = dite (ℕ_discrete q p)
    (λ (is : q ≡ p). absurd (free (subst (λ k. GoesBefore room (Enqueued k s) y) (sym is) (goes s))))
    (λ (ne : q ≢ p). let is = fit.0 in omega (arith, is, le, ne))
enqueue_step room n e p _ y goes fit free le = le

enqueue_left : (room p : ℕ) (y : Told) → ((s : ℕ) → GoesBefore room (Enqueued p s) y.made.receipt) → ((n e : ℕ) → Fits room n e y.made.receipt → p < e) → (n e : ℕ) (front back : List Told) → AllFit room n e (front ++ y ∷ back) → NoneBefore room y.made.receipt front → e ≤ p → ⊥
enqueue_left room p y goes found n e [] back fit free le = let lt = found n e fit.0 in omega (arith, lt, le)
enqueue_left room p y goes found n e (x ∷ front) back fit free le =
    let r = x.made.receipt in
    enqueue_left room p y goes found (takes_then n r) (enqueues_then e r) front back fit.1 free.1 (enqueue_step room n e p r y.made.receipt goes fit.0 free.0 le)

-- the item whose room an enqueue at q takes is taken before
take_step : (room n e q : ℕ) (r y : Receipt) → ((p : ℕ) → p + room ≡ q → GoesBefore room (Dequeued p) y) → Fits room n e r → (GoesBefore room r y → ⊥) → n + room ≤ q → takes_then n r + room ≤ q
take_step room n e q (Dequeued p) y goes fit free le = dite (ℕ_discrete (p + room) q)
    (λ (is : p + room ≡ q). absurd (free (goes p is)))
    (λ (ne : p + room ≢ q). let is = fit.0 in omega (arith, is, le, ne))
take_step room n e q _ y goes fit free le = le

take_left : (room q : ℕ) (y : Told) → ((p : ℕ) → p + room ≡ q → GoesBefore room (Dequeued p) y.made.receipt) → ((n e : ℕ) → Fits room n e y.made.receipt → q < n + room) → (n e : ℕ) (front back : List Told) → AllFit room n e (front ++ y ∷ back) → NoneBefore room y.made.receipt front → n + room ≤ q → ⊥
take_left room q y goes found n e [] back fit free le = let lt = found n e fit.0 in omega (arith, lt, le)
take_left room q y goes found n e (x ∷ front) back fit free le =
    let r = x.made.receipt in
    take_left room q y goes found (takes_then n r) (enqueues_then e r) front back fit.1 free.1 (take_step room n e q r y.made.receipt goes fit.0 free.0 le)

-- so, where no call left goes before y, what it waits for was made before
abbrev Reached : ℕ → ℕ → ℕ → Receipt → Type 0
Reached room n e (Enqueued q s) = n + room ≤ q → ⊥
Reached room n e (Dequeued p) = e ≤ p → ⊥
Reached room n e (Peeked p) = e ≤ p → ⊥
Reached room n e _ = Unit {0}

reached : (room n e : ℕ) (front : List Told) (c : ℕ) (call : Call) (reply : Reply) (r : Receipt) (back : List Told) → AllFit room n e (front ++ record { caller = c; made = record { call = call; reply = reply; receipt = r } } ∷ back) → NoneBefore room r front → Reached room n e r
reached room n e front c call reply (Enqueued q s) back fit free = take_left room q (record { caller = c; made = record { call = call; reply = reply; receipt = Enqueued q s } }) (λ p is. is) (λ n' e' f. omega (arith, f)) n e front back fit free
reached room n e front c call reply (Dequeued p) back fit free = enqueue_left room p (record { caller = c; made = record { call = call; reply = reply; receipt = Dequeued p } }) (λ s. refl) (λ n' e' f. omega (arith, f)) n e front back fit free
reached room n e front c call reply (Peeked p) back fit free = enqueue_left room p (record { caller = c; made = record { call = call; reply = reply; receipt = Peeked p } }) (λ s. refl) (λ n' e' f. omega (arith, f)) n e front back fit free
reached room n e front c call reply (Looked i u) back fit free = tt
reached room n e front c call reply (Place k) back fit free = tt

literal : (room n e : ℕ) (x y : Receipt) → Reached room n e y → Above n e x → (GoesBefore room x y → ⊥) → MayNot room y x
literal room n e (Enqueued p s) (Dequeued q) was above free = λ w. was (omega (arith, above, w))
literal room n e (Enqueued p s) (Peeked q) was above free = λ w. was (omega (arith, above, w))
literal room n e (Dequeued p) (Enqueued q t) was above free = λ w. was (omega (arith, above, w))
literal room n e _ _ was above free = free

each_literal : (room n e : ℕ) (y : Receipt) (xs : List Told) → Reached room n e y → EachTold (Above n e) xs → NoneBefore room y xs → EachTold (MayNot room y) xs
each_literal room n e y [] was above free = tt
each_literal room n e y (x ∷ xs) was above free = (literal room n e x.made.receipt y was above.0 free.0, each_literal room n e y xs was above.1 free.1)

-- no call left goes before y: then none may
pub none_may : (room n e : ℕ) (front : List Told) (y : Told) (back : List Told) → n ≤ e → AllFit room n e (front ++ y ∷ back) → NoneBefore room y.made.receipt (front ++ y ∷ back) → EachTold (MayNot room y.made.receipt) (front ++ y ∷ back)
none_may room n e front y back o fit free =
    let r = y.made.receipt in
    let was = reached room n e front y.caller y.made.call y.made.reply r back fit (each_front (λ x. GoesBefore room x r → ⊥) front (y ∷ back) free) in
    each_literal room n e r (front ++ y ∷ back) was (all_above room n e n e (front ++ y ∷ back) o (omega arith) (omega arith) fit) free

-- 3. Which calls are left matters, and not in which order
pub each_same : (P : Receipt → Type 0) (xs ys : List Told) → ((c : ℕ) → made_by c xs ≡ made_by c ys) → EachTold P xs → EachTold P ys
each_same P xs ys same h = each_told P ys (λ c. subst (EachMade P) (same c) (each_made P xs c h))

pub least_same : (room caller : ℕ) (xs ys : List Told) → ((c : ℕ) → made_by c xs ≡ made_by c ys) → IsLeastCaller room caller xs → IsLeastCaller room caller ys
least_same room caller xs ys same h c m ms is free = h c m ms (same c ∙ is) (each_same (λ x. GoesBefore room x m.receipt → ⊥) ys xs (λ k. sym (same k)) free)

pub each_without : (P : Receipt → Type 0) (xs : List Told) (y : Told) (zs : List Told) → EachTold P (xs ++ y ∷ zs) → EachTold P (xs ++ zs)
each_without P [] y zs h = h.1
each_without P (x ∷ xs) y zs h = (h.0, each_without P xs y zs h.1)

-- 4. The calls so far were chosen so, where the rest is left
abbrev pub ChosenSoFar : ℕ → List Told → List Told → Type 0
ChosenSoFar room [] rest = Unit {0}
ChosenSoFar room (x ∷ done) rest = NoneBefore room x.made.receipt (done ++ rest) × IsLeastCaller room x.caller (x ∷ (done ++ rest)) × ChosenSoFar room done rest

pub chosen_more : (room : ℕ) (done rest : List Told) (t : Told) (later : List Told) → ((c : ℕ) → made_by c rest ≡ made_by c (t ∷ later)) → ChosenSoFar room done rest → NoneBefore room t.made.receipt later → IsLeastCaller room t.caller (t ∷ later) → ChosenSoFar room (done ++ t ∷ []) later
chosen_more room [] rest t later same h free least = (free, least, tt)
chosen_more room (x ∷ done) rest t later same h free least =
    let all : (c : ℕ) → made_by c (done ++ rest) ≡ made_by c ((done ++ t ∷ []) ++ later) = λ c. made_after c done rest (t ∷ later) (same c) ∙ ap (made_by c) (sym (append_assoc done (t ∷ []) later)) in (
      each_same (λ y. GoesBefore room y x.made.receipt → ⊥) (done ++ rest) ((done ++ t ∷ []) ++ later) all h.0,
      least_same room x.caller (x ∷ (done ++ rest)) (x ∷ ((done ++ t ∷ []) ++ later)) (λ c. made_behind c x (done ++ rest) ((done ++ t ∷ []) ++ later) (all c)) h.1,
      chosen_more room done rest t later same h.2 free least,
    )

pub all_chosen : (room : ℕ) (done : List Told) → ChosenSoFar room done [] → IsChosen room done
all_chosen room [] h = tt
all_chosen room (x ∷ done) h = (
  subst (NoneBefore room x.made.receipt) (append-nil done) h.0,
  subst (λ (l : List Told). IsLeastCaller room x.caller (x ∷ l)) (append-nil done) h.1,
  all_chosen room done h.2,
)
