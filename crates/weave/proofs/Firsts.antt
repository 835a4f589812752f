-- The first call left of each kind tells whether any call left may go before another.
use Rattle.std.proofs.Common.{◌≡◌, ℕ, ◌+◌, ◌≤◌, List, [], ◌∷◌, slice_get, zero, suc, Option, Some, Bool, true, false, not, ◌&&◌, cond, ltb, leb, refl, sym, ap, ◌∙◌, subst, arith}
use mathlib.Core.Logic.{dite}
use native.Mathlib.Decide.{ℕ_discrete}
use Rattle.std.specs.List.{list_all}
use Rattle.std.proofs.lemmas.Bool.{lt-ltb, le-ltb, le-leb, lt-leb}
use Rattle.std.proofs.lemmas.Option.{none-some, same_Some}
use Rattle.ho_base.specs.declared.receipts.Receipt.{Receipt}
use Rattle.ho_base.specs.declared.receipts.Receipt.TheVariants.{Place, Enqueued, Dequeued, Peeked, Looked}
use Rattle.weave.specs.declared.made.Made.{Made}
use Rattle.weave.specs.declared.aheads.Kind.{Kind}
use Rattle.weave.specs.declared.aheads.Kind.TheVariants as kind
use Rattle.weave.specs.Parts.{PartMade, Told, made_by}
use Rattle.weave.specs.Order.{EachTold}
use Rattle.weave.specs.Aheads.{may_go_before, has_kind, first_of, ahead_of, aheads_of, first_may_go, leaves_free}
use Rattle.weave.proofs.CallsByCaller.{EachMade, each_made, made_own, made_other}
use Rattle.weave.proofs.Swaps.{Fits, takes_then, enqueues_then, AllFit, MayGoBefore, MayNot, steps}

-- 1. What the test tells
clash : (b : Bool) → b ≡ false → b ≡ true → ⊥
clash b fails passes = let both : true ≡ false = sym passes ∙ fails in absurd (cc)

tells : (room : ℕ) (x y : Receipt) → may_go_before room x y ≡ false → MayNot room y x
tells room (Enqueued p s) (Enqueued q t) h w = clash (ltb p q) h (lt-ltb p q w)
tells room (Enqueued p s) (Dequeued q) h w = clash (leb p q) h (le-leb p q w)
tells room (Enqueued p s) (Peeked q) h w = clash (leb p q) h (le-leb p q w)
tells room (Enqueued p s) (Looked i u) h w = clash (ltb p u) h (lt-ltb p u w)
tells room (Dequeued p) (Enqueued q t) h w = clash (leb (p + room) q) h (le-leb (p + room) q w)
tells room (Dequeued p) (Dequeued q) h w = clash (ltb p q) h (lt-ltb p q w)
tells room (Dequeued p) (Peeked q) h w = clash (ltb p q) h (lt-ltb p q w)
tells room (Dequeued p) (Looked i u) h w = clash (ltb p i) h (lt-ltb p i w)
tells room (Peeked p) (Dequeued q) h w = clash (leb p q) h (le-leb p q w)
tells room (Looked i u) (Enqueued q t) h w = clash (leb u q) h (le-leb u q w)
tells room (Looked i u) (Dequeued q) h w = clash (leb i q) h (le-leb i q w)
tells room _ _ h w = w

told_free : (room : ℕ) (x y : Receipt) → MayNot room y x → may_go_before room x y ≡ false
told_free room (Enqueued p s) (Enqueued q t) free = le-ltb p q (omega (arith, free))
told_free room (Enqueued p s) (Dequeued q) free = lt-leb p q (omega (arith, free))
told_free room (Enqueued p s) (Peeked q) free = lt-leb p q (omega (arith, free))
told_free room (Enqueued p s) (Looked i u) free = le-ltb p u (omega (arith, free))
told_free room (Dequeued p) (Enqueued q t) free = lt-leb (p + room) q (omega (arith, free))
told_free room (Dequeued p) (Dequeued q) free = le-ltb p q (omega (arith, free))
told_free room (Dequeued p) (Peeked q) free = le-ltb p q (omega (arith, free))
told_free room (Dequeued p) (Looked i u) free = le-ltb p i (omega (arith, free))
told_free room (Peeked p) (Dequeued q) free = lt-leb p q (omega (arith, free))
told_free room (Looked i u) (Enqueued q t) free = lt-leb u q (omega (arith, free))
told_free room (Looked i u) (Dequeued q) free = lt-leb i q (omega (arith, free))
told_free room _ _ free = refl

-- 2. The receipts of one kind never fall within a part
abbrev SameKind : Receipt → Receipt → Type 0
SameKind (Enqueued p s) (Enqueued q t) = Unit {0}
SameKind (Dequeued p) (Dequeued q) = Unit {0}
SameKind (Peeked p) (Peeked q) = Unit {0}
SameKind (Looked i u) (Looked j v) = Unit {0}
SameKind _ _ = ⊥

same_kind : (k : Kind) (x y : Receipt) → has_kind k x ≡ true → has_kind k y ≡ true → SameKind x y
same_kind kind.Enqueued (Enqueued p s) (Enqueued q t) hx hy = tt
same_kind kind.Dequeued (Dequeued p) (Dequeued q) hx hy = tt
same_kind kind.Peeked (Peeked p) (Peeked q) hx hy = tt
same_kind kind.Looked (Looked i u) (Looked j v) hx hy = tt
same_kind _ _ _ hx hy = absurd (cc)

-- of one kind, and no lower
abbrev NoLower : Receipt → Receipt → Type 0
NoLower (Enqueued p s) (Enqueued q t) = p ≤ q
NoLower (Dequeued p) (Dequeued q) = p ≤ q
NoLower (Peeked p) (Peeked q) = p ≤ q
NoLower (Looked i u) (Looked j v) = (i ≤ j) × (u ≤ v)
NoLower _ _ = Unit {0}

-- what the higher one may go before, the lower one may too
lower_too : (room : ℕ) (x y z : Receipt) → SameKind x y → NoLower x y → MayGoBefore room y z → MayGoBefore room x z
lower_too room (Enqueued p s) (Enqueued q t) (Enqueued j r) k a w = omega (arith, a, w)
lower_too room (Enqueued p s) (Enqueued q t) (Dequeued j) k a w = omega (arith, a, w)
lower_too room (Enqueued p s) (Enqueued q t) (Peeked j) k a w = omega (arith, a, w)
lower_too room (Enqueued p s) (Enqueued q t) (Looked i u) k a w = omega (arith, a, w)
lower_too room (Enqueued p s) (Enqueued q t) (Place n) k a w = w
lower_too room (Dequeued p) (Dequeued q) (Enqueued j r) k a w = omega (arith, a, w)
lower_too room (Dequeued p) (Dequeued q) (Dequeued j) k a w = omega (arith, a, w)
lower_too room (Dequeued p) (Dequeued q) (Peeked j) k a w = omega (arith, a, w)
lower_too room (Dequeued p) (Dequeued q) (Looked i u) k a w = omega (arith, a, w)
lower_too room (Dequeued p) (Dequeued q) (Place n) k a w = w
lower_too room (Peeked p) (Peeked q) (Enqueued j r) k a w = w
lower_too room (Peeked p) (Peeked q) (Dequeued j) k a w = omega (arith, a, w)
lower_too room (Peeked p) (Peeked q) (Peeked j) k a w = w
lower_too room (Peeked p) (Peeked q) (Looked i u) k a w = w
lower_too room (Peeked p) (Peeked q) (Place n) k a w = w
lower_too room (Looked i u) (Looked j v) (Enqueued p s) k a w = omega (arith, a, w)
lower_too room (Looked i u) (Looked j v) (Dequeued p) k a w = omega (arith, a, w)
lower_too room (Looked i u) (Looked j v) (Peeked p) k a w = w
lower_too room (Looked i u) (Looked j v) (Looked p q) k a w = w
lower_too room (Looked i u) (Looked j v) (Place n) k a w = w
lower_too room _ _ _ k a w = absurd k

-- a call that fits after later counts is no lower
fits_no_lower : (room n e n' e' : ℕ) (x y : Receipt) → Fits room n e x → takes_then n x ≤ n' → enqueues_then e x ≤ e' → Fits room n' e' y → NoLower x y
fits_no_lower room n e n' e' (Enqueued p s) (Enqueued q t) a b c d = omega (arith, a, b, c, d)
fits_no_lower room n e n' e' (Dequeued p) (Dequeued q) a b c d = omega (arith, a, b, c, d)
fits_no_lower room n e n' e' (Peeked p) (Peeked q) a b c d = omega (arith, a, b, c, d)
fits_no_lower room n e n' e' (Looked i u) (Looked j v) a b c d = (omega (arith, a, b, c, d), omega (arith, a, b, c, d))
fits_no_lower room n e n' e' _ _ a b c d = tt

all_no_lower : (room n e n' e' : ℕ) (x : Receipt) (ys : List Told) → n' ≤ e' → Fits room n e x → takes_then n x ≤ n' → enqueues_then e x ≤ e' → AllFit room n' e' ys → EachTold (NoLower x) ys
all_no_lower room n e n' e' x [] o a p q fit = tt
all_no_lower room n e n' e' x (y ∷ ys) o a p q fit =
    let r = y.made.receipt in let s = steps room n' e' r o fit.0 in (
      fits_no_lower room n e n' e' x r a p q fit.0,
      all_no_lower room n e (takes_then n' r) (enqueues_then e' r) x ys s.2 a (omega (arith, p, s.0)) (omega (arith, q, s.1)) fit.1,
    )

abbrev pub NeverFalls : List Made → Type 0
NeverFalls [] = Unit {0}
NeverFalls (m ∷ ms) = EachMade (NoLower m.receipt) ms × NeverFalls ms

pub part_never_falls : (room n e : ℕ) (ts : List Told) (c : ℕ) → n ≤ e → AllFit room n e ts → NeverFalls (made_by c ts)
part_never_falls room n e [] c o fit = tt
part_never_falls room n e (t ∷ ts) c o fit =
    let r = t.made.receipt in let s = steps room n e r o fit.0 in
    let rest = part_never_falls room (takes_then n r) (enqueues_then e r) ts c s.2 fit.1 in
    dite (ℕ_discrete t.caller c)
    (λ (is : t.caller ≡ c). subst NeverFalls (sym (made_own c t ts is)) (each_made (NoLower r) ts c (all_no_lower room n e (takes_then n r) (enqueues_then e r) r ts s.2 fit.0 (omega arith) (omega arith) fit.1), rest))
    (λ (ne : t.caller ≡ c → ⊥). subst NeverFalls (sym (made_other c t ts ne)) rest)

-- 3. So the first of each kind tells of all
each_made_weaker : (P Q : Receipt → Type 0) → ((r : Receipt) → P r → Q r) → (ms : List Made) → EachMade P ms → EachMade Q ms
each_made_weaker P Q f [] h = tt
each_made_weaker P Q f (m ∷ ms) h = (f m.receipt h.0, each_made_weaker P Q f ms h.1)

abbrev FreeOf : ℕ → Receipt → Kind → Receipt → Type 0
FreeOf room y k r = has_kind k r ≡ true → MayNot room y r

bool_cases : (b : Bool) → (C : Type 0) → (b ≡ true → C) → (b ≡ false → C) → C
bool_cases true C passes fails = passes refl
bool_cases false C passes fails = fails refl

kind_free : (room : ℕ) (y : Receipt) (k : Kind) (made : List Made) → NeverFalls made → first_may_go room (first_of k made) y ≡ false → EachMade (FreeOf room y k) made
kind_free room y k [] rises h = tt
kind_free room y k (m ∷ ms) rises h = bool_cases (has_kind k m.receipt) (EachMade (FreeOf room y k) (m ∷ ms))
    (λ (is : has_kind k m.receipt ≡ true).
    let first : first_of k (m ∷ ms) ≡ Some m.receipt = ap (λ b. cond b (Some m.receipt) (first_of k ms)) is in
    let free : MayNot room y m.receipt = tells room m.receipt y (ap (λ (o : Option Receipt). first_may_go room o y) (sym first) ∙ h) in (
      (λ has. free),
      each_made_weaker (NoLower m.receipt) (FreeOf room y k) (λ r lower has w. free (lower_too room m.receipt r y (same_kind k m.receipt r is has) lower w)) ms rises.0,
    ))
    (λ (is : has_kind k m.receipt ≡ false).
    let first : first_of k (m ∷ ms) ≡ first_of k ms = ap (λ b. cond b (Some m.receipt) (first_of k ms)) is in (
      (λ has. absurd (clash (has_kind k m.receipt) is has)),
      kind_free room y k ms rises.1 (ap (λ (o : Option Receipt). first_may_go room o y) (sym first) ∙ h),
    ))

of_all_kinds : (room : ℕ) (y r : Receipt) → FreeOf room y kind.Enqueued r → FreeOf room y kind.Dequeued r → FreeOf room y kind.Peeked r → FreeOf room y kind.Looked r → MayNot room y r
of_all_kinds room y (Enqueued p s) a b c d = a refl
of_all_kinds room y (Dequeued p) a b c d = b refl
of_all_kinds room y (Peeked p) a b c d = c refl
of_all_kinds room y (Looked i u) a b c d = d refl
of_all_kinds room y (Place n) a b c d = λ w. w

each_of_kinds : (room : ℕ) (y : Receipt) (ms : List Made) → EachMade (FreeOf room y kind.Enqueued) ms → EachMade (FreeOf room y kind.Dequeued) ms → EachMade (FreeOf room y kind.Peeked) ms → EachMade (FreeOf room y kind.Looked) ms → EachMade (MayNot room y) ms
each_of_kinds room y [] a b c d = tt
each_of_kinds room y (m ∷ ms) a b c d = (of_all_kinds room y m.receipt a.0 b.0 c.0 d.0, each_of_kinds room y ms a.1 b.1 c.1 d.1)

-- the four tests
four_false : (a b c d : Bool) → cond a false (cond b false (cond c false (not d))) ≡ true → (a ≡ false) × (b ≡ false) × (c ≡ false) × (d ≡ false)
four_false false false false false h = (refl, refl, refl, refl)
four_false _ _ _ _ h = absurd (cc)

pub leaves_free_all : (room : ℕ) (y : Receipt) (made : List Made) → NeverFalls made → leaves_free room y (ahead_of made) ≡ true → EachMade (MayNot room y) made
leaves_free_all room y made rises h =
    let four = four_false (first_may_go room (first_of kind.Enqueued made) y) (first_may_go room (first_of kind.Dequeued made) y) (first_may_go room (first_of kind.Peeked made) y) (first_may_go room (first_of kind.Looked made) y) h in
    each_of_kinds room y made (kind_free room y kind.Enqueued made rises four.0) (kind_free room y kind.Dequeued made rises four.1) (kind_free room y kind.Peeked made rises four.2) (kind_free room y kind.Looked made rises four.3)

-- and the converse
first_free_of : (room : ℕ) (y : Receipt) (k : Kind) (made : List Made) → EachMade (MayNot room y) made → first_may_go room (first_of k made) y ≡ false
first_free_of room y k [] h = refl
first_free_of room y k (m ∷ ms) h = bool_cases (has_kind k m.receipt) (first_may_go room (first_of k (m ∷ ms)) y ≡ false)
    (λ (is : has_kind k m.receipt ≡ true). ap (λ b. first_may_go room (cond b (Some m.receipt) (first_of k ms)) y) is ∙ told_free room m.receipt y h.0)
    (λ (is : has_kind k m.receipt ≡ false). ap (λ b. first_may_go room (cond b (Some m.receipt) (first_of k ms)) y) is ∙ first_free_of room y k ms h.1)

four_true : (a b c d : Bool) → a ≡ false → b ≡ false → c ≡ false → d ≡ false → cond a false (cond b false (cond c false (not d))) ≡ true
four_true false false false false p q r s = refl
four_true _ _ _ _ p q r s = absurd (cc)

pub all_leaves_free : (room : ℕ) (y : Receipt) (made : List Made) → EachMade (MayNot room y) made → leaves_free room y (ahead_of made) ≡ true
all_leaves_free room y made h = four_true _ _ _ _ (first_free_of room y kind.Enqueued made h) (first_free_of room y kind.Dequeued made h) (first_free_of room y kind.Peeked made h) (first_free_of room y kind.Looked made h)

-- 4. Over all parts
and_both : (a b : Bool) → (a && b) ≡ true → (a ≡ true) × (b ≡ true)
and_both true b h = (refl, h)
and_both false b h = absurd (cc)

pub free_at : (room : ℕ) (y : Receipt) (left : List PartMade) → list_all (leaves_free room y) (aheads_of left) ≡ true → (i : ℕ) (p : PartMade) → slice_get left i ≡ Some p → leaves_free room y (ahead_of p.made) ≡ true
free_at room y [] h i p at = absurd (none-some p at)
free_at room y (q ∷ left) h zero p at = ap (λ (x : PartMade). leaves_free room y (ahead_of x.made)) (sym (same_Some q p at)) ∙ (and_both _ _ h).0
free_at room y (q ∷ left) h (suc i) p at = free_at room y left (and_both (leaves_free room y (ahead_of q.made)) _ h).1 i p at

pub free_everywhere : (room : ℕ) (y : Receipt) (left : List PartMade) → ((i : ℕ) (p : PartMade) → slice_get left i ≡ Some p → leaves_free room y (ahead_of p.made) ≡ true) → list_all (leaves_free room y) (aheads_of left) ≡ true
free_everywhere room y [] h = refl
free_everywhere room y (q ∷ left) h =
    let here = h 0 q refl in
    let rest = free_everywhere room y left (λ i p at. h (suc i) p at) in
    ap (λ b. b && list_all (leaves_free room y) (aheads_of left)) here ∙ rest

-- a call does not go before itself
pub not_itself : (room : ℕ) (x : Receipt) → MayNot room x x
not_itself room (Enqueued p s) = λ w. omega (arith, w)
not_itself room (Dequeued p) = λ w. omega (arith, w)
not_itself room (Peeked p) = λ w. w
not_itself room (Looked i u) = λ w. w
not_itself room (Place n) = λ w. w
