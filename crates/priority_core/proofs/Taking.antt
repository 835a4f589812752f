-- The item that a read takes: of those of least priority, the one with the least key.
use Rattle.std.proofs.Common.{◌≡◌, refl, ap, ℕ, suc, ◌+◌, ◌<◌, ◌≤◌, List, [], ◌∷◌, Bool, true, false, cond, nat_lt, nat_le, arith, length, map, remove, Some, inl, inr, add-one}
use Rattle.std.proofs.lemmas.Bool.{ltb-false, le-leb, lt-leb}
use Rattle.ho_base.specs.Marks.{Mark}
use Rattle.ho_model.specs.Channel.{least_place, read_place, item_at}
use Rattle.priority_core.specs.Rank.{IsBefore, insert_by}
use Rattle.priority_core.proofs.Ordering.{Each, each_weaker}

-- the place and the item of a read
abbrev pub least_of : (Mark → ℕ) → List Mark → ℕ × Mark
least_of priority [] = (0, [])
least_of priority (m ∷ ms) = least_place priority m ms

pub place_is : (priority : Mark → ℕ) (ms : List Mark) → read_place (Some priority) ms ≡ (least_of priority ms).0
place_is priority [] = refl
place_is priority (m ∷ ms) = refl

module _ {X : Type 0} (key : X → ℕ) (mark : X → Mark) (priority : Mark → ℕ) where
  -- a read takes x, and leaves these
  pub record IsTaken (x : X) (ms rest : List Mark) : Type 0 where
    pub place : ℕ
    pub least : least_of priority ms ≡ (place, mark x)
    pub item : item_at ms place ≡ mark x
    pub left : remove ms place ≡ rest

  -- x leaves before y
  abbrev pub Before : X → X → Type 0
  Before x y = IsBefore (priority (mark x)) (key x) (priority (mark y)) (key y)

  before_le : (x y : X) → Before x y → priority (mark x) ≤ priority (mark y)
  before_le x y (inl l) = omega arith
  before_le x y (inr l) = let e = l.0 in omega arith

  before_lt : (x y : X) → Before x y → key y < key x → priority (mark x) < priority (mark y)
  before_lt x y (inl l) k = l
  before_lt x y (inr l) k = let e = l.1 in absurd (omega arith)

  least_bound_step : (b : ℕ) (m : Mark) (rest : ℕ × Mark) (t : Bool) → nat_le (priority m) (priority rest.1) ≡ t → b ≤ priority m → b ≤ priority rest.1 → b ≤ priority (cond {A = ℕ × Mark} t (0, m) (rest.0 + 1, rest.1)).1
  least_bound_step b m rest true e l r = l
  least_bound_step b m rest false e l r = r

  -- none is less than what bounds them all
  least_bound : (b : ℕ) (m : Mark) (ms : List X) → b ≤ priority m → Each (λ y. b ≤ priority (mark y)) ms → b ≤ priority (least_place priority m (map mark ms)).1
  least_bound b m [] l h = l
  least_bound b m (y ∷ ys) l h =
      let rest = least_place priority (mark y) (map mark ys) in
      least_bound_step b m rest (nat_le (priority m) (priority rest.1)) refl l (least_bound b (mark y) ys h.0 h.1)

  -- the first one is taken
  first_step : (x : X) (ys : List X) → Each (λ y. priority (mark x) ≤ priority (mark y)) ys → IsTaken x (mark x ∷ map mark ys) (map mark ys)
  first_step x [] h = record { place = 0; least = refl; item = refl; left = refl }
  first_step x (y ∷ ys) h =
      let l = le-leb (priority (mark x)) (priority (least_place priority (mark y) (map mark ys)).1) (least_bound (priority (mark x)) (mark y) ys h.0 h.1) in
      record { place = 0; least = simp l refl; item = refl; left = refl }

  -- one of greater priority stands before
  later_step : (x z : X) (ms rest : List Mark) → 0 < length ms → priority (mark x) < priority (mark z) → IsTaken x ms rest → IsTaken x (mark z ∷ ms) (mark z ∷ rest)
  later_step x z [] rest some l t = absurd (omega arith)
  later_step x z (m ∷ ms) rest some l t =
      let e : nat_le (priority (mark z)) (priority (mark x)) ≡ false = lt-leb (priority (mark z)) (priority (mark x)) l in
      record { place = suc t.place; least = simp (t.least, e) (ap (λ n. (n, mark x)) (add-one t.place)); item = t.item; left = ap (λ r. mark z ∷ r) t.left }

  insert_some_step : (x y : X) (ys : List X) (m : Bool) → nat_lt (key x) (key y) ≡ m → 0 < length (map mark (insert_by key x (y ∷ ys)))
  insert_some_step x y ys true e = simp e (omega arith)
  insert_some_step x y ys false e = simp e (omega arith)

  insert_some : (x : X) (ys : List X) → 0 < length (map mark (insert_by key x ys))
  insert_some x [] = omega arith
  insert_some x (y ∷ ys) = insert_some_step x y ys (nat_lt (key x) (key y)) refl

  taken_step : (x z : X) (zs : List X) (m : Bool) → nat_lt (key x) (key z) ≡ m → (key z ≡ key x → ⊥) → Each (Before x) (z ∷ zs) → IsTaken x (map mark (insert_by key x zs)) (map mark zs) → IsTaken x (map mark (insert_by key x (z ∷ zs))) (map mark (z ∷ zs))
  taken_step x z zs true e other h more = simp e (first_step x (z ∷ zs) (each_weaker (Before x) (λ y. priority (mark x) ≤ priority (mark y)) (before_le x) (z ∷ zs) h))
  taken_step x z zs false e other h more =
      let l : key z ≤ key x = ltb-false (key x) (key z) e in
      simp e (later_step x z (map mark (insert_by key x zs)) (map mark zs) (insert_some x zs) (before_lt x z h.0 (omega arith)) more)

  pub taken : (x : X) (zs : List X) → Each (λ y. key y ≡ key x → ⊥) zs → Each (Before x) zs → IsTaken x (map mark (insert_by key x zs)) (map mark zs)
  taken x [] other h = record { place = 0; least = refl; item = refl; left = refl }
  taken x (z ∷ zs) other h = taken_step x z zs (nat_lt (key x) (key z)) refl other.0 h (taken x zs other.1 h.1)
