-- Places in the waits with and without one of them.
use Rattle.std.specs.Prelude.{ℕ, List, [], ◌∷◌, ◌++◌, Bool, true, false, not, map, cond, ◌&&◌, ◌||◌, Some, None, position, remove, nat_lt}
use Rattle.std.specs.List.{position_or_len}
use Rattle.std.specs.List.{count_by, AllByRecursion}
use Rattle.std.specs.Prelude.{◌==◌, slice_index}
use Rattle.std.proofs.lemmas.List.Sums.{sum_by-cons}
use Rattle.std.proofs.Common.{◌≡◌, refl, ap, sym, ◌∙◌, ◌+◌, ◌<◌, ◌≤◌, ◌⊎◌, inl, inr, suc, arith, length}
use Rattle.std.proofs.Math.Numerals.{one-add}
use Rattle.std.proofs.lemmas.Bool.{lt-ltb, both_ways, and_parts, eqb-true}
use Rattle.ho_model.specs.declared.marks.ReplyMark.{ReplyMark}
use Rattle.ho_model.specs.Channel.{Waiter, is_wait, is_waiting, answered, answer_at, waiter_at, no_waiter}
use Prim.Native.Nat.compare
use Rattle.channel_laws.specs.Twin.{but_for, is_open, is_answered}

-- one passes the test
abbrev pub some_of : (Waiter → Bool) → List Waiter → Bool
some_of p [] = false
some_of p (w ∷ ws) = cond (p w) true (some_of p ws)

-- the first that passes
abbrev pub first_of : (Waiter → Bool) → List Waiter → Waiter
first_of p [] = no_waiter
first_of p (w ∷ ws) = cond (p w) w (first_of p ws)

-- without the first that passes
abbrev pub drop_first : (Waiter → Bool) → List Waiter → List Waiter
drop_first p [] = []
drop_first p (w ∷ ws) = cond (p w) ws (w ∷ drop_first p ws)

-- the first that passes is answered
abbrev pub answer_first : (Waiter → Bool) → ReplyMark → List Waiter → List Waiter
answer_first p r [] = []
answer_first p r (w ∷ ws) = cond (p w) (answered w r ∷ ws) (w ∷ answer_first p r ws)

-- the first that passes has another name
abbrev pub first_is_other : (Waiter → Bool) → ℕ → ℕ → List Waiter → Bool
first_is_other p c n [] = true
first_is_other p c n (w ∷ ws) = cond (p w) (not (is_wait c n w)) (first_is_other p c n ws)

below_step : (p : Waiter → Bool) (w : Waiter) (ws : List Waiter) (k : Bool) → p w ≡ k → nat_lt (position_or_len p ws) (length ws) ≡ some_of p ws → nat_lt (position_or_len p (w ∷ ws)) (length (w ∷ ws)) ≡ some_of p (w ∷ ws)
below_step p w ws true e more = simp e (lt-ltb 0 (suc (length ws)) (omega arith))
below_step p w ws false e more = simp (e, one-add, compare.suc-suc) more

pub place_below : (p : Waiter → Bool) (ws : List Waiter) → nat_lt (position_or_len p ws) (length ws) ≡ some_of p ws
place_below p [] = refl
place_below p (w ∷ ws) = below_step p w ws (p w) refl (place_below p ws)

pub position_some : (p : Waiter → Bool) (ws : List Waiter) → some_of p ws ≡ true → position p ws ≡ Some (position_or_len p ws)
position_some p ws h = simp (place_below p ws, h) refl

pub position_none : (p : Waiter → Bool) (ws : List Waiter) → some_of p ws ≡ false → position p ws ≡ None
position_none p ws h = simp (place_below p ws, h) refl

at_step : (p : Waiter → Bool) (w : Waiter) (ws : List Waiter) (k : Bool) → p w ≡ k → waiter_at ws (position_or_len p ws) ≡ first_of p ws → waiter_at (w ∷ ws) (position_or_len p (w ∷ ws)) ≡ first_of p (w ∷ ws)
at_step p w ws true e more = simp e refl
at_step p w ws false e more = simp (e, one-add) more

pub waiter_first : (p : Waiter → Bool) (ws : List Waiter) → waiter_at ws (position_or_len p ws) ≡ first_of p ws
waiter_first p [] = refl
waiter_first p (w ∷ ws) = at_step p w ws (p w) refl (waiter_first p ws)

answer_step : (p : Waiter → Bool) (r : ReplyMark) (w : Waiter) (ws : List Waiter) (k : Bool) → p w ≡ k → answer_at ws (position_or_len p ws) r ≡ answer_first p r ws → answer_at (w ∷ ws) (position_or_len p (w ∷ ws)) r ≡ answer_first p r (w ∷ ws)
answer_step p r w ws true e more = simp e refl
answer_step p r w ws false e more = simp (e, one-add) (ap (λ z. w ∷ z) more)

pub answer_there : (p : Waiter → Bool) (r : ReplyMark) (ws : List Waiter) → answer_at ws (position_or_len p ws) r ≡ answer_first p r ws
answer_there p r [] = refl
answer_there p r (w ∷ ws) = answer_step p r w ws (p w) refl (answer_there p r ws)

remove_step : (p : Waiter → Bool) (w : Waiter) (ws : List Waiter) (k : Bool) → p w ≡ k → remove ws (position_or_len p ws) ≡ drop_first p ws → remove (w ∷ ws) (position_or_len p (w ∷ ws)) ≡ drop_first p (w ∷ ws)
remove_step p w ws true e more = simp e refl
remove_step p w ws false e more = simp (e, one-add) (ap (λ z. w ∷ z) more)

pub remove_there : (p : Waiter → Bool) (ws : List Waiter) → remove ws (position_or_len p ws) ≡ drop_first p ws
remove_there p [] = refl
remove_there p (w ∷ ws) = remove_step p w ws (p w) refl (remove_there p ws)

or_true : (b : Bool) → (b || true) ≡ true
or_true true = refl
or_true false = refl

module _ (c n : ℕ) where
  append_step : (w : Waiter) (ws ys : List Waiter) (m : Bool) → is_wait c n w ≡ m → but_for c n (ws ++ ys) ≡ but_for c n ws ++ but_for c n ys → but_for c n ((w ∷ ws) ++ ys) ≡ but_for c n (w ∷ ws) ++ but_for c n ys
  append_step w ws ys true e more = simp e more
  append_step w ws ys false e more = simp e (ap (λ z. w ∷ z) more)

  pub but_for-append : (ws ys : List Waiter) → but_for c n (ws ++ ys) ≡ but_for c n ws ++ but_for c n ys
  but_for-append [] ys = refl
  but_for-append (w ∷ ws) ys = append_step w ws ys (is_wait c n w) refl (but_for-append ws ys)

  open_append_step : (w : Waiter) (ws ys : List Waiter) (m k : Bool) → is_wait c n w ≡ m → is_waiting w.standing ≡ k → (is_open c n ws ≡ true → is_open c n (ws ++ ys) ≡ true) → is_open c n (w ∷ ws) ≡ true → is_open c n ((w ∷ ws) ++ ys) ≡ true
  open_append_step w ws ys true true e f more h = simp (e, f) refl
  open_append_step w ws ys true false e f more h = simp (e, f) (more (simp (e, f) at h))
  open_append_step w ws ys false k e f more h = simp e (more (simp e at h))

  pub open_append : (ws ys : List Waiter) → is_open c n ws ≡ true → is_open c n (ws ++ ys) ≡ true
  open_append [] ys h = let no : false ≡ true = h in cc
  open_append (w ∷ ws) ys h = open_append_step w ws ys (is_wait c n w) (is_waiting w.standing) refl refl (open_append ws ys) h

  module _ (p : Waiter → Bool) where
    some_step : (w : Waiter) (ws : List Waiter) (k m : Bool) → p w ≡ k → is_wait c n w ≡ m → first_is_other p c n (w ∷ ws) ≡ true → (first_is_other p c n ws ≡ true → some_of p (but_for c n ws) ≡ some_of p ws) → some_of p (but_for c n (w ∷ ws)) ≡ some_of p (w ∷ ws)
    some_step w ws true true ek em h more = let f : false ≡ true = simp (ek, em) at h in cc
    some_step w ws true false ek em h more = simp (ek, em) refl
    some_step w ws false true ek em h more = simp (ek, em) (more (simp ek at h))
    some_step w ws false false ek em h more = simp (ek, em) (more (simp ek at h))

    pub some_other : (ws : List Waiter) → first_is_other p c n ws ≡ true → some_of p (but_for c n ws) ≡ some_of p ws
    some_other [] h = refl
    some_other (w ∷ ws) h = some_step w ws (p w) (is_wait c n w) refl refl h (some_other ws)

    none_step : (w : Waiter) (ws : List Waiter) (k m : Bool) → p w ≡ k → is_wait c n w ≡ m → some_of p (w ∷ ws) ≡ false → (some_of p ws ≡ false → some_of p (but_for c n ws) ≡ false) → some_of p (but_for c n (w ∷ ws)) ≡ false
    none_step w ws true m ek em h more = let f : true ≡ false = simp ek at h in cc
    none_step w ws false true ek em h more = simp em (more (simp ek at h))
    none_step w ws false false ek em h more = simp (ek, em) (more (simp ek at h))

    pub none_left : (ws : List Waiter) → some_of p ws ≡ false → some_of p (but_for c n ws) ≡ false
    none_left [] h = refl
    none_left (w ∷ ws) h = none_step w ws (p w) (is_wait c n w) refl refl h (none_left ws)

    first_step : (w : Waiter) (ws : List Waiter) (k m : Bool) → p w ≡ k → is_wait c n w ≡ m → first_is_other p c n (w ∷ ws) ≡ true → (first_is_other p c n ws ≡ true → first_of p (but_for c n ws) ≡ first_of p ws) → first_of p (but_for c n (w ∷ ws)) ≡ first_of p (w ∷ ws)
    first_step w ws true true ek em h more = let f : false ≡ true = simp (ek, em) at h in cc
    first_step w ws true false ek em h more = simp (ek, em) refl
    first_step w ws false true ek em h more = simp (ek, em) (more (simp ek at h))
    first_step w ws false false ek em h more = simp (ek, em) (more (simp ek at h))

    first_other : (ws : List Waiter) → first_is_other p c n ws ≡ true → first_of p (but_for c n ws) ≡ first_of p ws
    first_other [] h = refl
    first_other (w ∷ ws) h = first_step w ws (p w) (is_wait c n w) refl refl h (first_other ws)

    oldest_step : (r : ReplyMark) (w : Waiter) (ws : List Waiter) (k m : Bool) → p w ≡ k → is_wait c n w ≡ m → first_is_other p c n (w ∷ ws) ≡ true → (first_is_other p c n ws ≡ true → but_for c n (answer_first p r ws) ≡ answer_first p r (but_for c n ws)) → but_for c n (answer_first p r (w ∷ ws)) ≡ answer_first p r (but_for c n (w ∷ ws))
    oldest_step r w ws true true ek em h more = let f : false ≡ true = simp (ek, em) at h in cc
    oldest_step r w ws true false ek em h more = simp (ek, em) refl
    oldest_step r w ws false true ek em h more = simp (ek, em) (more (simp ek at h))
    oldest_step r w ws false false ek em h more = simp (ek, em) (ap (λ z. w ∷ z) (more (simp ek at h)))

    answer_other : (r : ReplyMark) (ws : List Waiter) → first_is_other p c n ws ≡ true → but_for c n (answer_first p r ws) ≡ answer_first p r (but_for c n ws)
    answer_other r [] h = refl
    answer_other r (w ∷ ws) h = oldest_step r w ws (p w) (is_wait c n w) refl refl h (answer_other r ws)

    drop_step : (w : Waiter) (ws : List Waiter) (k m : Bool) → p w ≡ k → is_wait c n w ≡ m → first_is_other p c n (w ∷ ws) ≡ true → (first_is_other p c n ws ≡ true → but_for c n (drop_first p ws) ≡ drop_first p (but_for c n ws)) → but_for c n (drop_first p (w ∷ ws)) ≡ drop_first p (but_for c n (w ∷ ws))
    drop_step w ws true true ek em h more = let f : false ≡ true = simp (ek, em) at h in cc
    drop_step w ws true false ek em h more = simp (ek, em) refl
    drop_step w ws false true ek em h more = simp (ek, em) (more (simp ek at h))
    drop_step w ws false false ek em h more = simp (ek, em) (ap (λ z. w ∷ z) (more (simp ek at h)))

    drop_other : (ws : List Waiter) → first_is_other p c n ws ≡ true → but_for c n (drop_first p ws) ≡ drop_first p (but_for c n ws)
    drop_other [] h = refl
    drop_other (w ∷ ws) h = drop_step w ws (p w) (is_wait c n w) refl refl h (drop_other ws)

    own_step : (r : ReplyMark) (w : Waiter) (ws : List Waiter) (k m : Bool) → p w ≡ k → is_wait c n w ≡ m → first_is_other p c n (w ∷ ws) ≡ false → (first_is_other p c n ws ≡ false → is_answered c n (answer_first p r ws) ≡ true) → is_answered c n (answer_first p r (w ∷ ws)) ≡ true
    own_step r w ws true true ek em h more = let e : is_wait c n (answered w r) ≡ true = em in simp (ek, e) refl
    own_step r w ws true false ek em h more = let f : true ≡ false = simp (ek, em) at h in cc
    own_step r w ws false true ek em h more = simp (ek, em, more (simp ek at h)) (or_true (not (is_waiting w.standing)))
    own_step r w ws false false ek em h more = simp (ek, em) (more (simp ek at h))

    -- the first is that of the name: it is answered
    own_answered : (r : ReplyMark) (ws : List Waiter) → first_is_other p c n ws ≡ false → is_answered c n (answer_first p r ws) ≡ true
    own_answered r [] h = let f : true ≡ false = h in cc
    own_answered r (w ∷ ws) h = own_step r w ws (p w) (is_wait c n w) refl refl h (own_answered r ws)

    open_step : (r : ReplyMark) (w : Waiter) (ws : List Waiter) (k m o : Bool) → p w ≡ k → is_wait c n w ≡ m → is_waiting w.standing ≡ o → first_is_other p c n (w ∷ ws) ≡ true → is_open c n (w ∷ ws) ≡ true → (first_is_other p c n ws ≡ true → is_open c n ws ≡ true → is_open c n (answer_first p r ws) ≡ true) → is_open c n (answer_first p r (w ∷ ws)) ≡ true
    open_step r w ws true true o ek em eo h so more = let f : false ≡ true = simp (ek, em) at h in cc
    open_step r w ws true false o ek em eo h so more = let e : is_wait c n (answered w r) ≡ false = em in simp (ek, e) (simp em at so)
    open_step r w ws false true true ek em eo h so more = simp (ek, em, eo) refl
    open_step r w ws false true false ek em eo h so more = simp (ek, em, eo) (more (simp ek at h) (simp (em, eo) at so))
    open_step r w ws false false o ek em eo h so more = simp (ek, em) (more (simp ek at h) (simp em at so))

    open_answer : (r : ReplyMark) (ws : List Waiter) → first_is_other p c n ws ≡ true → is_open c n ws ≡ true → is_open c n (answer_first p r ws) ≡ true
    open_answer r [] h so = so
    open_answer r (w ∷ ws) h so = open_step r w ws (p w) (is_wait c n w) (is_waiting w.standing) refl refl refl h so (open_answer r ws)

    open_drop_step : (w : Waiter) (ws : List Waiter) (k m o : Bool) → p w ≡ k → is_wait c n w ≡ m → is_waiting w.standing ≡ o → first_is_other p c n (w ∷ ws) ≡ true → is_open c n (w ∷ ws) ≡ true → (first_is_other p c n ws ≡ true → is_open c n ws ≡ true → is_open c n (drop_first p ws) ≡ true) → is_open c n (drop_first p (w ∷ ws)) ≡ true
    open_drop_step w ws true true o ek em eo h so more = let f : false ≡ true = simp (ek, em) at h in cc
    open_drop_step w ws true false o ek em eo h so more = simp ek (simp em at so)
    open_drop_step w ws false true true ek em eo h so more = simp (ek, em, eo) refl
    open_drop_step w ws false true false ek em eo h so more = simp (ek, em, eo) (more (simp ek at h) (simp (em, eo) at so))
    open_drop_step w ws false false o ek em eo h so more = simp (ek, em) (more (simp ek at h) (simp em at so))

    open_drop : (ws : List Waiter) → first_is_other p c n ws ≡ true → is_open c n ws ≡ true → is_open c n (drop_first p ws) ≡ true
    open_drop [] h so = so
    open_drop (w ∷ ws) h so = open_drop_step w ws (p w) (is_wait c n w) (is_waiting w.standing) refl refl refl h so (open_drop ws)

    -- the same by places
    pub answer_twin : (r : ReplyMark) (ws : List Waiter) → first_is_other p c n ws ≡ true → answer_at (but_for c n ws) (position_or_len p (but_for c n ws)) r ≡ but_for c n (answer_at ws (position_or_len p ws) r)
    answer_twin r ws h = answer_there p r (but_for c n ws) ∙ sym (answer_other r ws h) ∙ ap (but_for c n) (sym (answer_there p r ws))

    pub waiter_twin : (ws : List Waiter) → first_is_other p c n ws ≡ true → waiter_at (but_for c n ws) (position_or_len p (but_for c n ws)) ≡ waiter_at ws (position_or_len p ws)
    waiter_twin ws h = waiter_first p (but_for c n ws) ∙ first_other ws h ∙ sym (waiter_first p ws)

    pub remove_twin : (ws : List Waiter) → first_is_other p c n ws ≡ true → remove (but_for c n ws) (position_or_len p (but_for c n ws)) ≡ but_for c n (remove ws (position_or_len p ws))
    remove_twin ws h = remove_there p (but_for c n ws) ∙ sym (drop_other ws h) ∙ ap (but_for c n) (sym (remove_there p ws))

    pub answered_own : (r : ReplyMark) (ws : List Waiter) → first_is_other p c n ws ≡ false → is_answered c n (answer_at ws (position_or_len p ws) r) ≡ true
    answered_own r ws h = ap (is_answered c n) (answer_there p r ws) ∙ own_answered r ws h

    pub open_other : (r : ReplyMark) (ws : List Waiter) → first_is_other p c n ws ≡ true → is_open c n ws ≡ true → is_open c n (answer_at ws (position_or_len p ws) r) ≡ true
    open_other r ws h so = ap (is_open c n) (answer_there p r ws) ∙ open_answer r ws h so

    pub open_removed : (ws : List Waiter) → first_is_other p c n ws ≡ true → is_open c n ws ≡ true → is_open c n (remove ws (position_or_len p ws)) ≡ true
    open_removed ws h so = ap (is_open c n) (remove_there p ws) ∙ open_drop ws h so

    pub some_twin : (ws : List Waiter) → first_is_other p c n ws ≡ true → some_of p ws ≡ true → position p (but_for c n ws) ≡ Some (position_or_len p (but_for c n ws))
    some_twin ws h some = position_some p (but_for c n ws) (some_other ws h ∙ some)

  -- all waits are changed, under their names
  module _ (f : Waiter → Waiter) (names : (w : Waiter) → is_wait c n (f w) ≡ is_wait c n w) where
    map_step : (w : Waiter) (ws : List Waiter) (m : Bool) → is_wait c n w ≡ m → is_wait c n (f w) ≡ m → but_for c n (map f ws) ≡ map f (but_for c n ws) → but_for c n (map f (w ∷ ws)) ≡ map f (but_for c n (w ∷ ws))
    map_step w ws true e e' more = simp (e, e') more
    map_step w ws false e e' more = simp (e, e') (ap (λ z. f w ∷ z) more)

    pub but_for-map : (ws : List Waiter) → but_for c n (map f ws) ≡ map f (but_for c n ws)
    but_for-map [] = refl
    but_for-map (w ∷ ws) = map_step w ws (is_wait c n w) refl (names w) (but_for-map ws)

    open_map_step : (w : Waiter) (ws : List Waiter) (m o q : Bool) → is_wait c n w ≡ m → is_wait c n (f w) ≡ m → is_waiting w.standing ≡ o → is_waiting (f w).standing ≡ q → is_open c n (w ∷ ws) ≡ true → (is_open c n ws ≡ true → (is_answered c n (map f ws) ≡ true) ⊎ (is_open c n (map f ws) ≡ true)) → (is_answered c n (map f (w ∷ ws)) ≡ true) ⊎ (is_open c n (map f (w ∷ ws)) ≡ true)
    open_map_step w ws true true true em em' eo eq so more = simp (em', eq) (inr refl)
    open_map_step w ws true true false em em' eo eq so more = simp (em', eq) (inl refl)
    open_map_step w ws true false true em em' eo eq so more = simp (em', eq) (inr refl)
    open_map_step w ws true false false em em' eo eq so more = simp (em', eq) (inl refl)
    open_map_step w ws false o q em em' eo eq so more = simp em' (more (simp em at so))

    pub open_map : (ws : List Waiter) → is_open c n ws ≡ true → (is_answered c n (map f ws) ≡ true) ⊎ (is_open c n (map f ws) ≡ true)
    open_map [] so = inr so
    open_map (w ∷ ws) so = open_map_step w ws (is_wait c n w) (is_waiting w.standing) (is_waiting (f w).standing) refl (names w) refl refl so (open_map ws)

  -- waits of one name
  counted : (w : Waiter) (ws : List Waiter) → count_by (is_wait c n) (w ∷ ws) ≡ cond (is_wait c n w) 1 0 + count_by (is_wait c n) ws
  counted w ws = sum_by-cons (λ v. cond (is_wait c n v) 1 0) w ws

  pub count_step : (w : Waiter) (ws : List Waiter) (m : Bool) (b : ℕ) → is_wait c n w ≡ m → count_by (is_wait c n) (w ∷ ws) ≤ b → cond m 1 0 + count_by (is_wait c n) ws ≤ b
  count_step w ws m b e h = let k : count_by (is_wait c n) (w ∷ ws) ≡ cond m 1 0 + count_by (is_wait c n) ws = counted w ws ∙ ap (λ z. cond z 1 0 + count_by (is_wait c n) ws) e in omega arith

  empty_step : (w : Waiter) (ws : List Waiter) (m : Bool) → is_wait c n w ≡ m → cond m 1 0 + count_by (is_wait c n) ws ≤ 0 → (count_by (is_wait c n) ws ≤ 0 → but_for c n ws ≡ ws) → but_for c n (w ∷ ws) ≡ w ∷ ws
  empty_step w ws true e h more = absurd (omega arith)
  empty_step w ws false e h more = simp e (ap (λ z. w ∷ z) (more (omega arith)))

  none_named : (ws : List Waiter) → count_by (is_wait c n) ws ≤ 0 → but_for c n ws ≡ ws
  none_named [] h = refl
  none_named (w ∷ ws) h = empty_step w ws (is_wait c n w) refl (count_step w ws (is_wait c n w) 0 refl h) (none_named ws)

  own_drop_step : (w : Waiter) (ws : List Waiter) (m : Bool) → is_wait c n w ≡ m → cond m 1 0 + count_by (is_wait c n) ws ≤ 1 → (count_by (is_wait c n) ws ≤ 1 → drop_first (is_wait c n) ws ≡ but_for c n ws) → drop_first (is_wait c n) (w ∷ ws) ≡ but_for c n (w ∷ ws)
  own_drop_step w ws true e h more = simp e (sym (none_named ws (omega arith)))
  own_drop_step w ws false e h more = simp e (ap (λ z. w ∷ z) (more (omega arith)))

  own_drop : (ws : List Waiter) → count_by (is_wait c n) ws ≤ 1 → drop_first (is_wait c n) ws ≡ but_for c n ws
  own_drop [] h = refl
  own_drop (w ∷ ws) h = own_drop_step w ws (is_wait c n w) refl (count_step w ws (is_wait c n w) 1 refl h) (own_drop ws)

  -- the wait of that name is all that goes
  pub own_removed : (ws : List Waiter) → count_by (is_wait c n) ws ≤ 1 → remove ws (position_or_len (is_wait c n) ws) ≡ but_for c n ws
  own_removed ws h = remove_there (is_wait c n) ws ∙ own_drop ws h

  shut_step : (w : Waiter) (ws : List Waiter) (m : Bool) → is_wait c n w ≡ m → cond m 1 0 + count_by (is_wait c n) ws ≤ 0 → (count_by (is_wait c n) ws ≤ 0 → is_open c n ws ≡ false) → is_open c n (w ∷ ws) ≡ false
  shut_step w ws true e h more = absurd (omega arith)
  shut_step w ws false e h more = simp e (more (omega arith))

  shut : (ws : List Waiter) → count_by (is_wait c n) ws ≤ 0 → is_open c n ws ≡ false
  shut [] h = refl
  shut (w ∷ ws) h = shut_step w ws (is_wait c n w) refl (count_step w ws (is_wait c n w) 0 refl h) (shut ws)

  own_open_step : (w : Waiter) (ws : List Waiter) (m o : Bool) → is_wait c n w ≡ m → is_waiting w.standing ≡ o → cond m 1 0 + count_by (is_wait c n) ws ≤ 1 → is_open c n (w ∷ ws) ≡ true → (count_by (is_wait c n) ws ≤ 1 → is_open c n ws ≡ true → is_waiting (first_of (is_wait c n) ws).standing ≡ true) → is_waiting (first_of (is_wait c n) (w ∷ ws)).standing ≡ true
  own_open_step w ws true true e eo h so more = simp (e, eo) refl
  own_open_step w ws true false e eo h so more = absurd (both_ways (is_open c n ws) (shut ws (omega arith)) (simp (e, eo) at so))
  own_open_step w ws false o e eo h so more = simp e (more (omega arith) (simp e at so))

  own_open : (ws : List Waiter) → count_by (is_wait c n) ws ≤ 1 → is_open c n ws ≡ true → is_waiting (first_of (is_wait c n) ws).standing ≡ true
  own_open [] h so = let f : false ≡ true = so in cc
  own_open (w ∷ ws) h so = own_open_step w ws (is_wait c n w) (is_waiting w.standing) refl refl (count_step w ws (is_wait c n w) 1 refl h) so (own_open ws)

  pub own_waits : (ws : List Waiter) → count_by (is_wait c n) ws ≤ 1 → is_open c n ws ≡ true → is_waiting (waiter_at ws (position_or_len (is_wait c n) ws)).standing ≡ true
  own_waits ws h so = ap (λ w. is_waiting w.standing) (waiter_first (is_wait c n) ws) ∙ own_open ws h so

  named_step : (w : Waiter) (ws : List Waiter) (m : Bool) → is_wait c n w ≡ m → is_open c n (w ∷ ws) ≡ true → (is_open c n ws ≡ true → some_of (is_wait c n) ws ≡ true) → some_of (is_wait c n) (w ∷ ws) ≡ true
  named_step w ws true e so more = simp e refl
  named_step w ws false e so more = simp e (more (simp e at so))

  pub named : (ws : List Waiter) → is_open c n ws ≡ true → some_of (is_wait c n) ws ≡ true
  named [] so = so
  named (w ∷ ws) so = named_step w ws (is_wait c n w) refl so (named ws)

  -- a number of a wait is below the count of begins
  below_open_step : (b : List ℕ) (w : Waiter) (ws : List Waiter) (m : Bool) → is_wait c n w ≡ m → w.number < slice_index b w.caller → is_open c n (w ∷ ws) ≡ true → (is_open c n ws ≡ true → n < slice_index b c) → n < slice_index b c
  below_open_step b w ws true e l so more =
      let parts = and_parts (w.caller == c) (w.number == n) e in
      let ec : w.caller ≡ c = eqb-true w.caller c parts.0 in
      let en : w.number ≡ n = eqb-true w.number n parts.1 in
      rw (← ec, ← en) l
  below_open_step b w ws false e l so more = more (simp e at so)

  pub below_open : (b : List ℕ) (ws : List Waiter) → AllByRecursion (λ w. w.number < slice_index b w.caller) ws → is_open c n ws ≡ true → n < slice_index b c
  below_open b [] h so = let f : false ≡ true = so in cc
  below_open b (w ∷ ws) h so = below_open_step b w ws (is_wait c n w) refl h.0 so (below_open b ws h.1)

  -- a wait of another name
  module _ (d m : ℕ) (differs : ((d == c) && (m == n)) ≡ false) where
    name_step : (w : Waiter) (k : Bool) → is_wait d m w ≡ k → k ≡ true → not (is_wait c n w) ≡ true
    name_step w true e h =
        let parts = and_parts (w.caller == d) (w.number == m) e in
        let ed : w.caller ≡ d = eqb-true w.caller d parts.0 in
        let en : w.number ≡ m = eqb-true w.number m parts.1 in
        let no : is_wait c n w ≡ false = rw (ed, en) differs in
        simp no refl
    name_step w false e h = let f : false ≡ true = h in cc

    other_step : (w : Waiter) (ws : List Waiter) (k : Bool) → is_wait d m w ≡ k → first_is_other (is_wait d m) c n ws ≡ true → first_is_other (is_wait d m) c n (w ∷ ws) ≡ true
    other_step w ws true e more = simp e (name_step w true e refl)
    other_step w ws false e more = simp e more

    pub other_named : (ws : List Waiter) → first_is_other (is_wait d m) c n ws ≡ true
    other_named [] = refl
    other_named (w ∷ ws) = other_step w ws (is_wait d m w) refl (other_named ws)
