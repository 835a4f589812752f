-- Lists of waits under their names, whatever is done to them.
use Rattle.std.specs.Prelude.{ℕ, List, [], ◌∷◌, ◌++◌, Bool, true, false, map, cond, ◌&&◌, ◌==◌, remove, slice_index, slice_set}
use Rattle.std.specs.List.{position_or_len, count_by, AllByRecursion}
use Rattle.std.proofs.Common.{◌≡◌, refl, ap, ap₂, sym, ◌∙◌, ◌+◌, ◌<◌, ◌≤◌, inl, inr, length, arith}
use Rattle.std.proofs.lemmas.Bool.{and_parts, eqb-true, cases_eq}
use Rattle.std.proofs.lemmas.List.{get_or-set_same, get_or-set_other}
use Rattle.std.proofs.lemmas.List.Sums.{sum_by-cons, sum_by_push}
use Rattle.ho_model.specs.declared.marks.ReplyMark.{ReplyMark}
use Rattle.ho_model.specs.Channel.{Standing, Waiter, answered, answer_at, is_wait}
use Rattle.channel_laws.proofs.Places.{some_of, drop_first, answer_first, answer_there, remove_there}

-- 1. Facts of each, and counts

abbrev pub Each : {X : Type 0} → (X → Type 0) → List X → Type 0
Each P xs = AllByRecursion P xs

-- a waiter's number is below its caller's count
abbrev pub IsBelow : List ℕ → Waiter → Type 0
IsBelow begins w = w.number < slice_index begins w.caller

pub each_weaker : (P Q : Waiter → Type 0) → ((w : Waiter) → P w → Q w) → (ws : List Waiter) → Each P ws → Each Q ws
each_weaker P Q f [] h = tt
each_weaker P Q f (w ∷ ws) h = (f w h.0, each_weaker P Q f ws h.1)

pub each_map : (P Q : Waiter → Type 0) (f : Waiter → Waiter) → ((w : Waiter) → P w → Q (f w)) → (ws : List Waiter) → Each P ws → Each Q (map f ws)
each_map P Q f g [] h = tt
each_map P Q f g (w ∷ ws) h = (g w h.0, each_map P Q f g ws h.1)

pub each_push : (P : Waiter → Type 0) (ws : List Waiter) (w : Waiter) → Each P ws → P w → Each P (ws ++ w ∷ [])
each_push P [] w h p = (p, tt)
each_push P (v ∷ ws) w h p = (h.0, each_push P ws w h.1 p)

each_answer_step : (P : Waiter → Type 0) (p : Waiter → Bool) (r : ReplyMark) (w : Waiter) (ws : List Waiter) (k : Bool) → p w ≡ k → (p w ≡ true → P (answered w r)) → P w × Each P ws → Each P (answer_first p r ws) → Each P (answer_first p r (w ∷ ws))
each_answer_step P p r w ws true e a h more = simp e (a e, h.1)
each_answer_step P p r w ws false e a h more = simp e (h.0, more)

pub each_answer : (P : Waiter → Type 0) (p : Waiter → Bool) (r : ReplyMark) → ((w : Waiter) → P w → p w ≡ true → P (answered w r)) → (ws : List Waiter) → Each P ws → Each P (answer_first p r ws)
each_answer P p r a [] h = tt
each_answer P p r a (w ∷ ws) h = each_answer_step P p r w ws (p w) refl (a w h.0) h (each_answer P p r a ws h.1)

each_drop_step : (P : Waiter → Type 0) (p : Waiter → Bool) (w : Waiter) (ws : List Waiter) (k : Bool) → p w ≡ k → P w × Each P ws → Each P (drop_first p ws) → Each P (drop_first p (w ∷ ws))
each_drop_step P p w ws true e h more = simp e h.1
each_drop_step P p w ws false e h more = simp e (h.0, more)

pub each_drop : (P : Waiter → Type 0) (p : Waiter → Bool) (ws : List Waiter) → Each P ws → Each P (drop_first p ws)
each_drop P p [] h = tt
each_drop P p (w ∷ ws) h = each_drop_step P p w ws (p w) refl h (each_drop P p ws h.1)

each_none_step : (P : Waiter → Type 0) (p : Waiter → Bool) (w : Waiter) (ws : List Waiter) (k : Bool) → p w ≡ k → some_of p (w ∷ ws) ≡ false → P w × Each P ws → (some_of p ws ≡ false → Each (λ v. P v × (p v ≡ false)) ws) → Each (λ v. P v × (p v ≡ false)) (w ∷ ws)
each_none_step P p w ws true e h all more = let no : true ≡ false = simp e at h in cc
each_none_step P p w ws false e h all more = ((all.0, e), more (simp e at h))

-- none passes the test
pub each_none : (P : Waiter → Type 0) (p : Waiter → Bool) (ws : List Waiter) → some_of p ws ≡ false → Each P ws → Each (λ v. P v × (p v ≡ false)) ws
each_none P p [] h all = tt
each_none P p (w ∷ ws) h all = each_none_step P p w ws (p w) refl h all (λ k. each_none P p ws k all.1)

module _ (q : Waiter → Bool) where
  counted : (w : Waiter) (ws : List Waiter) → count_by q (w ∷ ws) ≡ cond (q w) 1 0 + count_by q ws
  counted w ws = sum_by-cons (λ v. cond (q v) 1 0) w ws

  count_map : (f : Waiter → Waiter) → ((w : Waiter) → q (f w) ≡ q w) → (ws : List Waiter) → count_by q (map f ws) ≡ count_by q ws
  count_map f same [] = refl
  count_map f same (w ∷ ws) = counted (f w) (map f ws) ∙ ap₂ (λ a b. cond a 1 0 + b) (same w) (count_map f same ws) ∙ sym (counted w ws)

  count_answer_step : (p : Waiter → Bool) (r : ReplyMark) (w : Waiter) (ws : List Waiter) (k : Bool) → p w ≡ k → q (answered w r) ≡ q w → count_by q (answer_first p r ws) ≡ count_by q ws → count_by q (answer_first p r (w ∷ ws)) ≡ count_by q (w ∷ ws)
  count_answer_step p r w ws true e same more = simp e (counted (answered w r) ws ∙ ap (λ a. cond a 1 0 + count_by q ws) same ∙ sym (counted w ws))
  count_answer_step p r w ws false e same more = simp e (counted w (answer_first p r ws) ∙ ap (λ b. cond (q w) 1 0 + b) more ∙ sym (counted w ws))

  count_answer : (p : Waiter → Bool) (r : ReplyMark) → ((w : Waiter) → q (answered w r) ≡ q w) → (ws : List Waiter) → count_by q (answer_first p r ws) ≡ count_by q ws
  count_answer p r same [] = refl
  count_answer p r same (w ∷ ws) = count_answer_step p r w ws (p w) refl (same w) (count_answer p r same ws)

  count_drop_step : (p : Waiter → Bool) (w : Waiter) (ws : List Waiter) (k : Bool) → p w ≡ k → count_by q (drop_first p ws) ≤ count_by q ws → count_by q (drop_first p (w ∷ ws)) ≤ count_by q (w ∷ ws)
  count_drop_step p w ws true e more = let a = counted w ws in simp e (omega arith)
  count_drop_step p w ws false e more = let a = counted w ws in let b = counted w (drop_first p ws) in simp e (omega arith)

  count_drop : (p : Waiter → Bool) (ws : List Waiter) → count_by q (drop_first p ws) ≤ count_by q ws
  count_drop p [] = omega arith
  count_drop p (w ∷ ws) = count_drop_step p w ws (p w) refl (count_drop p ws)

-- no wait has a number that its caller has not begun
fresh_step : (c n : ℕ) (w : Waiter) (ws : List Waiter) (k : Bool) → is_wait c n w ≡ k → count_by (is_wait c n) ws ≡ 0 → (is_wait c n w ≡ true → ⊥) → count_by (is_wait c n) (w ∷ ws) ≡ 0
fresh_step c n w ws true e more other = absurd (other e)
fresh_step c n w ws false e more other = counted (is_wait c n) w ws ∙ ap₂ (λ a b. cond a 1 0 + b) e more

fresh : (begins : List ℕ) (c : ℕ) (ws : List Waiter) → Each (IsBelow begins) ws → count_by (is_wait c (slice_index begins c)) ws ≡ 0
fresh begins c [] h = refl
fresh begins c (w ∷ ws) h =
    fresh_step c (slice_index begins c) w ws (is_wait c (slice_index begins c) w) refl (fresh begins c ws h.1)
    (λ e. let parts = and_parts (w.caller == c) (w.number == slice_index begins c) e in
    let ec : w.caller ≡ c = eqb-true w.caller c parts.0 in
    let en : w.number ≡ slice_index begins c = eqb-true w.number (slice_index begins c) parts.1 in
    let l : w.number < slice_index begins c = rw ec at h.0 in
    absurd (omega arith))

raised : (begins : List ℕ) (d k : ℕ) → d < length begins → slice_index begins k ≤ slice_index (slice_set begins d (slice_index begins d + 1)) k
raised begins d k l =
    elim (cases_eq k d) [
      | inl e ↦ (let s : slice_index (slice_set begins d (slice_index begins d + 1)) d ≡ slice_index begins d + 1 = get_or-set_same begins d (slice_index begins d + 1) 0 l in rw e (omega arith))
      | inr ne ↦ (let s : slice_index (slice_set begins d (slice_index begins d + 1)) k ≡ slice_index begins k = get_or-set_other begins d k (slice_index begins d + 1) 0 ne in omega arith)
    ]

once_push : (begins : List ℕ) (d c n : ℕ) (standing : Standing) (ws : List Waiter) (k : Bool) → is_wait c n (record { caller = d; number = slice_index begins d; standing = standing }) ≡ k → Each (IsBelow begins) ws → count_by (is_wait c n) ws ≤ 1 → count_by (is_wait c n) (ws ++ record { caller = d; number = slice_index begins d; standing = standing } ∷ []) ≤ 1
once_push begins d c n standing ws true e h l =
    let parts = and_parts (d == c) (slice_index begins d == n) e in
    let ec : d ≡ c = eqb-true d c parts.0 in
    let en : slice_index begins d ≡ n = eqb-true (slice_index begins d) n parts.1 in
    let z : count_by (is_wait d (slice_index begins d)) ws ≡ 0 = fresh begins d ws h in
    let z' : count_by (is_wait c n) ws ≡ 0 = rw (← ec, ← en) z in
    let s : count_by (is_wait c n) (ws ++ record { caller = d; number = slice_index begins d; standing = standing } ∷ []) ≡ count_by (is_wait c n) ws + 1 = sum_by_push (λ v. cond (is_wait c n v) 1 0) ws (record { caller = d; number = slice_index begins d; standing = standing }) ∙ ap (λ b. count_by (is_wait c n) ws + cond b 1 0) e in
    omega arith
once_push begins d c n standing ws false e h l =
    let s : count_by (is_wait c n) (ws ++ record { caller = d; number = slice_index begins d; standing = standing } ∷ []) ≡ count_by (is_wait c n) ws + 0 = sum_by_push (λ v. cond (is_wait c n v) 1 0) ws (record { caller = d; number = slice_index begins d; standing = standing }) ∙ ap (λ b. count_by (is_wait c n) ws + cond b 1 0) e in
    omega arith

-- 2. Names

-- each wait has a name of its own, with a number below its caller's count
pub record HasNames (begins : List ℕ) (waits : List Waiter) : Type 0 where
  pub once : (c n : ℕ) → count_by (is_wait c n) waits ≤ 1
  pub below : Each (IsBelow begins) waits

pub names_answer : (begins : List ℕ) (p : Waiter → Bool) (r : ReplyMark) (ws : List Waiter) → HasNames begins ws → HasNames begins (answer_at ws (position_or_len p ws) r)
names_answer begins p r ws g =
    rw (answer_there p r ws) (record {
      once = λ c n. (let e = count_answer (is_wait c n) p r (λ w. refl) ws in let l = g.once c n in omega arith);
      below = each_answer (IsBelow begins) p r (λ w h is. h) ws g.below;
    })

pub names_drop : (begins : List ℕ) (p : Waiter → Bool) (ws : List Waiter) → HasNames begins ws → HasNames begins (remove ws (position_or_len p ws))
names_drop begins p ws g =
    rw (remove_there p ws) (record {
      once = λ c n. (let e = count_drop (is_wait c n) p ws in let l = g.once c n in omega arith);
      below = each_drop (IsBelow begins) p ws g.below;
    })

-- all waits are changed under their names
pub names_map : (begins : List ℕ) (f : Waiter → Waiter) → ((w : Waiter) → (f w).caller ≡ w.caller) → ((w : Waiter) → (f w).number ≡ w.number) → (ws : List Waiter) → HasNames begins ws → HasNames begins (map f ws)
names_map begins f callers numbers ws g =
    record {
      once = λ c n. (let e = count_map (is_wait c n) f (λ w. ap₂ (λ x y. (x == c) && (y == n)) (callers w) (numbers w)) ws in let l = g.once c n in omega arith);
      below = each_map (IsBelow begins) (IsBelow begins) f (λ w h. rw (callers w, numbers w) h) ws g.below;
    }

-- a begin counts
pub names_count : (begins : List ℕ) (d : ℕ) (ws : List Waiter) → d < length begins → HasNames begins ws → HasNames (slice_set begins d (slice_index begins d + 1)) ws
names_count begins d ws l g =
    record { once = g.once; below = each_weaker (IsBelow begins) (IsBelow (slice_set begins d (slice_index begins d + 1))) (λ w h. (let r = raised begins d w.caller l in omega arith)) ws g.below }

-- and stands
pub names_stand : (begins : List ℕ) (d : ℕ) (standing : Standing) (ws : List Waiter) → d < length begins → HasNames begins ws → HasNames (slice_set begins d (slice_index begins d + 1)) (ws ++ record { caller = d; number = slice_index begins d; standing = standing } ∷ [])
names_stand begins d standing ws l g =
    let new : Waiter = record { caller = d; number = slice_index begins d; standing = standing } in
    let s : slice_index (slice_set begins d (slice_index begins d + 1)) d ≡ slice_index begins d + 1 = get_or-set_same begins d (slice_index begins d + 1) 0 l in
    record {
      once = λ c n. once_push begins d c n standing ws (is_wait c n new) refl g.below (g.once c n);
      below = each_push (IsBelow (slice_set begins d (slice_index begins d + 1))) ws new (names_count begins d ws l g).below (omega arith);
    }
