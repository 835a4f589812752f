-- A wait that stands in one of some ways, which answers keep, stands so until it is forgotten.
use Rattle.std.specs.Prelude.{List, [], ◌∷◌, ◌++◌, Bool, true, false, map, ◌&&◌, ◌==◌, MatchBool, cond, remove}
use Rattle.std.specs.List.{position_or_len, count_by}
use Rattle.std.proofs.Common.{◌≡◌, ℕ, refl, sym, ap, ◌∙◌, ◌+◌, ◌≤◌, subst, ⊎_elim, arith}
use Rattle.std.proofs.lemmas.Bool.{both_ways}
use Rattle.ho_model.specs.declared.marks.CallMark.{CallMark}
use Rattle.ho_model.specs.declared.marks.ReplyMark.{ReplyMark}
use Rattle.ho_model.specs.declared.marks.CallMark.TheVariants.{Poll, Cancel}
use Rattle.ho_model.specs.Channel.{Standing, Answered, Waiter, Channel, Kind, is_waiting, answered, answer_at, waiter_at, is_wait, polled, poll, cancelled, cancel, channel_answer}
use Rattle.channel_laws.specs.Kinds.{is_waiting_reply}
use Rattle.channel_laws.specs.Twin.{is_of_wait, is_open, is_answered}
use Rattle.channel_laws.proofs.Places.{some_of, first_of, drop_first, answer_first, first_is_other, position_some, answer_there, remove_there, waiter_first, other_named, count_step}
use Rattle.channel_laws.proofs.Table.{Fetches}
use Rattle.channel_laws.proofs.Effects.{IsAnswerTo, IsTold, told_name, Effects, Holds, effects_hold}

-- 1. The wait of a name among all waits

-- the first wait of this name is there, and stands in one of the ways Q
abbrev pub StandsIn : (Standing → Type 0) → ℕ → ℕ → List Waiter → Type 0
StandsIn Q c n [] = ⊥
StandsIn Q c n (w ∷ ws) = MatchBool (is_wait c n w) (Q w.standing) (StandsIn Q c n ws)

stands_weaker_step : (Q R : Standing → Type 0) → ((st : Standing) → Q st → R st) → (c n : ℕ) (w : Waiter) (ws : List Waiter) (m : Bool) → is_wait c n w ≡ m → StandsIn Q c n (w ∷ ws) → (StandsIn Q c n ws → StandsIn R c n ws) → StandsIn R c n (w ∷ ws)
stands_weaker_step Q R f c n w ws true e h more = let own : Q w.standing = simp e at h in simp e (f w.standing own)
stands_weaker_step Q R f c n w ws false e h more = let left : StandsIn Q c n ws = simp e at h in simp e (more left)

pub stands_weaker : (Q R : Standing → Type 0) → ((st : Standing) → Q st → R st) → (c n : ℕ) (ws : List Waiter) → StandsIn Q c n ws → StandsIn R c n ws
stands_weaker Q R f c n [] h = absurd h
stands_weaker Q R f c n (w ∷ ws) h = stands_weaker_step Q R f c n w ws (is_wait c n w) refl h (stands_weaker Q R f c n ws)

-- answers keep Q
abbrev pub KeepsAnswers : (Standing → Type 0) → Type 0
KeepsAnswers Q = (st : Standing) (r : ReplyMark) → Q st → IsAnswerTo st r → Q (Answered r)

module _ (Q : Standing → Type 0) (c n : ℕ) where
  there_step : (w : Waiter) (ws : List Waiter) (m : Bool) → is_wait c n w ≡ m → StandsIn Q c n (w ∷ ws) → (StandsIn Q c n ws → some_of (is_wait c n) ws ≡ true) → some_of (is_wait c n) (w ∷ ws) ≡ true
  there_step w ws true e h more = simp e refl
  there_step w ws false e h more = let left : StandsIn Q c n ws = simp e at h in simp e (more left)

  pub there : (ws : List Waiter) → StandsIn Q c n ws → some_of (is_wait c n) ws ≡ true
  there [] h = absurd h
  there (w ∷ ws) h = there_step w ws (is_wait c n w) refl h (there ws)

  own_is_step : (w : Waiter) (ws : List Waiter) (m : Bool) → is_wait c n w ≡ m → StandsIn Q c n (w ∷ ws) → (StandsIn Q c n ws → Q (first_of (is_wait c n) ws).standing) → Q (first_of (is_wait c n) (w ∷ ws)).standing
  own_is_step w ws true e h more = let own : Q w.standing = simp e at h in simp e own
  own_is_step w ws false e h more = let left : StandsIn Q c n ws = simp e at h in simp e (more left)

  pub own_is : (ws : List Waiter) → StandsIn Q c n ws → Q (first_of (is_wait c n) ws).standing
  own_is [] h = absurd h
  own_is (w ∷ ws) h = own_is_step w ws (is_wait c n w) refl h (own_is ws)

  append_step : (w : Waiter) (ws ys : List Waiter) (m : Bool) → is_wait c n w ≡ m → StandsIn Q c n (w ∷ ws) → (StandsIn Q c n ws → StandsIn Q c n (ws ++ ys)) → StandsIn Q c n (w ∷ (ws ++ ys))
  append_step w ws ys true e h more = let own : Q w.standing = simp e at h in simp e own
  append_step w ws ys false e h more = let left : StandsIn Q c n ws = simp e at h in simp e (more left)

  pub as_append : (ws ys : List Waiter) → StandsIn Q c n ws → StandsIn Q c n (ws ++ ys)
  as_append [] ys h = absurd h
  as_append (w ∷ ws) ys h = append_step w ws ys (is_wait c n w) refl h (as_append ws ys)

  push_step : (w v : Waiter) (ws : List Waiter) (m : Bool) → is_wait c n w ≡ m → some_of (is_wait c n) (w ∷ ws) ≡ false → (some_of (is_wait c n) ws ≡ false → StandsIn Q c n (ws ++ v ∷ [])) → StandsIn Q c n (w ∷ (ws ++ v ∷ []))
  push_step w v ws true e none more = let no : true ≡ false = simp e at none in cc
  push_step w v ws false e none more = simp e (more (simp e at none))

  own_step : (v : Waiter) → is_wait c n v ≡ true → Q v.standing → StandsIn Q c n (v ∷ [])
  own_step v e k = simp e k

  -- the new wait stands behind others of other names
  pub as_push : (ws : List Waiter) (v : Waiter) → some_of (is_wait c n) ws ≡ false → is_wait c n v ≡ true → Q v.standing → StandsIn Q c n (ws ++ v ∷ [])
  as_push [] v none e k = own_step v e k
  as_push (w ∷ ws) v none e k = push_step w v ws (is_wait c n w) refl none (λ left. as_push ws v left e k)

  module _ (f : Waiter → Waiter) (names : (w : Waiter) → is_wait c n (f w) ≡ is_wait c n w) (keeps : (w : Waiter) → Q w.standing → Q (f w).standing) where
    map_step : (w : Waiter) (ws : List Waiter) (m : Bool) → is_wait c n w ≡ m → is_wait c n (f w) ≡ m → StandsIn Q c n (w ∷ ws) → (StandsIn Q c n ws → StandsIn Q c n (map f ws)) → StandsIn Q c n (f w ∷ map f ws)
    map_step w ws true e e' h more = let own : Q w.standing = simp e at h in simp e' (keeps w own)
    map_step w ws false e e' h more = let left : StandsIn Q c n ws = simp e at h in simp e' (more left)

    pub as_map : (ws : List Waiter) → StandsIn Q c n ws → StandsIn Q c n (map f ws)
    as_map [] h = absurd h
    as_map (w ∷ ws) h = map_step w ws (is_wait c n w) refl (names w) h (as_map ws)

  module _ (p : Waiter → Bool) where
    answer_step : (r : ReplyMark) (w : Waiter) (ws : List Waiter) (k m : Bool) → p w ≡ k → is_wait c n w ≡ m → (Q w.standing → p w ≡ true → Q (Answered r)) → StandsIn Q c n (w ∷ ws) → (StandsIn Q c n ws → StandsIn Q c n (answer_first p r ws)) → StandsIn Q c n (answer_first p r (w ∷ ws))
    answer_step r w ws true true ek em a h more =
        let own : Q w.standing = simp em at h in
        let e : is_wait c n (answered w r) ≡ true = em in
        simp (ek, e) (a own ek)
    answer_step r w ws true false ek em a h more =
        let left : StandsIn Q c n ws = simp em at h in
        let e : is_wait c n (answered w r) ≡ false = em in
        simp (ek, e) left
    answer_step r w ws false true ek em a h more = let own : Q w.standing = simp em at h in simp (ek, em) own
    answer_step r w ws false false ek em a h more = let left : StandsIn Q c n ws = simp em at h in simp (ek, em) (more left)

    as_answer : (r : ReplyMark) → ((w : Waiter) → Q w.standing → p w ≡ true → Q (Answered r)) → (ws : List Waiter) → StandsIn Q c n ws → StandsIn Q c n (answer_first p r ws)
    as_answer r a [] h = h
    as_answer r a (w ∷ ws) h = answer_step r w ws (p w) (is_wait c n w) refl refl (a w) h (as_answer r a ws)

    pub as_answered : (r : ReplyMark) → ((w : Waiter) → Q w.standing → p w ≡ true → Q (Answered r)) → (ws : List Waiter) → StandsIn Q c n ws → StandsIn Q c n (answer_at ws (position_or_len p ws) r)
    as_answered r a ws h = subst (StandsIn Q c n) (sym (answer_there p r ws)) (as_answer r a ws h)

    drop_step : (w : Waiter) (ws : List Waiter) (k m : Bool) → p w ≡ k → is_wait c n w ≡ m → first_is_other p c n (w ∷ ws) ≡ true → StandsIn Q c n (w ∷ ws) → (first_is_other p c n ws ≡ true → StandsIn Q c n ws → StandsIn Q c n (drop_first p ws)) → StandsIn Q c n (drop_first p (w ∷ ws))
    drop_step w ws true true ek em other h more = let no : false ≡ true = simp (ek, em) at other in cc
    drop_step w ws true false ek em other h more = let left : StandsIn Q c n ws = simp em at h in simp ek left
    drop_step w ws false true ek em other h more = let own : Q w.standing = simp em at h in simp (ek, em) own
    drop_step w ws false false ek em other h more = let left : StandsIn Q c n ws = simp em at h in simp (ek, em) (more (simp ek at other) left)

    as_drop : (ws : List Waiter) → first_is_other p c n ws ≡ true → StandsIn Q c n ws → StandsIn Q c n (drop_first p ws)
    as_drop [] other h = h
    as_drop (w ∷ ws) other h = drop_step w ws (p w) (is_wait c n w) refl refl other h (as_drop ws)

    pub as_removed : (ws : List Waiter) → first_is_other p c n ws ≡ true → StandsIn Q c n ws → StandsIn Q c n (remove ws (position_or_len p ws))
    as_removed ws other h = subst (StandsIn Q c n) (sym (remove_there p ws)) (as_drop ws other h)

-- 2. The calls

pub not_named : (c n caller m : ℕ) (call : CallMark) → is_of_wait c n caller call ≡ false → Fetches call m → ((caller == c) && (m == n)) ≡ false
not_named c n caller m (Poll number) other is = subst (λ k. ((caller == c) && (k == n)) ≡ false) is other
not_named c n caller m (Cancel number) other is = subst (λ k. ((caller == c) && (k == n)) ≡ false) is other
not_named c n caller m _ other is = absurd is

module _ (Q : Standing → Type 0) (keeps : KeepsAnswers Q) (c n : ℕ) where
  told_stands : (w v : Waiter) → IsTold w v → Q w.standing → Q v.standing
  told_stands w v t own = ⊎_elim
      (λ (e : v.standing ≡ w.standing). subst Q (sym e) own)
      (λ (a : (r : ReplyMark) × (v.standing ≡ Answered r) × IsAnswerTo w.standing r). subst Q (sym a.1) (keeps w.standing a.0 own a.2))
      t.standing

  -- a call that is no poll and no cancel of that wait leaves it so, whatever it does to the waits
  pub stands_on : (begins : List ℕ) (ws : List Waiter) (caller : ℕ) (call : CallMark) → StandsIn Q c n ws → is_of_wait c n caller call ≡ false → Effects begins ws caller call (λ counts after. StandsIn Q c n after)
  stands_on begins ws caller call h other =
      record {
        same = h;
        answers = λ test r fits. as_answered Q c n (λ w. test w.standing) r (λ w own is. keeps w.standing r own (fits w.standing is)) ws h;
        tells = λ f told. as_map Q c n f (λ w. told_name c n w (f w) (told w)) (λ w own. told_stands w (f w) (told w) own) ws h;
        stands = λ st own waits. as_append Q c n ws _ h;
        forgets = λ m is. as_removed Q c n (is_wait caller m) ws (other_named c n caller m (not_named c n caller m call other is) ws) h;
      }

  pub others_stand : (kind : Kind) (s : Channel) (caller : ℕ) (call : CallMark) → StandsIn Q c n s.waits → is_of_wait c n caller call ≡ false → Holds (λ counts ws. StandsIn Q c n ws) (channel_answer kind s caller call)
  others_stand kind s caller call h other = effects_hold kind s caller call (λ counts ws. StandsIn Q c n ws) (stands_on s.begins s.waits caller call h other)

-- 3. Unanswered and answered

module _ (c n : ℕ) where
  open_step : (w : Waiter) (ws : List Waiter) (m : Bool) → is_wait c n w ≡ m → StandsIn (λ st. is_waiting st ≡ true) c n (w ∷ ws) → (StandsIn (λ st. is_waiting st ≡ true) c n ws → is_open c n ws ≡ true) → is_open c n (w ∷ ws) ≡ true
  open_step w ws true e h more = let own : is_waiting w.standing ≡ true = simp e at h in simp (e, own) refl
  open_step w ws false e h more = let left : StandsIn (λ st. is_waiting st ≡ true) c n ws = simp e at h in simp e (more left)

  -- a wait that stands unanswered is open
  pub stands_open : (ws : List Waiter) → StandsIn (λ st. is_waiting st ≡ true) c n ws → is_open c n ws ≡ true
  stands_open [] h = absurd h
  stands_open (w ∷ ws) h = open_step w ws (is_wait c n w) refl h (stands_open ws)

module _ (Q : Standing → Type 0) (c n : ℕ) where
  abbrev Had : Standing → Type 0
  Had st = Q st × (is_waiting st ≡ false)

  free_step : (w : Waiter) (ws : List Waiter) (m : Bool) → is_wait c n w ≡ m → cond m 1 0 + count_by (is_wait c n) ws ≤ 0 → (count_by (is_wait c n) ws ≤ 0 → is_answered c n ws ≡ false) → is_answered c n (w ∷ ws) ≡ false
  free_step w ws true e h more = absurd (omega arith)
  free_step w ws false e h more = simp e (more (omega arith))

  free : (ws : List Waiter) → count_by (is_wait c n) ws ≤ 0 → is_answered c n ws ≡ false
  free [] h = refl
  free (w ∷ ws) h = free_step w ws (is_wait c n w) refl (count_step c n w ws (is_wait c n w) 0 refl h) (free ws)

  had_step : (w : Waiter) (ws : List Waiter) (m o : Bool) → is_wait c n w ≡ m → is_waiting w.standing ≡ o → cond m 1 0 + count_by (is_wait c n) ws ≤ 1 → is_answered c n (w ∷ ws) ≡ true → StandsIn Q c n (w ∷ ws) → (count_by (is_wait c n) ws ≤ 1 → is_answered c n ws ≡ true → StandsIn Q c n ws → StandsIn Had c n ws) → StandsIn Had c n (w ∷ ws)
  had_step w ws true true e eo h so k more = absurd (both_ways (is_answered c n ws) (free ws (omega arith)) (simp (e, eo) at so))
  had_step w ws true false e eo h so k more = let own : Q w.standing = simp e at k in simp e (own, eo)
  had_step w ws false o e eo h so k more = let left : StandsIn Q c n ws = simp e at k in simp e (more (omega arith) (simp e at so) left)

  -- where the one wait of a name has its answer, that is how it stands
  pub answered_stands : (ws : List Waiter) → count_by (is_wait c n) ws ≤ 1 → is_answered c n ws ≡ true → StandsIn Q c n ws → StandsIn Had c n ws
  answered_stands [] h so k = absurd k
  answered_stands (w ∷ ws) h so k = had_step w ws (is_wait c n w) (is_waiting w.standing) refl refl (count_step c n w ws (is_wait c n w) 1 refl h) so k (answered_stands ws)

  first_step : (w : Waiter) (ws : List Waiter) (m : Bool) → is_wait c n w ≡ m → some_of (is_wait c n) (w ∷ ws) ≡ true → Q (first_of (is_wait c n) (w ∷ ws)).standing → (some_of (is_wait c n) ws ≡ true → Q (first_of (is_wait c n) ws).standing → StandsIn Q c n ws) → StandsIn Q c n (w ∷ ws)
  first_step w ws true e there h more = let own : Q w.standing = simp e at h in simp e own
  first_step w ws false e there h more = let left : Q (first_of (is_wait c n) ws).standing = simp e at h in simp e (more (simp e at there) left)

  pub first_stands : (ws : List Waiter) → some_of (is_wait c n) ws ≡ true → Q (first_of (is_wait c n) ws).standing → StandsIn Q c n ws
  first_stands [] there h = let no : false ≡ true = there in cc
  first_stands (w ∷ ws) there h = first_step w ws (is_wait c n w) refl there h (first_stands ws)

-- 4. The wait's own calls

module _ (Q : Standing → Type 0) (c n : ℕ) (s : Channel) (h : StandsIn Q c n s.waits) where
  abbrev pub stands_at : Standing
  stands_at = (waiter_at s.waits (position_or_len (is_wait c n) s.waits)).standing

  pub own_standing : Q stands_at
  own_standing = subst (λ w. Q w.standing) (sym (waiter_first (is_wait c n) s.waits)) (own_is Q c n s.waits h)

  pub own_cancel_says : (cancel s c n).0 ≡ cancelled stands_at
  own_cancel_says = let at = position_some (is_wait c n) s.waits (there Q c n s.waits h) in simp at refl

  -- a poll of the wait says how it stands, and leaves it where it stands unanswered
  own_poll_step : (waits : Bool) → is_waiting stands_at ≡ waits → ((poll s c n).0 ≡ polled stands_at n) × (waits ≡ true → (poll s c n).1 ≡ s)
  own_poll_step true k = let at = position_some (is_wait c n) s.waits (there Q c n s.waits h) in simp (at, k) (refl, λ e. refl)
  own_poll_step false k = let at = position_some (is_wait c n) s.waits (there Q c n s.waits h) in simp (at, k) (refl, λ e. (let no : false ≡ true = e in cc))

  pub own_poll_says : (poll s c n).0 ≡ polled stands_at n
  own_poll_says = (own_poll_step (is_waiting stands_at) refl).0

  pub own_poll_leaves : is_waiting stands_at ≡ true → (poll s c n).1 ≡ s
  own_poll_leaves k = (own_poll_step (is_waiting stands_at) refl).1 k

  -- where no stored answer says that the wait stands
  module _ (silent : (r : ReplyMark) → Q (Answered r) → is_waiting_reply r ≡ true → ⊥) where
    polled_waits : (st : Standing) → Q st → is_waiting_reply (polled st n) ≡ true → is_waiting st ≡ true
    polled_waits (Answered r) q w = absurd (silent r q w)
    polled_waits _ q w = refl

    pub poll_waits : is_waiting_reply (poll s c n).0 ≡ true → is_waiting stands_at ≡ true
    poll_waits w = polled_waits stands_at own_standing (ap is_waiting_reply (sym own_poll_says) ∙ w)

    -- a poll that says that the wait stands changes nothing
    pub poll_kept : is_waiting_reply (poll s c n).0 ≡ true → (poll s c n).1 ≡ s
    poll_kept w = own_poll_leaves (poll_waits w)
