-- The law of a cancelled wait, call by call.
use Rattle.std.specs.Prelude.{ℕ, List, [], ◌∷◌, ◌++◌, Bool, true, false, ◌&&◌, ◌==◌, Option, Some, None, slice_index}
use Rattle.std.specs.List.{position_or_len}
use Rattle.std.proofs.Common.{◌≡◌, refl, ap, sym, ◌∙◌, subst, ◌<◌, ◌⊎◌, ⊎_elim, inl, inr, arith}
use Rattle.std.proofs.lemmas.Bool.{and_parts, eqb-true}
use Rattle.ho_model.specs.declared.marks.CallMark.{CallMark}
use Rattle.ho_model.specs.declared.marks.ReplyMark.{ReplyMark}
use Rattle.ho_model.specs.Channel.{Standing, Answered, Waiter, Channel, Kind, Outcome, is_waiting, waiter_at, answer_if, answer_at, tell, is_wait, cancelled, cancel, channel_answer}
use Rattle.channel_laws.specs.Reached.{IsNamed}
use Rattle.channel_laws.specs.Twin.{but_for, twin, is_open, is_answered, Follows, standing_of, given_up, is_of_wait}
use Rattle.channel_laws.proofs.Table.{begun, Fetches, HoldsRow, FindsAlike, IsBeside, AnswersAlike, rows_beside}
use Rattle.channel_laws.proofs.Effects.{told_name, Effects, HoldsAfter, effects_of_rows}
use Rattle.channel_laws.proofs.Standing.{not_named}
use Rattle.channel_laws.proofs.Places.{some_of, first_of, waiter_first, first_is_other, position_some, none_left, but_for-append, open_append, answer_twin, waiter_twin, remove_twin, answered_own, open_other, open_removed, some_twin, but_for-map, open_map, own_removed, own_waits, named, below_open, other_named}

gives_up : (st : Standing) → is_waiting st ≡ true → cancelled st ≡ given_up st
gives_up (Answered r) h = let no : false ≡ true = h in cc
gives_up _ h = refl

standing_step : (c n : ℕ) (w : Waiter) (ws : List Waiter) (k : Bool) → is_wait c n w ≡ k → some_of (is_wait c n) (w ∷ ws) ≡ true → (some_of (is_wait c n) ws ≡ true → (first_of (is_wait c n) ws).standing ≡ standing_of c n ws) → (first_of (is_wait c n) (w ∷ ws)).standing ≡ standing_of c n (w ∷ ws)
standing_step c n w ws true e there more = simp e refl
standing_step c n w ws false e there more = simp e (more (simp e at there))

standing_first : (c n : ℕ) (ws : List Waiter) → some_of (is_wait c n) ws ≡ true → (first_of (is_wait c n) ws).standing ≡ standing_of c n ws
standing_first c n [] there = let no : false ≡ true = there in cc
standing_first c n (w ∷ ws) there = standing_step c n w ws (is_wait c n w) refl there (standing_first c n ws)

-- a cancel of an unanswered wait gives it up, and leaves exactly the twin
pub cancel_leaves_twin : (c n : ℕ) (s : Channel) → IsNamed s → is_open c n s.waits ≡ true → ((cancel s c n).0 ≡ given_up (standing_of c n s.waits)) × ((cancel s c n).1 ≡ twin c n s)
cancel_leaves_twin c n s names so =
    let there = named c n s.waits so in
    let at = position_some (is_wait c n) s.waits there in
    let is : (waiter_at s.waits (position_or_len (is_wait c n) s.waits)).standing ≡ standing_of c n s.waits = ap (λ (w : Waiter). w.standing) (waiter_first (is_wait c n) s.waits) ∙ standing_first c n s.waits there in
    simp at (
      gives_up (waiter_at s.waits (position_or_len (is_wait c n) s.waits)).standing (own_waits c n s.waits (names.once c n) so) ∙ ap given_up is,
      ap (λ ws. record s { waits = ws }) (own_removed c n s.waits (names.once c n)),
    )

-- an answer keeps the name
answer_named : (c n : ℕ) (p : Standing → Bool) (r : ReplyMark) (w : Waiter) (k : Bool) → p w.standing ≡ k → is_wait c n (answer_if p r w) ≡ is_wait c n w
answer_named c n p r w true e = simp e refl
answer_named c n p r w false e = simp e refl

last_step : (c n : ℕ) (w : Waiter) → is_wait c n w ≡ false → but_for c n (w ∷ []) ≡ w ∷ []
last_step c n w e = simp e refl

-- a number above is another name
new_name : (c n d m : ℕ) (k : Bool) → (c ≡ d → n < m) → ((d == c) && (m == n)) ≡ k → k ≡ false
new_name c n d m true below e =
    let parts = and_parts (d == c) (m == n) e in
    let less = below (sym (eqb-true d c parts.0)) in
    let same : m ≡ n = eqb-true m n parts.1 in
    absurd (omega arith)
new_name c n d m false below e = refl

module _ (c n : ℕ) (s : Channel) (names : IsNamed s) (so : is_open c n s.waits ≡ true) (caller : ℕ) (call : CallMark) (other : is_of_wait c n caller call ≡ false) where
  abbrev IsAnswered : List Waiter → Type 0
  IsAnswered ws = is_answered c n ws ≡ true

  -- the wait has its answer, or stands unanswered
  abbrev Stays : List ℕ → List Waiter → Type 0
  Stays begins ws = IsAnswered ws ⊎ (is_open c n ws ≡ true)

  answered_or_open : (p : Waiter → Bool) (r : ReplyMark) (k : Bool) → first_is_other p c n s.waits ≡ k → Stays s.begins (answer_at s.waits (position_or_len p s.waits) r)
  answered_or_open p r true e = inr (open_other c n p r s.waits e so)
  answered_or_open p r false e = inl (answered_own c n p r s.waits e)

  answered_or_alike : (p : Waiter → Bool) (r : ReplyMark) (k : Bool) → first_is_other p c n s.waits ≡ k → some_of p s.waits ≡ true → IsAnswered (answer_at s.waits (position_or_len p s.waits) r) ⊎ FindsAlike (but_for c n) s.waits p (λ ws place. answer_at ws place r)
  answered_or_alike p r true e some = inr (record { there = some_twin c n p s.waits e some; same = waiter_twin c n p s.waits e; after = answer_twin c n p r s.waits e })
  answered_or_alike p r false e some = inl (answered_own c n p r s.waits e)

  -- what is fetched is another wait
  another : (m : ℕ) → Fetches call m → first_is_other (is_wait caller m) c n s.waits ≡ true
  another m own = other_named c n caller m (not_named c n caller m call other own) s.waits

  effects : Effects s.begins s.waits caller call Stays
  effects = record {
    same = inr so;
    answers = λ kind r fits. answered_or_open (λ w. kind w.standing) r (first_is_other (λ w. kind w.standing) c n s.waits) refl;
    tells = λ f told. open_map c n f (λ w. told_name c n w (f w) (told w)) s.waits so;
    stands = λ st own waits. inr (open_append c n s.waits _ so);
    forgets = λ m own. inr (open_removed c n (is_wait caller m) s.waits (another m own) so);
  }

  new_last : (w : Waiter) → is_wait c n w ≡ false → but_for c n s.waits ++ w ∷ [] ≡ but_for c n (s.waits ++ w ∷ [])
  new_last w e = ap (λ ws. but_for c n s.waits ++ ws) (sym (last_step c n w e)) ∙ sym (but_for-append c n s.waits (w ∷ []))

  -- the twin's waits are beside, until the wait is answered
  beside : IsBeside (but_for c n) IsAnswered s.begins s.waits caller call
  beside = record {
    none = λ p e. none_left c n p s.waits e;
    answers = λ p r some. answered_or_alike p r (first_is_other p c n s.waits) refl some;
    tells = λ p r. sym (but_for-map c n (answer_if p r) (λ w. answer_named c n p r w (p w.standing) refl) s.waits);
    ends = λ fault. sym (but_for-map c n (tell fault) (λ w. refl) s.waits);
    stands = λ st. new_last (begun s.begins caller st) (new_name c n caller (slice_index s.begins caller) _ (λ e. subst (λ d. n < slice_index s.begins d) e (below_open c n s.begins s.waits names.below so)) refl);
    fetched = λ m own some. record {
      there = some_twin c n (is_wait caller m) s.waits (another m own) some;
      same = waiter_twin c n (is_wait caller m) s.waits (another m own);
      after = remove_twin c n (is_wait caller m) s.waits (another m own);
    };
  }

  follows : (kind : Kind) (o twins : Option Outcome) → HoldsRow kind s caller call (HoldsAfter kind s caller call Stays effects) o × AnswersAlike (but_for c n) IsAnswered o twins → Follows c n o twins
  follows kind None twins h = h.1
  follows kind (Some o) twins (h, inl answered) = inl answered
  follows kind (Some o) twins (h, inr same) = ⊎_elim (λ answered. inl answered) (λ unanswered. inr (unanswered, same)) h.1

-- every call but a poll or a cancel of that wait answers it or follows the twin
pub others_follow : (kind : Kind) (c n : ℕ) (s : Channel) (caller : ℕ) (call : CallMark) → IsNamed s → is_open c n s.waits ≡ true → is_of_wait c n caller call ≡ false → Follows c n (channel_answer kind s caller call) (channel_answer kind (twin c n s) caller call)
others_follow kind c n s caller call names so other =
    let rows = effects_of_rows kind s caller call _ (effects c n s names so caller call other) in
    follows c n s names so caller call other kind _ _ (rows_beside kind s caller _ (but_for c n) _ call rows (beside c n s names so caller call other))
