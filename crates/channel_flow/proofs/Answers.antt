-- Answers of waits that nobody has fetched: each is one that its wait can have.
use Rattle.std.specs.Prelude.{ℕ, List, [], ◌∷◌, Bool, true, false, map, Option, Some, None, remove, ◌==◌}
use Rattle.std.specs.List.{position_or_len}
use Rattle.std.proofs.Common.{◌≡◌, refl, ap, sym, ◌∙◌, subst, ◌<◌, length, suc, zero, arith}
use Rattle.std.proofs.lemmas.Bool.{eqb-true}
use Rattle.ho_model.specs.declared.marks.ReplyMark.{ReplyMark}
use Rattle.ho_model.specs.declared.marks.ReplyMark.TheVariants.{Done, Refused, Item, ClosedWith, Ready, Faulted}
use Rattle.ho_model.specs.Channel.{Standing, WantsItem, WantsRoom, LooksForItem, LooksForRoom, Answered, Waiter, Channel, Kind, waiter_at, answer_if, answer_at, answer_all, tell, told, told_complete}
use Rattle.channel_laws.specs.Reached.{IsSettled}
use Rattle.channel_laws.proofs.Places.{answer_there, remove_there}
use Rattle.channel_laws.proofs.Waiters.{Each, each_weaker, each_map, each_answer, each_drop}
use Rattle.channel_laws.proofs.Table.{StandsAt}

-- an answer that a wait can have, in a channel with so many items and this completion
abbrev pub IsAnswer : ℕ → Option ℕ → ReplyMark → Type 0
IsAnswer count completion (Item item) = Unit {0}
IsAnswer count completion Done = Unit {0}
IsAnswer count completion (Ready true) = Unit {0}
IsAnswer count completion (Ready false) = completion ≡ Some 0
IsAnswer count completion (Faulted fault) = completion ≡ Some fault
IsAnswer count completion (Refused fault item) = completion ≡ Some fault
IsAnswer count completion (ClosedWith fault) = (completion ≡ Some fault) × (count ≡ 0)
IsAnswer count completion _ = ⊥

abbrev pub IsSound : ℕ → Option ℕ → Standing → Type 0
IsSound count completion (Answered r) = IsAnswer count completion r
IsSound count completion _ = Unit {0}

abbrev pub AreSound : ℕ → Option ℕ → List Waiter → Type 0
AreSound count completion ws = Each (λ w. IsSound count completion w.standing) ws

abbrev pub HasSound : Channel → Type 0
HasSound s = AreSound (length s.buffer) s.completion s.waits

-- 1. The wait at a place

each_at : (P : Waiter → Type 0) (ws : List Waiter) (place : ℕ) → place < length ws → Each P ws → P (waiter_at ws place)
each_at P [] place l all = absurd (omega arith)
each_at P (w ∷ ws) zero l all = all.0
each_at P (w ∷ ws) (suc place) l all = each_at P ws place (omega arith) all.1

pub sound_at : (s : Channel) (place : ℕ) (st : Standing) → StandsAt s.waits place st → HasSound s → IsSound (length s.buffer) s.completion st
sound_at s place st at all = subst (IsSound (length s.buffer) s.completion) at.stands (each_at (λ w. IsSound (length s.buffer) s.completion w.standing) s.waits place at.below all)

-- 2. One is answered by an answer that any wait can have, or goes

module _ (count : ℕ) (completion : Option ℕ) (p : Waiter → Bool) (ws : List Waiter) (all : AreSound count completion ws) where
  pub sound_answered : (r : ReplyMark) → IsAnswer count completion r → AreSound count completion (answer_at ws (position_or_len p ws) r)
  sound_answered r is = rw (answer_there p r ws) (each_answer (λ w. IsSound count completion w.standing) p r (λ w h passes. is) ws all)

  pub sound_gone : AreSound count completion (remove ws (position_or_len p ws))
  sound_gone = rw (remove_there p ws) (each_drop (λ w. IsSound count completion w.standing) p ws all)

-- 3. The buffer or the completion changes

pub not_both : (c : Option ℕ) (fault : ℕ) → c ≡ None → c ≡ Some fault → ⊥
not_both c fault none some = let no : None ≡ Some fault = sym none ∙ some in cc

-- a completion stays, and an empty buffer stays empty after it
pub record Moves (n m : ℕ) (c d : Option ℕ) : Type 0 where
  pub stays : (fault : ℕ) → c ≡ Some fault → d ≡ Some fault
  pub empty : (fault : ℕ) → c ≡ Some fault → n ≡ 0 → m ≡ 0

-- so it is while there is no completion, and where there was an item
pub no_end : {n m : ℕ} {c d : Option ℕ} → c ≡ None → Moves n m c d
no_end {c = c} none = record { stays = λ fault e. absurd (not_both c fault none e); empty = λ fault e. absurd (not_both c fault none e) }

pub some_left : {n m : ℕ} {c : Option ℕ} → 0 < n → Moves n m c c
some_left some = record { stays = λ fault e. e; empty = λ fault e z. absurd (omega arith) }

module _ {n m : ℕ} {c d : Option ℕ} (moves : Moves n m c d) where
  answer_moves : (r : ReplyMark) → IsAnswer n c r → IsAnswer m d r
  answer_moves (Item item) a = tt
  answer_moves Done a = tt
  answer_moves (Ready true) a = tt
  answer_moves (Ready false) a = moves.stays 0 a
  answer_moves (Faulted fault) a = moves.stays fault a
  answer_moves (Refused fault item) a = moves.stays fault a
  answer_moves (ClosedWith fault) a = (moves.stays fault a.0, moves.empty fault a.0 a.1)
  answer_moves _ a = absurd a

  sound_moves : (st : Standing) → IsSound n c st → IsSound m d st
  sound_moves (Answered r) a = answer_moves r a
  sound_moves _ a = tt

  pub all_move : (ws : List Waiter) → AreSound n c ws → AreSound m d ws
  all_move ws a = each_weaker (λ w. IsSound n c w.standing) (λ w. IsSound m d w.standing) (λ w. sound_moves w.standing) ws a

  told_step : (kind : Standing → Bool) (w : Waiter) (k : Bool) → kind w.standing ≡ k → IsSound n c w.standing → IsSound m d (answer_if kind (Ready true) w).standing
  told_step kind w true e a = simp e tt
  told_step kind w false e a = simp e (sound_moves w.standing a)

  -- and those of a kind are told
  pub all_told : (kind : Standing → Bool) (ws : List Waiter) → AreSound n c ws → AreSound m d (answer_all kind (Ready true) ws)
  all_told kind ws a = each_map (λ w. IsSound n c w.standing) (λ w. IsSound m d w.standing) (answer_if kind (Ready true)) (λ w. told_step kind w (kind w.standing) refl) ws a

-- 4. The completion: a read that waits stands with an empty buffer

over_step : (n fault : ℕ) (k : Bool) → (fault == 0) ≡ k → IsAnswer n (Some fault) (told_complete fault)
over_step n fault true e = simp e (ap (λ (f : ℕ). Some f) (eqb-true fault 0 e))
over_step n fault false e = simp e refl

module _ (kind : Kind) (n : ℕ) (c : Option ℕ) (fault : ℕ) (none : c ≡ None) where
  told_sound : (st : Standing) → IsSettled kind n c st → IsSound n c st → IsSound n (Some fault) (told fault st)
  told_sound WantsItem settled a = (refl, settled.0)
  told_sound (WantsRoom item) settled a = refl
  told_sound LooksForItem settled a = over_step n fault (fault == 0) refl
  told_sound LooksForRoom settled a = over_step n fault (fault == 0) refl
  told_sound (Answered r) settled a = answer_moves (no_end none) r a

  pub all_complete : (ws : List Waiter) → Each (λ w. IsSettled kind n c w.standing) ws → AreSound n c ws → AreSound n (Some fault) (map (tell fault) ws)
  all_complete [] settled a = tt
  all_complete (w ∷ ws) settled a = (told_sound w.standing settled.0 a.0, all_complete ws settled.1 a.1)
