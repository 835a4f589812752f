-- Each wait of a channel has a name of its own, and a stored answer is one that a wait can have,
-- whatever the capacity.
use Rattle.std.specs.Prelude.{ℕ, List, [], ◌∷◌, ◌++◌, Bool, true, false}
use Rattle.std.proofs.Common.{◌≡◌, refl, sym, ap, subst, ◌∙◌, ◌+◌, ◌<◌, ⊎_elim, length, arith}
use Rattle.std.proofs.lemmas.List.{length-set}
use Rattle.std.specs.Prelude.{slice_index}
use Rattle.ho_model.specs.declared.marks.CallMark.{CallMark}
use Rattle.ho_model.specs.declared.marks.ReplyMark.{ReplyMark}
use Rattle.ho_model.specs.Channel.{Standing, WantsItem, WantsRoom, LooksForItem, LooksForRoom, Answered, Waiter, Channel, Kind, is_waiting, is_wait, channel_answer, empty_channel}
use Rattle.channel_laws.specs.Reached.{IsNamed}
use Rattle.channel_laws.specs.Kinds.{IsInKind, is_begin}
use Rattle.channel_laws.proofs.Places.{remove_there, answer_there}
use Rattle.channel_laws.proofs.Waiters.{Each, each_map, each_push, each_answer, each_drop, HasNames, names_answer, names_drop, names_map, names_count, names_stand}
use Rattle.channel_laws.proofs.Table.{counted, begun}
use Rattle.channel_laws.proofs.Effects.{IsAnswerTo, IsTold, Effects, Holds, effects_hold}

-- a stored answer is one that a wait can have
abbrev pub HasAnswer : Standing → Type 0
HasAnswer (Answered r) = (st : Standing) × IsAnswerTo st r
HasAnswer _ = Unit {0}

-- 64 counts of begins, names, and answers
pub record IsOrdered (begins : List ℕ) (waits : List Waiter) : Type 0 where
  pub callers : length begins ≡ 64
  pub names : HasNames begins waits
  pub answers : Each (λ w. HasAnswer w.standing) waits

waiting_has : (st : Standing) → is_waiting st ≡ true → HasAnswer st
waiting_has (Answered r) h = let no : false ≡ true = h in cc
waiting_has _ h = tt

told_has : (w v : Waiter) → IsTold w v → HasAnswer w.standing → HasAnswer v.standing
told_has w v t h = ⊎_elim
    (λ (e : v.standing ≡ w.standing). subst HasAnswer (sym e) h)
    (λ (a : (r : ReplyMark) × (v.standing ≡ Answered r) × IsAnswerTo w.standing r). subst HasAnswer (sym a.1) (w.standing, a.2))
    t.standing

-- only a begin leaves a wait
begins_one : (call : CallMark) (st : Standing) → IsInKind call st → is_waiting st ≡ true → is_begin call ≡ true
begins_one call WantsItem k h = ap is_begin k
begins_one call (WantsRoom x) k h = ap is_begin k
begins_one call LooksForItem k h = ap is_begin k
begins_one call LooksForRoom k h = ap is_begin k
begins_one call (Answered r) k h = let no : false ≡ true = h in cc

module _ (begins : List ℕ) (caller : ℕ) (call : CallMark) (callers : length begins ≡ 64) (below : caller < 64) where
  length_step : (k : Bool) → is_begin call ≡ k → length (counted call caller begins) ≡ 64
  length_step true e = simp e (length-set begins caller (slice_index begins caller + 1) ∙ callers)
  length_step false e = simp e callers

  names_step : (ws : List Waiter) (k : Bool) → is_begin call ≡ k → HasNames begins ws → HasNames (counted call caller begins) ws
  names_step ws true e g = simp e (names_count begins caller ws (omega arith) g)
  names_step ws false e g = simp e g

  ordered : (ws : List Waiter) → HasNames begins ws → Each (λ w. HasAnswer w.standing) ws → IsOrdered (counted call caller begins) ws
  ordered ws g all = record { callers = length_step (is_begin call) refl; names = names_step ws (is_begin call) refl g; answers = all }

  stood : (ws : List Waiter) (st : Standing) → is_begin call ≡ true → HasNames begins ws → HasNames (counted call caller begins) (ws ++ begun begins caller st ∷ [])
  stood ws st e g = simp e (names_stand begins caller st ws (omega arith) g)

  pub in_order : (ws : List Waiter) → IsOrdered begins ws → Effects begins ws caller call IsOrdered
  in_order ws was =
      record {
        same = ordered ws was.names was.answers;
        answers = λ kind r fits. ordered _ (names_answer begins (λ w. kind w.standing) r ws was.names)
            (subst (Each (λ w. HasAnswer w.standing)) (sym (answer_there (λ w. kind w.standing) r ws))
            (each_answer (λ w. HasAnswer w.standing) (λ w. kind w.standing) r (λ w h is. (w.standing, fits w.standing is)) ws was.answers));
        tells = λ f told. ordered _ (names_map begins f (λ w. (told w).caller) (λ w. (told w).number) ws was.names)
            (each_map (λ w. HasAnswer w.standing) (λ w. HasAnswer w.standing) f (λ w h. told_has w (f w) (told w) h) ws was.answers);
        stands = λ st own waits. record {
          callers = length_step (is_begin call) refl;
          names = stood ws st (begins_one call st own waits) was.names;
          answers = each_push (λ w. HasAnswer w.standing) ws (begun begins caller st) was.answers (waiting_has st waits);
        };
        forgets = λ m is. ordered _ (names_drop begins (is_wait caller m) ws was.names)
            (subst (Each (λ w. HasAnswer w.standing)) (sym (remove_there (is_wait caller m) ws)) (each_drop (λ w. HasAnswer w.standing) (is_wait caller m) ws was.answers));
      }

-- each call leaves them
pub order_stays : (kind : Kind) (s : Channel) (caller : ℕ) (call : CallMark) → caller < 64 → IsOrdered s.begins s.waits → Holds IsOrdered (channel_answer kind s caller call)
order_stays kind s caller call below was = effects_hold kind s caller call IsOrdered (in_order s.begins caller call was.callers below s.waits was)

-- the channel before its first call has them
pub empty_in_order : IsOrdered empty_channel.begins empty_channel.waits
empty_in_order = record { callers = refl; names = record { once = λ c n. omega arith; below = tt }; answers = tt }

-- so it has names
pub named_of : (s : Channel) → IsOrdered s.begins s.waits → IsNamed s
named_of s was = record { once = was.names.once; below = was.names.below }
