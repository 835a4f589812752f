-- How a call changes waits: not at all; the first of a kind is answered; each is told; a new one stands;
-- the answer of one is fetched. What holds of these five holds of each call.
--
-- They are stated over the waits and the counts of begins alone, so that every object that has both can
-- have them.
use Rattle.std.specs.Prelude.{ℕ, List, [], ◌∷◌, ◌++◌, Bool, true, false, map, ◌&&◌, ◌==◌, Option, Some, None, remove}
use Rattle.std.specs.List.{position_or_len}
use Rattle.std.proofs.Common.{◌≡◌, refl, sym, ap₂, subst, ◌⊎◌, inl, inr}
use Rattle.ho_base.specs.Marks.{Mark}
use Rattle.ho_model.specs.declared.marks.CallMark.{CallMark}
use Rattle.ho_model.specs.declared.marks.ReplyMark.{ReplyMark}
use Rattle.ho_model.specs.declared.marks.ReplyMark.TheVariants.{Done, Refused, Item, ClosedWith, Ready}
use Rattle.ho_model.specs.Channel.{Standing, WantsItem, WantsRoom, LooksForItem, LooksForRoom, Answered, Waiter, Channel, Kind, Outcome, is_waiting, wants_item, wants_room, looks_for_item, looks_for_room, answer_if, answer_all, answer_at, told, told_complete, tell, is_wait, channel_answer}
use Rattle.channel_laws.specs.Kinds.{AnswersRead, AnswersWrite, AnswersLook, IsInKind}
use Rattle.channel_laws.proofs.Table.{Act, counted, begun, Fetches, Rows, HoldsRow, rows_hold}

-- 1. The five

-- the reply answers a wait that stands so
abbrev pub IsAnswerTo : Standing → ReplyMark → Type 0
IsAnswerTo WantsItem r = AnswersRead r
IsAnswerTo (WantsRoom x) r = AnswersWrite x r
IsAnswerTo LooksForItem r = AnswersLook r
IsAnswerTo LooksForRoom r = AnswersLook r
IsAnswerTo (Answered q) r = ⊥

-- the wait w has become v: it keeps its name, and stands as before or is answered
pub record IsTold (w v : Waiter) : Type 0 where
  pub caller : v.caller ≡ w.caller
  pub number : v.number ≡ w.number
  pub standing : (v.standing ≡ w.standing) ⊎ ((r : ReplyMark) × (v.standing ≡ Answered r) × IsAnswerTo w.standing r)

pub told_name : (c n : ℕ) (w v : Waiter) → IsTold w v → is_wait c n v ≡ is_wait c n w
told_name c n w v t = ap₂ (λ x y. (x == c) && (y == n)) t.caller t.number

-- P holds of the counts and of the waits after a call, whatever the call has done to them
pub record Effects (begins : List ℕ) (ws : List Waiter) (caller : ℕ) (call : CallMark) (P : List ℕ → List Waiter → Type 0) : Type 0 where
  pub same : P (counted call caller begins) ws
  pub answers : (kind : Standing → Bool) (r : ReplyMark) → ((st : Standing) → kind st ≡ true → IsAnswerTo st r) → P (counted call caller begins) (answer_at ws (position_or_len (λ w. kind w.standing) ws) r)
  pub tells : (f : Waiter → Waiter) → ((w : Waiter) → IsTold w (f w)) → P (counted call caller begins) (map f ws)
  pub stands : (st : Standing) → IsInKind call st → is_waiting st ≡ true → P (counted call caller begins) (ws ++ begun begins caller st ∷ [])
  pub forgets : (m : ℕ) → Fetches call m → P (counted call caller begins) (remove ws (position_or_len (is_wait caller m) ws))

-- P holds of an answer, if the object has the call
abbrev pub Holds : (List ℕ → List Waiter → Type 0) → Option Outcome → Type 0
Holds P None = Unit {0}
Holds P (Some o) = P o.1.begins o.1.waits

-- 2. Answers

handed : (item : Mark) (st : Standing) → wants_item st ≡ true → IsAnswerTo st (Item item)
handed item WantsItem h = tt
handed item _ h = let no : false ≡ true = h in cc

let_in : (st : Standing) → wants_room st ≡ true → IsAnswerTo st Done
let_in (WantsRoom x) h = tt
let_in _ h = let no : false ≡ true = h in cc

pub looks_found : (st : Standing) → looks_for_item st ≡ true → IsAnswerTo st (Ready true)
looks_found LooksForItem h = tt
looks_found _ h = let no : false ≡ true = h in cc

pub looks_freed : (st : Standing) → looks_for_room st ≡ true → IsAnswerTo st (Ready true)
looks_freed LooksForRoom h = tt
looks_freed _ h = let no : false ≡ true = h in cc

told_if_step : (kind : Standing → Bool) (r : ReplyMark) (w : Waiter) (k : Bool) → kind w.standing ≡ k → (kind w.standing ≡ true → IsAnswerTo w.standing r) → IsTold w (answer_if kind r w)
told_if_step kind r w true e fits = simp e (record { caller = refl; number = refl; standing = inr (r, refl, fits e) })
told_if_step kind r w false e fits = simp e (record { caller = refl; number = refl; standing = inl refl })

pub told_if : (kind : Standing → Bool) (r : ReplyMark) → ((st : Standing) → kind st ≡ true → IsAnswerTo st r) → (w : Waiter) → IsTold w (answer_if kind r w)
told_if kind r fits w = told_if_step kind r w (kind w.standing) refl (fits w.standing)

complete_step : (fault : ℕ) (k : Bool) → (fault == 0) ≡ k → AnswersLook (told_complete fault)
complete_step fault true e = simp e tt
complete_step fault false e = simp e tt

complete_look : (fault : ℕ) → AnswersLook (told_complete fault)
complete_look fault = complete_step fault (fault == 0) refl

told_end : (fault : ℕ) (st : Standing) → (told fault st ≡ st) ⊎ ((r : ReplyMark) × (told fault st ≡ Answered r) × IsAnswerTo st r)
told_end fault WantsItem = inr (ClosedWith fault, refl, tt)
told_end fault (WantsRoom x) = inr (Refused fault x, refl, refl)
told_end fault LooksForItem = inr (told_complete fault, refl, complete_look fault)
told_end fault LooksForRoom = inr (told_complete fault, refl, complete_look fault)
told_end fault (Answered r) = inl refl

pub told_all : (fault : ℕ) (w : Waiter) → IsTold w (tell fault w)
told_all fault w = record { caller = refl; number = refl; standing = told_end fault w.standing }

-- 3. The rows of the table

module _ (kind : Kind) (s : Channel) (caller : ℕ) (call : CallMark) (P : List ℕ → List Waiter → Type 0) (rows : Effects s.begins s.waits caller call P) where
  abbrev pub HoldsAfter : Act → ReplyMark → List Mark → List Waiter → Option ℕ → Type 0
  HoldsAfter a r buffer waits completion = P (counted call caller s.begins) waits

  found : P (counted call caller s.begins) (answer_all looks_for_item (Ready true) s.waits)
  found = rows.tells (answer_if looks_for_item (Ready true)) (told_if looks_for_item (Ready true) looks_found)

  let_go : P (counted call caller s.begins) (answer_all looks_for_room (Ready true) s.waits)
  let_go = rows.tells (answer_if looks_for_room (Ready true)) (told_if looks_for_room (Ready true) looks_freed)

  pub effects_of_rows : Rows kind s caller call HoldsAfter
  effects_of_rows = record {
    refused = λ b item fault e. rows.same;
    served = λ b item at. rows.answers wants_item (Item item) (handed item);
    newest = λ b item full. rows.same;
    oldest = λ b item full. rows.same;
    last = λ b item full. rows.same;
    stored = λ b item none. found;
    full = λ item. rows.same;
    admits = λ b below at. rows.answers wants_room Done let_in;
    frees = λ b below. let_go;
    leaves = λ b below. rows.same;
    ends = λ b fault empty e. rows.same;
    ready = rows.same;
    over = λ fault e. rows.same;
    waits = λ st own is. rows.stands st own is;
    again = λ fault first e. rows.same;
    first = λ fault none. rows.tells (tell fault) (told_all fault);
    stands = λ number. rows.same;
    gone = λ number st own at. rows.forgets number own;
    unknown = rows.same;
    plain = λ r is. rows.same;
  }

  holds_at : (o : Option Outcome) → HoldsRow kind s caller call HoldsAfter o → Holds P o
  holds_at None h = tt
  holds_at (Some o) h = subst (λ b. P b o.1.waits) (sym h.0) h.1

-- what holds of the five holds of each call
pub effects_hold : (kind : Kind) (s : Channel) (caller : ℕ) (call : CallMark) (P : List ℕ → List Waiter → Type 0) → Effects s.begins s.waits caller call P → Holds P (channel_answer kind s caller call)
effects_hold kind s caller call P rows =
    holds_at kind s caller call P rows (channel_answer kind s caller call)
    (rows_hold kind s caller (HoldsAfter kind s caller call P rows) call (effects_of_rows kind s caller call P rows))
