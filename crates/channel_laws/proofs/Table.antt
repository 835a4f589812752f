-- The table of channels as one list of rows: what holds of each row holds of each call.
use Rattle.std.specs.Prelude.{ℕ, ◌-◌, List, [], ◌∷◌, ◌++◌, Bool, true, false, not, ◌||◌, map, Option, Some, None, is_some, unwrap_or, remove, drop, take, position, nat_le, slice_index, slice_set, if◌then◌else◌}
use Rattle.std.specs.List.{position_or_len}
use Rattle.std.proofs.Common.{◌≡◌, refl, ap, ap₂, ◌∙◌, ◌+◌, ◌<◌, ◌⊎◌, ⊎_elim, inl, inr, length, arith}
use Rattle.std.proofs.lemmas.Bool.{leb-true, leb-false, ltb-true}
use Rattle.std.proofs.lemmas.List.Sums.{passes_at_first}
use Rattle.ho_base.specs.Marks.{Mark}
use Rattle.ho_model.specs.declared.objects.Mode.{Mode}
use Rattle.ho_model.specs.declared.objects.Mode.TheVariants.{Wait, DropNewest, DropOldest, DropWrite}
use Rattle.ho_model.specs.declared.marks.CallMark.{CallMark}
use Rattle.ho_model.specs.declared.marks.ReplyMark.{ReplyMark}
use Rattle.ho_model.specs.declared.marks.CallMark.TheVariants.{Peek, Count, Write, Read, BeginWrite, BeginRead, BeginLookWrite, BeginLookRead, Poll, Cancel, CompleteWith, Completed}
use Rattle.ho_model.specs.declared.marks.ReplyMark.TheVariants.{Done, Dropped, Full, Refused, Item, Shown, Empty, ClosedWith, Counted, Waiting, Ready, Unknown, Flag}
use Rattle.ho_model.specs.Channel.{Standing, WantsItem, WantsRoom, LooksForItem, LooksForRoom, Answered, Waiter, Channel, Kind, Outcome, is_full, read_place, item_at, is_waiting, is_completed, wants_item, wants_room, looks_for_item, looks_for_room, item_of, waiter_at, no_waiter, answer_at, answer_all, overflow, written, taken, looked_read, looked_write, or_else, begin, drops, told_complete, tell, completed, is_wait, poll, cancelled, cancel, peeked, channel_answer}
use Rattle.channel_laws.specs.Kinds.{IsInKind, is_begin}
use Rattle.channel_laws.proofs.Places.{some_of, place_below, position_some, position_none}
use Rattle.channel_laws.proofs.Least.{read_below}

-- 1. Calls, as the table has them

-- a try, which may begin a wait, and writes these items; a fetch of a wait's answer; a completion
pub data Act : Type 0 where
  tries : (begins : Bool) (items : List Mark) → Act
  fetches : Act
  completes : (fault : ℕ) → Act

abbrev pub act_of : CallMark → Act
act_of (Write item) = tries false (item ∷ [])
act_of (BeginWrite item) = tries true (item ∷ [])
act_of BeginRead = tries true []
act_of BeginLookRead = tries true []
act_of BeginLookWrite = tries true []
act_of (CompleteWith fault) = completes fault
act_of (Poll number) = fetches
act_of (Cancel number) = fetches
act_of _ = tries false []

-- what a new wait would write
abbrev pub brings : Standing → List Mark
brings (WantsRoom item) = item ∷ []
brings _ = []

-- the counts of begins after a call, and the wait that a begin leaves
abbrev pub counted : CallMark → ℕ → List ℕ → List ℕ
counted call caller begins = if is_begin call then slice_set begins caller (slice_index begins caller + 1) else begins

abbrev pub begun : List ℕ → ℕ → Standing → Waiter
begun begins caller standing = record { caller = caller; number = slice_index begins caller; standing = standing }

-- the call fetches the answer of this wait of its caller, or gives the wait up
abbrev pub Fetches : CallMark → ℕ → Type 0
Fetches (Poll number) m = number ≡ m
Fetches (Cancel number) m = number ≡ m
Fetches _ m = ⊥

-- answers of calls that change nothing
abbrev pub IsPlain : ReplyMark → Type 0
IsPlain Empty = Unit {0}
IsPlain (Shown number) = Unit {0}
IsPlain (Counted count) = Unit {0}
IsPlain (Flag flag) = Unit {0}
IsPlain _ = ⊥

-- the wait at a place stands so
pub record StandsAt (ws : List Waiter) (place : ℕ) (standing : Standing) : Type 0 where
  pub below : place < length ws
  pub stands : (waiter_at ws place).standing ≡ standing

-- 2. The rows

module _ (kind : Kind) (s : Channel) where
  -- the places of the oldest read and of the oldest write that wait, of the wait of a name, and of the item that a read takes
  abbrev pub reader : ℕ
  reader = position_or_len (λ w. wants_item w.standing) s.waits

  abbrev pub writer : ℕ
  writer = position_or_len (λ w. wants_room w.standing) s.waits

  abbrev pub polled_at : ℕ → ℕ → ℕ
  polled_at caller number = position_or_len (is_wait caller number) s.waits

  abbrev pub leaving : ℕ
  leaving = read_place kind.priority s.buffer

  -- the item of the oldest write, and that which a read takes
  abbrev pub entering : Mark
  entering = item_of (waiter_at s.waits writer).standing

  abbrev pub item_taken : Mark
  item_taken = item_at s.buffer leaving

  -- a write finds the buffer full in a drop mode
  pub record Overflows : Type 0 where
    pub none : s.completion ≡ None
    pub full : is_full kind.capacity (length s.buffer) ≡ true
    pub dropping : drops kind.mode ≡ true

  -- P speaks of a call, its reply, and the buffer, the waits and the completion that it leaves
  module _ (caller : ℕ) (call : CallMark) (P : Act → ReplyMark → List Mark → List Waiter → Option ℕ → Type 0) where
    abbrev Same : Act → ReplyMark → Type 0
    Same a r = P a r s.buffer s.waits s.completion

    pub record Rows : Type 0 where
      -- a write
      pub refused : (b : Bool) (item : Mark) (fault : ℕ) → s.completion ≡ Some fault → Same (tries b (item ∷ [])) (Refused fault item)
      pub served : (b : Bool) (item : Mark) → StandsAt s.waits reader WantsItem → P (tries b (item ∷ [])) Done s.buffer (answer_at s.waits reader (Item item)) s.completion
      pub newest : (b : Bool) (item : Mark) → Overflows → P (tries b (item ∷ [])) (Dropped (item_at s.buffer (length s.buffer - 1))) (take (length s.buffer - 1) s.buffer ++ item ∷ []) s.waits s.completion
      pub oldest : (b : Bool) (item : Mark) → Overflows → P (tries b (item ∷ [])) (Dropped (item_at s.buffer 0)) (drop 1 s.buffer ++ item ∷ []) s.waits s.completion
      pub last : (b : Bool) (item : Mark) → Overflows → Same (tries b (item ∷ [])) (Dropped item)
      pub stored : (b : Bool) (item : Mark) → s.completion ≡ None → P (tries b (item ∷ [])) Done (s.buffer ++ item ∷ []) (answer_all looks_for_item (Ready true) s.waits) s.completion
      pub full : (item : Mark) → Same (tries false (item ∷ [])) Full
      -- a read: the oldest waiting write enters, or those who look for room are told, or none is
      pub admits : (b : Bool) → leaving < length s.buffer → StandsAt s.waits writer (WantsRoom entering) → P (tries b []) (Item item_taken) (remove s.buffer leaving ++ entering ∷ []) (answer_at s.waits writer Done) s.completion
      pub frees : (b : Bool) → leaving < length s.buffer → P (tries b []) (Item item_taken) (remove s.buffer leaving) (answer_all looks_for_room (Ready true) s.waits) s.completion
      pub leaves : (b : Bool) → leaving < length s.buffer → P (tries b []) (Item item_taken) (remove s.buffer leaving) s.waits s.completion
      pub ends : (b : Bool) (fault : ℕ) → length s.buffer ≡ 0 → s.completion ≡ Some fault → Same (tries b []) (ClosedWith fault)
      -- a look, and any begin that waits
      pub ready : Same (tries true []) (Ready true)
      pub over : (fault : ℕ) → s.completion ≡ Some fault → Same (tries true []) (told_complete fault)
      pub waits : (st : Standing) → IsInKind call st → is_waiting st ≡ true → P (tries true (brings st)) (Waiting (slice_index s.begins caller)) s.buffer (s.waits ++ begun s.begins caller st ∷ []) s.completion
      -- a completion
      pub again : (fault first : ℕ) → s.completion ≡ Some first → Same (completes fault) (Flag false)
      pub first : (fault : ℕ) → s.completion ≡ None → P (completes fault) (Flag true) s.buffer (map (tell fault) s.waits) (Some fault)
      -- a poll of a wait that stands; a poll of one that is answered, or a cancel: the wait goes
      pub stands : (number : ℕ) → Same fetches (Waiting number)
      pub gone : (number : ℕ) (st : Standing) → Fetches call number → StandsAt s.waits (polled_at caller number) st → P fetches (cancelled st) s.buffer (remove s.waits (polled_at caller number)) s.completion
      pub unknown : Same fetches Unknown
      -- calls that ask
      pub plain : (r : ReplyMark) → IsPlain r → Same (tries false []) r

    -- P holds of an answer, if the channel has the call, and a begin has counted
    abbrev pub HoldsRow : Option Outcome → Type 0
    HoldsRow None = Unit {0}
    HoldsRow (Some o) = (o.1.begins ≡ counted call caller s.begins) × P (act_of call) o.0 o.1.buffer o.1.waits o.1.completion

-- 3. Facts that rows rest on

pub none_from : (o : Option ℕ) → is_some o ≡ false → o ≡ None
none_from None h = refl
none_from (Some x) h = let no : true ≡ false = h in cc

some_from : (o : Option ℕ) → is_some o ≡ true → o ≡ Some (unwrap_or o 0)
some_from None h = let no : false ≡ true = h in cc
some_from (Some x) h = refl

wants_item_is : (st : Standing) → wants_item st ≡ true → st ≡ WantsItem
wants_item_is WantsItem h = refl
wants_item_is _ h = let no : false ≡ true = h in cc

wants_room_is : (st : Standing) → wants_room st ≡ true → st ≡ WantsRoom (item_of st)
wants_room_is (WantsRoom item) h = refl
wants_room_is _ h = let no : false ≡ true = h in cc

-- the first wait of a kind is there, and stands as those of that kind do
found_at : (kind : Standing → Bool) (stood : Standing → Standing) → ((st : Standing) → kind st ≡ true → st ≡ stood st) → (ws : List Waiter) → some_of (λ w. kind w.standing) ws ≡ true → StandsAt ws (position_or_len (λ w. kind w.standing) ws) (stood (waiter_at ws (position_or_len (λ w. kind w.standing) ws)).standing)
found_at kind stood is ws h =
    let place = position_or_len (λ w. kind w.standing) ws in
    let below = ltb-true place (length ws) (place_below (λ w. kind w.standing) ws ∙ h) in
    record { below = below; stands = is (waiter_at ws place).standing (passes_at_first (λ w. kind w.standing) ws no_waiter below) }

empty_length : (n : ℕ) → nat_le 1 n ≡ false → n ≡ 0
empty_length n h = let l = leb-false 1 n h in omega arith

-- 4. A second channel, with other waits beside those of the first

-- the first that passes is the same in both, and a change at its place leaves waits that are beside again
pub record FindsAlike (beside : List Waiter → List Waiter) (ws : List Waiter) (p : Waiter → Bool) (change : List Waiter → ℕ → List Waiter) : Type 0 where
  pub there : position p (beside ws) ≡ Some (position_or_len p (beside ws))
  pub same : waiter_at (beside ws) (position_or_len p (beside ws)) ≡ waiter_at ws (position_or_len p ws)
  pub after : change (beside ws) (position_or_len p (beside ws)) ≡ beside (change ws (position_or_len p ws))

-- What a call does to the waits it does to those beside them too, with waits that are beside again. An answer may
-- go to a wait that is missing there: then Lost holds of what it leaves
pub record IsBeside (beside : List Waiter → List Waiter) (Lost : List Waiter → Type 0) (begins : List ℕ) (ws : List Waiter) (caller : ℕ) (call : CallMark) : Type 0 where
  pub none : (p : Waiter → Bool) → some_of p ws ≡ false → some_of p (beside ws) ≡ false
  pub answers : (p : Waiter → Bool) (r : ReplyMark) → some_of p ws ≡ true → Lost (answer_at ws (position_or_len p ws) r) ⊎ FindsAlike beside ws p (λ vs place. answer_at vs place r)
  pub tells : (p : Standing → Bool) (r : ReplyMark) → answer_all p r (beside ws) ≡ beside (answer_all p r ws)
  pub ends : (fault : ℕ) → map (tell fault) (beside ws) ≡ beside (map (tell fault) ws)
  pub stands : (st : Standing) → beside ws ++ begun begins caller st ∷ [] ≡ beside (ws ++ begun begins caller st ∷ [])
  pub fetched : (m : ℕ) → Fetches call m → some_of (is_wait caller m) ws ≡ true → FindsAlike beside ws (is_wait caller m) (λ vs place. remove vs place)

-- the answer of the other channel is the same, and its waits are beside again
abbrev pub AnswersAlike : (List Waiter → List Waiter) → (List Waiter → Type 0) → Option Outcome → Option Outcome → Type 0
AnswersAlike beside Lost None other = other ≡ None
AnswersAlike beside Lost (Some o) other = Lost o.1.waits ⊎ (other ≡ Some (o.0, record o.1 { waits = beside o.1.waits }))

-- 5. Each call has one of the rows, and the other channel answers alike

module _ (kind : Kind) (s : Channel) (caller : ℕ) (call : CallMark) (P : Act → ReplyMark → List Mark → List Waiter → Option ℕ → Type 0) (rows : Rows kind s caller call P)
    (beside : List Waiter → List Waiter) (Lost : List Waiter → Type 0) (is_beside : IsBeside beside Lost s.begins s.waits caller call) where
  abbrev t : Channel
  t = record s { waits = beside s.waits }

  abbrev reads : Waiter → Bool
  reads w = wants_item w.standing

  abbrev writes : Waiter → Bool
  writes w = wants_room w.standing

  -- what a try comes to has counted no begin yet
  abbrev HasRow : Act → Option Outcome → Type 0
  HasRow a None = Unit {0}
  HasRow a (Some o) = (o.1.begins ≡ s.begins) × P a o.0 o.1.buffer o.1.waits o.1.completion

  abbrev Has : Act → Option Outcome → Option Outcome → Type 0
  Has a o other = HasRow a o × AnswersAlike beside Lost o other

  -- outcomes that differ in their waits alone
  leave : (r : ReplyMark) (buffer : List Mark) (begins : List ℕ) (completion : Option ℕ) (vs ws : List Waiter) → vs ≡ ws → ◌≡◌ {A = Option Outcome} (Some (r, record { buffer = buffer; waits = vs; begins = begins; completion = completion })) (Some (r, record { buffer = buffer; waits = ws; begins = begins; completion = completion }))
  leave r buffer begins completion vs ws e = ap (λ ws. Some (r, record { buffer = buffer; waits = ws; begins = begins; completion = completion })) e

  overflow_has : (b : Bool) (item : Mark) (mode : Mode) → kind.mode ≡ mode → s.completion ≡ None → is_full kind.capacity (length s.buffer) ≡ true → Has (tries b (item ∷ [])) (overflow mode s item) (overflow mode t item)
  overflow_has b item Wait e none full = (tt, refl)
  overflow_has b item DropNewest e none full = ((refl, rows.newest b item (record { none = none; full = full; dropping = ap drops e })), inr refl)
  overflow_has b item DropOldest e none full = ((refl, rows.oldest b item (record { none = none; full = full; dropping = ap drops e })), inr refl)
  overflow_has b item DropWrite e none full = ((refl, rows.last b item (record { none = none; full = full; dropping = ap drops e })), inr refl)

  -- no wait passes, here and beside
  nowhere : (p : Waiter → Bool) → some_of p s.waits ≡ false → (position p s.waits ≡ None) × (position p (beside s.waits) ≡ None)
  nowhere p e = (position_none p s.waits e, position_none p (beside s.waits) (is_beside.none p e))

  written_step : (b : Bool) (item : Mark) → (done read full : Bool) → is_some s.completion ≡ done → some_of reads s.waits ≡ read → is_full kind.capacity (length s.buffer) ≡ full → Has (tries b (item ∷ [])) (written kind s item) (written kind t item)
  written_step b item true read full e1 e2 e3 = simp e1 ((refl, rows.refused b item (unwrap_or s.completion 0) (some_from s.completion e1)), inr refl)
  written_step b item false true full e1 e2 e3 =
      let at = position_some reads s.waits e2 in
      let row = rows.served b item (found_at wants_item (λ st. WantsItem) wants_item_is s.waits e2) in
      simp (e1, at) ((refl, row), ⊎_elim (λ lost. inl lost) (λ alike. simp alike.there (inr (leave Done s.buffer s.begins s.completion _ _ alike.after))) (is_beside.answers reads (Item item) e2))
  written_step b item false false true e1 e2 e3 =
      let at = nowhere reads e2 in
      simp (e1, at.0, at.1, e3) (overflow_has b item kind.mode refl (none_from s.completion e1) e3)
  written_step b item false false false e1 e2 e3 =
      let at = nowhere reads e2 in
      simp (e1, at.0, at.1, e3) ((refl, rows.stored b item (none_from s.completion e1)), inr (leave Done (s.buffer ++ item ∷ []) s.begins s.completion _ _ (is_beside.tells looks_for_item (Ready true))))

  written_has : (b : Bool) (item : Mark) → Has (tries b (item ∷ [])) (written kind s item) (written kind t item)
  written_has b item = written_step b item (is_some s.completion) (some_of reads s.waits) (is_full kind.capacity (length s.buffer)) refl refl refl

  taken_step : (b items write full done : Bool) → nat_le 1 (length s.buffer) ≡ items → some_of writes s.waits ≡ write → is_full kind.capacity (length s.buffer) ≡ full → is_some s.completion ≡ done → Has (tries b []) (taken kind s) (taken kind t)
  taken_step b true true full done e1 e2 e3 e4 =
      let at = position_some writes s.waits e2 in
      let after : Waiter → List Waiter → Option Outcome = (λ w ws. Some (Item (item_taken kind s), record { buffer = remove s.buffer (leaving kind s) ++ item_of w.standing ∷ []; waits = ws; begins = s.begins; completion = s.completion })) in
      let row = rows.admits b (read_below kind.priority s.buffer (leb-true 1 (length s.buffer) e1)) (found_at wants_room (λ st. WantsRoom (item_of st)) wants_room_is s.waits e2) in
      simp (e1, at) ((refl, row), ⊎_elim (λ lost. inl lost) (λ alike. simp alike.there (inr (ap₂ after alike.same alike.after))) (is_beside.answers writes Done e2))
  taken_step b true false true done e1 e2 e3 e4 =
      let at = nowhere writes e2 in
      simp (e1, at.0, at.1, e3) ((refl, rows.frees b (read_below kind.priority s.buffer (leb-true 1 (length s.buffer) e1))), inr (leave (Item (item_taken kind s)) (remove s.buffer (leaving kind s)) s.begins s.completion _ _ (is_beside.tells looks_for_room (Ready true))))
  taken_step b true false false done e1 e2 e3 e4 =
      let at = nowhere writes e2 in
      simp (e1, at.0, at.1, e3) ((refl, rows.leaves b (read_below kind.priority s.buffer (leb-true 1 (length s.buffer) e1))), inr refl)
  taken_step b false write full true e1 e2 e3 e4 = simp (e1, e4) ((refl, rows.ends b (unwrap_or s.completion 0) (empty_length (length s.buffer) e1) (some_from s.completion e4)), inr refl)
  taken_step b false write full false e1 e2 e3 e4 = simp (e1, e4) (tt, refl)

  taken_has : (b : Bool) → Has (tries b []) (taken kind s) (taken kind t)
  taken_has b = taken_step b (nat_le 1 (length s.buffer)) (some_of writes s.waits) (is_full kind.capacity (length s.buffer)) (is_some s.completion) refl refl refl refl

  looked_read_step : (items done : Bool) → nat_le 1 (length s.buffer) ≡ items → is_some s.completion ≡ done → Has (tries true []) (looked_read s) (looked_read t)
  looked_read_step true done e1 e2 = simp e1 ((refl, rows.ready), inr refl)
  looked_read_step false true e1 e2 = simp (e1, e2) ((refl, rows.over (unwrap_or s.completion 0) (some_from s.completion e2)), inr refl)
  looked_read_step false false e1 e2 = simp (e1, e2) (tt, refl)

  looked_write_step : (done room : Bool) → is_some s.completion ≡ done → (not (is_full kind.capacity (length s.buffer)) || drops kind.mode) ≡ room → Has (tries true []) (looked_write kind s) (looked_write kind t)
  looked_write_step true room e1 e2 = simp e1 ((refl, rows.over (unwrap_or s.completion 0) (some_from s.completion e1)), inr refl)
  looked_write_step false true e1 e2 = simp (e1, e2) ((refl, rows.ready), inr refl)
  looked_write_step false false e1 e2 = simp (e1, e2) (tt, refl)

  or_else_has : (a : Act) (r : ReplyMark) (o other : Option Outcome) → P a r s.buffer s.waits s.completion → Has a o other → Has a (Some (or_else o (r, s))) (Some (or_else other (r, t)))
  or_else_has a r None other row h = rw h.1 ((refl, row), inr refl)
  or_else_has a r (Some o) other row (h, inl lost) = (h, inl lost)
  or_else_has a r (Some o) other row (h, inr e) = rw e (h, inr refl)

  -- a begin that has been counted
  abbrev HasBegun : Act → Outcome → Option Outcome → Type 0
  HasBegun a o other = ((o.1.begins ≡ slice_set s.begins caller (slice_index s.begins caller + 1)) × P a o.0 o.1.buffer o.1.waits o.1.completion) × AnswersAlike beside Lost (Some o) other

  begin_has : (st : Standing) (o other : Option Outcome) → IsInKind call st → is_waiting st ≡ true → Has (tries true (brings st)) o other → HasBegun (tries true (brings st)) (begin s caller st o) (Some (begin t caller st other))
  begin_has st None other own is h = rw h.1 ((refl, rows.waits st own is), inr (leave (Waiting (slice_index s.begins caller)) s.buffer (slice_set s.begins caller (slice_index s.begins caller + 1)) s.completion _ _ (is_beside.stands st)))
  begin_has st (Some o) other own is (h, inl lost) = ((refl, h.1), inl lost)
  begin_has st (Some o) other own is (h, inr e) = rw e ((refl, h.1), inr refl)

  completed_step : (fault : ℕ) (done : Bool) → is_some s.completion ≡ done → Has (completes fault) (Some (completed s fault)) (Some (completed t fault))
  completed_step fault true e = simp e ((refl, rows.again fault (unwrap_or s.completion 0) (some_from s.completion e)), inr refl)
  completed_step fault false e = simp e ((refl, rows.first fault (none_from s.completion e)), inr (leave (Flag true) s.buffer s.begins (Some fault) _ _ (is_beside.ends fault)))

  module _ (number : ℕ) (own : Fetches call number) where
    abbrev named : Waiter → Bool
    named = is_wait caller number

    abbrev place : ℕ
    place = polled_at kind s caller number

    place_is : some_of named s.waits ≡ true → place < length s.waits
    place_is h = ltb-true place (length s.waits) (place_below named s.waits ∙ h)

    unknown_step : some_of named s.waits ≡ false → Has fetches (Some (poll s caller number)) (Some (poll t caller number)) × Has fetches (Some (cancel s caller number)) (Some (cancel t caller number))
    unknown_step e =
        let at = nowhere named e in
        simp (at.0, at.1) (((refl, rows.unknown), inr refl), ((refl, rows.unknown), inr refl))

    poll_step : (found : Bool) (st : Standing) → some_of named s.waits ≡ found → (waiter_at s.waits place).standing ≡ st → Has fetches (Some (poll s caller number)) (Some (poll t caller number))
    poll_step false st e k = (unknown_step e).0
    poll_step true (Answered r) e k =
        let alike = is_beside.fetched number own e in
        let at = position_some named s.waits e in
        simp (at, alike.there, alike.same, k) ((refl, rows.gone number (Answered r) own (record { below = place_is e; stands = k })), inr (leave r s.buffer s.begins s.completion _ _ alike.after))
    poll_step true _ e k =
        let alike = is_beside.fetched number own e in
        let at = position_some named s.waits e in
        simp (at, alike.there, alike.same, k) ((refl, rows.stands number), inr refl)

    cancel_step : (found : Bool) → some_of named s.waits ≡ found → Has fetches (Some (cancel s caller number)) (Some (cancel t caller number))
    cancel_step true e =
        let alike = is_beside.fetched number own e in
        let at = position_some named s.waits e in
        simp (at, alike.there, alike.same) ((refl, rows.gone number (waiter_at s.waits place).standing own (record { below = place_is e; stands = refl })), inr (leave (cancelled (waiter_at s.waits place).standing) s.buffer s.begins s.completion _ _ alike.after))
    cancel_step false e = (unknown_step e).1

  peeked_step : (items : Bool) → nat_le 1 (length s.buffer) ≡ items → Has (tries false []) (Some (peeked kind s)) (Some (peeked kind t))
  peeked_step true e = simp e ((refl, rows.plain (Shown _) tt), inr refl)
  peeked_step false e = simp e ((refl, rows.plain Empty tt), inr refl)

module _ (kind : Kind) (s : Channel) (caller : ℕ) (P : Act → ReplyMark → List Mark → List Waiter → Option ℕ → Type 0) (beside : List Waiter → List Waiter) (Lost : List Waiter → Type 0) where
  -- the walk of the table
  abbrev Both : CallMark → Type 0
  Both call = HoldsRow kind s caller call P (channel_answer kind s caller call) × AnswersAlike beside Lost (channel_answer kind s caller call) (channel_answer kind (record s { waits = beside s.waits }) caller call)

  pub rows_beside : (call : CallMark) → Rows kind s caller call P → IsBeside beside Lost s.begins s.waits caller call → Both call
  rows_beside (Write item) rows is_beside = or_else_has kind s caller (Write item) P rows beside Lost is_beside (tries false (item ∷ [])) Full (written kind s item) _ (rows.full item) (written_has kind s caller (Write item) P rows beside Lost is_beside false item)
  rows_beside (BeginWrite item) rows is_beside = begin_has kind s caller (BeginWrite item) P rows beside Lost is_beside (WantsRoom item) (written kind s item) _ refl refl (written_has kind s caller (BeginWrite item) P rows beside Lost is_beside true item)
  rows_beside Read rows is_beside = or_else_has kind s caller Read P rows beside Lost is_beside (tries false []) Empty (taken kind s) _ (rows.plain Empty tt) (taken_has kind s caller Read P rows beside Lost is_beside false)
  rows_beside BeginRead rows is_beside = begin_has kind s caller BeginRead P rows beside Lost is_beside WantsItem (taken kind s) _ refl refl (taken_has kind s caller BeginRead P rows beside Lost is_beside true)
  rows_beside BeginLookRead rows is_beside =
      begin_has kind s caller BeginLookRead P rows beside Lost is_beside LooksForItem (looked_read s) _ refl refl
      (looked_read_step kind s caller BeginLookRead P rows beside Lost is_beside (nat_le 1 (length s.buffer)) (is_some s.completion) refl refl)
  rows_beside BeginLookWrite rows is_beside =
      begin_has kind s caller BeginLookWrite P rows beside Lost is_beside LooksForRoom (looked_write kind s) _ refl refl
      (looked_write_step kind s caller BeginLookWrite P rows beside Lost is_beside (is_some s.completion) (not (is_full kind.capacity (length s.buffer)) || drops kind.mode) refl refl)
  rows_beside (CompleteWith fault) rows is_beside = completed_step kind s caller (CompleteWith fault) P rows beside Lost is_beside fault (is_some s.completion) refl
  rows_beside (Poll number) rows is_beside = poll_step kind s caller (Poll number) P rows beside Lost is_beside number refl (some_of (is_wait caller number) s.waits) (waiter_at s.waits (polled_at kind s caller number)).standing refl refl
  rows_beside (Cancel number) rows is_beside = cancel_step kind s caller (Cancel number) P rows beside Lost is_beside number refl (some_of (is_wait caller number) s.waits) refl
  rows_beside Peek rows is_beside = peeked_step kind s caller Peek P rows beside Lost is_beside (nat_le 1 (length s.buffer)) refl
  rows_beside Count rows is_beside = ((refl, rows.plain (Counted (length s.buffer)) tt), inr refl)
  rows_beside Completed rows is_beside = ((refl, rows.plain (Flag (is_completed s)) tt), inr refl)
  rows_beside _ rows is_beside = (tt, refl)

-- what holds of each row holds of every call: the walk with each channel beside itself
pub rows_hold : (kind : Kind) (s : Channel) (caller : ℕ) (P : Act → ReplyMark → List Mark → List Waiter → Option ℕ → Type 0) (call : CallMark) → Rows kind s caller call P → HoldsRow kind s caller call P (channel_answer kind s caller call)
rows_hold kind s caller P call rows = (
    rows_beside kind s caller P (λ ws. ws) (λ ws. ⊥) call rows (record {
      none = λ p e. e;
      answers = λ p r e. inr (record { there = position_some p s.waits e; same = refl; after = refl });
      tells = λ p r. refl;
      ends = λ fault. refl;
      stands = λ st. refl;
      fetched = λ m own e. record { there = position_some (is_wait caller m) s.waits e; same = refl; after = refl };
    })
    ).0
