-- The channel: a buffer with or without a capacity, waits, and a completion. With a priority a read
-- takes an item of least priority, and else the first.
use Rattle.std.specs.Prelude.{ℕ, ◌+◌, ◌-◌, List, [], ◌∷◌, ◌++◌, length, map, take, drop, position, remove, Option, Some, None, is_some, unwrap_or, Bool, true, false, not, ◌&&◌, ◌||◌, ◌==◌, nat_le, if◌then◌else◌, slice_index, slice_index_or, slice_set, replicate}
use Rattle.ho_base.specs.Marks.{Mark, number_of}
use Rattle.ho_model.specs.declared.objects.Mode.{Mode}
use Rattle.ho_model.specs.declared.objects.Mode.TheVariants.{Wait, DropNewest, DropOldest, DropWrite}
use Rattle.ho_model.specs.Entries.{CallMark, ReplyMark, Peek, Count, Write, Read, BeginWrite, BeginRead, BeginLookWrite, BeginLookRead, Poll, Cancel, CompleteWith, Completed, Done, Dropped, Full, Refused, Item, Shown, Empty, ClosedWith, Counted, Waiting, Ready, Faulted, Cancelled, CancelledWrite, Unknown, Flag}

-- what a wait wants, or the answer that it has
pub data Standing : Type 0 where
  WantsItem : Standing
  WantsRoom : (item : Mark) → Standing
  LooksForItem : Standing
  LooksForRoom : Standing
  Answered : (reply : ReplyMark) → Standing

pub record Waiter : Type 0 where
  pub caller : ℕ
  pub number : ℕ
  pub standing : Standing

-- waits stand oldest first. begins has each caller's count of begins. The completion has a fault, which is 0 for none
pub record Channel : Type 0 where
  pub buffer : List Mark
  pub waits : List Waiter
  pub begins : List ℕ
  pub completion : Option ℕ

abbrev pub empty_channel : Channel
empty_channel = record { buffer = []; waits = []; begins = replicate 64 0; completion = None }

-- how many items fit, what a write to a full buffer does, and the priority of an item, if reads go by it
pub record Kind : Type 0 where
  pub capacity : Option ℕ
  pub mode : Mode
  pub priority : Option (Mark → ℕ)

-- a reply, and the channel after it
abbrev pub Outcome : Type 0
Outcome = ReplyMark × Channel

-- 1. The buffer

abbrev pub is_full : Option ℕ → ℕ → Bool
is_full None count = false
is_full (Some capacity) count = nat_le capacity count

-- the place of the first item of least priority in x ∷ xs
abbrev pub least_place : (Mark → ℕ) → Mark → List Mark → ℕ × Mark
least_place priority x [] = (0, x)
least_place priority x (y ∷ ys) =
    let rest = least_place priority y ys in
    if nat_le (priority x) (priority rest.1) then (0, x) else (rest.0 + 1, rest.1)

-- the place of the item that a read takes
abbrev pub read_place : Option (Mark → ℕ) → List Mark → ℕ
read_place None buffer = 0
read_place (Some priority) [] = 0
read_place (Some priority) (x ∷ xs) = (least_place priority x xs).0

abbrev pub item_at : List Mark → ℕ → Mark
item_at buffer place = slice_index_or buffer place []

-- 2. The waits

abbrev pub is_waiting : Standing → Bool
is_waiting (Answered reply) = false
is_waiting _ = true

abbrev pub wants_item : Standing → Bool
wants_item WantsItem = true
wants_item _ = false

abbrev pub wants_room : Standing → Bool
wants_room (WantsRoom item) = true
wants_room _ = false

abbrev pub looks_for_item : Standing → Bool
looks_for_item LooksForItem = true
looks_for_item _ = false

abbrev pub looks_for_room : Standing → Bool
looks_for_room LooksForRoom = true
looks_for_room _ = false

-- the item of a waiting write
abbrev pub item_of : Standing → Mark
item_of (WantsRoom item) = item
item_of _ = []

abbrev pub no_waiter : Waiter
no_waiter = record { caller = 0; number = 0; standing = LooksForItem }

abbrev pub waiter_at : List Waiter → ℕ → Waiter
waiter_at waits place = slice_index_or waits place no_waiter

-- the place of the oldest wait of a kind
abbrev pub oldest : (Standing → Bool) → List Waiter → Option ℕ
oldest kind waits = position (λ w. kind w.standing) waits

abbrev pub answered : Waiter → ReplyMark → Waiter
answered w reply = record { caller = w.caller; number = w.number; standing = Answered reply }

abbrev pub answer_at : List Waiter → ℕ → ReplyMark → List Waiter
answer_at waits place reply = slice_set waits place (answered (waiter_at waits place) reply)

-- all waits of a kind are answered alike
abbrev pub answer_if : (Standing → Bool) → ReplyMark → Waiter → Waiter
answer_if kind reply w = if kind w.standing then answered w reply else w

abbrev pub answer_all : (Standing → Bool) → ReplyMark → List Waiter → List Waiter
answer_all kind reply waits = map (answer_if kind reply) waits

-- 3. The rows of the table

-- the wait at a place gets an item
abbrev pub handed : Channel → ℕ → Mark → Channel
handed s place item = record s { waits = answer_at s.waits place (Item item) }

-- the buffer gets an item, and those who look for one are told
abbrev pub kept : Channel → Mark → Channel
kept s item = record s { buffer = s.buffer ++ item ∷ []; waits = answer_all looks_for_item (Ready true) s.waits }

-- a write to a full buffer, and any write; None where it would have to wait
abbrev pub overflow : Mode → Channel → Mark → Option Outcome
overflow DropNewest s item =
    let before = length s.buffer - 1 in
    Some (Dropped (item_at s.buffer before), record s { buffer = take before s.buffer ++ item ∷ [] })
overflow DropOldest s item = Some (Dropped (item_at s.buffer 0), record s { buffer = drop 1 s.buffer ++ item ∷ [] })
overflow DropWrite s item = Some (Dropped item, s)
overflow Wait s item = None

abbrev pub written : Kind → Channel → Mark → Option Outcome
written kind s item =
    let reader = oldest wants_item s.waits in
    if is_some s.completion then Some (Refused (unwrap_or s.completion 0) item, s)
    else if is_some reader then Some (Done, handed s (unwrap_or reader 0) item)
    else if is_full kind.capacity (length s.buffer) then overflow kind.mode s item
    else Some (Done, kept s item)

-- once the item at a place is taken: the oldest waiting write's item enters
abbrev pub admitted : Channel → ℕ → ℕ → Channel
admitted s place writer =
    let entering = item_of (waiter_at s.waits writer).standing in
    record s { buffer = remove s.buffer place ++ entering ∷ []; waits = answer_at s.waits writer Done }

-- or, where the buffer was full, those who look for room are told
abbrev pub freed : Kind → Channel → ℕ → Channel
freed kind s place =
    let told = answer_all looks_for_room (Ready true) s.waits in
    record s { buffer = remove s.buffer place; waits = if is_full kind.capacity (length s.buffer) then told else s.waits }

-- a read, or None where it would have to wait
abbrev pub taken : Kind → Channel → Option Outcome
taken kind s =
    let place = read_place kind.priority s.buffer in
    let writer = oldest wants_room s.waits in
    if nat_le 1 (length s.buffer)
    then Some (Item (item_at s.buffer place), if is_some writer then admitted s place (unwrap_or writer 0) else freed kind s place)
    else if is_some s.completion then Some (ClosedWith (unwrap_or s.completion 0), s)
    else None

-- what a look is told once the channel is complete
abbrev pub told_complete : ℕ → ReplyMark
told_complete fault = if fault == 0 then Ready false else Faulted fault

abbrev pub looked_read : Channel → Option Outcome
looked_read s =
    if nat_le 1 (length s.buffer) then Some (Ready true, s)
    else if is_some s.completion then Some (told_complete (unwrap_or s.completion 0), s)
    else None

abbrev pub drops : Mode → Bool
drops Wait = false
drops _ = true

abbrev pub looked_write : Kind → Channel → Option Outcome
looked_write kind s =
    if is_some s.completion then Some (told_complete (unwrap_or s.completion 0), s)
    else if not (is_full kind.capacity (length s.buffer)) || drops kind.mode then Some (Ready true, s)
    else None

-- a call answers, or something else is answered in its place
abbrev pub or_else : Option Outcome → Outcome → Outcome
or_else None other = other
or_else (Some outcome) other = outcome

-- a begin answers at once, or stands as a wait; and counts for its caller
abbrev pub begin : Channel → ℕ → Standing → Option Outcome → Outcome
begin s caller standing tried =
    let number = slice_index s.begins caller in
    let waiting : Waiter = record { caller = caller; number = number; standing = standing } in
    let outcome = or_else tried (Waiting number, record s { waits = s.waits ++ waiting ∷ [] }) in
    (outcome.0, record outcome.1 { begins = slice_set s.begins caller (number + 1) })

-- what each wait is told at the completion
abbrev pub told : ℕ → Standing → Standing
told fault WantsItem = Answered (ClosedWith fault)
told fault (WantsRoom item) = Answered (Refused fault item)
told fault LooksForItem = Answered (told_complete fault)
told fault LooksForRoom = Answered (told_complete fault)
told fault (Answered reply) = Answered reply

abbrev pub tell : ℕ → Waiter → Waiter
tell fault w = record { caller = w.caller; number = w.number; standing = told fault w.standing }

abbrev pub completed : Channel → ℕ → Outcome
completed s fault =
    if is_some s.completion then (Flag false, s)
    else (Flag true, record s { completion = Some fault; waits = map (tell fault) s.waits })

-- the place of a caller's wait with this number
abbrev pub is_wait : ℕ → ℕ → Waiter → Bool
is_wait caller number w = (w.caller == caller) && (w.number == number)

abbrev pub wait_place : List Waiter → ℕ → ℕ → Option ℕ
wait_place waits caller number = position (is_wait caller number) waits

-- what a poll of a wait says, and what a cancel says, and whether the wait goes
abbrev pub polled : Standing → ℕ → ReplyMark
polled (Answered reply) number = reply
polled _ number = Waiting number

abbrev pub cancelled : Standing → ReplyMark
cancelled (WantsRoom item) = CancelledWrite item
cancelled (Answered reply) = reply
cancelled _ = Cancelled

abbrev pub without : Channel → ℕ → Channel
without s place = record s { waits = remove s.waits place }

abbrev pub poll : Channel → ℕ → ℕ → Outcome
poll s caller number =
    let found = wait_place s.waits caller number in
    let place = unwrap_or found 0 in
    let standing = (waiter_at s.waits place).standing in
    if is_some found then (polled standing number, if is_waiting standing then s else without s place) else (Unknown, s)

abbrev pub cancel : Channel → ℕ → ℕ → Outcome
cancel s caller number =
    let found = wait_place s.waits caller number in
    let place = unwrap_or found 0 in
    if is_some found then (cancelled (waiter_at s.waits place).standing, without s place) else (Unknown, s)

abbrev pub peeked : Kind → Channel → Outcome
peeked kind s =
    if nat_le 1 (length s.buffer)
    then (Shown (number_of (item_at s.buffer (read_place kind.priority s.buffer))), s)
    else (Empty, s)

-- completed holds where the completion is set and the buffer is empty
abbrev pub is_completed : Channel → Bool
is_completed s = is_some s.completion && (length s.buffer == 0)

-- the answer to a call, or None for a call that a channel does not have
abbrev pub channel_answer : Kind → Channel → ℕ → CallMark → Option Outcome
channel_answer kind s caller (Write item) = Some (or_else (written kind s item) (Full, s))
channel_answer kind s caller (BeginWrite item) = Some (begin s caller (WantsRoom item) (written kind s item))
channel_answer kind s caller Read = Some (or_else (taken kind s) (Empty, s))
channel_answer kind s caller BeginRead = Some (begin s caller WantsItem (taken kind s))
channel_answer kind s caller BeginLookRead = Some (begin s caller LooksForItem (looked_read s))
channel_answer kind s caller BeginLookWrite = Some (begin s caller LooksForRoom (looked_write kind s))
channel_answer kind s caller (CompleteWith fault) = Some (completed s fault)
channel_answer kind s caller (Poll number) = Some (poll s caller number)
channel_answer kind s caller (Cancel number) = Some (cancel s caller number)
channel_answer kind s caller Peek = Some (peeked kind s)
channel_answer kind s caller Count = Some (Counted (length s.buffer), s)
channel_answer kind s caller Completed = Some (Flag (is_completed s), s)
channel_answer kind s caller _ = None
