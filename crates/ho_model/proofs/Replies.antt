-- An object accepts its own answer, and no other.
use Rattle.std.proofs.Common.{◌≡◌, refl, sym, ap, ◌∙◌, ℕ, ◌<◌, arith}
use Rattle.std.specs.Prelude.{Bool, true, false, ◌&&◌, ◌==◌, List, Option, Some, None, nat_lt, if◌then◌else◌}
use Rattle.std.specs.Option.{option_map}
use Rattle.std.specs.Str.{bytes_eq}
use Rattle.std.proofs.lemmas.Bool.{and_parts, eqb-true, ltb-true}
use Rattle.std.proofs.lemmas.Cmp.{nat_eq_equiv, nat_list_eq_equiv}
use Rattle.std.proofs.lemmas.Slice.Eq.{bytes_eq-Decides}
use Rattle.ho_base.specs.Marks.{Mark}
use Rattle.ho_model.specs.declared.objects.Object.{Object}
use Rattle.ho_model.specs.Entries.{CallMark, ReplyMark, EntryMark, entry, Parts, parts_of, same_parts, same_reply, Done, Dropped, Full, Refused, Item, ItemFrom, Shown, Empty, Ended, Closed, ClosedWith, Counted, Numbers, Waiting, Ready, Faulted, Cancelled, CancelledWrite, Unknown, Flag}
use Rattle.ho_model.specs.Answers.{accepted}
use Rattle.ho_model.specs.Channel.{Channel, Kind, channel_answer}
use Rattle.ho_model.specs.Queue.{queue_answer}
use Rattle.ho_model.specs.Objects.{State, QueueState, ChannelState, queue_step, channel_step, stepped, object_step, most_callers}

pub same_reply_refl : (r : ReplyMark) → same_reply r r ≡ true
same_reply_refl r =
    rw (nat_eq_equiv.refl (parts_of r).kind, nat_eq_equiv.refl (parts_of r).number, nat_list_eq_equiv.refl (parts_of r).list)

pub accepted_self : {S : Type 0} (answer : Option (ReplyMark × S)) (r : ReplyMark) (s : S) → answer ≡ Some (r, s) → accepted answer r ≡ Some s
accepted_self answer r s h = rw (h, same_reply_refl r)

-- what a channel answers is an entry of it
pub channel_entry : (kind : Kind) (s t : Channel) (caller : ℕ) (call : CallMark) (reply : ReplyMark) → channel_answer kind s caller call ≡ Some (reply, t) → channel_step kind (ChannelState s) (entry caller call reply) ≡ Some (ChannelState t)
channel_entry kind s t caller call reply h = ap (option_map ChannelState) (accepted_self _ reply t h)

-- what a queue answers is an entry of it
pub queue_entry : (room : ℕ) (items after : List Mark) (e : EntryMark) → queue_answer room items e.call ≡ Some (e.reply, after) → queue_step room (QueueState items) e ≡ Some (QueueState after)
queue_entry room items after e h = ap (option_map QueueState) (accepted_self _ e.reply after h)

-- an entry of a caller that an object can have
pub entry_of_caller : (priority : Mark → ℕ) (o : Object) (s t : State) (e : EntryMark) → e.caller < most_callers → stepped priority o s e ≡ Some t → object_step priority o s e ≡ Some t
entry_of_caller priority o s t e below h = grind (arith, h, below)

-- the reply with these parts
abbrev reply_from : Parts → ReplyMark
reply_from p =
    if p.kind == 0 then Done
    else if p.kind == 1 then Dropped p.list
    else if p.kind == 2 then Full
    else if p.kind == 3 then Refused p.number p.list
    else if p.kind == 4 then Item p.list
    else if p.kind == 5 then ItemFrom p.list p.number
    else if p.kind == 6 then Shown p.number
    else if p.kind == 7 then Empty
    else if p.kind == 8 then Ended
    else if p.kind == 9 then Closed
    else if p.kind == 10 then ClosedWith p.number
    else if p.kind == 11 then Counted p.number
    else if p.kind == 12 then Numbers p.list
    else if p.kind == 13 then Waiting p.number
    else if p.kind == 14 then Ready (p.number == 1)
    else if p.kind == 15 then Faulted p.number
    else if p.kind == 16 then Cancelled
    else if p.kind == 17 then CancelledWrite p.list
    else if p.kind == 18 then Unknown
    else Flag (p.number == 1)

reply_from-parts_of : (r : ReplyMark) → reply_from (parts_of r) ≡ r
reply_from-parts_of Done = refl
reply_from-parts_of (Dropped item) = refl
reply_from-parts_of Full = refl
reply_from-parts_of (Refused fault item) = refl
reply_from-parts_of (Item item) = refl
reply_from-parts_of (ItemFrom item from) = refl
reply_from-parts_of (Shown number) = refl
reply_from-parts_of Empty = refl
reply_from-parts_of Ended = refl
reply_from-parts_of Closed = refl
reply_from-parts_of (ClosedWith fault) = refl
reply_from-parts_of (Counted count) = refl
reply_from-parts_of (Numbers numbers) = refl
reply_from-parts_of (Waiting wait) = refl
reply_from-parts_of (Ready true) = refl
reply_from-parts_of (Ready false) = refl
reply_from-parts_of (Faulted fault) = refl
reply_from-parts_of Cancelled = refl
reply_from-parts_of (CancelledWrite item) = refl
reply_from-parts_of Unknown = refl
reply_from-parts_of (Flag true) = refl
reply_from-parts_of (Flag false) = refl

same_parts_is : (a b : Parts) → same_parts a b ≡ true → a ≡ b
same_parts_is a b h =
    let both = and_parts ((a.kind == b.kind) && (a.number == b.number)) (bytes_eq a.list b.list) h in
    let first = and_parts (a.kind == b.kind) (a.number == b.number) both.0 in
    let kinds = eqb-true a.kind b.kind first.0 in
    let numbers = eqb-true a.number b.number first.1 in
    let lists = (bytes_eq-Decides a.list b.list).0 both.1 in
    λ i. record { kind = kinds i; number = numbers i; list = lists i }

-- replies that are compared as the same are the same
pub same_reply_is : (a b : ReplyMark) → same_reply a b ≡ true → a ≡ b
same_reply_is a b h = sym (reply_from-parts_of a) ∙ (ap reply_from (same_parts_is (parts_of a) (parts_of b) h) ∙ reply_from-parts_of b)

accepted_step : {S : Type 0} (said r : ReplyMark) (t s : S) (k : Bool) → same_reply said r ≡ k → accepted (Some (said, t)) r ≡ Some s → ◌≡◌ {A = Option (ReplyMark × S)} (Some (said, t)) (Some (r, s))
accepted_step said r t s true e h =
    let left : Some t ≡ Some s = simp e at h in
    ap (λ reply. Some (reply, t)) (same_reply_is said r e) ∙ ap (option_map (λ x. (r, x))) left
accepted_step said r t s false e h = let no : None ≡ Some s = simp e at h in cc

-- an object accepts no other answer
pub accepted_is : {S : Type 0} (answer : Option (ReplyMark × S)) (r : ReplyMark) (s : S) → accepted answer r ≡ Some s → answer ≡ Some (r, s)
accepted_is None r s h = cc
accepted_is (Some answer) r s h = accepted_step answer.0 r answer.1 s (same_reply answer.0 r) refl h

map_some : {A B : Type 0} (f : A → B) (o : Option A) (t : B) → option_map f o ≡ Some t → (x : A) × (t ≡ f x) × (o ≡ Some x)
map_some f None t h = let no : None ≡ Some t = h in cc
map_some f (Some x) t h = let e : f x ≡ t = cc in (x, sym e, refl)

-- an entry of a channel has the channel's own answer
pub channel_entry_is : (kind : Kind) (s : Channel) (e : EntryMark) (t : State) → channel_step kind (ChannelState s) e ≡ Some t → (x : Channel) × (t ≡ ChannelState x) × (◌≡◌ {A = Option (ReplyMark × Channel)} (channel_answer kind s e.caller e.call) (Some (e.reply, x)))
channel_entry_is kind s e t h =
    let by = map_some ChannelState (accepted (channel_answer kind s e.caller e.call) e.reply) t h in
    (by.0, by.1, accepted_is (channel_answer kind s e.caller e.call) e.reply by.0 by.2)

-- an entry of a queue has the queue's own answer
pub queue_entry_is : (room : ℕ) (items : List Mark) (e : EntryMark) (t : State) → queue_step room (QueueState items) e ≡ Some t → (x : List Mark) × (t ≡ QueueState x) × (◌≡◌ {A = Option (ReplyMark × List Mark)} (queue_answer room items e.call) (Some (e.reply, x)))
queue_entry_is room items e t h =
    let by = map_some QueueState (accepted (queue_answer room items e.call) e.reply) t h in
    (by.0, by.1, accepted_is (queue_answer room items e.call) e.reply by.0 by.2)

caller_step : (after : Option State) (t : State) (c : ℕ) (k : Bool) → nat_lt c most_callers ≡ k → (if k then after else None) ≡ Some t → (c < most_callers) × (after ≡ Some t)
caller_step after t c true e h = (ltb-true c most_callers e, h)
caller_step after t c false e h = let no : None ≡ Some t = h in cc

-- an entry that an object accepts has a caller that it can have
pub accepted_caller : (priority : Mark → ℕ) (o : Object) (s t : State) (e : EntryMark) → object_step priority o s e ≡ Some t → (e.caller < most_callers) × (stepped priority o s e ≡ Some t)
accepted_caller priority o s t e h = caller_step (stepped priority o s e) t e.caller (nat_lt e.caller most_callers) refl h
