-- The answers of the shared objects, as scripts and histories write them.
use Rattle.std.proofs.Common.{◌≡◌, ◌∙◌, ℕ, List, length, Bool, true, false, ◌&&◌, true≢false, refl, sym, ap, subst}
use Rattle.std.specs.Prelude.{if◌then◌else◌}
use Rattle.ho_base.specs.Marks.{number_priority}
use Rattle.ho_base.specs.declared.receipts.Receipt.{Receipt}
use Rattle.ho_base.specs.declared.receipts.Receipt.TheVariants.{Place}
use Rattle.ho_model.specs.declared.marks.CallMark.{CallMark}
use Rattle.ho_model.specs.declared.marks.CallMark.TheVariants as callmark
use Rattle.ho_model.specs.declared.marks.ReplyMark.{ReplyMark}
use Rattle.ho_model.specs.declared.marks.EntryMark.{EntryMark}
use Rattle.ho_model.specs.declared.marks.Tally.{Tally}
use Rattle.ho_model.specs.declared.objects.Object.{Object}
use Rattle.ho_model.specs.declared.objects.Object.TheVariants as object
use Rattle.ho_model.specs.declared.histories.Call.{Call}
use Rattle.ho_model.specs.declared.histories.Call.TheVariants as called
use Rattle.ho_model.specs.declared.histories.Reply.{Reply}
use Rattle.ho_model.specs.Entries.{entry}
use Rattle.ho_model.specs.Written.{call_of, giving, is_channel, is_peek, mark_of, reply_of, showing}
use Rattle.channel_core.specs.declared.calls.ChannelCall.{ChannelCall}
use Rattle.channel_core.specs.declared.calls.ChannelCall.TheVariants as call
use Rattle.channel_core.specs.declared.calls.ChannelReply.{ChannelReply}
use Rattle.channel_core.specs.declared.calls.ChannelReply.TheVariants as reply
use Rattle.channel_core.specs.Fits.{fits}
use Rattle.channel_core.specs.Marks.{call_mark, reply_mark}
use Rattle.passes.specs.Seen.{SeesEntry, IsLawful}
use Rattle.drive_kit.specs.Calls.{kind_of}
use Rattle.drive_kit.specs.Playing.{is_item, is_shown}
use Rattle.drive_kit.specs.declared.calls.Kind.{Kind}
use Rattle.drive_kit.specs.declared.calls.Kind.TheVariants as kind

-- 1. Which objects are channels
abbrev pub is_channel_kind : Kind → Bool
is_channel_kind kind.Channel = true
is_channel_kind _ = false

by_kind : (o : Object) → is_channel o ≡ is_channel_kind (kind_of o)
by_kind (object.Queue room first_len) = refl
by_kind object.Bag = refl
by_kind object.Unbounded = refl
by_kind (object.Bounded capacity mode) = refl
by_kind object.Prioritized = refl
by_kind (object.Blocking store bound) = refl

channel_shows : (o : Object) (c : Call) (said : Reply) → kind_of o ≡ kind.Channel → reply_of o c said ≡ (if is_peek c then showing said else giving said)
channel_shows o c said is = ap (λ (b : Bool). if b && is_peek c then showing said else giving said) (by_kind o ∙ ap is_channel_kind is)

pub others_give : (o : Object) (c : Call) (said : Reply) → is_channel_kind (kind_of o) ≡ false → reply_of o c said ≡ giving said
others_give o c said not = ap (λ (b : Bool). if b && is_peek c then showing said else giving said) (by_kind o ∙ not)

-- 2. What a peek shows, and what other calls give
abbrev is_peek_mark : CallMark → Bool
is_peek_mark callmark.Peek = true
is_peek_mark _ = false

peek_by_mark : (c : Call) → is_peek c ≡ is_peek_mark (call_of c)
peek_by_mark (called.Enq number) = refl
peek_by_mark called.Deq = refl
peek_by_mark called.Peek = refl
peek_by_mark _ = refl

peek_gives_none : (t : Tally) (c : ChannelCall ℕ) (r : ChannelReply ℕ) → fits t c r → is_peek_mark (call_mark mark_of c) ≡ true → is_item (reply_mark mark_of r) ≡ false
peek_gives_none t call.Peek (reply.Shown number) f is = refl
peek_gives_none t call.Peek reply.Empty f is = refl
peek_gives_none t call.Peek _ f is = absurd f
peek_gives_none t _ r f is = absurd (true≢false (sym is))

none_shown : (t : Tally) (c : ChannelCall ℕ) (number : ℕ) → fits t c (reply.Shown number) → is_peek_mark (call_mark mark_of c) ≡ true
none_shown t call.Peek number f = refl
none_shown t _ number f = absurd f

others_show_none : (t : Tally) (c : ChannelCall ℕ) (r : ChannelReply ℕ) → fits t c r → is_peek_mark (call_mark mark_of c) ≡ false → is_shown (reply_mark mark_of r) ≡ false
others_show_none t c (reply.Shown number) f not = absurd (true≢false (sym (none_shown t c number f) ∙ not))
others_show_none t c _ f not = refl

by_peek : (peek : Bool) (m : ReplyMark) (said : Reply) → (is_shown m ≡ false → giving said ≡ m) → (is_item m ≡ false → showing said ≡ m)
    → (peek ≡ true → is_item m ≡ false) → (peek ≡ false → is_shown m ≡ false) → (if peek then showing said else giving said) ≡ m
by_peek true m said gives shows p n = shows (p refl)
by_peek false m said gives shows p n = gives (n refl)

pub channel_told : (o : Object) (c : Call) (own : ChannelCall ℕ) (t : Tally) (r : ChannelReply ℕ) (said : Reply)
    → kind_of o ≡ kind.Channel → call_mark mark_of own ≡ call_of c → fits t own r
    → (is_shown (reply_mark mark_of r) ≡ false → giving said ≡ reply_mark mark_of r) → (is_item (reply_mark mark_of r) ≡ false → showing said ≡ reply_mark mark_of r)
    → reply_mark mark_of r ≡ reply_of o c said
channel_told o c own t r said of_kind is f gives shows =
    let peek : is_peek c ≡ is_peek_mark (call_mark mark_of own) = peek_by_mark c ∙ ap is_peek_mark (sym is) in
    sym (channel_shows o c said of_kind ∙ by_peek (is_peek c) (reply_mark mark_of r) said gives shows
    (λ yes. peek_gives_none t own r f (sym peek ∙ yes)) (λ no. others_show_none t own r f (sym peek ∙ no)))

-- 3. The entry as histories write it
pub adds_written : (o : Object) (n caller : ℕ) (held : List Bool) (seen later : List EntryMark) (c : Call) (said : Reply) (receipt : Receipt) (before : List EntryMark) (own : CallMark) (r : ReplyMark)
    → own ≡ call_of c → r ≡ reply_of o c said
    → SeesEntry held seen before (entry caller own r) later → IsLawful number_priority o n later → receipt ≡ Place (length before)
    → (front : List EntryMark) × SeesEntry held seen front (entry caller (call_of c) (reply_of o c said)) later × IsLawful number_priority o n later × (receipt ≡ Place (length front))
adds_written o n caller held seen later c said receipt before own r call_is reply_is sees lawful place =
    (before, subst (λ (z : CallMark × ReplyMark). SeesEntry held seen before (entry caller z.0 z.1) later) (λ i. (call_is i, reply_is i)) sees, lawful, place)
