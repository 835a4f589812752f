-- A wait is answered in the kind of its begin.
use Rattle.std.specs.Prelude.{◌≡◌, ℕ, Bool, true, false, not, ◌&&◌, ◌==◌}
use Rattle.ho_base.specs.Marks.{Mark}
use Rattle.ho_model.specs.declared.marks.CallMark.{CallMark}
use Rattle.ho_model.specs.declared.marks.CallMark.TheVariants.{BeginWrite, BeginRead, BeginLookWrite, BeginLookRead, Poll, Cancel}
use Rattle.ho_model.specs.declared.marks.ReplyMark.{ReplyMark}
use Rattle.ho_model.specs.declared.marks.ReplyMark.TheVariants.{Done, Refused, Item, ClosedWith, Waiting, Ready, Faulted, Cancelled, CancelledWrite}
use Rattle.ho_model.specs.declared.marks.EntryMark.{EntryMark}
use Rattle.ho_model.specs.Channel.{Standing, WantsItem, WantsRoom, LooksForItem, LooksForRoom, Answered}

-- the answers of a wait for an item, of one for room for x, and of a look
abbrev pub AnswersRead : ReplyMark → Type 0
AnswersRead (Item y) = Unit {0}
AnswersRead (ClosedWith fault) = Unit {0}
AnswersRead _ = ⊥

abbrev pub AnswersWrite : Mark → ReplyMark → Type 0
AnswersWrite x Done = Unit {0}
AnswersWrite x (Refused fault y) = y ≡ x
AnswersWrite x _ = ⊥

abbrev pub AnswersLook : ReplyMark → Type 0
AnswersLook (Ready flag) = Unit {0}
AnswersLook (Faulted fault) = Unit {0}
AnswersLook _ = ⊥

-- the reply answers the wait that this begin left
abbrev pub AnswersBegin : CallMark → ReplyMark → Type 0
AnswersBegin BeginRead r = AnswersRead r
AnswersBegin (BeginWrite x) r = AnswersWrite x r
AnswersBegin BeginLookRead r = AnswersLook r
AnswersBegin BeginLookWrite r = AnswersLook r
AnswersBegin _ r = ⊥

-- the reply says that the wait that this begin left was given up, and hands a write's item back
abbrev pub CancelsBegin : CallMark → ReplyMark → Type 0
CancelsBegin (BeginWrite x) r = r ≡ CancelledWrite x
CancelsBegin _ r = r ≡ Cancelled

-- a wait that this begin left can stand so
abbrev pub IsInKind : CallMark → Standing → Type 0
IsInKind b WantsItem = b ≡ BeginRead
IsInKind b (WantsRoom x) = b ≡ BeginWrite x
IsInKind b LooksForItem = b ≡ BeginLookRead
IsInKind b LooksForRoom = b ≡ BeginLookWrite
IsInKind b (Answered r) = AnswersBegin b r

abbrev pub is_waiting_reply : ReplyMark → Bool
is_waiting_reply (Waiting number) = true
is_waiting_reply _ = false

-- an entry that ends the wait (c, n): a poll that is answered, or a cancel
abbrev pub ends_by : ℕ → CallMark → ReplyMark → Bool
ends_by n (Poll number) r = (number == n) && not (is_waiting_reply r)
ends_by n (Cancel number) r = number == n
ends_by n _ r = false

abbrev pub ends_wait : ℕ → ℕ → EntryMark → Bool
ends_wait c n e = (e.caller == c) && ends_by n e.call e.reply

-- the four begins
abbrev pub is_begin : CallMark → Bool
is_begin (BeginWrite x) = true
is_begin BeginRead = true
is_begin BeginLookRead = true
is_begin BeginLookWrite = true
is_begin _ = false
