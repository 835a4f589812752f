-- An entry: a caller, a call and a reply, with each item as its mark. All objects share these.
use Rattle.std.specs.Prelude.{ℕ, List, [], Bool, true, false, ◌&&◌, ◌==◌}
use Rattle.std.specs.Str.{bytes_eq}
use Rattle.ho_base.specs.Marks.{Mark}
pub use Rattle.ho_model.specs.declared.marks.CallMark.{CallMark}
pub use Rattle.ho_model.specs.declared.marks.CallMark.TheVariants.{Enq, Deq, Peek, Count, Snap, Add, Take, Write, Read, BeginWrite, BeginRead, BeginLookWrite, BeginLookRead, Poll, Cancel, CompleteWith, Completed, CompleteAdding, AddingCompleted}
pub use Rattle.ho_model.specs.declared.marks.ReplyMark.{ReplyMark}
pub use Rattle.ho_model.specs.declared.marks.ReplyMark.TheVariants.{Done, Dropped, Full, Refused, Item, ItemFrom, Shown, Empty, Ended, Closed, ClosedWith, Counted, Numbers, Waiting, Ready, Faulted, Cancelled, CancelledWrite, Unknown, Flag}
pub use Rattle.ho_model.specs.declared.marks.EntryMark.{EntryMark}

abbrev pub entry : ℕ → CallMark → ReplyMark → EntryMark
entry caller call reply = record { caller = caller; call = call; reply = reply }

abbrev pub same_mark : Mark → Mark → Bool
same_mark = bytes_eq

-- A reply taken apart: the place of its kind among the kinds, a number and a list. By these parts,
-- which determine it, two replies are compared.
pub record Parts : Type 0 where
  pub kind : ℕ
  pub number : ℕ
  pub list : List ℕ

abbrev pub parts : ℕ → ℕ → List ℕ → Parts
parts kind number list = record { kind = kind; number = number; list = list }

abbrev pub bit : Bool → ℕ
bit true = 1
bit false = 0

abbrev pub parts_of : ReplyMark → Parts
parts_of Done = parts 0 0 []
parts_of (Dropped item) = parts 1 0 item
parts_of Full = parts 2 0 []
parts_of (Refused fault item) = parts 3 fault item
parts_of (Item item) = parts 4 0 item
parts_of (ItemFrom item from) = parts 5 from item
parts_of (Shown number) = parts 6 number []
parts_of Empty = parts 7 0 []
parts_of Ended = parts 8 0 []
parts_of Closed = parts 9 0 []
parts_of (ClosedWith fault) = parts 10 fault []
parts_of (Counted count) = parts 11 count []
parts_of (Numbers numbers) = parts 12 0 numbers
parts_of (Waiting wait) = parts 13 wait []
parts_of (Ready flag) = parts 14 (bit flag) []
parts_of (Faulted fault) = parts 15 fault []
parts_of Cancelled = parts 16 0 []
parts_of (CancelledWrite item) = parts 17 0 item
parts_of Unknown = parts 18 0 []
parts_of (Flag flag) = parts 19 (bit flag) []

abbrev pub same_parts : Parts → Parts → Bool
same_parts a b = (a.kind == b.kind) && (a.number == b.number) && bytes_eq a.list b.list

abbrev pub same_reply : ReplyMark → ReplyMark → Bool
same_reply a b = same_parts (parts_of a) (parts_of b)
