-- What contracts see of the replies of writers and readers, each item as its mark.
use Rattle.std.specs.Prelude.{◌≡◌, ℕ, Option, Some, None, ⊤}
use Rattle.ho_base.specs.Marks.{Mark}
use Rattle.ho_model.specs.declared.marks.ReplyMark.{ReplyMark}
use Rattle.ho_model.specs.declared.marks.ReplyMark.TheVariants as replymark
use Rattle.channel_core.specs.Marks.{fault_number}
use Rattle.channels.specs.declared.reader.ReadReply.{ReadReply}
use Rattle.channels.specs.declared.reader.ReadReply.TheVariants as read
use Rattle.channels.specs.declared.writer.WriteReply.{WriteReply}
use Rattle.channels.specs.declared.writer.WriteReply.TheVariants as write

module _ {T : Type 0} (mark : T → Mark) where
  abbrev pub write_mark : WriteReply T → ReplyMark
  write_mark write.Done = replymark.Done
  write_mark (write.Dropped item) = replymark.Dropped (mark item)
  write_mark (write.Full item) = replymark.Full
  write_mark (write.Refused fault item) = replymark.Refused (fault_number fault) (mark item)

  abbrev pub read_mark : ReadReply T → ReplyMark
  read_mark (read.Item item) = replymark.Item (mark item)
  read_mark read.Empty = replymark.Empty
  read_mark (read.Closed fault) = replymark.ClosedWith (fault_number fault)

-- the number of the item that a read would take, if there is one
abbrev pub peek_mark : Option ℕ → ReplyMark
peek_mark (Some number) = replymark.Shown number
peek_mark None = replymark.Empty

-- a write that was not done hands back the item that was to be written
abbrev pub HandsBack : {T : Type 0} → T → WriteReply T → Type 0
HandsBack item write.Done = ⊤
HandsBack item (write.Dropped other) = ⊤
HandsBack item (write.Full back) = back ≡ item
HandsBack item (write.Refused fault back) = back ≡ item
