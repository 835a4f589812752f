-- What is there to be taken: items in the buffer, and in answers of reads that nobody has fetched. It falls by what is taken alone, row by row.
use Rattle.std.specs.Prelude.{ℕ, List, Bool, true, false, Option, ◌==◌}
use Rattle.std.specs.List.{sum_by}
use Rattle.std.proofs.Common.{◌≡◌, refl, ◌+◌, ◌≤◌, length, arith}
use Rattle.std.proofs.lemmas.List.{length_push}
use Rattle.std.proofs.lemmas.List.Edits.{length-remove}
use Rattle.ho_base.specs.Marks.{Mark}
use Rattle.ho_model.specs.declared.marks.CallMark.{CallMark}
use Rattle.ho_model.specs.declared.marks.ReplyMark.{ReplyMark}
use Rattle.ho_model.specs.declared.marks.ReplyMark.TheVariants.{Done, Item}
use Rattle.ho_model.specs.Channel.{Standing, WantsItem, WantsRoom, LooksForItem, LooksForRoom, Answered, Waiter, Channel, Kind, tell, told, told_complete, cancelled}
use Rattle.channel_flow.specs.Items.{gives, one}
use Rattle.channel_flow.proofs.Sums.{waits_sum, length_newest, length_oldest, length_swapped, sum_answered, sum_gone, sum_stands, sum_changed, sum_found, sum_freed}
use Rattle.channel_laws.proofs.Settling.{HasRoom, full_some}
use Rattle.channel_laws.proofs.Table.{Act, begun, reader, writer, entering, leaving, polled_at, Rows}

-- how many items a reply gives, and an answer that nobody has fetched
abbrev pub given : ReplyMark → ℕ
given r = sum_by one (gives r)

abbrev pub handed_to : Standing → ℕ
handed_to (Answered r) = given r
handed_to _ = 0

abbrev pub stock : List Mark → List Waiter → ℕ
stock buffer waits = length buffer + waits_sum handed_to waits

over_given : (fault : ℕ) (k : Bool) → (fault == 0) ≡ k → given (told_complete fault) ≡ 0
over_given fault true e = simp e refl
over_given fault false e = simp e refl

told_handed : (fault : ℕ) (st : Standing) → handed_to (told fault st) ≡ handed_to st
told_handed fault LooksForItem = over_given fault (fault == 0) refl
told_handed fault LooksForRoom = over_given fault (fault == 0) refl
told_handed fault _ = refl

cancelled_handed : (st : Standing) → given (cancelled st) ≡ handed_to st
cancelled_handed (Answered r) = refl
cancelled_handed _ = refl

abbrev pub Stocks : Channel → Act → ReplyMark → List Mark → List Waiter → Option ℕ → Type 0
Stocks s a r buffer waits completion = stock s.buffer s.waits ≤ given r + stock buffer waits

pub stocks : (kind : Kind) → HasRoom kind.capacity → (s : Channel) (caller : ℕ) (call : CallMark) → Rows kind s caller call (Stocks s)
stocks kind room s caller call = record {
  refused = λ b item fault e. omega arith;
  served = λ b item at. (let a = sum_answered handed_to s.waits (reader kind s) WantsItem (Item item) at in omega arith);
  newest = λ b item full. (let a = length_newest s.buffer item (full_some kind.capacity (length s.buffer) room full.full) in omega arith);
  oldest = λ b item full. (let a = length_oldest s.buffer item (full_some kind.capacity (length s.buffer) room full.full) in omega arith);
  last = λ b item full. omega arith;
  stored = λ b item none. (let a = length_push s.buffer item in let w = sum_found handed_to refl s.waits in omega arith);
  full = λ item. omega arith;
  admits = λ b below at. (let a = length_swapped s.buffer (leaving kind s) (entering kind s) below in let w = sum_answered handed_to s.waits (writer kind s) (WantsRoom (entering kind s)) Done at in omega arith);
  frees = λ b below. (let a = length-remove s.buffer (leaving kind s) below in let w = sum_freed handed_to refl s.waits in omega arith);
  leaves = λ b below. (let a = length-remove s.buffer (leaving kind s) below in omega arith);
  ends = λ b fault empty e. omega arith;
  ready = omega arith;
  over = λ fault e. omega arith;
  waits = λ st own is. (let a = sum_stands handed_to s.waits (begun s.begins caller st) in omega arith);
  again = λ fault first e. omega arith;
  first = λ fault none. (let a = sum_changed handed_to (tell fault) (λ w. told_handed fault w.standing) s.waits in omega arith);
  stands = λ number. omega arith;
  gone = λ number st own at. (let a = sum_gone handed_to s.waits (polled_at kind s caller number) st at in let c = cancelled_handed st in omega arith);
  unknown = omega arith;
  plain = λ r is. omega arith;
}
