-- No item is lost: what is written and what stood in the channel is given out or stands there still, row by row.
use Rattle.std.specs.Prelude.{ℕ, List, [], Bool, true, false, Option, ◌==◌, length}
use Rattle.std.specs.List.{sum_by}
use Rattle.std.proofs.Common.{◌≡◌, refl, ◌+◌, arith}
use Rattle.std.proofs.lemmas.List.Sums.{sum_by_push, sum_by-remove}
use Rattle.ho_base.specs.Marks.{Mark}
use Rattle.ho_model.specs.declared.marks.CallMark.{CallMark}
use Rattle.ho_model.specs.declared.marks.ReplyMark.{ReplyMark}
use Rattle.ho_model.specs.declared.marks.ReplyMark.TheVariants.{Done, Item, Shown, Empty, Counted, Flag}
use Rattle.ho_model.specs.Channel.{Standing, WantsItem, WantsRoom, LooksForItem, LooksForRoom, Answered, Waiter, Channel, Kind, is_waiting, tell, told, told_complete, cancelled}
use Rattle.channel_flow.specs.Items.{gives, loses, refuses, gives_back}
use Rattle.channel_flow.proofs.Sums.{waits_sum, sum_newest, sum_oldest, sum_swapped, sum_answered, sum_gone, sum_stands, sum_changed, sum_found, sum_freed}
use Rattle.channel_laws.proofs.Settling.{HasRoom, full_some}
use Rattle.channel_laws.proofs.Table.{Act, tries, brings, begun, IsPlain, reader, writer, entering, leaving, polled_at, Rows}

-- what a call writes
abbrev pub puts : Act → List Mark
puts (tries begins items) = items
puts _ = []

module _ (h : Mark → ℕ) where
  -- what a reply gives out, in whichever way, to a call that wrote these
  abbrev pub out : List Mark → ReplyMark → ℕ
  out xs r = sum_by h (gives r) + sum_by h (loses r) + sum_by h (refuses r) + sum_by h (gives_back xs r)

  -- a wait has the item that it would write, or those of the answer that nobody has fetched
  abbrev pub held_by : Standing → ℕ
  held_by (WantsRoom item) = h item
  held_by (Answered r) = out [] r
  held_by _ = 0

  abbrev pub contents : List Mark → List Waiter → ℕ
  contents buffer waits = sum_by h buffer + waits_sum held_by waits

  over_out : (fault : ℕ) (k : Bool) → (fault == 0) ≡ k → out [] (told_complete fault) ≡ 0
  over_out fault true e = simp e refl
  over_out fault false e = simp e refl

  -- a completion and a cancel leave a wait its items, and a new wait brings what it has
  told_holds : (fault : ℕ) (st : Standing) → held_by (told fault st) ≡ held_by st
  told_holds fault WantsItem = refl
  told_holds fault (WantsRoom item) = omega arith
  told_holds fault LooksForItem = over_out fault (fault == 0) refl
  told_holds fault LooksForRoom = over_out fault (fault == 0) refl
  told_holds fault (Answered r) = refl

  cancelled_holds : (st : Standing) → out [] (cancelled st) ≡ held_by st
  cancelled_holds (WantsRoom item) = omega arith
  cancelled_holds _ = refl

  brings_holds : (st : Standing) → is_waiting st ≡ true → sum_by h (brings st) ≡ held_by st
  brings_holds (WantsRoom item) k = omega arith
  brings_holds (Answered r) k = let no : false ≡ true = k in cc
  brings_holds _ k = refl

  plain_out : (r : ReplyMark) → IsPlain r → out [] r ≡ 0
  plain_out Empty is = refl
  plain_out (Shown number) is = refl
  plain_out (Counted count) is = refl
  plain_out (Flag flag) is = refl
  plain_out _ is = absurd is

  abbrev pub Balances : Channel → Act → ReplyMark → List Mark → List Waiter → Option ℕ → Type 0
  Balances s a r buffer waits completion = sum_by h (puts a) + contents s.buffer s.waits ≡ out (puts a) r + contents buffer waits

  pub balances : (kind : Kind) → HasRoom kind.capacity → (s : Channel) (caller : ℕ) (call : CallMark) → Rows kind s caller call (Balances s)
  balances kind room s caller call = record {
    refused = λ b item fault e. omega arith;
    served = λ b item at. (let a = sum_answered held_by s.waits (reader kind s) WantsItem (Item item) at in omega arith);
    newest = λ b item full. (let a = sum_newest h s.buffer item (full_some kind.capacity (length s.buffer) room full.full) in omega arith);
    oldest = λ b item full. (let a = sum_oldest h s.buffer item (full_some kind.capacity (length s.buffer) room full.full) in omega arith);
    last = λ b item full. omega arith;
    stored = λ b item none. (let a = sum_by_push h s.buffer item in let w = sum_found held_by refl s.waits in omega arith);
    full = λ item. omega arith;
    admits = λ b below at. (let a = sum_swapped h s.buffer (leaving kind s) (entering kind s) below in let w = sum_answered held_by s.waits (writer kind s) (WantsRoom (entering kind s)) Done at in omega arith);
    frees = λ b below. (let a = sum_by-remove h s.buffer (leaving kind s) [] below in let w = sum_freed held_by refl s.waits in omega arith);
    leaves = λ b below. (let a = sum_by-remove h s.buffer (leaving kind s) [] below in omega arith);
    ends = λ b fault empty e. omega arith;
    ready = omega arith;
    over = λ fault e. (let a = over_out fault (fault == 0) refl in omega arith);
    waits = λ st own is. (let a = sum_stands held_by s.waits (begun s.begins caller st) in let i = brings_holds st is in omega arith);
    again = λ fault first e. omega arith;
    first = λ fault none. (let a = sum_changed held_by (tell fault) (λ w. told_holds fault w.standing) s.waits in omega arith);
    stands = λ number. omega arith;
    gone = λ number st own at. (let a = sum_gone held_by s.waits (polled_at kind s caller number) st at in let c = cancelled_holds st in omega arith);
    unknown = omega arith;
    plain = λ r is. (let a = plain_out r is in omega arith);
  }
