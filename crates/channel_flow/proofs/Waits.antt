-- How many waits stand: one more where a begin left one, one less where one was finished, row by row.
use Rattle.std.specs.Prelude.{ℕ, List, Bool, true, false, cond, ◌&&◌, ◌==◌, Option, remove}
use Rattle.std.proofs.Common.{◌≡◌, refl, ◌+◌, length, arith}
use Rattle.std.proofs.lemmas.Bool.{and_right}
use Rattle.std.proofs.lemmas.List.{length-set, length-map, length_push}
use Rattle.std.proofs.lemmas.List.Edits.{length-remove}
use Rattle.ho_base.specs.Marks.{Mark}
use Rattle.ho_model.specs.declared.marks.CallMark.{CallMark}
use Rattle.ho_model.specs.declared.marks.ReplyMark.{ReplyMark}
use Rattle.ho_model.specs.declared.marks.ReplyMark.TheVariants.{Done, Refused, Item, Shown, Empty, ClosedWith, Counted, Ready, Faulted, Flag}
use Rattle.ho_model.specs.Channel.{Standing, Answered, Waiter, Channel, Kind, waiter_at, answered, answer_if, looks_for_item, looks_for_room, tell, told_complete, cancelled}
use Rattle.channel_laws.specs.Kinds.{is_waiting_reply}
use Rattle.channel_flow.specs.Ends.{is_end}
use Rattle.channel_laws.proofs.Table.{StandsAt}
use Rattle.channel_laws.proofs.Table.{Act, tries, fetches, begun, Fetches, IsPlain, reader, writer, polled_at, Rows}
use Rattle.channel_flow.proofs.Answers.{IsAnswer, IsSound, HasSound, sound_at}

abbrev pub begins_wait : Act → Bool
begins_wait (tries begins items) = begins
begins_wait _ = false

abbrev pub fetches_wait : Act → Bool
fetches_wait fetches = true
fetches_wait _ = false

-- 1 where the test holds, as count_by counts
abbrev pub count : Bool → ℕ
count b = cond b 1 0

abbrev pub Stand : Channel → Act → ReplyMark → List Mark → List Waiter → Option ℕ → Type 0
Stand s a r buffer waits completion = length s.waits + count (is_waiting_reply r && begins_wait a) ≡ length waits + count (fetches_wait a && is_end r)

over_ends : (fault : ℕ) (k : Bool) → (fault == 0) ≡ k → is_waiting_reply (told_complete fault) ≡ false
over_ends fault true e = simp e refl
over_ends fault false e = simp e refl

plain_ends : (r : ReplyMark) → IsPlain r → is_waiting_reply r ≡ false
plain_ends Empty is = refl
plain_ends (Shown number) is = refl
plain_ends (Counted count) is = refl
plain_ends (Flag flag) is = refl
plain_ends _ is = absurd is

-- an answer that a wait can have ends it, and so does a cancel
answer_ends : (count : ℕ) (c : Option ℕ) (r : ReplyMark) → IsAnswer count c r → is_end r ≡ true
answer_ends count c (Item item) a = refl
answer_ends count c Done a = refl
answer_ends count c (Ready flag) a = refl
answer_ends count c (Faulted fault) a = refl
answer_ends count c (Refused fault item) a = refl
answer_ends count c (ClosedWith fault) a = refl
answer_ends count c _ a = absurd a

cancelled_ends : (count : ℕ) (c : Option ℕ) (st : Standing) → IsSound count c st → is_end (cancelled st) ≡ true
cancelled_ends count c (Answered r) a = answer_ends count c r a
cancelled_ends count c _ a = refl

module _ (kind : Kind) (s : Channel) (caller : ℕ) (call : CallMark) (sound : HasSound s) where
  fewer : (number : ℕ) (st : Standing) → Fetches call number → StandsAt s.waits (polled_at kind s caller number) st → Stand s fetches (cancelled st) s.buffer (remove s.waits (polled_at kind s caller number)) s.completion
  fewer number st own at =
      let e = cancelled_ends (length s.buffer) s.completion st (sound_at s (polled_at kind s caller number) st at sound) in
      let n = length-remove s.waits (polled_at kind s caller number) at.below in
      let no = and_right (is_waiting_reply (cancelled st)) false refl in
      simp (e, no) (omega arith)

  pub stand : Rows kind s caller call (Stand s)
  stand = record {
    refused = λ b item fault e. refl;
    served = λ b item at. (let n = length-set s.waits (reader kind s) (answered (waiter_at s.waits (reader kind s)) (Item item)) in omega arith);
    newest = λ b item full. refl;
    oldest = λ b item full. refl;
    last = λ b item full. refl;
    stored = λ b item none. (let n = length-map s.waits (answer_if looks_for_item (Ready true)) in omega arith);
    full = λ item. refl;
    admits = λ b below at. (let n = length-set s.waits (writer kind s) (answered (waiter_at s.waits (writer kind s)) Done) in omega arith);
    frees = λ b below. (let n = length-map s.waits (answer_if looks_for_room (Ready true)) in omega arith);
    leaves = λ b below. refl;
    ends = λ b fault empty e. refl;
    ready = refl;
    over = λ fault e. simp (over_ends fault (fault == 0) refl) refl;
    waits = λ st own is. (let n = length_push s.waits (begun s.begins caller st) in omega arith);
    again = λ fault first e. refl;
    first = λ fault none. (let n = length-map s.waits (tell fault) in omega arith);
    stands = λ number. refl;
    gone = fewer;
    unknown = refl;
    plain = λ r is. simp (plain_ends r is) refl;
  }
