-- What is told is so, row by row: of drops, of the completion, and of the end.
use Rattle.std.specs.Prelude.{ℕ, ◌-◌, List, [], ◌∷◌, ◌++◌, Bool, true, false, Option, Some, None, remove, take, drop, ◌==◌}
use Rattle.std.specs.Option.{option_or}
use Rattle.std.specs.List.{position_or_len}
use Rattle.std.proofs.Common.{◌≡◌, refl, ap, sym, ◌∙◌, ◌<◌, ◌≤◌, length, arith}
use Rattle.std.proofs.lemmas.Bool.{eqb-true}
use Rattle.std.proofs.lemmas.List.Edits.{length-remove}
use Rattle.ho_base.specs.Marks.{Mark}
use Rattle.ho_model.specs.declared.marks.CallMark.{CallMark}
use Rattle.ho_model.specs.declared.marks.ReplyMark.{ReplyMark}
use Rattle.ho_model.specs.declared.marks.ReplyMark.TheVariants.{Done, Dropped, Full, Refused, Item, Shown, Empty, ClosedWith, Counted, Waiting, Ready, Faulted, Unknown, Flag}
use Rattle.ho_model.specs.Channel.{Standing, Answered, Waiter, Channel, Kind, is_full, drops, is_waiting, item_at, wants_item, wants_room, looks_for_item, looks_for_room, is_wait, answer_at, told_complete, cancelled}
use Rattle.channel_laws.specs.Reached.{IsReached}
use Rattle.channel_laws.proofs.Waiters.{each_push}
use Rattle.channel_flow.proofs.Sums.{length_swapped}
use Rattle.channel_laws.proofs.Table.{StandsAt, Act, tries, fetches, completes, begun, Fetches, IsPlain, writer, entering, leaving, polled_at, Overflows, Rows}
use Rattle.channel_flow.proofs.Answers.{IsAnswer, IsSound, AreSound, HasSound, sound_at, sound_answered, sound_gone, not_both, Moves, no_end, some_left, all_move, all_told, all_complete}

-- a drop tells that the buffer was full, with so many items, in a drop mode; a reply that tells of the completion tells the one that is set
abbrev pub Tells : Kind → ℕ → ℕ → Option ℕ → ReplyMark → Type 0
Tells kind before after completion (Dropped item) = (is_full kind.capacity before ≡ true) × (drops kind.mode ≡ true)
Tells kind before after completion (Ready true) = Unit {0}
Tells kind before after completion (Ready false) = completion ≡ Some 0
Tells kind before after completion (Faulted fault) = completion ≡ Some fault
Tells kind before after completion (Refused fault item) = completion ≡ Some fault
Tells kind before after completion (ClosedWith fault) = (completion ≡ Some fault) × (after ≡ 0)
Tells kind before after completion _ = Unit {0}

-- the completion after a call
abbrev pub completion_after : Option ℕ → Act → Option ℕ
completion_after c (completes fault) = option_or c (Some fault)
completion_after c _ = c

-- what a call leaves: answers that waits can have, a reply that tells what is so, this completion, and no new item after one
pub record Keeps (kind : Kind) (s : Channel) (a : Act) (r : ReplyMark) (buffer : List Mark) (ws : List Waiter) (completion : Option ℕ) : Type 0 where
  pub answers : AreSound (length buffer) completion ws
  pub reply : Tells kind (length s.buffer) (length buffer) completion r
  pub same : completion ≡ completion_after s.completion a
  pub shrinks : (fault : ℕ) → s.completion ≡ Some fault → length buffer ≤ length s.buffer

answer_tells : (kind : Kind) (before count : ℕ) (c : Option ℕ) (r : ReplyMark) → IsAnswer count c r → Tells kind before count c r
answer_tells kind before count c (Item item) a = tt
answer_tells kind before count c Done a = tt
answer_tells kind before count c (Ready true) a = tt
answer_tells kind before count c (Ready false) a = a
answer_tells kind before count c (Faulted fault) a = a
answer_tells kind before count c (Refused fault item) a = a
answer_tells kind before count c (ClosedWith fault) a = a
answer_tells kind before count c _ a = absurd a

cancelled_tells : (kind : Kind) (before count : ℕ) (c : Option ℕ) (st : Standing) → IsSound count c st → Tells kind before count c (cancelled st)
cancelled_tells kind before count c (Answered r) a = answer_tells kind before count c r a
cancelled_tells kind before count c _ a = tt

over_tells : (kind : Kind) (before count : ℕ) (c : Option ℕ) (fault : ℕ) (k : Bool) → (fault == 0) ≡ k → c ≡ Some fault → Tells kind before count c (told_complete fault)
over_tells kind before count c fault true k e = simp k (e ∙ ap (λ (f : ℕ). Some f) (eqb-true fault 0 k))
over_tells kind before count c fault false k e = simp k e

plain_tells : (kind : Kind) (before count : ℕ) (c : Option ℕ) (r : ReplyMark) → IsPlain r → Tells kind before count c r
plain_tells kind before count c Empty is = tt
plain_tells kind before count c (Shown number) is = tt
plain_tells kind before count c (Counted n) is = tt
plain_tells kind before count c (Flag flag) is = tt
plain_tells kind before count c _ is = absurd is

new_sound : (count : ℕ) (c : Option ℕ) (st : Standing) → is_waiting st ≡ true → IsSound count c st
new_sound count c (Answered r) is = let no : false ≡ true = is in cc
new_sound count c _ is = tt

set_again : (first fault : ℕ) (c : Option ℕ) → c ≡ Some first → c ≡ option_or c (Some fault)
set_again first fault None e = absurd (not_both None first refl e)
set_again first fault (Some f) e = refl

module _ (kind : Kind) (s : Channel) (caller : ℕ) (call : CallMark) (reached : IsReached kind s) (sound : HasSound s) where
  -- no wait is changed, nor the buffer
  still : (a : Act) (r : ReplyMark) → s.completion ≡ completion_after s.completion a → Tells kind (length s.buffer) (length s.buffer) s.completion r → Keeps kind s a r s.buffer s.waits s.completion
  still a r same is = record { answers = sound; reply = is; same = same; shrinks = λ fault e. omega arith }

  -- an item is dropped, and there is no completion
  lost : (b : Bool) (items : List Mark) (item : Mark) (buffer : List Mark) → Overflows kind s → Keeps kind s (tries b items) (Dropped item) buffer s.waits s.completion
  lost b items item buffer over =
      record {
        answers = all_move (no_end over.none) s.waits sound;
        reply = (over.full, over.dropping);
        same = refl;
        shrinks = λ fault e. absurd (not_both s.completion fault over.none e);
      }

  -- a wait goes, whose answer was sound
  gone_keeps : (number : ℕ) (st : Standing) → Fetches call number → StandsAt s.waits (polled_at kind s caller number) st → Keeps kind s fetches (cancelled st) s.buffer (remove s.waits (polled_at kind s caller number)) s.completion
  gone_keeps number st own at =
      record {
        answers = sound_gone (length s.buffer) s.completion (is_wait caller number) s.waits sound;
        reply = cancelled_tells kind (length s.buffer) (length s.buffer) s.completion st (sound_at s (polled_at kind s caller number) st at sound);
        same = refl;
        shrinks = λ fault e. omega arith;
      }

  -- a wait is answered
  answered_sound : (p : Waiter → Bool) (r : ReplyMark) → IsAnswer (length s.buffer) s.completion r → AreSound (length s.buffer) s.completion (answer_at s.waits (position_or_len p s.waits) r)
  answered_sound p r is = sound_answered (length s.buffer) s.completion p s.waits sound r is

  -- an item is there
  there : {m : ℕ} → leaving kind s < length s.buffer → Moves (length s.buffer) m s.completion s.completion
  there below = some_left (omega arith)

  pub keeps : Rows kind s caller call (Keeps kind s)
  keeps = record {
    refused = λ b item fault e. still (tries b (item ∷ [])) (Refused fault item) refl e;
    served = λ b item at. record { answers = answered_sound (λ w. wants_item w.standing) (Item item) tt; reply = tt; same = refl; shrinks = λ fault e. omega arith };
    newest = λ b item full. lost b (item ∷ []) (item_at s.buffer (length s.buffer - 1)) (take (length s.buffer - 1) s.buffer ++ item ∷ []) full;
    oldest = λ b item full. lost b (item ∷ []) (item_at s.buffer 0) (drop 1 s.buffer ++ item ∷ []) full;
    last = λ b item full. lost b (item ∷ []) item s.buffer full;
    stored = λ b item none. record { answers = all_told (no_end none) looks_for_item s.waits sound; reply = tt; same = refl; shrinks = λ fault e. absurd (not_both s.completion fault none e) };
    full = λ item. still (tries false (item ∷ [])) Full refl tt;
    admits = λ b below at. record {
      answers = all_move (there below) (answer_at s.waits (writer kind s) Done) (answered_sound (λ w. wants_room w.standing) Done tt);
      reply = tt;
      same = refl;
      shrinks = λ fault e. (let a = length_swapped s.buffer (leaving kind s) (entering kind s) below in omega arith);
    };
    frees = λ b below. record { answers = all_told (there below) looks_for_room s.waits sound; reply = tt; same = refl; shrinks = λ fault e. (let a = length-remove s.buffer (leaving kind s) below in omega arith) };
    leaves = λ b below. record { answers = all_move (there below) s.waits sound; reply = tt; same = refl; shrinks = λ fault e. (let a = length-remove s.buffer (leaving kind s) below in omega arith) };
    ends = λ b fault empty e. still (tries b []) (ClosedWith fault) refl (e, empty);
    ready = still (tries true []) (Ready true) refl tt;
    over = λ fault e. still (tries true []) (told_complete fault) refl (over_tells kind (length s.buffer) (length s.buffer) s.completion fault (fault == 0) refl e);
    waits = λ st own is. record {
      answers = each_push (λ v. IsSound (length s.buffer) s.completion v.standing) s.waits (begun s.begins caller st) sound (new_sound (length s.buffer) s.completion st is);
      reply = tt;
      same = refl;
      shrinks = λ fault e. omega arith;
    };
    again = λ fault first e. still (completes fault) (Flag false) (set_again first fault s.completion e) tt;
    first = λ fault none. record {
      answers = all_complete kind (length s.buffer) s.completion fault none s.waits reached.settled sound;
      reply = tt;
      same = ap (λ (c : Option ℕ). option_or c (Some fault)) (sym none);
      shrinks = λ f e. omega arith;
    };
    stands = λ number. still fetches (Waiting number) refl tt;
    gone = gone_keeps;
    unknown = still fetches Unknown refl tt;
    plain = λ r is. still (tries false []) r refl (plain_tells kind (length s.buffer) (length s.buffer) s.completion r is);
  }
