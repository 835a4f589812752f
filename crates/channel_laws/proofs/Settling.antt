-- Each state that a history reaches is settled: row by row.
use Rattle.std.specs.Prelude.{ℕ, List, [], ◌∷◌, ◌++◌, Bool, true, false, map, Option, Some, None, remove, nat_le, slice_index, slice_set, is_some}
use Rattle.std.specs.List.{position_or_len}
use Rattle.std.proofs.Common.{◌≡◌, refl, ap, ◌∙◌, ◌+◌, ◌<◌, ◌≤◌, length, arith, take, drop, suc}
use Rattle.std.proofs.lemmas.Bool.{leb-true, leb-false, both_ways}
use Rattle.std.proofs.lemmas.List.{length-set, length-append, length-drop, length-take-le}
use Rattle.ho_model.specs.declared.objects.Mode.{Mode}
use Rattle.ho_model.specs.declared.objects.Mode.TheVariants.{Wait, DropNewest, DropOldest, DropWrite}
use Rattle.ho_base.specs.Marks.{Mark}
use Rattle.ho_model.specs.declared.marks.CallMark.{CallMark}
use Rattle.ho_model.specs.declared.marks.ReplyMark.{ReplyMark}
use Rattle.ho_model.specs.declared.marks.CallMark.TheVariants.{Peek, Count, Write, Read, BeginWrite, BeginRead, BeginLookWrite, BeginLookRead, Poll, Cancel, CompleteWith, Completed}
use Rattle.ho_model.specs.declared.marks.ReplyMark.TheVariants.{Done, Item, Full, Empty, Ready}
use Rattle.ho_model.specs.Channel.{Standing, WantsItem, WantsRoom, LooksForItem, LooksForRoom, Answered, Waiter, Channel, Kind, Outcome, is_full, read_place, is_waiting, wants_item, wants_room, looks_for_item, looks_for_room, item_of, waiter_at, answer_if, answer_at, overflow, written, taken, looked_read, looked_write, drops, or_else, begin, tell, told, completed, is_wait, poll, cancel, channel_answer, empty_channel}
use Rattle.channel_laws.specs.Reached.{IsSettled, IsReached}
use Rattle.channel_laws.proofs.Places.{some_of, position_some, position_none, answer_there, remove_there}
use Rattle.channel_laws.proofs.Effects.{told_if, looks_found, looks_freed}
use Rattle.channel_laws.proofs.Least.{read_below}
use Rattle.channel_laws.proofs.Table.{none_from}
use Rattle.channel_laws.proofs.Waiters.{Each, each_weaker, each_map, each_push, each_answer, each_drop, each_none, HasNames, names_answer, names_drop, names_map, names_count, names_stand}

-- a buffer with a capacity has room for one item at least
abbrev pub HasRoom : Option ℕ → Type 0
HasRoom None = Unit {0}
HasRoom (Some capacity) = 0 < capacity

-- what follows is such a state too
abbrev pub StaysReached : Kind → Option Outcome → Type 0
StaysReached kind None = Unit {0}
StaysReached kind (Some o) = IsReached kind o.1

pub record Good (kind : Kind) (count : ℕ) (completion : Option ℕ) (begins : List ℕ) (waits : List Waiter) : Type 0 where
  pub names : HasNames begins waits
  pub settled : Each (λ w. IsSettled kind count completion w.standing) waits

pub full_some : (capacity : Option ℕ) (count : ℕ) → HasRoom capacity → is_full capacity count ≡ true → 0 < count
full_some None count room h = let f : false ≡ true = h in cc
full_some (Some k) count room h = let l : k ≤ count = leb-true k count h in omega arith

-- one item leaves and one comes
moved : (priority : Option (Mark → ℕ)) (buffer : List Mark) (item : Mark) → 1 ≤ length buffer → length (remove buffer (read_place priority buffer) ++ item ∷ []) ≡ length buffer
moved priority buffer item h =
    let place = read_place priority buffer in
    let l = read_below priority buffer (omega arith) in
    let a = length-append (remove buffer place) (item ∷ []) in
    let b = length-append (take place buffer) (drop (suc place) buffer) in
    let c = length-take-le place buffer (omega arith) in
    let d = length-drop (suc place) buffer in
    omega arith

module _ (kind : Kind) (room : HasRoom kind.capacity) where
  good_answer : (count : ℕ) (completion : Option ℕ) (begins : List ℕ) (p : Waiter → Bool) (r : ReplyMark) (ws : List Waiter) → Good kind count completion begins ws → Good kind count completion begins (answer_at ws (position_or_len p ws) r)
  good_answer count completion begins p r ws g =
      record {
        names = names_answer begins p r ws g.names;
        settled = rw (answer_there p r ws) (each_answer (λ w. IsSettled kind count completion w.standing) p r (λ w h is. tt) ws g.settled);
      }

  good_drop : (count : ℕ) (completion : Option ℕ) (begins : List ℕ) (p : Waiter → Bool) (ws : List Waiter) → Good kind count completion begins ws → Good kind count completion begins (remove ws (position_or_len p ws))
  good_drop count completion begins p ws g =
      record {
        names = names_drop begins p ws g.names;
        settled = rw (remove_there p ws) (each_drop (λ w. IsSettled kind count completion w.standing) p ws g.settled);
      }

  -- all waits are changed under their names, or the buffer is
  good_map : (count : ℕ) (completion completion' : Option ℕ) (count' : ℕ) (begins : List ℕ) (f : Waiter → Waiter) (Q : Waiter → Type 0) → ((w : Waiter) → (f w).caller ≡ w.caller) → ((w : Waiter) → (f w).number ≡ w.number) → ((w : Waiter) → Q w → IsSettled kind count' completion' (f w).standing) → (ws : List Waiter) → Good kind count completion begins ws → Each Q ws → Good kind count' completion' begins (map f ws)
  good_map count completion completion' count' begins f Q callers numbers settles ws g all =
      record {
        names = names_map begins f callers numbers ws g.names;
        settled = each_map Q (λ w. IsSettled kind count' completion' w.standing) f settles ws all;
      }

  good_same : (count : ℕ) (completion completion' : Option ℕ) (count' : ℕ) (begins : List ℕ) (Q : Waiter → Type 0) → ((w : Waiter) → Q w → IsSettled kind count' completion' w.standing) → (ws : List Waiter) → Good kind count completion begins ws → Each Q ws → Good kind count' completion' begins ws
  good_same count completion completion' count' begins Q settles ws g all =
      record { names = g.names; settled = each_weaker Q (λ w. IsSettled kind count' completion' w.standing) settles ws all }

  -- a begin counts
  good_count : (count : ℕ) (completion : Option ℕ) (begins : List ℕ) (d : ℕ) (ws : List Waiter) → d < length begins → Good kind count completion begins ws → Good kind count completion (slice_set begins d (slice_index begins d + 1)) ws
  good_count count completion begins d ws l g =
      record { names = names_count begins d ws l g.names; settled = g.settled }

  good_stand : (count : ℕ) (completion : Option ℕ) (begins : List ℕ) (d : ℕ) (standing : Standing) (ws : List Waiter) → d < length begins → IsSettled kind count completion standing → Good kind count completion begins ws → Good kind count completion (slice_set begins d (slice_index begins d + 1)) (ws ++ record { caller = d; number = slice_index begins d; standing = standing } ∷ [])
  good_stand count completion begins d standing ws l settled g =
      let new : Waiter = record { caller = d; number = slice_index begins d; standing = standing } in
      record {
        names = names_stand begins d standing ws l g.names;
        settled = each_push (λ w. IsSettled kind count completion w.standing) ws new g.settled settled;
      }

  -- what a try comes to: a settled state with the same counts, or a state in which a wait may stand
  abbrev Comes : Channel → Standing → Option Outcome → Type 0
  Comes s standing None = IsSettled kind (length s.buffer) s.completion standing
  Comes s standing (Some o) = (o.1.begins ≡ s.begins) × Good kind (length o.1.buffer) o.1.completion s.begins o.1.waits

  module _ (s : Channel) (good : Good kind (length s.buffer) s.completion s.begins s.waits) where
    abbrev IsStood : Waiter → Type 0
    IsStood w = IsSettled kind (length s.buffer) s.completion w.standing

    abbrev reads : Waiter → Bool
    reads w = wants_item w.standing

    abbrev writes : Waiter → Bool
    writes w = wants_room w.standing

    -- with a full buffer in a drop mode and no reader all waits are answered
    dropped : (count' : ℕ) → drops kind.mode ≡ true → is_full kind.capacity (length s.buffer) ≡ true → (st : Standing) → IsSettled kind (length s.buffer) s.completion st × (wants_item st ≡ false) → IsSettled kind count' s.completion st
    dropped count' dr full WantsItem h = let f : true ≡ false = h.1 in cc
    dropped count' dr full LooksForItem h = let l = full_some kind.capacity (length s.buffer) room full in let z = h.0.0 in absurd (omega arith)
    dropped count' dr full (WantsRoom item) h = absurd (both_ways (drops kind.mode) h.0.1.0 dr)
    dropped count' dr full LooksForRoom h = absurd (both_ways (drops kind.mode) h.0.1.0 dr)
    dropped count' dr full (Answered r) h = tt

    after_drop : (count' : ℕ) → drops kind.mode ≡ true → is_full kind.capacity (length s.buffer) ≡ true → some_of reads s.waits ≡ false → Good kind count' s.completion s.begins s.waits
    after_drop count' dr full none =
        good_same (length s.buffer) s.completion s.completion count' s.begins (λ w. IsStood w × (reads w ≡ false)) (λ w h. dropped count' dr full w.standing h) s.waits good (each_none IsStood reads s.waits none good.settled)

    overflow_step : (item : Mark) (mode : Mode) → kind.mode ≡ mode → is_full kind.capacity (length s.buffer) ≡ true → s.completion ≡ None → some_of reads s.waits ≡ false → Comes s (WantsRoom item) (overflow mode s item)
    overflow_step item Wait e full done none = (full, (ap drops e, done))
    overflow_step item DropNewest e full done none = (refl, after_drop _ (ap drops e) full none)
    overflow_step item DropOldest e full done none = (refl, after_drop _ (ap drops e) full none)
    overflow_step item DropWrite e full done none = (refl, good)

    -- with room and no reader, once those who look are told, all waits are answered
    kept_step : (count' : ℕ) → is_full kind.capacity (length s.buffer) ≡ false → (c n : ℕ) (st : Standing) → IsSettled kind (length s.buffer) s.completion st × (wants_item st ≡ false) → IsSettled kind count' s.completion (answer_if looks_for_item (Ready true) (record { caller = c; number = n; standing = st })).standing
    kept_step count' full c n WantsItem h = let f : true ≡ false = h.1 in cc
    kept_step count' full c n LooksForItem h = tt
    kept_step count' full c n (WantsRoom item) h = absurd (both_ways (is_full kind.capacity (length s.buffer)) full h.0.0)
    kept_step count' full c n LooksForRoom h = absurd (both_ways (is_full kind.capacity (length s.buffer)) full h.0.0)
    kept_step count' full c n (Answered r) h = tt

    written_step : (item : Mark) (done reader full : Bool) → is_some s.completion ≡ done → some_of reads s.waits ≡ reader → is_full kind.capacity (length s.buffer) ≡ full → Comes s (WantsRoom item) (written kind s item)
    written_step item true reader full e1 e2 e3 = simp e1 (refl, good)
    written_step item false true full e1 e2 e3 =
        let at = position_some reads s.waits e2 in
        simp (e1, at) (refl, good_answer (length s.buffer) s.completion s.begins reads (Item item) s.waits good)
    written_step item false false true e1 e2 e3 =
        let at = position_none reads s.waits e2 in
        simp (e1, at, e3) (overflow_step item kind.mode refl e3 (none_from s.completion e1) e2)
    written_step item false false false e1 e2 e3 =
        let at = position_none reads s.waits e2 in
        simp (e1, at, e3) (refl, good_map (length s.buffer) s.completion s.completion (length (s.buffer ++ item ∷ [])) s.begins (answer_if looks_for_item (Ready true)) (λ w. IsStood w × (reads w ≡ false)) (λ w. (told_if looks_for_item (Ready true) looks_found w).caller) (λ w. (told_if looks_for_item (Ready true) looks_found w).number) (λ w h. kept_step (length (s.buffer ++ item ∷ [])) e3 w.caller w.number w.standing h) s.waits good (each_none IsStood reads s.waits e2 good.settled))

    written_comes : (item : Mark) → Comes s (WantsRoom item) (written kind s item)
    written_comes item = written_step item (is_some s.completion) (some_of reads s.waits) (is_full kind.capacity (length s.buffer)) refl refl refl

    -- an item is there, so none waits for one; and where there was room or those who look are told, all are answered
    freed_step : (count' : ℕ) → 0 < length s.buffer → (c n : ℕ) (st : Standing) → IsSettled kind (length s.buffer) s.completion st × (wants_room st ≡ false) → IsSettled kind count' s.completion (answer_if looks_for_room (Ready true) (record { caller = c; number = n; standing = st })).standing
    freed_step count' some c n WantsItem h = let z = h.0.0 in absurd (omega arith)
    freed_step count' some c n LooksForItem h = let z = h.0.0 in absurd (omega arith)
    freed_step count' some c n (WantsRoom item) h = let f : true ≡ false = h.1 in cc
    freed_step count' some c n LooksForRoom h = tt
    freed_step count' some c n (Answered r) h = tt

    roomy_step : (count' : ℕ) → 0 < length s.buffer → is_full kind.capacity (length s.buffer) ≡ false → (st : Standing) → IsSettled kind (length s.buffer) s.completion st → IsSettled kind count' s.completion st
    roomy_step count' some full WantsItem h = let z = h.0 in absurd (omega arith)
    roomy_step count' some full LooksForItem h = let z = h.0 in absurd (omega arith)
    roomy_step count' some full (WantsRoom item) h = absurd (both_ways (is_full kind.capacity (length s.buffer)) full h.0)
    roomy_step count' some full LooksForRoom h = absurd (both_ways (is_full kind.capacity (length s.buffer)) full h.0)
    roomy_step count' some full (Answered r) h = tt

    taken_step : (items writer full done : Bool) → nat_le 1 (length s.buffer) ≡ items → some_of writes s.waits ≡ writer → is_full kind.capacity (length s.buffer) ≡ full → is_some s.completion ≡ done → Comes s WantsItem (taken kind s)
    taken_step true true full done e1 e2 e3 e4 =
        let at = position_some writes s.waits e2 in
        let place = read_place kind.priority s.buffer in
        let some : 1 ≤ length s.buffer = leb-true 1 (length s.buffer) e1 in
        let same = moved kind.priority s.buffer (item_of (waiter_at s.waits (position_or_len writes s.waits)).standing) some in
        simp (e1, at) (refl, rw same (good_answer (length s.buffer) s.completion s.begins writes Done s.waits good))
    taken_step true false true done e1 e2 e3 e4 =
        let at = position_none writes s.waits e2 in
        let some : 1 ≤ length s.buffer = leb-true 1 (length s.buffer) e1 in
        let count' = length (remove s.buffer (read_place kind.priority s.buffer)) in
        simp (e1, at, e3) (refl, good_map (length s.buffer) s.completion s.completion count' s.begins (answer_if looks_for_room (Ready true)) (λ w. IsStood w × (writes w ≡ false)) (λ w. (told_if looks_for_room (Ready true) looks_freed w).caller) (λ w. (told_if looks_for_room (Ready true) looks_freed w).number) (λ w h. freed_step count' (omega arith) w.caller w.number w.standing h) s.waits good (each_none IsStood writes s.waits e2 good.settled))
    taken_step true false false done e1 e2 e3 e4 =
        let at = position_none writes s.waits e2 in
        let some : 1 ≤ length s.buffer = leb-true 1 (length s.buffer) e1 in
        let count' = length (remove s.buffer (read_place kind.priority s.buffer)) in
        simp (e1, at, e3) (refl, good_same (length s.buffer) s.completion s.completion count' s.begins IsStood (λ w h. roomy_step count' (omega arith) e3 w.standing h) s.waits good good.settled)
    taken_step false writer full true e1 e2 e3 e4 = simp (e1, e4) (refl, good)
    taken_step false writer full false e1 e2 e3 e4 =
        let none : length s.buffer < 1 = leb-false 1 (length s.buffer) e1 in
        let at = none_from s.completion e4 in
        simp (e1, e4) (omega arith, at)

    taken_comes : Comes s WantsItem (taken kind s)
    taken_comes = taken_step (nat_le 1 (length s.buffer)) (some_of writes s.waits) (is_full kind.capacity (length s.buffer)) (is_some s.completion) refl refl refl refl

    look_read_step : (items done : Bool) → nat_le 1 (length s.buffer) ≡ items → is_some s.completion ≡ done → Comes s LooksForItem (looked_read s)
    look_read_step true done e1 e2 = simp e1 (refl, good)
    look_read_step false true e1 e2 = simp (e1, e2) (refl, good)
    look_read_step false false e1 e2 =
        let none : length s.buffer < 1 = leb-false 1 (length s.buffer) e1 in
        let at = none_from s.completion e2 in
        simp (e1, e2) (omega arith, at)

    look_write_step : (done full dropping : Bool) → is_some s.completion ≡ done → is_full kind.capacity (length s.buffer) ≡ full → drops kind.mode ≡ dropping → Comes s LooksForRoom (looked_write kind s)
    look_write_step true full dropping e1 e2 e3 = simp e1 (refl, good)
    look_write_step false false dropping e1 e2 e3 = simp (e1, e2) (refl, good)
    look_write_step false true true e1 e2 e3 = simp (e1, e2, e3) (refl, good)
    look_write_step false true false e1 e2 e3 = let at = none_from s.completion e1 in simp (e1, e2, e3) (refl, (refl, at))

    module _ (callers : length s.begins ≡ 64) where
      reached : (t : Channel) → t.begins ≡ s.begins → Good kind (length t.buffer) t.completion s.begins t.waits → IsReached kind t
      reached t e g = record { callers = ap length e ∙ callers; named = record { once = g.names.once; below = rw e g.names.below }; settled = g.settled }

      or_else_stays : (o : Option Outcome) (standing : Standing) (reply : ReplyMark) → Comes s standing o → StaysReached kind (Some (or_else o (reply, s)))
      or_else_stays None standing reply h = reached s refl good
      or_else_stays (Some o) standing reply h = reached o.1 h.0 h.1

      begin_stays : (d : ℕ) (standing : Standing) (o : Option Outcome) → d < 64 → Comes s standing o → StaysReached kind (Some (begin s d standing o))
      begin_stays d standing None l h =
          let g = good_stand (length s.buffer) s.completion s.begins d standing s.waits (omega arith) h good in
          record { callers = length-set s.begins d (slice_index s.begins d + 1) ∙ callers; named = record { once = g.names.once; below = g.names.below }; settled = g.settled }
      begin_stays d standing (Some o) l h =
          let g = good_count (length o.1.buffer) o.1.completion s.begins d o.1.waits (omega arith) h.1 in
          record { callers = length-set s.begins d (slice_index s.begins d + 1) ∙ callers; named = record { once = g.names.once; below = g.names.below }; settled = g.settled }

      told_step : (fault count' : ℕ) (st : Standing) → IsSettled kind count' (Some fault) (told fault st)
      told_step fault count' WantsItem = tt
      told_step fault count' (WantsRoom item) = tt
      told_step fault count' LooksForItem = tt
      told_step fault count' LooksForRoom = tt
      told_step fault count' (Answered r) = tt

      completed_step : (fault : ℕ) (done : Bool) → is_some s.completion ≡ done → StaysReached kind (Some (completed s fault))
      completed_step fault true e = simp e (reached s refl good)
      completed_step fault false e =
          simp e (reached (record s { completion = Some fault; waits = map (tell fault) s.waits }) refl
          (good_map (length s.buffer) s.completion (Some fault) (length s.buffer) s.begins (tell fault) IsStood (λ w. refl) (λ w. refl) (λ w h. told_step fault (length s.buffer) w.standing) s.waits good good.settled))

      cancel_step : (d m : ℕ) (found : Bool) → some_of (is_wait d m) s.waits ≡ found → StaysReached kind (Some (cancel s d m))
      cancel_step d m true e =
          let at = position_some (is_wait d m) s.waits e in
          simp at (reached (record s { waits = remove s.waits (position_or_len (is_wait d m) s.waits) }) refl (good_drop (length s.buffer) s.completion s.begins (is_wait d m) s.waits good))
      cancel_step d m false e = let at = position_none (is_wait d m) s.waits e in simp at (reached s refl good)

      poll_step : (d m : ℕ) (found waits : Bool) → some_of (is_wait d m) s.waits ≡ found → is_waiting (waiter_at s.waits (position_or_len (is_wait d m) s.waits)).standing ≡ waits → StaysReached kind (Some (poll s d m))
      poll_step d m true true e k = let at = position_some (is_wait d m) s.waits e in simp (at, k) (reached s refl good)
      poll_step d m true false e k =
          let at = position_some (is_wait d m) s.waits e in
          simp (at, k) (reached (record s { waits = remove s.waits (position_or_len (is_wait d m) s.waits) }) refl (good_drop (length s.buffer) s.completion s.begins (is_wait d m) s.waits good))
      poll_step d m false waits e k = let at = position_none (is_wait d m) s.waits e in simp at (reached s refl good)

      peeked_step : (items : Bool) → nat_le 1 (length s.buffer) ≡ items → StaysReached kind (channel_answer kind s 0 Peek)
      peeked_step true e = simp e (reached s refl good)
      peeked_step false e = simp e (reached s refl good)

good_of : (kind : Kind) (s : Channel) → IsReached kind s → Good kind (length s.buffer) s.completion s.begins s.waits
good_of kind s was = record { names = record { once = was.named.once; below = was.named.below }; settled = was.settled }

-- each call leaves such a state
pub steps_stay : (kind : Kind) (s : Channel) (caller : ℕ) (call : CallMark) → HasRoom kind.capacity → caller < 64 → IsReached kind s → StaysReached kind (channel_answer kind s caller call)
steps_stay kind s caller (Write item) room l was = or_else_stays kind room s (good_of kind s was) was.callers (written kind s item) (WantsRoom item) Full (written_comes kind room s (good_of kind s was) item)
steps_stay kind s caller (BeginWrite item) room l was = begin_stays kind room s (good_of kind s was) was.callers caller (WantsRoom item) (written kind s item) l (written_comes kind room s (good_of kind s was) item)
steps_stay kind s caller Read room l was = or_else_stays kind room s (good_of kind s was) was.callers (taken kind s) WantsItem Empty (taken_comes kind room s (good_of kind s was))
steps_stay kind s caller BeginRead room l was = begin_stays kind room s (good_of kind s was) was.callers caller WantsItem (taken kind s) l (taken_comes kind room s (good_of kind s was))
steps_stay kind s caller BeginLookRead room l was = begin_stays kind room s (good_of kind s was) was.callers caller LooksForItem (looked_read s) l (look_read_step kind room s (good_of kind s was) (nat_le 1 (length s.buffer)) (is_some s.completion) refl refl)
steps_stay kind s caller BeginLookWrite room l was = begin_stays kind room s (good_of kind s was) was.callers caller LooksForRoom (looked_write kind s) l (look_write_step kind room s (good_of kind s was) (is_some s.completion) (is_full kind.capacity (length s.buffer)) (drops kind.mode) refl refl refl)
steps_stay kind s caller (CompleteWith fault) room l was = completed_step kind room s (good_of kind s was) was.callers fault (is_some s.completion) refl
steps_stay kind s caller (Poll number) room l was = poll_step kind room s (good_of kind s was) was.callers caller number (some_of (is_wait caller number) s.waits) (is_waiting (waiter_at s.waits (position_or_len (is_wait caller number) s.waits)).standing) refl refl
steps_stay kind s caller (Cancel number) room l was = cancel_step kind room s (good_of kind s was) was.callers caller number (some_of (is_wait caller number) s.waits) refl
steps_stay kind s caller Peek room l was = peeked_step kind room s (good_of kind s was) was.callers (nat_le 1 (length s.buffer)) refl
steps_stay kind s caller Count room l was = was
steps_stay kind s caller Completed room l was = was
steps_stay kind s caller _ room l was = tt

-- and so is the state before the first
pub empty_is_reached : (kind : Kind) → IsReached kind empty_channel
empty_is_reached kind = record { callers = refl; named = record { once = λ c n. omega arith; below = tt }; settled = tt }
