-- What a call that waits adds to the weights of its pass's own entries.
use Rattle.std.specs.Prelude.{ℕ, List, [], ◌∷◌, ◌++◌, Bool, false, true, cond, not, replicate, zero, suc, Some, slice_get}
use Rattle.std.specs.List.{sum_by}
use Rattle.std.proofs.Common.{◌≡◌, refl, ap, ◌∙◌, subst, ◌+◌, arith, inl, inr}
use Rattle.std.proofs.lemmas.Option.{same_Some}
use Rattle.std.proofs.lemmas.List.Sums.{sum_by-cons, sum_by-append, sum_by_push}
use Rattle.ho_base.specs.Marks.{Mark, number_of}
use Rattle.ho_model.specs.declared.marks.EntryMark.{EntryMark}
use Rattle.ho_model.specs.declared.marks.CallMark.{CallMark}
use Rattle.ho_model.specs.declared.marks.CallMark.TheVariants.{BeginRead, BeginWrite, Poll}
use Rattle.ho_model.specs.declared.marks.ReplyMark.{ReplyMark}
use Rattle.ho_model.specs.declared.marks.ReplyMark.TheVariants.{Done, Dropped, Refused, Item, ClosedWith, Waiting}
use Rattle.ho_model.specs.Entries.{entry}
use Rattle.passes.specs.Seen.{SeesOwn, own_of}
use Rattle.passes.specs.Calls.{IsSamePass}
use Rattle.passes.proofs.Owned.{own_of-own, entry_own}
use Rattle.passes.proofs.Calls.{own_before}
use Rattle.turn_lock.specs.Passes.{LockPass}
use Rattle.channel_core.specs.Marks.{reply_mark}
use Rattle.channel_wait.specs.Ends.{read_reply, write_reply}
use Rattle.channel_wait.specs.declared.ends.ReadEnd.{ReadEnd}
use Rattle.channel_wait.specs.declared.ends.WriteEnd.{WriteEnd}
use Rattle.record_lang.specs.Marks.{mark_of}
use Rattle.record_lang.specs.Records.{Row}
use Rattle.wait_loop.specs.Own.{standing_polls, polls_and_last, PollsOut}
use Rattle.channel_flow.specs.Items.{written_in, taken_in, dropped_in, refused_in, given_back_in, gives, loses, weight}
use Rattle.channel_flow.specs.Ends.{is_begun, is_finished, is_closed_reply, is_closed, is_closed_reply_with, is_closed_with, is_completing}
use Rattle.stage_pipeline.specs.Callers.{is_known, strays}
use Rattle.stage_pipeline.specs.Works.{weighs, lost_by, Sends, Takes}

none_weigh : (f : EntryMark → ℕ) (e : EntryMark) → f e ≡ 0 → (k : ℕ) → sum_by f (replicate k e) ≡ 0
none_weigh f e z zero = refl
none_weigh f e z (suc k) = let s = sum_by-cons f e (replicate k e) in let t = none_weigh f e z k in omega arith

-- own entries of a call that waits: its begin ended at once, or left a wait, and polls said so up to the last
module _ (p q : LockPass) (same : IsSamePass p q) where
  own_weighs : (f : EntryMark → ℕ) (own : List EntryMark) → SeesOwn p.held p.seen own q.seen → weighs f q ≡ weighs f p + sum_by f own
  own_weighs f own sees =
      ap (λ (h : List Bool). sum_by f (own_of h q.seen)) same.held
      ∙ (ap (sum_by f) (own_of-own p.held p.seen q.seen own sees) ∙ sum_by-append f (own_of p.held p.seen) own)

  module _ (priority : Mark → ℕ) (begin : CallMark) (r : ReplyMark) where
    -- a wait weighs y at its begin and z at its end, and a call that ends at once as much
    pub waits_weigh : (f : EntryMark → ℕ) (x y z : ℕ) → f (entry p.caller begin r) ≡ x → ((n : ℕ) → f (entry p.caller begin (Waiting n)) ≡ y) → ((n : ℕ) → f (entry p.caller (Poll n) (Waiting n)) ≡ 0) → ((n : ℕ) → f (entry p.caller (Poll n) r) ≡ z) → x ≡ y + z
        → PollsOut priority begin p q r → weighs f q ≡ weighs f p + x
    waits_weigh f x y z once begun polled ended all (inl a) =
        let e = entry p.caller begin r in
        let w = own_weighs f (e ∷ []) (entry_own p.held p.seen q.seen a.one.0 e (own_before p q same) a.one.1.seen) in
        let s = sum_by-cons f e [] in
        omega (arith, w, s, once)
    waits_weigh f x y z once begun polled ended all (inr a) =
        let e = entry p.caller begin (Waiting a.number) in
        let d = entry p.caller (Poll a.number) r in
        let w = own_weighs f (e ∷ polls_and_last p.caller a.number a.count false r) a.all.entries.seen in
        let s = sum_by-cons f e (polls_and_last p.caller a.number a.count false r) in
        let m = sum_by_push f (standing_polls p.caller a.number a.count) d in
        let n = none_weigh f (entry p.caller (Poll a.number) (Waiting a.number)) (polled a.number) a.count in
        omega (arith, w, s, m, n, begun a.number, ended a.number, all)

    -- two weights grow alike that are alike at the begin that ends at once, and over the begin and the end of a wait
    pub waits_settle : (f g : EntryMark → ℕ) → f (entry p.caller begin r) ≡ g (entry p.caller begin r) → ((n : ℕ) → f (entry p.caller begin (Waiting n)) + f (entry p.caller (Poll n) r) ≡ g (entry p.caller begin (Waiting n)) + g (entry p.caller (Poll n) r))
        → ((n : ℕ) → f (entry p.caller (Poll n) (Waiting n)) ≡ 0) → ((n : ℕ) → g (entry p.caller (Poll n) (Waiting n)) ≡ 0) → PollsOut priority begin p q r → weighs f q + weighs g p ≡ weighs f p + weighs g q
    waits_settle f g once both polled polled' (inl a) =
        let e = entry p.caller begin r in
        let own = entry_own p.held p.seen q.seen a.one.0 e (own_before p q same) a.one.1.seen in
        let w = own_weighs f (e ∷ []) own in
        let v = own_weighs g (e ∷ []) own in
        let s = sum_by-cons f e [] in
        let t = sum_by-cons g e [] in
        omega (arith, w, v, s, t, once)
    waits_settle f g once both polled polled' (inr a) =
        let e = entry p.caller begin (Waiting a.number) in
        let d = entry p.caller (Poll a.number) r in
        let own = e ∷ polls_and_last p.caller a.number a.count false r in
        let w = own_weighs f own a.all.entries.seen in
        let v = own_weighs g own a.all.entries.seen in
        let s = sum_by-cons f e (polls_and_last p.caller a.number a.count false r) in
        let t = sum_by-cons g e (polls_and_last p.caller a.number a.count false r) in
        let m = sum_by_push f (standing_polls p.caller a.number a.count) d in
        let o = sum_by_push g (standing_polls p.caller a.number a.count) d in
        let n = none_weigh f (entry p.caller (Poll a.number) (Waiting a.number)) (polled a.number) a.count in
        let k = none_weigh g (entry p.caller (Poll a.number) (Waiting a.number)) (polled' a.number) a.count in
        omega (arith, w, v, s, t, m, o, n, k, both a.number)

    -- a weight that none of the entries has
    pub waits_none : (f : EntryMark → ℕ) → f (entry p.caller begin r) ≡ 0 → ((n : ℕ) → f (entry p.caller begin (Waiting n)) ≡ 0) → ((n : ℕ) → f (entry p.caller (Poll n) (Waiting n)) ≡ 0) → ((n : ℕ) → f (entry p.caller (Poll n) r) ≡ 0)
        → PollsOut priority begin p q r → weighs f q ≡ weighs f p
    waits_none f once begun polled ended out = let w = waits_weigh f 0 0 0 once begun polled ended refl out in omega (arith, w)

  -- a read that has an answer
  abbrev pub AnswersRead : ReplyMark → Type 0
  AnswersRead (Item m) = Unit {0}
  AnswersRead (ClosedWith fault) = Unit {0}
  AnswersRead _ = ⊥

  plus_none : (n : ℕ) → n ≡ 0 + n
  plus_none n = omega arith

  takes_item : (priority : Mark → ℕ) (m : Mark) → PollsOut priority BeginRead p q (Item m) → Takes (Item m) p q
  takes_item priority m out = record {
    takes = λ h. waits_weigh priority BeginRead (Item m) (weight h taken_in) (sum_by h (gives (Item m))) 0 (sum_by h (gives (Item m))) refl (λ n. refl) (λ n. refl) (λ n. refl) (plus_none _) out;
    told = waits_weigh priority BeginRead (Item m) (λ e. cond (is_closed e) 1 0) 0 0 0 refl (λ n. refl) (λ n. refl) (λ n. refl) refl out;
    told_fault = λ fault. waits_weigh priority BeginRead (Item m) (λ e. cond (is_closed_with fault e) 1 0) 0 0 0 refl (λ n. refl) (λ n. refl) (λ n. refl) refl out;
    settled = waits_settle priority BeginRead (Item m) (λ e. cond (is_begun e) 1 0) (λ e. cond (is_finished e) 1 0) refl (λ n. refl) (λ n. refl) (λ n. refl) out;
    quiet = λ h. (
      waits_none priority BeginRead (Item m) (weight h written_in) refl (λ n. refl) (λ n. refl) (λ n. refl) out,
      waits_none priority BeginRead (Item m) (weight h dropped_in) refl (λ n. refl) (λ n. refl) (λ n. refl) out,
      waits_none priority BeginRead (Item m) (weight h refused_in) refl (λ n. refl) (λ n. refl) (λ n. refl) out,
      waits_none priority BeginRead (Item m) (weight h given_back_in) refl (λ n. refl) (λ n. refl) (λ n. refl) out,
    );
    uncompleting = waits_none priority BeginRead (Item m) (λ e. cond (is_completing e) 1 0) refl (λ n. refl) (λ n. refl) (λ n. refl) out;
    alone = waits_none priority BeginRead (Item m) (λ e. cond (strays true e) 1 0) refl (λ n. refl) (λ n. refl) (λ n. refl) out;
  }

  takes_end : (priority : Mark → ℕ) (fault : ℕ) → PollsOut priority BeginRead p q (ClosedWith fault) → Takes (ClosedWith fault) p q
  takes_end priority fault out = record {
    takes = λ h. waits_weigh priority BeginRead (ClosedWith fault) (weight h taken_in) 0 0 0 refl (λ n. refl) (λ n. refl) (λ n. refl) refl out;
    told = waits_weigh priority BeginRead (ClosedWith fault) (λ e. cond (is_closed e) 1 0) 1 0 1 refl (λ n. refl) (λ n. refl) (λ n. refl) refl out;
    told_fault = λ f. waits_weigh priority BeginRead (ClosedWith fault) (λ e. cond (is_closed_with f e) 1 0) (cond (is_closed_reply_with f (ClosedWith fault)) 1 0) 0 (cond (is_closed_reply_with f (ClosedWith fault)) 1 0) refl (λ n. refl) (λ n. refl) (λ n. refl) (plus_none _) out;
    settled = waits_settle priority BeginRead (ClosedWith fault) (λ e. cond (is_begun e) 1 0) (λ e. cond (is_finished e) 1 0) refl (λ n. refl) (λ n. refl) (λ n. refl) out;
    quiet = λ h. (
      waits_none priority BeginRead (ClosedWith fault) (weight h written_in) refl (λ n. refl) (λ n. refl) (λ n. refl) out,
      waits_none priority BeginRead (ClosedWith fault) (weight h dropped_in) refl (λ n. refl) (λ n. refl) (λ n. refl) out,
      waits_none priority BeginRead (ClosedWith fault) (weight h refused_in) refl (λ n. refl) (λ n. refl) (λ n. refl) out,
      waits_none priority BeginRead (ClosedWith fault) (weight h given_back_in) refl (λ n. refl) (λ n. refl) (λ n. refl) out,
    );
    uncompleting = waits_none priority BeginRead (ClosedWith fault) (λ e. cond (is_completing e) 1 0) refl (λ n. refl) (λ n. refl) (λ n. refl) out;
    alone = waits_none priority BeginRead (ClosedWith fault) (λ e. cond (strays true e) 1 0) refl (λ n. refl) (λ n. refl) (λ n. refl) out;
  }

  pub read_takes : (priority : Mark → ℕ) (r : ReplyMark) → AnswersRead r → PollsOut priority BeginRead p q r → Takes r p q
  read_takes priority (Item m) is out = takes_item priority m out
  read_takes priority (ClosedWith fault) is out = takes_end priority fault out
  read_takes priority _ is out = absurd is

  -- a write that has an answer; r is that answer
  pub record IsWritten (r : ReplyMark) : Type 0 where
    pub takes : (h : Mark → ℕ) → sum_by h (gives r) ≡ 0
    pub returns : (h : Mark → ℕ) (m : Mark) (c : ℕ) → weight h given_back_in (entry c (BeginWrite m) r) ≡ 0
    pub returns_later : (h : Mark → ℕ) (n c : ℕ) → weight h given_back_in (entry c (Poll n) r) ≡ 0
    pub untold : is_closed_reply r ≡ false
    pub once : (m : Mark) (c : ℕ) → is_begun (entry c (BeginWrite m) r) ≡ false
    pub begun_later : (n c : ℕ) → is_begun (entry c (Poll n) r) ≡ false
    pub later : (n c : ℕ) → is_finished (entry c (Poll n) r) ≡ true
    pub known : is_known r ≡ true

  pub done_is_written : IsWritten Done
  done_is_written = record { takes = λ h. refl; returns = λ h m c. refl; returns_later = λ h n c. refl; untold = refl; once = λ m c. refl; begun_later = λ n c. refl; later = λ n c. refl; known = refl }

  pub dropped_is_written : (y : Mark) → IsWritten (Dropped y)
  dropped_is_written y = record { takes = λ h. refl; returns = λ h m c. refl; returns_later = λ h n c. refl; untold = refl; once = λ m c. refl; begun_later = λ n c. refl; later = λ n c. refl; known = refl }

  pub refused_is_written : (fault : ℕ) (y : Mark) → IsWritten (Refused fault y)
  refused_is_written fault y = record { takes = λ h. refl; returns = λ h m c. refl; returns_later = λ h n c. refl; untold = refl; once = λ m c. refl; begun_later = λ n c. refl; later = λ n c. refl; known = refl }

  abbrev count_of : Bool → ℕ
  count_of b = cond b 1 0

  abbrev count_not : Bool → ℕ
  count_not b = cond (not b) 1 0

  only_first : (n : ℕ) → n ≡ n + 0
  only_first n = omega arith

  pub write_sends : (priority : Mark → ℕ) (m : Mark) (r : ReplyMark) (lost lost' : List ℕ) → IsWritten r → PollsOut priority (BeginWrite m) p q r
      → ((g : ℕ → ℕ) → sum_by g lost' ≡ sum_by g lost + sum_by (λ y. g (number_of y)) (loses r)) → Sends m p q lost lost'
  write_sends priority m r lost lost' is out list = record {
    writes = λ h. (let w = waits_weigh priority (BeginWrite m) r (weight h written_in) (sum_by h (m ∷ [])) (sum_by h (m ∷ [])) 0 refl (λ n. refl) (λ n. refl) (λ n. refl) (only_first _) out in let s = sum_by-cons h m [] in omega (arith, w, s));
    loses = λ g. (let w = waits_weigh priority (BeginWrite m) r (lost_by g) (sum_by (λ y. g (number_of y)) (loses r)) 0 (sum_by (λ y. g (number_of y)) (loses r)) refl (λ n. refl) (λ n. refl) (λ n. refl) (plus_none _) out in let k = list g in omega (arith, w, k));
    settled = waits_settle priority (BeginWrite m) r (λ e. cond (is_begun e) 1 0) (λ e. cond (is_finished e) 1 0) (ap count_of (is.once m p.caller)) (λ n. (let b = ap count_of (is.begun_later n p.caller) in let l = ap count_of (is.later n p.caller) in omega arith)) (λ n. refl) (λ n. refl) out;
    quiet = λ h. (
      waits_none priority (BeginWrite m) r (weight h taken_in) (is.takes h) (λ n. refl) (λ n. refl) (λ n. is.takes h) out,
      waits_none priority (BeginWrite m) r (weight h given_back_in) (is.returns h m p.caller) (λ n. refl) (λ n. refl) (λ n. is.returns_later h n p.caller) out,
    );
    uncompleting = waits_none priority (BeginWrite m) r (λ e. cond (is_completing e) 1 0) refl (λ n. refl) (λ n. refl) (λ n. refl) out;
    untold = waits_none priority (BeginWrite m) r (λ e. cond (is_closed e) 1 0) (ap count_of is.untold) (λ n. refl) (λ n. refl) (λ n. ap count_of is.untold) out;
    alone = waits_none priority (BeginWrite m) r (λ e. cond (strays false e) 1 0) (ap count_not is.known) (λ n. refl) (λ n. refl) (λ n. ap count_not is.known) out;
  }

  -- the answers of a worker's calls

  pub took_as : (priority : Mark → ℕ) (end end' : ReadEnd Row) → end ≡ end' → AnswersRead (reply_mark mark_of (read_reply end')) → PollsOut priority BeginRead p q (reply_mark mark_of (read_reply end)) → Takes (reply_mark mark_of (read_reply end')) p q
  took_as priority end end' is answers out = read_takes priority (reply_mark mark_of (read_reply end')) answers (subst (λ (e : ReadEnd Row). PollsOut priority BeginRead p q (reply_mark mark_of (read_reply e))) is out)

  pub sent_by : (priority : Mark → ℕ) (m : Mark) (end end' : WriteEnd Row) (lost lost' : List ℕ) → end ≡ end' → IsWritten (reply_mark mark_of (write_reply end')) → PollsOut priority (BeginWrite m) p q (reply_mark mark_of (write_reply end))
      → ((g : ℕ → ℕ) → sum_by g lost' ≡ sum_by g lost + sum_by (λ y. g (number_of y)) (loses (reply_mark mark_of (write_reply end')))) → Sends m p q lost lost'
  sent_by priority m end end' lost lost' is written out list =
      write_sends priority m (reply_mark mark_of (write_reply end')) lost lost' written (subst (λ (e : WriteEnd Row). PollsOut priority (BeginWrite m) p q (reply_mark mark_of (write_reply e))) is out) list

pub none_lost : (lost : List ℕ) (g : ℕ → ℕ) → sum_by g lost ≡ sum_by g lost + 0
none_lost lost g = omega arith

pub one_lost : (lost lost' : List ℕ) (y : Row) (n : ℕ) → lost' ≡ lost ++ n ∷ [] → slice_get (mark_of y) 0 ≡ Some n → (g : ℕ → ℕ) → sum_by g lost' ≡ sum_by g lost + sum_by (λ m. g (number_of m)) (mark_of y ∷ [])
one_lost lost lost' y n is first g =
    let same = ap g (same_Some y.number n first) in
    let a = ap (sum_by g) is in
    let b = sum_by_push g lost n in
    let c = sum_by-cons (λ m. g (number_of m)) (mark_of y) [] in
    omega arith
