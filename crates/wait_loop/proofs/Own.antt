-- How the own entries of a call that waits add up.
use Rattle.std.proofs.Common.{◌≡◌, ℕ, ◌+◌, Bool, true, false, List, [], ◌∷◌, ◌++◌, length, length-append, refl, sym, ap, ◌∙◌, subst, replicate, zero, suc, append-nil, inr}
use Rattle.ho_base.specs.Marks.{Mark}
use Rattle.ho_model.specs.declared.marks.EntryMark.{EntryMark}
use Rattle.ho_model.specs.declared.marks.CallMark.{CallMark}
use Rattle.ho_model.specs.declared.marks.CallMark.TheVariants.{Poll}
use Rattle.ho_model.specs.declared.marks.ReplyMark.{ReplyMark}
use Rattle.ho_model.specs.declared.marks.ReplyMark.TheVariants.{Waiting}
use Rattle.ho_model.specs.Entries.{entry}
use Rattle.passes.specs.Numbers.{HasNumber}
use Rattle.passes.specs.Seen.{SeesOwn}
use Rattle.passes.specs.Calls.{IsSamePass}
use Rattle.passes.proofs.Calls.{same_pass, same_on, own_before, own_entry, own_then}
use Rattle.turn_lock.specs.Passes.{LockPass}
use Rattle.turn_lock.specs.Calls.{Makes}
use Rattle.cancel_flag.specs.Seen.{Token}
use Rattle.cancel_flag.proofs.Looks.{no_look, looks_again, looks_out}
use Rattle.wait_loop.specs.Standing.{StaysOpen, IsAnswer, IsEnd}
use Rattle.wait_loop.specs.Own.{raised_by, MakesAll, last_call, standing_polls, polls_and_last, WaitsOut, PollsOut}
use Rattle.wait_loop.specs.Loops.{Polls, PollsUnset, PollsToAnswer, PollsToEnd}
use Rattle.wait_loop.proofs.Counts.{raised_by-none, raised_by-on}

replicate-push : (e : EntryMark) (k : ℕ) → (replicate k e ++ e ∷ []) ≡ replicate (suc k) e
replicate-push e zero = refl
replicate-push e (suc k) = ap (λ (l : List EntryMark). e ∷ l) (replicate-push e k)

length-replicate : (e : EntryMark) (k : ℕ) → length (replicate k e) ≡ k
length-replicate e zero = refl
length-replicate e (suc k) = ap suc (length-replicate e k)

own_nothing : (p : LockPass) → SeesOwn p.held p.seen [] p.seen
own_nothing p = ([], sym (append-nil p.seen), refl)

module _ (priority : Mark → ℕ) (p q : LockPass) where
  -- one call is the list of its entry
  pub makes_one : (call : CallMark) (r : ReplyMark) → HasNumber p.held p.caller → Makes priority p call r q → MakesAll priority p (entry p.caller call r ∷ []) q
  makes_one call r has m = record { entries = own_entry priority p q (entry p.caller call r) has m.one; counted = m.counted; met = m.one.1.met }

  -- some calls, and then some
  pub makes_on : (r : LockPass) (xs ys : List EntryMark) → IsSamePass p q → SeesOwn p.held p.seen xs q.seen → q.made ≡ raised_by p.made p.caller (length xs) → q.met ≡ p.met
      → MakesAll priority q ys r → MakesAll priority p (xs ++ ys) r
  makes_on r xs ys same seen counted met m = record {
    entries = own_then priority p q r xs ys same seen m.entries;
    counted = m.counted ∙ ((λ i. raised_by (counted i) (same.caller i) (length ys))
        ∙ (raised_by-on p.made p.caller (length xs) (length ys) ∙ ap (raised_by p.made p.caller) (sym (length-append xs ys))));
    met = m.met ∙ met;
  }

module _ (Awaits : LockPass → CallMark → ℕ → Type 0) where
  -- before the first poll
  pub polls_start : (p : LockPass) (number : ℕ) → HasNumber p.held p.caller → Polls Awaits p p number 0
  polls_start p number own = record { same = same_pass p own; entries = own_nothing p; counted = sym (raised_by-none p.made p.caller); met = refl; stays = λ b w. w }

  pub unset_start : (p : LockPass) (number : ℕ) (t : Token) → HasNumber p.held p.caller → PollsUnset Awaits p p number t t
  unset_start p number t own = record {
    count = 0;
    polls = polls_start p number own;
    looked = no_look t;
  }

  module _ (priority : Mark → ℕ) (p q r : LockPass) (number count : ℕ) (a : Polls Awaits p q number count) (same : IsSamePass q r) where
    -- the next call, and all so far
    then_one : (call : CallMark) (m : ReplyMark) → Makes priority q call m r → MakesAll priority p (standing_polls p.caller number count ++ entry p.caller call m ∷ []) r
    then_one call m one =
        let e = entry p.caller (Poll number) (Waiting number) in
        makes_on priority p q r (standing_polls p.caller number count) (entry p.caller call m ∷ []) a.same a.entries
        (a.counted ∙ ap (raised_by p.made p.caller) (sym (length-replicate e count))) a.met
        (subst (λ c. MakesAll priority q (entry c call m ∷ []) r) a.same.caller (makes_one priority q r call m (own_before q r same) one))

    pub polls_on : Makes priority q (Poll number) (Waiting number) r → StaysOpen Awaits q r number → Polls Awaits p r number (suc count)
    polls_on one stays =
        let e = entry p.caller (Poll number) (Waiting number) in
        let all = subst (λ es. MakesAll priority p es r) (replicate-push e count) (then_one (Poll number) (Waiting number) one) in
        record {
          same = same_on p q r a.same same;
          entries = all.entries.seen;
          counted = all.counted ∙ ap (raised_by p.made p.caller) (length-replicate e (suc count));
          met = all.met;
          stays = λ b w. stays b (a.stays b w);
        }

    pub polls_answer : (Answers : CallMark → ReplyMark → Type 0) (m : ReplyMark) → Makes priority q (Poll number) m r → IsAnswer Awaits Answers q number m → PollsToAnswer Awaits priority Answers p r number m
    polls_answer Answers m one answer = record { count = count; all = then_one (Poll number) m one; answer = λ b w. answer b (a.stays b w) }

  -- one look more at the token, which was u and is v
  module _ (priority : Mark → ℕ) (p q r : LockPass) (number : ℕ) (t u v : Token) (a : PollsUnset Awaits p q number t u) (same : IsSamePass q r) (look : v ≡ record u { looks = u.looks + 1; seen = v.seen }) (for_good : u.seen ≡ true → v.seen ≡ true) where
    pub unset_on : v.seen ≡ false → Makes priority q (Poll number) (Waiting number) r → StaysOpen Awaits q r number → PollsUnset Awaits p r number t v
    unset_on unset one stays = record {
      count = suc a.count;
      polls = polls_on priority p q r number a.count a.polls same one stays;
      looked = looks_again t u v a.count a.looked v.seen look for_good unset;
    }

    pub unset_end : (Answers GivesUp : CallMark → ReplyMark → Type 0) (m : ReplyMark) → Makes priority q (last_call v.seen number) m r → IsEnd Awaits Answers GivesUp q number m
        → PollsToEnd Awaits priority Answers GivesUp p r number t v m
    unset_end Answers GivesUp m one end = record {
      count = a.count;
      all = then_one priority p q r number a.count a.polls same (last_call v.seen number) m one;
      looked = looks_out t u v a.count a.looked v.seen look for_good;
      end = λ b w. end b (a.polls.stays b w);
    }

module _ (Awaits : LockPass → CallMark → ℕ → Type 0) (Answers GivesUp : CallMark → ReplyMark → Type 0) (priority : Mark → ℕ) (begin : CallMark) (p q : LockPass) (same : IsSamePass p q) (m : ReplyMark) where
  -- the begin's entry, and then those of the loop
  begins_on : (r : LockPass) (number count : ℕ) (seen : Bool) → Makes priority p begin (Waiting number) q → MakesAll priority q (polls_and_last q.caller number count seen m) r
      → MakesAll priority p (entry p.caller begin (Waiting number) ∷ polls_and_last p.caller number count seen m) r
  begins_on r number count seen one last =
      let first = makes_one priority p q begin (Waiting number) (own_before p q same) one in
      makes_on priority p q r (entry p.caller begin (Waiting number) ∷ []) (polls_and_last p.caller number count seen m) same first.entries.seen first.counted first.met
      (subst (λ c. MakesAll priority q (polls_and_last c number count seen m) r) same.caller last)

  -- a begin that leaves a wait is followed by what ends that
  pub ends_later : (r : LockPass) (number : ℕ) (t u : Token) → Makes priority p begin (Waiting number) q → PollsToEnd Awaits priority Answers GivesUp q r number t u m → WaitsOut priority begin p r m t u
  ends_later r number t u one last = inr (record {
    below_limit = one.below_limit;
    number = number;
    count = last.count;
    all = begins_on r number last.count u.seen one last.all;
    looked = last.looked;
  })

  pub polls_later : (r : LockPass) (number : ℕ) → Makes priority p begin (Waiting number) q → PollsToAnswer Awaits priority Answers q r number m → PollsOut priority begin p r m
  polls_later r number one last = inr (record {
    below_limit = one.below_limit;
    number = number;
    count = last.count;
    all = begins_on r number last.count false one last.all;
  })
