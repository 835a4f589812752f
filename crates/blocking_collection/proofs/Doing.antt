-- What a pass did, call after call.
use Rattle.std.proofs.Common.{◌≡◌, ℕ, ◌+◌, List, [], ◌∷◌, ◌++◌, refl, sym, ap, ◌∙◌, subst, append-nil, length, inl, inr, arith}
use Rattle.std.proofs.Math.ListN.{length-append}
use Rattle.ho_base.specs.Marks.{Mark}
use Rattle.ho_model.specs.declared.marks.CallMark.{CallMark}
use Rattle.ho_model.specs.declared.marks.ReplyMark.{ReplyMark}
use Rattle.ho_model.specs.declared.marks.EntryMark.{EntryMark}
use Rattle.ho_model.specs.declared.objects.Object.{Object}
use Rattle.ho_model.specs.Entries.{entry}
use Rattle.passes.specs.Calls.{IsSamePass, AddsOwn}
use Rattle.passes.specs.Repeats.{Counts}
use Rattle.passes.proofs.Calls.{same_on, own_before, own_none, own_entry, own_then}
use Rattle.passes.proofs.Repeats.{counts_on}
use Rattle.turn_lock.specs.Passes.{LockPass}
use Rattle.turn_lock.specs.Calls.{Makes, LacksMemory}
use Rattle.blocking_core.specs.Kept.{may_want}
use Rattle.blocking_collection.specs.Own.{OwnCall, Answered, HandedBack, entries_by, MayWant, Did, DidOrRests}

-- of calls one after another
entries_append : (caller : ℕ) (xs ys : List OwnCall) → entries_by caller (xs ++ ys) ≡ entries_by caller xs ++ entries_by caller ys
entries_append caller [] ys = refl
entries_append caller (Answered call reply ∷ xs) ys = ap (λ (l : List EntryMark). entry caller call reply ∷ l) (entries_append caller xs ys)
entries_append caller (HandedBack call ∷ xs) ys = entries_append caller xs ys

wants_append : (o : Object) (xs ys : List OwnCall) → MayWant o xs → MayWant o ys → MayWant o (xs ++ ys)
wants_append o [] ys a b = b
wants_append o (Answered call reply ∷ xs) ys a b = wants_append o xs ys a b
wants_append o (HandedBack call ∷ xs) ys a b = (a.0, wants_append o xs ys a.1 b)

module _ (priority : Mark → ℕ) where
  -- a call that made an entry, and one that was handed back
  pub did_step : (p q : LockPass) (call : CallMark) (reply : ReplyMark) → IsSamePass p q → Makes priority p call reply q → Did priority p (Answered call reply ∷ []) q
  did_step p q call reply same s = record {
    some = omega arith;
    below_limit = s.below_limit;
    same = same;
    met = s.one.1.met;
    counted = s.counted;
    wanted = tt;
    owns = own_entry priority p q (entry p.caller call reply) (own_before p q same) s.one;
  }

  pub did_keep : (p q : LockPass) (call : CallMark) → IsSamePass p q → LacksMemory priority may_want p call q → Did priority p (HandedBack call ∷ []) q
  did_keep p q call same k = record {
    some = omega arith;
    below_limit = k.below_limit;
    same = same;
    met = k.met;
    counted = k.counted;
    wanted = (k.wanted, tt);
    owns = own_none priority p q k.no_entry;
  }

  -- one after another
  did_on : (p q r : LockPass) (xs ys : List OwnCall) → Did priority p xs q → Did priority q ys r → Did priority p (xs ++ ys) r
  did_on p q r xs ys a b = record {
    some = let more = a.some in let both = length-append xs ys in omega arith;
    below_limit = a.below_limit;
    same = same_on p q r a.same b.same;
    met = b.met ∙ a.met;
    counted = subst (λ (n : ℕ). Counts n p r) (sym (length-append xs ys)) (counts_on p q r (length xs) (length ys) a.same a.counted b.counted);
    wanted = wants_append p.object xs ys a.wanted (subst (λ (o : Object). MayWant o ys) a.same.object b.wanted);
    owns = subst (λ (l : List EntryMark). AddsOwn priority p l r) (sym (entries_append p.caller xs ys))
        (own_then priority p q r (entries_by p.caller xs) (entries_by p.caller ys) a.same a.owns.seen
        (subst (λ (c : ℕ). AddsOwn priority q (entries_by c ys) r) a.same.caller b.owns));
  }

  -- a pass that has done nothing
  pub rests : (p : LockPass) → DidOrRests priority p [] p
  rests p = inl (refl, refl)

  -- a pass that may have done something, and then did something
  pub did_after : (p q r : LockPass) (xs ys : List OwnCall) → DidOrRests priority p xs q → Did priority q ys r → Did priority p (xs ++ ys) r
  did_after p q r xs ys (inl (none, still)) b = subst (λ (x : List OwnCall × LockPass). Did priority x.1 (x.0 ++ ys) r) (λ i. (sym none i, still i)) b
  did_after p q r xs ys (inr a) b = did_on p q r xs ys a b

  -- or then may have done something
  pub both_on : (p q r : LockPass) (xs ys : List OwnCall) → DidOrRests priority p xs q → DidOrRests priority q ys r → DidOrRests priority p (xs ++ ys) r
  both_on p q r xs ys (inl a) (inl b) = inl ((λ i. a.0 i ++ b.0 i), b.1 ∙ a.1)
  both_on p q r xs ys (inl a) (inr b) = inr (did_after p q r xs ys (inl a) b)
  both_on p q r xs ys (inr a) (inl (none, still)) =
      inr (subst (λ (x : List OwnCall × LockPass). Did priority p x.0 x.1) (λ i. (sym (ap (λ (l : List OwnCall). xs ++ l) none ∙ append-nil xs) i, sym still i)) a)
  both_on p q r xs ys (inr a) (inr b) = inr (did_on p q r xs ys a b)

  pub same_table : (p q : LockPass) (calls : List OwnCall) → DidOrRests priority p calls q → q.table ≡ p.table
  same_table p q calls (inl a) = ap (λ (x : LockPass). x.table) a.1
  same_table p q calls (inr a) = a.same.table
