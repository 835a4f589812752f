-- Tries over members, one after another.
use Rattle.std.proofs.Common.{◌≡◌, ◌≢◌, ℕ, ◌<◌, ◌≤◌, ◌+◌, List, [], ◌∷◌, get_or, set, length, cond, eqb, Bool, true, false, sym, refl, ap, ◌∙◌, subst, arith, eq-eqb, ne_eqb, inl, inr, ◌⊎◌, true≢false}
use Rattle.std.specs.Prelude.{Result, Ok, Err}
use Rattle.std.proofs.lemmas.Bool.{cases_eq}
use Rattle.ho_base.specs.Marks.{Mark}
use Rattle.ho_base.specs.declared.memory.Unpaid.{Unpaid}
use Rattle.ho_model.specs.declared.marks.ReplyMark.TheVariants.{Done, Closed, Item}
use Rattle.turn_lock.specs.Passes.{LockPass}
use Rattle.blocking_collection.specs.declared.any_add.AnyAdd.{AnyAdd}
use Rattle.blocking_collection.specs.declared.any_add.AnyAdd.TheVariants as add
use Rattle.blocking_collection.specs.declared.any_take.AnyTake.{AnyTake}
use Rattle.blocking_collection.specs.declared.any_take.AnyTake.TheVariants as take
use Rattle.blocking_collection.specs.Own.{OwnCall, Did, added, unpaid_add, taken, asked}
use Rattle.blocking_collection.specs.Several.{AllDid, round, still_open, full, no_item, Adds, TriedAdd, TriedTake}
use Rattle.blocking_collection.proofs.Places.{all_on, all_same, round_on, round_start, round_end, same_round}

same_empty : (xs ys : List LockPass) → length xs ≡ 0 → length ys ≡ 0 → xs ≡ ys
same_empty [] [] a b = refl
same_empty (x ∷ xs) ys a b = absurd (omega arith)
same_empty [] (y ∷ ys) a b = absurd (omega arith)

within : {k : ℕ} (old mid : List LockPass) → length mid ≡ length old → k < length mid → k < length old
within {k} old mid same lt = subst (λ (n : ℕ). k < n) same lt

module _ (pr : Mark → ℕ) {T : Type 0} (mark : T → Mark) (x : T) where
  -- all are open, and then they are tried
  pub tried : (old mid new : List LockPass) (r : Result (AnyAdd T) (Unpaid T)) → 0 < length old → AllDid pr old (λ j. still_open j ∷ []) mid → Adds pr mark x mid new r → TriedAdd pr mark x [] old new r
  tried old mid new (Ok (add.Index i)) some a b = (within old mid a.size b.0, all_on pr old mid new (λ j. still_open j ∷ []) (round i (full (mark x)) (added (mark x) Done ∷ [])) a b.1)
  tried old mid new (Ok (add.Closed i y)) some a b = (b.0, within old mid a.size b.1, inr (all_on pr old mid new (λ j. still_open j ∷ []) (round i (full (mark x)) (added (mark x) Closed ∷ [])) a b.2))
  tried old mid new (Ok (add.NoneUsed y)) some a b = (b.0, some, all_on pr old mid new (λ j. still_open j ∷ []) (λ j. full (mark x) j ∷ []) a b.1)
  tried old mid new (Ok (add.NoCollection y)) some a b = absurd b
  tried old mid new (Ok (add.Cancelled y)) some a b = absurd b
  tried old mid new (Err u) some a b = (b.0, b.1, within old mid a.size b.2, all_on pr old mid new (λ j. still_open j ∷ []) (round b.1 (full (mark x)) (unpaid_add (mark x) ∷ [])) a b.3)

  -- a try after others
  pub after : (before : List OwnCall) (old mid new : List LockPass) (r : Result (AnyAdd T) (Unpaid T)) → AllDid pr old (λ j. before) mid → TriedAdd pr mark x [] mid new r → TriedAdd pr mark x before old new r
  after before old mid new (Ok (add.Index i)) a b = (within old mid a.size b.0, all_on pr old mid new (λ j. before) (λ j. still_open j ∷ round i (full (mark x)) (added (mark x) Done ∷ []) j) a b.1)
  after before old mid new (Ok (add.Closed i y)) a (same, lt, inl d) = (same, within old mid a.size lt, inl (all_on pr old mid new (λ j. before) (round i still_open (asked true ∷ [])) a d))
  after before old mid new (Ok (add.Closed i y)) a (same, lt, inr d) = (same, within old mid a.size lt, inr (all_on pr old mid new (λ j. before) (λ j. still_open j ∷ round i (full (mark x)) (added (mark x) Closed ∷ []) j) a d))
  after before old mid new (Ok (add.NoneUsed y)) a b = (b.0, within old mid a.size b.1, all_on pr old mid new (λ j. before) (λ j. still_open j ∷ full (mark x) j ∷ []) a b.2)
  after before old mid new (Ok (add.NoCollection y)) a b = let none = sym a.size ∙ b.1.0 in (b.0, (none, b.1.1 ∙ same_empty mid old b.1.0 none))
  after before old mid new (Ok (add.Cancelled y)) a b = absurd b
  after before old mid new (Err u) a b = (b.0, b.1, within old mid a.size b.2, all_on pr old mid new (λ j. before) (λ j. still_open j ∷ round b.1 (full (mark x)) (unpaid_add (mark x) ∷ []) j) a b.3)

  pub told : (mid new : List LockPass) (y : T) (z : T) (f v : AnyAdd T) → z ≡ y → f ≡ v → TriedAdd pr mark z [] mid new (Ok f) → TriedAdd pr mark y [] mid new (Ok v)
  told mid new y z f v same is t = subst (λ (w : T). TriedAdd pr mark w [] mid new (Ok v)) same (subst (λ (w : AnyAdd T). TriedAdd pr mark z [] mid new (Ok w)) is t)

module _ (pr : Mark → ℕ) {T : Type 0} (mark : T → Mark) where
  pub take_after : (before : ℕ → List OwnCall) (old mid new : List LockPass) (r : AnyTake T) → AllDid pr old before mid → TriedTake pr mark (λ j. []) mid new r → TriedTake pr mark before old new r
  take_after before old mid new take.NoCollection a b = let none = sym a.size ∙ b.0 in (none, b.1 ∙ same_empty mid old b.0 none)
  take_after before old mid new (take.Index i y) a b = (b.0, within old mid a.size b.1, all_on pr old mid new before (round i (λ k. no_item k (b.0 k)) (taken (Item (mark y)) ∷ [])) a b.2)
  take_after before old mid new take.NoneUsed a b = (b.0, b.1, within old mid a.size b.2, b.3, all_on pr old mid new before (λ j. no_item j (b.0 j) ∷ []) a b.4)
  take_after before old mid new take.Ended a b = (within old mid a.size b.0, all_on pr old mid new before (λ j. no_item j true ∷ []) a b.1)
  take_after before old mid new take.Cancelled a b = absurd b

-- what is known while the places before k were tried: each had no item, and whether all of them had ended
abbrev pub Taking : (Mark → ℕ) → List LockPass → ℕ → Bool → List LockPass → Type 0
Taking priority old k all new = (ended : ℕ → Bool) × AllDid priority old (round k (λ j. no_item j (ended j)) []) new
    × (all ≡ true → (j : ℕ) → j < k → ended j ≡ true) × (all ≡ false → (i : ℕ) × (i < k) × (ended i ≡ false))

module _ (pr : Mark → ℕ) where
  -- takes, place by place
  pub taking_start : (ps : List LockPass) → Taking pr ps 0 true ps
  taking_start ps = ((λ j. true), round_start pr ps (λ j. no_item j true), (λ e j lt. refl), (λ e. absurd (true≢false e)))

  abbrev put : (ℕ → Bool) → ℕ → Bool → ℕ → Bool
  put f k b j = cond (eqb j k) b (f j)

  put_here : (f : ℕ → Bool) (k : ℕ) (b : Bool) → put f k b k ≡ b
  put_here f k b = rw (eq-eqb k k refl) refl

  put_else : (f : ℕ → Bool) (k : ℕ) (b : Bool) (j : ℕ) → j ≢ k → put f k b j ≡ f j
  put_else f k b j ne = rw (ne_eqb j k ne) refl

  did_put : (old mid : List LockPass) (k : ℕ) (d q : LockPass) (f : ℕ → Bool) (b : Bool) → AllDid pr old (round k (λ j. no_item j (f j)) []) mid → k < length old → Did pr (get_or mid k d) (no_item k b ∷ []) q
      → AllDid pr old (round (k + 1) (λ j. no_item j (put f k b j)) []) (set mid k q)
  did_put old mid k d q f b a lt did =
      round_on pr old mid k d q (λ j. no_item j (put f k b j))
      (all_same pr old mid (round k (λ j. no_item j (f j)) []) (round k (λ j. no_item j (put f k b j)) [])
      (λ j l. same_round pr k j (λ j. no_item j (put f k b j)) (λ j. no_item j (f j)) (λ lt. ap (no_item j) (put_else f k b j (λ e. omega arith)))) a)
      lt (subst (λ (c : Bool). Did pr (get_or mid k d) (no_item k c ∷ []) q) (sym (put_here f k b)) did)

  pub taking_empty : (old mid : List LockPass) (k : ℕ) (d q : LockPass) (all : Bool) → Taking pr old k all mid → k < length old → Did pr (get_or mid k d) (no_item k false ∷ []) q → Taking pr old (k + 1) false (set mid k q)
  taking_empty old mid k d q all t lt did = (put t.0 k false, did_put old mid k d q t.0 false t.1 lt did, (λ e. absurd (true≢false (sym e))), (λ e. (k, omega arith, put_here t.0 k false)))

  pub taking_ended : (old mid : List LockPass) (k : ℕ) (d q : LockPass) (all : Bool) → Taking pr old k all mid → k < length old → Did pr (get_or mid k d) (no_item k true ∷ []) q → Taking pr old (k + 1) all (set mid k q)
  taking_ended old mid k d q all t lt did = (put t.0 k true, did_put old mid k d q t.0 true t.1 lt did, (λ e j l. ended e j l (cases_eq j k)), (λ e. empty (t.3 e)))
    where
      ended : all ≡ true → (j : ℕ) → j < k + 1 → (j ≡ k) ⊎ (j ≢ k) → put t.0 k true j ≡ true
      ended e j l (inl is) = subst (λ (z : ℕ). put t.0 k true z ≡ true) (sym is) (put_here t.0 k true)
      ended e j l (inr ne) = put_else t.0 k true j ne ∙ t.2 e j (omega arith)

      empty : (i : ℕ) × (i < k) × (t.0 i ≡ false) → (i : ℕ) × (i < k + 1) × (put t.0 k true i ≡ false)
      empty h = (h.0, omega (arith, h.1), put_else t.0 k true h.0 (λ e. omega (arith, h.1)) ∙ h.2)

  pub taken_all : (old new : List LockPass) (n : ℕ) → length old ≤ n → Taking pr old n true new → AllDid pr old (λ j. no_item j true ∷ []) new
  taken_all old new n le t =
      all_same pr old new (λ j. no_item j (t.0 j) ∷ []) (λ j. no_item j true ∷ []) (λ j lt. ap (λ (b : Bool). no_item j b ∷ []) (sym (t.2 refl j (omega arith))))
      (round_end pr old new n (λ j. no_item j (t.0 j)) le t.1)

  pub taken_none : (old new : List LockPass) (n : ℕ) → n ≡ length old → Taking pr old n false new → (ended : ℕ → Bool) × (i : ℕ) × (i < length old) × (ended i ≡ false) × AllDid pr old (λ j. no_item j (ended j) ∷ []) new
  taken_none old new n is t = let h = t.3 refl in (t.0, h.0, omega (arith, h.1), h.2, round_end pr old new n (λ j. no_item j (t.0 j)) (omega arith) t.1)
