-- Flags, one of which changes, and the flags and counts of two passes made one.
use Rattle.std.proofs.Common.{◌≡◌, ◌≢◌, ℕ, suc, zero, ◌+◌, ◌-◌, ◌*◌, ◌^◌, ◌<◌, ◌≤◌, List, [], ◌∷◌, ◌++◌, length, get_or, set, Bool, true, false, sym, refl, ap, ◌∙◌, subst, arith, cond, true≢false, replicate, get_or-set_other, get_or-set_same}
use Rattle.std.specs.List.{sum}
use Rattle.std.proofs.lemmas.List.Sums.{sum_by-cons, sum_by-set}
use mathlib.Core.Logic.{dite}
use native.Mathlib.Decide.{ℕ_discrete}
use Rattle.passes.specs.Numbers.{HasNumber, HasAll, AreApart, held_count, only, first_held, give, held_both, made_both, raised}

pub by_flag : {T : Type 0} (b : Bool) → (b ≡ true → T) → (b ≡ false → T) → T
by_flag true f g = f refl
by_flag false f g = g refl

cond_same : {A : Type 0} (b : Bool) (x : A) → cond b x x ≡ x
cond_same true x = refl
cond_same false x = refl

pub not_held : (held : List Bool) (c : ℕ) → ¬ HasNumber held c → get_or held c false ≡ false
not_held held c not = by_flag (get_or held c false) (λ up. absurd (not up)) (λ down. down)

-- two lists that agree at each place are one
pub list_same : {A : Type 0} (d : A) (a b : List A) → length a ≡ length b → ((k : ℕ) → k < length a → get_or a k d ≡ get_or b k d) → a ≡ b
list_same d [] [] e f = refl
list_same d [] (y ∷ ys) e f = absurd (omega arith)
list_same d (x ∷ xs) [] e f = absurd (omega arith)
list_same d (x ∷ xs) (y ∷ ys) e f = let h : x ≡ y = f 0 (omega arith) in let t : xs ≡ ys = list_same d xs ys (omega arith) (λ k lt. f (suc k) (omega arith)) in λ i. h i ∷ t i

-- a flag that goes up or down
pub flag_else : (held : List Bool) (c d : ℕ) → d ≢ c → (b : Bool) → get_or (set held c b) d false ≡ get_or held d false
flag_else held c d ne b = get_or-set_other held c d b false ne

pub flag_down : (held : List Bool) (c : ℕ) → get_or (give held c) c false ≡ false
flag_down [] c = refl
flag_down (b ∷ bs) zero = refl
flag_down (b ∷ bs) (suc c) = flag_down bs c

pub flag_none : (n c : ℕ) → get_or (replicate n false) c false ≡ false
flag_none zero c = refl
flag_none (suc n) zero = refl
flag_none (suc n) (suc c) = flag_none n c

-- one number alone holds no other
pub only_one : (c d : ℕ) → HasNumber (only c) d → d ≡ c
only_one c d has = dite (ℕ_discrete d c) (λ e. e) (λ ne. absurd (true≢false (sym has ∙ (flag_else (replicate 64 false) c d ne true ∙ flag_none 64 d))))

pub only_has : (c : ℕ) → c < 64 → HasNumber (only c) c
only_has c low = get_or-set_same (replicate 64 false) c true false low

-- what is held after c was given away was held, and is not c
pub down_held : (held : List Bool) (c d : ℕ) → HasNumber (give held c) d → (d ≢ c) × HasNumber held d
down_held held c d has = dite (ℕ_discrete d c)
    (λ (is : d ≡ c). absurd (gone is))
    (λ (ne : d ≢ c). (ne, sym (flag_else held c d ne false) ∙ has))
  where
    gone : d ≡ c → ⊥
    gone is = true≢false (sym has ∙ (ap (λ (z : ℕ). get_or (give held c) z false) is ∙ flag_down held c))

-- the numbers of two passes
pub held_both_at : (xs ys : List Bool) (c : ℕ) → get_or (held_both xs ys) c false ≡ cond (get_or ys c false) true (get_or xs c false)
held_both_at [] ys c = or_false (get_or ys c false)
  where
    or_false : (b : Bool) → b ≡ cond b true false
    or_false true = refl
    or_false false = refl
held_both_at (x ∷ xs) [] c = refl
held_both_at (x ∷ xs) (y ∷ ys) zero = refl
held_both_at (x ∷ xs) (y ∷ ys) (suc c) = held_both_at xs ys c

pub held_both_length : (xs ys : List Bool) → length xs ≡ length ys → length (held_both xs ys) ≡ length xs
held_both_length [] [] e = refl
held_both_length [] (y ∷ ys) e = absurd (omega arith)
held_both_length (x ∷ xs) [] e = refl
held_both_length (x ∷ xs) (y ∷ ys) e = ap suc (held_both_length xs ys (omega arith))

pub both_left : (xs ys : List Bool) (c : ℕ) → HasNumber xs c → HasNumber (held_both xs ys) c
both_left xs ys c has = held_both_at xs ys c ∙ (ap (λ (b : Bool). cond (get_or ys c false) true b) has ∙ cond_same (get_or ys c false) true)

pub both_right : (xs ys : List Bool) (c : ℕ) → HasNumber ys c → HasNumber (held_both xs ys) c
both_right xs ys c has = held_both_at xs ys c ∙ ap (λ (b : Bool). cond b true (get_or xs c false)) has

-- a number of both that the second lacks is the first's
pub both_up : (xs ys : List Bool) (c : ℕ) → HasNumber (held_both xs ys) c → get_or ys c false ≡ false → HasNumber xs c
both_up xs ys c has down = ap (λ (b : Bool). cond b true (get_or xs c false)) (sym down) ∙ (sym (held_both_at xs ys c) ∙ has)

pub made_both_at : (bs : List Bool) (xs ys : List ℕ) (c : ℕ) → length xs ≡ length ys → get_or (made_both bs xs ys) c 0 ≡ cond (get_or bs c false) (get_or ys c 0) (get_or xs c 0)
made_both_at [] xs ys c e = refl
made_both_at (b ∷ bs) [] [] c e = sym (cond_same (get_or (b ∷ bs) c false) 0)
made_both_at (b ∷ bs) [] (y ∷ ys) c e = absurd (omega arith)
made_both_at (b ∷ bs) (x ∷ xs) [] c e = absurd (omega arith)
made_both_at (b ∷ bs) (x ∷ xs) (y ∷ ys) zero e = refl
made_both_at (b ∷ bs) (x ∷ xs) (y ∷ ys) (suc c) e = made_both_at bs xs ys c (omega arith)

pub made_both_length : (bs : List Bool) (xs ys : List ℕ) → length (made_both bs xs ys) ≡ length xs
made_both_length [] xs ys = refl
made_both_length (b ∷ bs) [] ys = refl
made_both_length (b ∷ bs) (x ∷ xs) [] = refl
made_both_length (b ∷ bs) (x ∷ xs) (y ∷ ys) = ap suc (made_both_length bs xs ys)

-- the count of a caller, when one call more of it is counted
module _ (made : List ℕ) (c : ℕ) (inside : c < length made) where
  pub raised_here : get_or (raised made c) c 0 ≡ get_or made c 0 + 1
  raised_here = get_or-set_same made c (get_or made c 0 + 1) 0 inside

  pub raised_else : (d : ℕ) → d ≢ c → get_or (raised made c) d 0 ≡ get_or made d 0
  raised_else d ne = get_or-set_other made c d (get_or made c 0 + 1) 0 ne

  pub raised_each : (most : ℕ) → ((d : ℕ) → get_or made d 0 ≤ most) → get_or made c 0 < most → (d : ℕ) → get_or (raised made c) d 0 ≤ most
  raised_each most each below d = dite (ℕ_discrete d c)
      (λ e. subst (λ (z : ℕ). get_or (raised made c) z 0 ≤ most) (sym e) (let a = raised_here in omega arith))
      (λ ne. subst (λ (z : ℕ). z ≤ most) (sym (raised_else d ne)) (each d))

  pub sum-raised : sum (raised made c) ≡ sum made + 1
  sum-raised = let a = sum_by-set (λ (x : ℕ). x) made c (get_or made c 0 + 1) 0 inside in omega arith

-- a sum of counts of which each is bounded, at the two bounds that objects have
pub sum-bound : (made : List ℕ) → ((c : ℕ) → get_or made c 0 ≤ 2 ^ 48) → sum made ≤ length made * 2 ^ 48
sum-bound [] h = omega arith
sum-bound (x ∷ xs) h = let a : x ≤ 2 ^ 48 = h 0 in let b = sum-bound xs (λ c. h (suc c)) in let e = sum_by-cons (λ (y : ℕ). y) x xs in omega arith

pub sum-bound_37 : (made : List ℕ) → ((c : ℕ) → get_or made c 0 ≤ 2 ^ 37) → sum made ≤ length made * 2 ^ 37
sum-bound_37 [] h = omega arith
sum-bound_37 (x ∷ xs) h = let a : x ≤ 2 ^ 37 = h 0 in let b = sum-bound_37 xs (λ c. h (suc c)) in let e = sum_by-cons (λ (y : ℕ). y) x xs in omega arith

-- how many numbers are held
held_count-cons : (b : Bool) (bs : List Bool) → held_count (b ∷ bs) ≡ cond b 1 0 + held_count bs
held_count-cons b bs = sum_by-cons (λ (flag : Bool). cond flag 1 0) b bs

some_flag : (xs : List Bool) → 0 < held_count xs → (c : ℕ) × (c < length xs) × HasNumber xs c
some_flag [] h = absurd (omega arith)
some_flag (true ∷ xs) h = (0, omega arith, refl)
some_flag (false ∷ xs) h = let e = held_count-cons false xs in let t = some_flag xs (omega arith) in (suc t.0, (let a = t.1 in omega arith), t.2)

-- of two numbers held one is not the given one
pub other_flag : (xs : List Bool) (k : ℕ) → 1 < held_count xs → (c : ℕ) × (c < length xs) × HasNumber xs c × (c ≢ k)
other_flag [] k h = absurd (omega arith)
other_flag (true ∷ xs) zero h = let e = held_count-cons true xs in let t = some_flag xs (omega arith) in (suc t.0, (let a = t.1 in omega arith), t.2, λ e. omega arith)
other_flag (false ∷ xs) zero h = let e = held_count-cons false xs in let t = some_flag xs (omega arith) in (suc t.0, (let a = t.1 in omega arith), t.2, λ e. omega arith)
other_flag (true ∷ xs) (suc k) h = (0, omega arith, refl, λ e. omega arith)
other_flag (false ∷ xs) (suc k) h = let e = held_count-cons false xs in let t = other_flag xs k (omega arith) in (suc t.0, (let a = t.1 in omega arith), t.2, λ e. t.3 (omega arith))

-- whoever holds a number holds at least one
pub held_count-some : (xs : List Bool) (c : ℕ) → HasNumber xs c → 0 < held_count xs
held_count-some [] c h = absurd (true≢false (sym h))
held_count-some (true ∷ xs) zero h = let e = held_count-cons true xs in omega arith
held_count-some (false ∷ xs) zero h = absurd (true≢false (sym h))
held_count-some (x ∷ xs) (suc c) h = let e = held_count-cons x xs in let t = held_count-some xs c h in omega arith

-- a number given away is one less
pub held_count-give : (xs : List Bool) (c : ℕ) → HasNumber xs c → held_count (give xs c) + 1 ≡ held_count xs
held_count-give [] c h = absurd (true≢false (sym h))
held_count-give (true ∷ xs) zero h = let e = held_count-cons true xs in let f = held_count-cons false xs in omega arith
held_count-give (false ∷ xs) zero h = absurd (true≢false (sym h))
held_count-give (x ∷ xs) (suc c) h = let e = held_count-cons x xs in let f = held_count-cons x (give xs c) in let t = held_count-give xs c h in omega arith

held_count-none : (n : ℕ) → held_count (replicate n false) ≡ 0
held_count-none zero = refl
held_count-none (suc n) = let e = held_count-cons false (replicate n false) in let t = held_count-none n in omega arith

held_count-up : (n c : ℕ) → c < n → held_count (set (replicate n false) c true) ≡ 1
held_count-up zero c h = absurd (omega arith)
held_count-up (suc n) zero h = let e = held_count-cons true (replicate n false) in let t = held_count-none n in omega arith
held_count-up (suc n) (suc c) h = let e = held_count-cons false (set (replicate n false) c true) in let t = held_count-up n c (omega arith) in omega arith

pub held_count-only : (c : ℕ) → c < 64 → held_count (only c) ≡ 1
held_count-only c low = held_count-up 64 c low

held_count-run : (n m : ℕ) → held_count (replicate n true ++ replicate m false) ≡ n
held_count-run zero m = held_count-none m
held_count-run (suc n) m = let e = held_count-cons true (replicate n true ++ replicate m false) in let t = held_count-run n m in omega arith

pub held_count-first : (n : ℕ) → held_count (first_held n) ≡ n
held_count-first n = held_count-run n (64 - n)

-- where no number is in both, the counts add up
pub held_count-both : (xs ys : List Bool) → AreApart xs ys → held_count (held_both xs ys) ≡ held_count xs + held_count ys
held_count-both [] ys apart = omega arith
held_count-both (x ∷ xs) [] apart = omega arith
held_count-both (x ∷ xs) (y ∷ ys) apart =
    let e = held_count-cons x xs in let f = held_count-cons y ys in let g = held_count-cons (cond y true x) (held_both xs ys) in
    let t = held_count-both xs ys (λ c up down. apart (suc c) up down) in let a = one_flag x y (apart 0) in omega arith
  where
    one_flag : (x y : Bool) → (x ≡ true → ¬ (y ≡ true)) → cond (cond y true x) 1 0 ≡ cond x 1 0 + cond y 1 0
    one_flag true true h = absurd (h refl refl)
    one_flag true false h = refl
    one_flag false true h = refl
    one_flag false false h = refl

-- numbers below n are no more than n, and n of them are all
count_below : (n : ℕ) (xs : List Bool) → ((c : ℕ) → HasNumber xs c → c < n) → held_count xs ≤ n
count_below n [] below = omega arith
count_below zero (true ∷ xs) below = let no = below 0 refl in absurd (omega arith)
count_below zero (false ∷ xs) below = let e = held_count-cons false xs in let t = count_below zero xs (λ c has. let no = below (suc c) has in absurd (omega arith)) in omega arith
count_below (suc n) (x ∷ xs) below = let e = held_count-cons x xs in let t = count_below n xs (λ c has. let lt = below (suc c) has in omega arith) in let b = one x in omega arith
  where
    one : (b : Bool) → cond b 1 0 ≤ 1
    one true = omega arith
    one false = omega arith

pub whole_by_count : (n : ℕ) (xs : List Bool) → held_count xs ≡ n → ((c : ℕ) → HasNumber xs c → c < n) → HasAll n xs
whole_by_count n [] count below c lt = absurd (omega arith)
whole_by_count zero (x ∷ xs) count below c lt = absurd (omega arith)
whole_by_count (suc n) (true ∷ xs) count below zero lt = refl
whole_by_count (suc n) (true ∷ xs) count below (suc c) lt =
    let e = held_count-cons true xs in whole_by_count n xs (omega arith) (λ d has. let l = below (suc d) has in omega arith) c (omega arith)
whole_by_count (suc n) (false ∷ xs) count below c lt =
    let e = held_count-cons false xs in let t = count_below n xs (λ d has. let l = below (suc d) has in omega arith) in absurd (omega arith)

-- counts that are nowhere less than others add up to no less
pub sum-le : (xs ys : List ℕ) → length xs ≤ length ys → ((c : ℕ) → c < length xs → get_or xs c 0 ≤ get_or ys c 0) → sum xs ≤ sum ys
sum-le [] ys short less = omega arith
sum-le (x ∷ xs) [] short less = absurd (omega arith)
sum-le (x ∷ xs) (y ∷ ys) short less =
    let a = sum_by-cons (λ (n : ℕ). n) x xs in let b = sum_by-cons (λ (n : ℕ). n) y ys in let h : x ≤ y = less 0 (omega arith) in
    let t = sum-le xs ys (omega arith) (λ c lt. less (suc c) (omega arith)) in omega arith

-- flags that go up one after another
up : (i l : ℕ) → set (replicate i true ++ replicate (suc l) false) i true ≡ replicate (suc i) true ++ replicate l false
up zero l = refl
up (suc i) l = ap (λ (xs : List Bool). true ∷ xs) (up i l)

pub one_more : (i n : ℕ) → i < n → set (replicate i true ++ replicate (n - i) false) i true ≡ replicate (i + 1) true ++ replicate (n - (i + 1)) false
one_more i n h =
    let l : ℕ = n - (i + 1) in let e : n - i ≡ suc l = omega arith in let f : suc i ≡ i + 1 = omega arith in
    ap (λ (k : ℕ). set (replicate i true ++ replicate k false) i true) e ∙ (up i l ∙ ap (λ (k : ℕ). replicate k true ++ replicate l false) f)
