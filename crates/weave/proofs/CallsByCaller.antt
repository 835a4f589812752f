-- The calls of each caller in a history, and a history without the first call of one.
use Rattle.std.proofs.Common.{◌≡◌, ◌≢◌, ◌⊎◌, inl, inr, ◌++◌, ◌∙◌, ℕ, zero, suc, List, [], ◌∷◌, set, slice_get, Some, eqb, cond, refl, sym, ap, subst, eq-eqb}
use mathlib.Core.Logic.{dite}
use native.Mathlib.Decide.{ℕ_discrete}
use Rattle.std.proofs.lemmas.Bool.{ne_eqb}
use Rattle.std.proofs.lemmas.Option.{same_Some, none-some}
use Rattle.ho_base.specs.declared.receipts.Receipt.{Receipt}
use Rattle.weave.specs.declared.made.Made.{Made}
use Rattle.weave.specs.Order.{EachTold}
use Rattle.weave.specs.Parts.{PartMade, Told, made_by, OfDifferentCallers, HasParts}

-- 1. The calls of one caller
pub made_own : (c : ℕ) (t : Told) (ts : List Told) → t.caller ≡ c → made_by c (t ∷ ts) ≡ t.made ∷ made_by c ts
made_own c t ts is = ap (λ b. cond b (t.made ∷ made_by c ts) (made_by c ts)) (eq-eqb t.caller c is)

pub made_other : (c : ℕ) (t : Told) (ts : List Told) → t.caller ≢ c → made_by c (t ∷ ts) ≡ made_by c ts
made_other c t ts ne = ap (λ b. cond b (t.made ∷ made_by c ts) (made_by c ts)) (ne_eqb t.caller c ne)

-- what follows from the calls of the rest follows with one more call before both
pub made_behind : (c : ℕ) (t : Told) (xs ys : List Told) → made_by c xs ≡ made_by c ys → made_by c (t ∷ xs) ≡ made_by c (t ∷ ys)
made_behind c t xs ys same = ap (λ (l : List Made). cond (eqb t.caller c) (t.made ∷ l) l) same

-- the calls of one caller in a list that begins with those of another
pub made_after : (c : ℕ) (front xs ys : List Told) → made_by c xs ≡ made_by c ys → made_by c (front ++ xs) ≡ made_by c (front ++ ys)
made_after c [] xs ys same = same
made_after c (t ∷ front) xs ys same = made_behind c t (front ++ xs) (front ++ ys) (made_after c front xs ys same)

-- the first call of a caller, once it stands before all others
pub made_first : (k : ℕ) (t : Told) (front back : List Told) → made_by t.caller front ≡ [] → made_by k (front ++ t ∷ back) ≡ made_by k (t ∷ front ++ back)
made_first k t [] back none = refl
made_first k t (x ∷ front) back none = dite (ℕ_discrete x.caller t.caller)
    (λ (is : x.caller ≡ t.caller). let no : x.made ∷ made_by t.caller front ≡ [] = sym (made_own t.caller x front is) ∙ none in absurd (cc))
    (λ (ne : x.caller ≢ t.caller).
    let fewer = made_first k t front back (sym (made_other t.caller x front ne) ∙ none) in
    made_behind k x (front ++ t ∷ back) (t ∷ front ++ back) fewer ∙ swapped x ne)
  where
    swapped : (x : Told) → x.caller ≢ t.caller → made_by k (x ∷ t ∷ front ++ back) ≡ made_by k (t ∷ x ∷ front ++ back)
    swapped x ne = dite (ℕ_discrete x.caller k)
        (λ (is : x.caller ≡ k).
        let other : t.caller ≢ k = λ e. ne (is ∙ sym e) in
        made_behind k x (t ∷ front ++ back) (front ++ back) (made_other k t (front ++ back) other) ∙ sym (made_other k t (x ∷ front ++ back) other))
        (λ (not : x.caller ≢ k). made_other k x (t ∷ front ++ back) not ∙ made_behind k t (front ++ back) (x ∷ front ++ back) (sym (made_other k x (front ++ back) not)))

-- 2. The first call of a caller, taken out of a history
pub record FirstOf (c : ℕ) (m : Made) (ms : List Made) (told : List Told) : Type 0 where
  pub front : List Told
  pub back : List Told
  pub is : told ≡ front ++ record { caller = c; made = m } ∷ back
  pub none : made_by c front ≡ []
  pub own : made_by c (front ++ back) ≡ ms
  pub others : (k : ℕ) → c ≢ k → made_by k (front ++ back) ≡ made_by k told

pub first_of : (c : ℕ) (m : Made) (ms : List Made) (told : List Told) → made_by c told ≡ m ∷ ms → FirstOf c m ms told
first_of c m ms [] h = let no : [] ≡ m ∷ ms = h in absurd (cc)
first_of c m ms (t ∷ ts) h = dite (ℕ_discrete t.caller c)
    (λ (is : t.caller ≡ c).
    let both : t.made ∷ made_by c ts ≡ m ∷ ms = sym (made_own c t ts is) ∙ h in
    let made : t.made ≡ m = cc in
    let rest : made_by c ts ≡ ms = cc in
    let same : t ≡ record { caller = c; made = m } = λ i. record { caller = is i; made = made i } in
    record {
      front = [];
      back = ts;
      is = ap (λ (x : Told). x ∷ ts) same;
      none = refl;
      own = rest;
      others = λ k ne. sym (made_other k t ts (λ e. ne (sym is ∙ e)));
    })
    (λ (ne : t.caller ≢ c).
    let f = first_of c m ms ts (sym (made_other c t ts ne) ∙ h) in record {
      front = t ∷ f.front;
      back = f.back;
      is = ap (λ (l : List Told). t ∷ l) f.is;
      none = made_other c t f.front ne ∙ f.none;
      own = made_other c t (f.front ++ f.back) ne ∙ f.own;
      others = λ k not. made_behind k t (f.front ++ f.back) ts (f.others k not);
    })

-- 3. What holds of the receipt of each call
abbrev pub EachMade : (Receipt → Type 0) → List Made → Type 0
EachMade P [] = Unit {0}
EachMade P (m ∷ ms) = P m.receipt × EachMade P ms

pub each_made : (P : Receipt → Type 0) (ts : List Told) (c : ℕ) → EachTold P ts → EachMade P (made_by c ts)
each_made P [] c h = tt
each_made P (t ∷ ts) c h = dite (ℕ_discrete t.caller c)
    (λ (is : t.caller ≡ c). subst (EachMade P) (sym (made_own c t ts is)) (h.0, each_made P ts c h.1))
    (λ (ne : t.caller ≢ c). subst (EachMade P) (sym (made_other c t ts ne)) (each_made P ts c h.1))

pub each_told : (P : Receipt → Type 0) (ts : List Told) → ((c : ℕ) → EachMade P (made_by c ts)) → EachTold P ts
each_told P [] h = tt
each_told P (t ∷ ts) h =
    let here : EachMade P (t.made ∷ made_by t.caller ts) = subst (EachMade P) (made_own t.caller t ts refl) (h t.caller) in (
      here.0,
      each_told P ts (λ c. dite (ℕ_discrete t.caller c)
          (λ (is : t.caller ≡ c). let own : EachMade P (t.made ∷ made_by c ts) = subst (EachMade P) (made_own c t ts is) (h c) in own.1)
          (λ (ne : t.caller ≢ c). subst (EachMade P) (made_other c t ts ne) (h c))),
    )

pub each_front : (P : Receipt → Type 0) (xs ys : List Told) → EachTold P (xs ++ ys) → EachTold P xs
each_front P [] ys h = tt
each_front P (x ∷ xs) ys h = (h.0, each_front P xs ys h.1)

-- 4. The parts of a history
pub part_at : (parts : List PartMade) (c : ℕ) → ((i : ℕ) × (p : PartMade) × (slice_get parts i ≡ Some p) × (p.caller ≡ c)) ⊎ ((i : ℕ) (p : PartMade) → slice_get parts i ≡ Some p → p.caller ≢ c)
part_at [] c = inr (λ i p at e. none-some p at)
part_at (q ∷ parts) c = dite (ℕ_discrete q.caller c)
    (λ (is : q.caller ≡ c). inl (0, q, refl, is))
    (λ (ne : q.caller ≢ c). elim (part_at parts c) [ inl h ↦ inl (suc h.0, h.1, h.2, h.3) | inr lone ↦ inr (none_more q parts c ne lone) ])
  where
    none_more : (q : PartMade) (parts : List PartMade) (c : ℕ) → q.caller ≢ c → ((i : ℕ) (p : PartMade) → slice_get parts i ≡ Some p → p.caller ≢ c) → (i : ℕ) (p : PartMade) → slice_get (q ∷ parts) i ≡ Some p → p.caller ≢ c
    none_more q parts c ne lone zero p at e = ne (ap (λ (x : PartMade). x.caller) (same_Some q p at) ∙ e)
    none_more q parts c ne lone (suc i) p at e = lone i p at e

-- the first call of a history is the first of a part
pub begins_a_part : (parts : List PartMade) (t : Told) (ts : List Told) → HasParts parts (t ∷ ts)
    → (i : ℕ) × (p : PartMade) × (slice_get parts i ≡ Some p) × (p.caller ≡ t.caller) × (p.made ≡ t.made ∷ made_by t.caller ts)
begins_a_part parts t ts has = elim (part_at parts t.caller) [
  | inl h ↦ (h.0, h.1, h.2, h.3, sym (has.each h.0 h.1 h.2) ∙ (ap (λ c. made_by c (t ∷ ts)) h.3 ∙ made_own t.caller t ts refl))
  | inr lone ↦ (let none : t.made ∷ made_by t.caller ts ≡ [] = sym (made_own t.caller t ts refl) ∙ has.only t.caller lone in absurd (cc))
]

-- each call is one of some part
pub each_of_parts : (P : Receipt → Type 0) (parts : List PartMade) (ts : List Told) → HasParts parts ts → ((i : ℕ) (p : PartMade) → slice_get parts i ≡ Some p → EachMade P p.made) → EachTold P ts
each_of_parts P parts ts has each = each_told P ts (λ c. elim (part_at parts c) [
  | inl h ↦ subst (λ k. EachMade P (made_by k ts)) h.3 (subst (EachMade P) (sym (has.each h.0 h.1 h.2)) (each h.0 h.1 h.2))
  | inr lone ↦ subst (EachMade P) (sym (has.only c lone)) tt
])

pub parts_each : (P : Receipt → Type 0) (parts : List PartMade) (ts : List Told) → HasParts parts ts → EachTold P ts → (i : ℕ) (p : PartMade) → slice_get parts i ≡ Some p → EachMade P p.made
parts_each P parts ts has each i p at = subst (EachMade P) (has.each i p at) (each_made P ts p.caller each)

-- 5. A part without its first call
pub get_set_same : {A : Type 0} (xs : List A) (i : ℕ) (x y : A) → slice_get xs i ≡ Some y → slice_get (set xs i x) i ≡ Some x
get_set_same [] i x y h = absurd (none-some y h)
get_set_same (z ∷ xs) zero x y h = refl
get_set_same (z ∷ xs) (suc i) x y h = get_set_same xs i x y h

pub get_set_other : {A : Type 0} (xs : List A) (i k : ℕ) (x : A) → k ≢ i → slice_get (set xs i x) k ≡ slice_get xs k
get_set_other [] i k x ne = refl
get_set_other (y ∷ xs) zero zero x ne = absurd (ne refl)
get_set_other (y ∷ xs) zero (suc k) x ne = refl
get_set_other (y ∷ xs) (suc i) zero x ne = refl
get_set_other (y ∷ xs) (suc i) (suc k) x ne = get_set_other xs i k x (λ is. ne (ap suc is))

module _ (parts : List PartMade) (i c : ℕ) (m : Made) (ms : List Made) (at : slice_get parts i ≡ Some (record { caller = c; made = m ∷ ms })) where
  abbrev before : PartMade
  before = record { caller = c; made = m ∷ ms }

  abbrev after : PartMade
  after = record { caller = c; made = ms }

  abbrev fewer : List PartMade
  fewer = set parts i after

  -- a part then is the shorter one, or was one before
  pub one_then : (k : ℕ) (p : PartMade) → slice_get fewer k ≡ Some p → ((k ≡ i) × (p ≡ after)) ⊎ ((k ≢ i) × (slice_get parts k ≡ Some p))
  one_then k p is = dite (ℕ_discrete k i)
      (λ (e : k ≡ i). inl (e, same_Some p after (sym is ∙ (ap (slice_get fewer) e ∙ get_set_same parts i after before at))))
      (λ (ne : k ≢ i). inr (ne, sym (get_set_other parts i k after ne) ∙ is))

  -- and has the caller that it had
  was_one : (k : ℕ) (p : PartMade) → slice_get fewer k ≡ Some p → (q : PartMade) × (slice_get parts k ≡ Some q) × (q.caller ≡ p.caller)
  was_one k p is = elim (one_then k p is) [
    | inl h ↦ (before, ap (slice_get parts) h.0 ∙ at, sym (ap (λ (x : PartMade). x.caller) h.1))
    | inr h ↦ (p, h.1, refl)
  ]

  pub fewer_differ : OfDifferentCallers parts → OfDifferentCallers fewer
  fewer_differ differ k l p q is js same =
      let a = was_one k p is in let b = was_one l q js in
      differ k l a.0 b.0 a.1 b.1 (a.2 ∙ (same ∙ sym b.2))

  pub fewer_parts : OfDifferentCallers parts → (told : List Told) → HasParts parts told → (f : FirstOf c m ms told) → HasParts fewer (f.front ++ f.back)
  fewer_parts differ told has f = record {
    each = λ k p is. elim (one_then k p is) [
      | inl h ↦ subst (λ (x : PartMade). made_by x.caller (f.front ++ f.back) ≡ x.made) (sym h.1) f.own
      | inr h ↦ f.others p.caller (λ e. h.0 (sym (differ i k before p at h.1 e))) ∙ has.each k p h.1
    ];
    only = λ k no. dite (ℕ_discrete c k)
        (λ (e : c ≡ k). absurd (no i after (get_set_same parts i after before at) e))
        (λ (ne : c ≢ k). f.others k ne ∙ has.only k (λ l q js e. dite (ℕ_discrete l i)
        (λ (is : l ≡ i). ne (ap (λ (x : PartMade). x.caller) (same_Some before q (sym at ∙ (ap (slice_get parts) (sym is) ∙ js))) ∙ e))
        (λ (other : l ≢ i). no l q (get_set_other parts i l after other ∙ js) e)));
  }
