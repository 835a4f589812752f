-- Own entries: how they add up over calls one after another, and over passes that are joined.
use Rattle.std.proofs.Common.{◌≡◌, ℕ, ◌+◌, List, [], ◌∷◌, ◌++◌, get_or, cond, eqb, Bool, true, false, true≢false, sym, refl, ap, ◌∙◌, arith, append_assoc, append-nil, eq-eqb, ne_eqb}
use Rattle.std.specs.List.{sum_by}
use Rattle.std.proofs.lemmas.List.Sums.{sum_by-cons}
use Rattle.ho_model.specs.declared.marks.EntryMark.{EntryMark}
use Rattle.ho_model.specs.Histories.{part}
use Rattle.passes.specs.Numbers.{HasNumber, HasAll, AreApart, held_both}
use Rattle.passes.specs.Seen.{AreOthers, AreBelow, SeesOthers, SeesEntry, own_of, SeesOwn}
use Rattle.passes.proofs.Flags.{held_both_at}
use Rattle.passes.proofs.Seen.{others_append}

cond_append : (b : Bool) (x : EntryMark) (both xs ys : List EntryMark) → both ≡ xs ++ ys → cond b (x ∷ both) both ≡ cond b (x ∷ xs) xs ++ ys
cond_append true x both xs ys e = ap (λ (l : List EntryMark). x ∷ l) e
cond_append false x both xs ys e = e

-- others' entries are none of one's own
pub own_of-others : (held : List Bool) (es : List EntryMark) → AreOthers held es → own_of held es ≡ []
own_of-others held [] a = refl
own_of-others held (e ∷ es) a = ap (λ (b : Bool). cond b (e ∷ own_of held es) (own_of held es)) a.0 ∙ own_of-others held es a.1

pub own_of-append : (held : List Bool) (xs ys : List EntryMark) → own_of held (xs ++ ys) ≡ own_of held xs ++ own_of held ys
own_of-append held [] ys = refl
own_of-append held (x ∷ xs) ys = cond_append (get_or held x.caller false) x (own_of held (xs ++ ys)) (own_of held xs) (own_of held ys) (own_of-append held xs ys)

own_of-single : (held : List Bool) (e : EntryMark) → HasNumber held e.caller → own_of held (e ∷ []) ≡ e ∷ []
own_of-single held e h = ap (λ (b : Bool). cond b (e ∷ []) []) h

-- with all numbers held, every entry is one's own
pub own_of-whole : (n : ℕ) (held : List Bool) (es : List EntryMark) → HasAll n held → AreBelow n es → own_of held es ≡ es
own_of-whole n held [] all below = refl
own_of-whole n held (e ∷ es) all below =
    ap (λ (b : Bool). cond b (e ∷ own_of held es) (own_of held es)) (all e.caller below.0) ∙ ap (λ (l : List EntryMark). e ∷ l) (own_of-whole n held es all below.1)

-- one's own entries are the same in all that was seen later, if only others came
pub own_of-sees : (held : List Bool) (seen later : List EntryMark) → SeesOthers held seen later → own_of held later ≡ own_of held seen
own_of-sees held seen later s = ap (own_of held) s.1 ∙ (own_of-append held seen s.0 ∙ (ap (λ (l : List EntryMark). own_of held seen ++ l) (own_of-others held s.0 s.2) ∙ append-nil (own_of held seen)))

module _ (held : List Bool) (seen seen' : List EntryMark) where
  -- one entry is the list of that entry
  pub entry_own : (before : List EntryMark) (e : EntryMark) → HasNumber held e.caller → SeesEntry held seen before e seen' → SeesOwn held seen (e ∷ []) seen'
  entry_own before e has s = (
    s.0.0 ++ e ∷ [],
    s.1 ∙ (ap (λ (l : List EntryMark). l ++ e ∷ []) s.0.1 ∙ append_assoc seen s.0.0 (e ∷ [])),
    own_of-append held s.0.0 (e ∷ []) ∙ (ap (λ (l : List EntryMark). l ++ own_of held (e ∷ [])) (own_of-others held s.0.0 s.0.2) ∙ own_of-single held e has),
  )

  -- a refusal is the empty list
  pub others_own : SeesOthers held seen seen' → SeesOwn held seen [] seen'
  others_own s = (s.0, s.1, own_of-others held s.0 s.2)

  -- one call after another
  pub own_on : (seen'' : List EntryMark) (xs ys : List EntryMark) → SeesOwn held seen xs seen' → SeesOwn held seen' ys seen'' → SeesOwn held seen (xs ++ ys) seen''
  own_on seen'' xs ys a b = (
    a.0 ++ b.0,
    b.1 ∙ (ap (λ (l : List EntryMark). l ++ b.0) a.1 ∙ append_assoc seen a.0 b.0),
    own_of-append held a.0 b.0 ∙ (λ i. a.2 i ++ b.2 i),
  )

  -- a refusal, and then a refusal
  pub others_on : (seen'' : List EntryMark) → SeesOthers held seen seen' → SeesOthers held seen' seen'' → SeesOthers held seen seen''
  others_on seen'' a b = (a.0 ++ b.0, b.1 ∙ (ap (λ (l : List EntryMark). l ++ b.0) a.1 ∙ append_assoc seen a.0 b.0), others_append held a.0 b.0 a.2 b.2)

  -- a refusal, and then an entry
  pub entry_on : (before seen'' : List EntryMark) (e : EntryMark) → SeesOthers held seen seen' → SeesEntry held seen' before e seen'' → SeesEntry held seen before e seen''
  entry_on before seen'' e a b = (others_on before a b.0, b.1)

  -- the own entries seen so far, and then those of the call
  pub own_of-own : (own : List EntryMark) → SeesOwn held seen own seen' → own_of held seen' ≡ own_of held seen ++ own
  own_of-own own s = ap (own_of held) s.1 ∙ (own_of-append held seen s.0 ∙ ap (λ (l : List EntryMark). own_of held seen ++ l) s.2)

-- any weight of the own entries of two passes with no number in common adds up
pub sum_by-own_both : (f : EntryMark → ℕ) (held held' : List Bool) (es : List EntryMark) → AreApart held held' → sum_by f (own_of (held_both held held') es) ≡ sum_by f (own_of held es) + sum_by f (own_of held' es)
sum_by-own_both f held held' [] apart = refl
sum_by-own_both f held held' (e ∷ es) apart =
    ap (λ (b : Bool). sum_by f (cond b (e ∷ own_of (held_both held held') es) (own_of (held_both held held') es))) (held_both_at held held' e.caller)
    ∙ add (get_or held e.caller false) (get_or held' e.caller false) (apart e.caller) (own_of (held_both held held') es) (own_of held es) (own_of held' es) (sum_by-own_both f held held' es apart)
  where
    add : (a b : Bool) → (a ≡ true → ¬ (b ≡ true)) → (both xs ys : List EntryMark) → sum_by f both ≡ sum_by f xs + sum_by f ys
        → sum_by f (cond (cond b true a) (e ∷ both) both) ≡ sum_by f (cond a (e ∷ xs) xs) + sum_by f (cond b (e ∷ ys) ys)
    add true true not both xs ys is = absurd (not refl refl)
    add true false not both xs ys is = let p = sum_by-cons f e both in let q = sum_by-cons f e xs in omega arith
    add false true not both xs ys is = let p = sum_by-cons f e both in let q = sum_by-cons f e ys in omega arith
    add false false not both xs ys is = is

-- the entries of a caller, among those that the pass that holds its number has seen
part-others : (held : List Bool) (c : ℕ) (es : List EntryMark) → HasNumber held c → AreOthers held es → part c es ≡ []
part-others held c [] has a = refl
part-others held c (e ∷ es) has a = ap (λ (b : Bool). cond b (e ∷ part c es) (part c es)) (ne_eqb e.caller c (λ is. true≢false (sym has ∙ (ap (λ (z : ℕ). get_or held z false) (sym is) ∙ a.0)))) ∙ part-others held c es has a.1

pub part-append : (c : ℕ) (xs ys : List EntryMark) → part c (xs ++ ys) ≡ part c xs ++ part c ys
part-append c [] ys = refl
part-append c (x ∷ xs) ys = cond_append (eqb x.caller c) x (part c (xs ++ ys)) (part c xs) (part c ys) (part-append c xs ys)

pub part-sees : (held : List Bool) (c : ℕ) (seen later : List EntryMark) → HasNumber held c → SeesOthers held seen later → part c later ≡ part c seen
part-sees held c seen later has b = ap (part c) b.1 ∙ (part-append c seen b.0 ∙ (ap (λ (l : List EntryMark). part c seen ++ l) (part-others held c b.0 has b.2) ∙ append-nil (part c seen)))

pub part-entry : (held : List Bool) (seen before later : List EntryMark) (e : EntryMark) → HasNumber held e.caller → SeesEntry held seen before e later → part e.caller later ≡ part e.caller seen ++ e ∷ []
part-entry held seen before later e has s =
    ap (part e.caller) s.1 ∙ (part-append e.caller before (e ∷ [])
    ∙ (λ i. part-sees held e.caller seen before has s.0 i ++ own_test i))
  where
    own_test : part e.caller (e ∷ []) ≡ e ∷ []
    own_test = ap (λ (b : Bool). cond b (e ∷ []) []) (eq-eqb e.caller e.caller refl)
