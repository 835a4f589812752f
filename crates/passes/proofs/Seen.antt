-- Entries of others, and what a pass has seen of a history.
use Rattle.std.proofs.Common.{◌≡◌, ◌≢◌, ℕ, ◌<◌, ◌≤◌, List, [], ◌∷◌, ◌++◌, length, get_or, Bool, true, false, sym, refl, ap, ◌∙◌, subst, arith, cond, true≢false, replicate, append_assoc, append-nil}
use Rattle.std.specs.Prelude.{nat_le}
use mathlib.Core.Logic.{dite}
use native.Mathlib.Decide.{ℕ_discrete}
use Rattle.ho_base.specs.Marks.{Mark}
use Rattle.ho_model.specs.declared.objects.Object.{Object}
use Rattle.ho_model.specs.declared.marks.EntryMark.{EntryMark}
use Rattle.ho_model.specs.Histories.{IsLegal}
use Rattle.ho_model.proofs.Folds.{legal_begins}
use Rattle.passes.specs.Numbers.{HasNumber, HasAll, only, give, held_both}
use Rattle.passes.specs.Seen.{AreOthers, AreBelow, SeesOthers, IsLawful, longer}
use Rattle.passes.proofs.Flags.{flag_down, flag_else, flag_none, held_both_at}

abbrev tail_of : {A : Type 0} → List A → List A
tail_of [] = []
tail_of (x ∷ xs) = xs

abbrev head_or : {A : Type 0} → A → List A → A
head_or d [] = d
head_or d (x ∷ xs) = x

pub others_append : (held : List Bool) (xs ys : List EntryMark) → AreOthers held xs → AreOthers held ys → AreOthers held (xs ++ ys)
others_append held [] ys a b = b
others_append held (x ∷ xs) ys a b = (a.0, others_append held xs ys a.1 b)

pub others_drop : (held : List Bool) (xs ys : List EntryMark) → AreOthers held (xs ++ ys) → AreOthers held ys
others_drop held [] ys a = a
others_drop held (x ∷ xs) ys a = others_drop held xs ys a.1

pub others_front : (held : List Bool) (xs ys : List EntryMark) → AreOthers held (xs ++ ys) → AreOthers held xs
others_front held [] ys a = tt
others_front held (x ∷ xs) ys a = (a.0, others_front held xs ys a.1)

pub others_none : (es : List EntryMark) → AreOthers [] es
others_none [] = tt
others_none (e ∷ es) = (refl, others_none es)

-- others stay others where a number is given away
pub others_down : (held : List Bool) (c : ℕ) (es : List EntryMark) → AreOthers held es → AreOthers (give held c) es
others_down held c [] a = tt
others_down held c (e ∷ es) a = (
  dite (ℕ_discrete e.caller c)
      (λ (is : e.caller ≡ c). subst (λ (z : ℕ). get_or (give held c) z false ≡ false) (sym is) (flag_down held c))
      (λ (ne : e.caller ≢ c). flag_else held c e.caller ne false ∙ a.0),
  others_down held c es a.1,
)

-- entries of no held caller are not of the held caller c
pub others_only : (held : List Bool) (c : ℕ) (es : List EntryMark) → HasNumber held c → AreOthers held es → AreOthers (only c) es
others_only held c [] has a = tt
others_only held c (e ∷ es) has a = (
  flag_else (replicate 64 false) c e.caller (λ (is : e.caller ≡ c). true≢false (sym has ∙ (ap (λ (z : ℕ). get_or held z false) (sym is) ∙ a.0))) true ∙ flag_none 64 e.caller,
  others_only held c es has a.1,
)

pub others_both : (xs ys : List Bool) (es : List EntryMark) → AreOthers xs es → AreOthers ys es → AreOthers (held_both xs ys) es
others_both xs ys [] a b = tt
others_both xs ys (e ∷ es) a b = (held_both_at xs ys e.caller ∙ (ap (λ (z : Bool). cond z true (get_or xs e.caller false)) b.0 ∙ a.0), others_both xs ys es a.1 b.1)

pub below_more : (n : ℕ) (xs : List EntryMark) (e : EntryMark) → AreBelow n xs → e.caller < n → AreBelow n (xs ++ e ∷ [])
below_more n [] e a b = (b, tt)
below_more n (x ∷ xs) e a b = (a.0, below_more n xs e a.1 b)

pub below_front : (n : ℕ) (xs ys : List EntryMark) → AreBelow n (xs ++ ys) → AreBelow n xs
below_front n [] ys b = tt
below_front n (x ∷ xs) ys b = (b.0, below_front n xs ys b.1)

pub below_drop : (n : ℕ) (xs ys : List EntryMark) → AreBelow n (xs ++ ys) → AreBelow n ys
below_drop n [] ys b = b
below_drop n (x ∷ xs) ys b = below_drop n xs ys b.1

-- what was seen is of callers below n, as the history is
pub below_seen : (n : ℕ) (held : List Bool) (seen later : List EntryMark) → AreBelow n later → SeesOthers held seen later → AreBelow n seen
below_seen n held seen later b s = below_front n seen s.0 (subst (AreBelow n) s.1 b)

-- nothing new was seen
pub sees_same : (held : List Bool) (seen : List EntryMark) → SeesOthers held seen seen
sees_same held seen = ([], sym (append-nil seen), tt)

-- more entries of others came
pub sees_more : (held : List Bool) (seen log more : List EntryMark) → SeesOthers held seen log → AreOthers held more → SeesOthers held seen (log ++ more)
sees_more held seen log more b a = (b.0 ++ more, ap (λ (l : List EntryMark). l ++ more) b.1 ∙ append_assoc seen b.0 more, others_append held b.0 more b.2 a)

-- of two beginnings of one list the shorter begins the longer
pub begins_longer : {A : Type 0} (xs rest ys more : List A) → xs ++ rest ≡ ys ++ more → length xs ≤ length ys → (mid : List A) × (ys ≡ xs ++ mid) × (rest ≡ mid ++ more)
begins_longer [] rest ys more e le = (ys, refl, e)
begins_longer (x ∷ xs) rest [] more e le = absurd (omega arith)
begins_longer (x ∷ xs) rest (y ∷ ys) more e le =
    let h = begins_longer xs rest ys more (ap tail_of e) (omega arith) in
    (h.0, (λ i. head_or x (sym e i) ∷ h.1 i), h.2)

-- if neither of two lists is longer than n, the longer is not
longer_by : (n : ℕ) (b : Bool) (xs ys : List EntryMark) → length xs ≤ n → length ys ≤ n → length (cond b ys xs) ≤ n
longer_by n true xs ys short short' = short'
longer_by n false xs ys short short' = short

pub longer_fits : (n : ℕ) (xs ys : List EntryMark) → length xs ≤ n → length ys ≤ n → length (longer xs ys) ≤ n
longer_fits n xs ys = longer_by n (nat_le (length xs) (length ys)) xs ys

-- whoever holds all numbers has seen all
no_others : (n : ℕ) (held : List Bool) (es : List EntryMark) → HasAll n held → AreBelow n es → AreOthers held es → es ≡ []
no_others n held [] all below others = refl
no_others n held (e ∷ es) all below others = absurd (true≢false (sym (all e.caller below.0) ∙ others.0))

pub whole_sees : (n : ℕ) (held : List Bool) (seen later : List EntryMark) → HasAll n held → AreBelow n later → SeesOthers held seen later → later ≡ seen
whole_sees n held seen later all below s =
    let none_of = no_others n held s.0 all (below_drop n seen s.0 (subst (AreBelow n) s.1 below)) s.2 in
    s.1 ∙ (ap (λ (l : List EntryMark). seen ++ l) none_of ∙ append-nil seen)

-- what was seen of a lawful history is lawful
pub lawful_seen : (pr : Mark → ℕ) (o : Object) (n : ℕ) (held : List Bool) (seen log : List EntryMark) → IsLawful pr o n log → SeesOthers held seen log → IsLawful pr o n seen
lawful_seen pr o n held seen log l s = (legal_begins pr o seen s.0 (subst (IsLegal pr o) s.1 l.0), below_seen n held seen log l.1 s)

-- one entry more
pub lawful_more : (pr : Mark → ℕ) (o : Object) (n : ℕ) (log : List EntryMark) (e : EntryMark) → IsLawful pr o n log → IsLegal pr o (log ++ e ∷ []) → e.caller < n → IsLawful pr o n (log ++ e ∷ [])
lawful_more pr o n log e l legal low = (legal, below_more n log e l.1 low)
