-- Entries that were seen, the parts that callers made of them, and a history made of the parts.
use Rattle.std.proofs.Common.{◌≡◌, ◌≢◌, ◌⊎◌, inl, inr, ◌+◌, ◌++◌, ◌∙◌, ℕ, zero, suc, List, [], ◌∷◌, length, map, get_or, slice_get, eqb, cond, Bool, true, false, true≢false, Some, refl, sym, ap, subst, arith, append_assoc, append-nil, length-append, eq-eqb, ne_eqb}
use mathlib.Core.Logic.{dite}
use native.Mathlib.Decide.{ℕ_discrete}
use Rattle.std.proofs.lemmas.Option.{same_Some, none-some}
use Rattle.ho_base.specs.declared.receipts.Receipt.{Receipt}
use Rattle.ho_base.specs.declared.receipts.Receipt.TheVariants.{Place}
use Rattle.ho_model.specs.declared.marks.EntryMark.{EntryMark}
use Rattle.ho_model.specs.declared.objects.Object.{Object}
use Rattle.ho_model.specs.Histories.{part}
use Rattle.ho_model.specs.Written.{entry_of, history_of}
use Rattle.passes.specs.Numbers.{HasNumber}
use Rattle.passes.specs.Seen.{AreOthers, SeesOthers, SeesEntry}
use Rattle.weave.specs.declared.made.Made.{Made}
use Rattle.weave.specs.Parts.{PartMade, Told, entry_told, made_by, OfDifferentCallers, HasParts}
use Rattle.weave.specs.Places.{AreAtPlaces}
use Rattle.drive_kit.specs.Parts.{OwnEntry, own_entries, IsPlaceOf, IsMade, AreMade, made_in, Lacks, Differ}

cond_append : {A : Type 0} (b : Bool) (x : A) (both xs ys : List A) → both ≡ xs ++ ys → cond b (x ∷ both) both ≡ cond b (x ∷ xs) xs ++ ys
cond_append {A} true x both xs ys e = ap (λ (l : List A). x ∷ l) e
cond_append false x both xs ys e = e

-- 1. The entries of one caller
module _ (c : ℕ) where
  own_append : (before xs ys : List EntryMark) → own_entries c before (xs ++ ys) ≡ own_entries c before xs ++ own_entries c (before ++ xs) ys
  own_append before [] ys = ap (λ (b : List EntryMark). own_entries c b ys) (sym (append-nil before))
  own_append before (x ∷ xs) ys =
      cond_append (eqb x.caller c) (record { before = before; entry = x }) (own_entries c (before ++ x ∷ []) (xs ++ ys)) (own_entries c (before ++ x ∷ []) xs) (own_entries c (before ++ x ∷ xs) ys)
      (own_append (before ++ x ∷ []) xs ys ∙ ap (λ (b : List EntryMark). own_entries c (before ++ x ∷ []) xs ++ own_entries c b ys) (append_assoc before (x ∷ []) xs))

  own_others : (held : List Bool) (before es : List EntryMark) → HasNumber held c → AreOthers held es → own_entries c before es ≡ []
  own_others held before [] has a = refl
  own_others held before (e ∷ es) has a =
      let rest : List OwnEntry = own_entries c (before ++ e ∷ []) es in
      ap (λ (b : Bool). cond b (let own : OwnEntry = record { before = before; entry = e } in own ∷ rest) rest) (ne_eqb e.caller c (λ is. true≢false (sym has ∙ (ap (λ (z : ℕ). get_or held z false) (sym is) ∙ a.0))))
      ∙ own_others held (before ++ e ∷ []) es has a.1

  pub own_sees : (held : List Bool) (seen later : List EntryMark) → HasNumber held c → SeesOthers held seen later → own_entries c [] later ≡ own_entries c [] seen
  own_sees held seen later has s =
      ap (own_entries c []) s.1 ∙ (own_append [] seen s.0 ∙ (ap (λ (l : List OwnEntry). own_entries c [] seen ++ l) (own_others held seen s.0 has s.2) ∙ append-nil (own_entries c [] seen)))

  pub own_part : (before es : List EntryMark) → map (λ (x : OwnEntry). x.entry) (own_entries c before es) ≡ part c es
  own_part before [] = refl
  own_part before (e ∷ es) = by (eqb e.caller c) (own_part (before ++ e ∷ []) es)
    where
      by : (b : Bool) → map (λ (x : OwnEntry). x.entry) (own_entries c (before ++ e ∷ []) es) ≡ part c es
          → map (λ (x : OwnEntry). x.entry) (cond b (let own : OwnEntry = record { before = before; entry = e } in own ∷ own_entries c (before ++ e ∷ []) es) (own_entries c (before ++ e ∷ []) es)) ≡ cond b (e ∷ part c es) (part c es)
      by true h = ap (λ (l : List EntryMark). e ∷ l) h
      by false h = h

pub own_entry : (held : List Bool) (seen before later : List EntryMark) (e : EntryMark) → HasNumber held e.caller → SeesEntry held seen before e later
    → own_entries e.caller [] later ≡ own_entries e.caller [] seen ++ record { before = before; entry = e } ∷ []
own_entry held seen before later e has s =
    ap (own_entries e.caller []) s.1 ∙ (own_append e.caller [] before (e ∷ []) ∙ (λ i. own_sees e.caller held seen before has s.0 i ++ own_test i))
  where
    own_test : own_entries e.caller before (e ∷ []) ≡ record { before = before; entry = e } ∷ []
    own_test = ap (λ (b : Bool). cond b (let own : OwnEntry = record { before = before; entry = e } in own ∷ []) []) (eq-eqb e.caller e.caller refl)

-- 2. The calls that made them
abbrev pub mark_of_made : Object → ℕ → Made → EntryMark
mark_of_made o c m = entry_of o (entry_told (record { caller = c; made = m }))

module _ (Tells : List EntryMark → EntryMark → Receipt → Type 0) (o : Object) where
  pub made_more : (c : ℕ) (xs : List OwnEntry) (x : OwnEntry) (ms : List Made) (m : Made) → AreMade Tells o c xs ms → IsMade Tells o c x m → AreMade Tells o c (xs ++ x ∷ []) (ms ++ m ∷ [])
  made_more c [] x [] m h is = (is, tt)
  made_more c [] x (n ∷ ms) m h is = absurd h
  made_more c (y ∷ xs) x [] m h is = absurd h
  made_more c (y ∷ xs) x (n ∷ ms) m h is = (h.0, made_more c xs x ms m h.1 is)

  made_marks : (c : ℕ) (xs : List OwnEntry) (ms : List Made) → AreMade Tells o c xs ms → map (λ (x : OwnEntry). x.entry) xs ≡ map (mark_of_made o c) ms
  made_marks c [] [] h = refl
  made_marks c [] (m ∷ ms) h = absurd h
  made_marks c (x ∷ xs) [] h = absurd h
  made_marks c (x ∷ xs) (m ∷ ms) h = let rest = made_marks c xs ms h.1 in λ i. h.0.0 i ∷ rest i

  -- they are the caller's part of what was seen
  pub made_part : (c : ℕ) (seen : List EntryMark) (ms : List Made) → AreMade Tells o c (own_entries c [] seen) ms → part c seen ≡ map (mark_of_made o c) ms
  made_part c seen ms h = sym (own_part c [] seen) ∙ made_marks c (own_entries c [] seen) ms h

  pub none_made : (c : ℕ) (xs : List OwnEntry) (ms : List Made) → xs ≡ [] → AreMade Tells o c xs ms → ms ≡ []
  none_made c xs ms is h = none ms (subst (λ (l : List OwnEntry). AreMade Tells o c l ms) is h)
    where
      none : (ms : List Made) → AreMade Tells o c [] ms → ms ≡ []
      none [] h = refl
      none (m ∷ ms) h = absurd h

  -- 3. A history made of what all callers made
  abbrev pub TellAt : List EntryMark → List Told → Type 0
  TellAt before [] = Unit {0}
  TellAt before (t ∷ ts) = Tells before (entry_of o (entry_told t)) t.made.receipt × TellAt (before ++ entry_of o (entry_told t) ∷ []) ts

  pub record Built (before seen : List EntryMark) (made : ℕ → List Made) : Type 0 where
    pub told : List Told
    pub history : history_of o (map entry_told told) ≡ seen
    pub each : (c : ℕ) → made_by c told ≡ made c
    pub receipts : TellAt before told

  record FirstMade (c : ℕ) (x : OwnEntry) (xs : List OwnEntry) (ms : List Made) : Type 0 where
    pub first : Made
    pub later : List Made
    pub is : ms ≡ first ∷ later
    pub made : IsMade Tells o c x first
    pub rest : AreMade Tells o c xs later

  first_made : (c : ℕ) (x : OwnEntry) (xs : List OwnEntry) (ms : List Made) → AreMade Tells o c (x ∷ xs) ms → FirstMade c x xs ms
  first_made c x xs [] h = absurd h
  first_made c x xs (m ∷ ms) h = record { first = m; later = ms; is = refl; made = h.0; rest = h.1 }

  module _ (before : List EntryMark) (e : EntryMark) (es : List EntryMark) (made : ℕ → List Made) (m : Made) (ms : List Made) (first : made e.caller ≡ m ∷ ms) (is_made : e ≡ mark_of_made o e.caller m) (tells : Tells before e m.receipt) where
    abbrev later_made : ℕ → List Made
    later_made d = cond (eqb e.caller d) ms (made d)

    later_are : AreMade Tells o e.caller (own_entries e.caller (before ++ e ∷ []) es) ms → ((d : ℕ) → AreMade Tells o d (own_entries d before (e ∷ es)) (made d))
        → (d : ℕ) → AreMade Tells o d (own_entries d (before ++ e ∷ []) es) (later_made d)
    later_are rest all d = dite (ℕ_discrete e.caller d)
        (λ (is : e.caller ≡ d).
        subst (λ (l : List Made). AreMade Tells o d (own_entries d (before ++ e ∷ []) es) l) (sym (ap (λ (b : Bool). cond b ms (made d)) (eq-eqb e.caller d is)))
        (subst (λ (c : ℕ). AreMade Tells o c (own_entries c (before ++ e ∷ []) es) ms) is rest))
        (λ (ne : e.caller ≢ d).
        subst (λ (l : List Made). AreMade Tells o d (own_entries d (before ++ e ∷ []) es) l) (sym (ap (λ (b : Bool). cond b ms (made d)) (ne_eqb e.caller d ne)))
        (subst (λ (l : List OwnEntry). AreMade Tells o d l (made d)) (ap (λ (b : Bool). cond b (let own : OwnEntry = record { before = before; entry = e } in own ∷ own_entries d (before ++ e ∷ []) es) (own_entries d (before ++ e ∷ []) es)) (ne_eqb e.caller d ne)) (all d)))

    built_more : Built (before ++ e ∷ []) es later_made → Built before (e ∷ es) made
    built_more rest =
        let t : Told = record { caller = e.caller; made = m } in
        record {
          told = t ∷ rest.told;
          history = λ i. sym is_made i ∷ rest.history i;
          each = λ d. dite (ℕ_discrete e.caller d)
              (λ (is : e.caller ≡ d).
              ap (λ (b : Bool). cond b (m ∷ made_by d rest.told) (made_by d rest.told)) (eq-eqb e.caller d is)
              ∙ (ap (λ (l : List Made). m ∷ l) (rest.each d ∙ ap (λ (b : Bool). cond b ms (made d)) (eq-eqb e.caller d is)) ∙ (sym first ∙ ap made is)))
              (λ (ne : e.caller ≢ d).
              ap (λ (b : Bool). cond b (m ∷ made_by d rest.told) (made_by d rest.told)) (ne_eqb e.caller d ne)
              ∙ (rest.each d ∙ ap (λ (b : Bool). cond b ms (made d)) (ne_eqb e.caller d ne)));
          receipts = (
            subst (λ (x : EntryMark). Tells before x m.receipt) is_made tells,
            subst (λ (x : EntryMark). TellAt (before ++ x ∷ []) rest.told) is_made rest.receipts,
          );
        }

  pub build : (before seen : List EntryMark) (made : ℕ → List Made) → ((c : ℕ) → AreMade Tells o c (own_entries c before seen) (made c)) → Built before seen made
  build before [] made all = record { told = []; history = refl; each = λ c. sym (none_made c [] (made c) refl (all c)); receipts = tt }
  build before (e ∷ es) made all =
      let here : own_entries e.caller before (e ∷ es) ≡ record { before = before; entry = e } ∷ own_entries e.caller (before ++ e ∷ []) es =
      ap (λ (b : Bool). cond b (let own : OwnEntry = record { before = before; entry = e } in own ∷ own_entries e.caller (before ++ e ∷ []) es) (own_entries e.caller (before ++ e ∷ []) es)) (eq-eqb e.caller e.caller refl) in
      let f = first_made e.caller (record { before = before; entry = e }) (own_entries e.caller (before ++ e ∷ []) es) (made e.caller) (subst (λ (l : List OwnEntry). AreMade Tells o e.caller l (made e.caller)) here (all e.caller)) in
      built_more before e es made f.first f.later f.is f.made.0 f.made.1
      (build (before ++ e ∷ []) es (later_made before e es made f.first f.later f.is f.made.0 f.made.1) (later_are before e es made f.first f.later f.is f.made.0 f.made.1 f.rest all))

-- 4. Its places
at_places : (o : Object) (before : List EntryMark) (told : List Told) → TellAt IsPlaceOf o before told → (k : ℕ) (t : Told) → slice_get told k ≡ Some t → t.made.receipt ≡ Place (length before + k)
at_places o before [] h k t at = absurd (none-some t at)
at_places o before (x ∷ told) h zero t at = ap (λ (y : Told). y.made.receipt) (sym (same_Some x t at)) ∙ (h.0 ∙ ap Place (let e : length before ≡ length before + 0 = omega arith in e))
at_places o before (x ∷ told) h (suc k) t at =
    let long : length (before ++ entry_of o (entry_told x) ∷ []) ≡ length before + 1 = length-append before (entry_of o (entry_told x) ∷ []) in
    at_places o (before ++ entry_of o (entry_told x) ∷ []) told h.1 k t at ∙ ap Place (let e : length (before ++ entry_of o (entry_told x) ∷ []) + k ≡ length before + suc k = omega (arith, long) in e)

pub are_at_places : (o : Object) (told : List Told) → TellAt IsPlaceOf o [] told → AreAtPlaces told
are_at_places o told h k t at = at_places o [] told h k t at ∙ ap Place (let e : 0 + k ≡ k = omega arith in e)

-- 5. Parts of different callers
lacks_at : (c : ℕ) (parts : List PartMade) → Lacks c parts → (i : ℕ) (p : PartMade) → slice_get parts i ≡ Some p → p.caller ≢ c
lacks_at c [] lacks i p at = absurd (none-some p at)
lacks_at c (q ∷ parts) lacks zero p at = subst (λ (x : PartMade). x.caller ≢ c) (same_Some q p at) lacks.0
lacks_at c (q ∷ parts) lacks (suc i) p at = lacks_at c parts lacks.1 i p at

pub differ_all : (parts : List PartMade) → Differ parts → OfDifferentCallers parts
differ_all [] d i k p q at there same = absurd (none-some p at)
differ_all (x ∷ parts) d zero zero p q at there same = refl
differ_all (x ∷ parts) d zero (suc k) p q at there same = absurd (lacks_at x.caller parts d.0 k q there (sym same ∙ ap (λ (y : PartMade). y.caller) (sym (same_Some x p at))))
differ_all (x ∷ parts) d (suc i) zero p q at there same = absurd (lacks_at x.caller parts d.0 i p at (same ∙ ap (λ (y : PartMade). y.caller) (sym (same_Some x q there))))
differ_all (x ∷ parts) d (suc i) (suc k) p q at there same = ap suc (differ_all parts d.1 i k p q at there same)

made_here : (p : PartMade) (parts : List PartMade) (c : ℕ) → p.caller ≡ c → made_in (p ∷ parts) c ≡ p.made
made_here p parts c is = ap (λ (b : Bool). cond b p.made (made_in parts c)) (eq-eqb p.caller c is)

made_there : (p : PartMade) (parts : List PartMade) (c : ℕ) → p.caller ≢ c → made_in (p ∷ parts) c ≡ made_in parts c
made_there p parts c ne = ap (λ (b : Bool). cond b p.made (made_in parts c)) (ne_eqb p.caller c ne)

pub made_alone : (p : PartMade) → made_in (p ∷ []) p.caller ≡ p.made
made_alone p = made_here p [] p.caller refl

pub none_in : (c : ℕ) (parts : List PartMade) → Lacks c parts → made_in parts c ≡ []
none_in c [] lacks = refl
none_in c (p ∷ parts) lacks = made_there p parts c lacks.0 ∙ none_in c parts lacks.1

made_at : (parts : List PartMade) → Differ parts → (i : ℕ) (p : PartMade) → slice_get parts i ≡ Some p → made_in parts p.caller ≡ p.made
made_at [] d i p at = absurd (none-some p at)
made_at (q ∷ parts) d zero p at = made_here q parts p.caller (ap (λ (x : PartMade). x.caller) (same_Some q p at)) ∙ ap (λ (x : PartMade). x.made) (same_Some q p at)
made_at (q ∷ parts) d (suc i) p at = made_there q parts p.caller (λ is. lacks_at q.caller parts d.0 i p at (sym is)) ∙ made_at parts d.1 i p at

lone_lacks : (c : ℕ) (parts : List PartMade) → ((i : ℕ) (p : PartMade) → slice_get parts i ≡ Some p → p.caller ≢ c) → Lacks c parts
lone_lacks c [] lone = tt
lone_lacks c (p ∷ parts) lone = (lone 0 p refl, lone_lacks c parts (λ i q at. lone (suc i) q at))

pub has_parts : (parts : List PartMade) (told : List Told) → Differ parts → ((c : ℕ) → made_by c told ≡ made_in parts c) → HasParts parts told
has_parts parts told d each = record {
  each = λ i p at. each p.caller ∙ made_at parts d i p at;
  only = λ c lone. each c ∙ none_in c parts (lone_lacks c parts lone);
}

-- what a history with these parts has of each caller
pub parts_give : (parts : List PartMade) (told : List Told) → HasParts parts told → (c : ℕ) → made_by c told ≡ made_in parts c
parts_give parts told has c = by (found parts)
  where
    found : (ps : List PartMade) → ((i : ℕ) × (p : PartMade) × (slice_get ps i ≡ Some p) × (p.caller ≡ c) × (made_in ps c ≡ p.made)) ⊎ Lacks c ps
    found [] = inr tt
    found (p ∷ ps) = dite (ℕ_discrete p.caller c)
        (λ (is : p.caller ≡ c). inl (0, p, refl, is, made_here p ps c is))
        (λ (ne : p.caller ≢ c). elim (found ps) [
          | inl e ↦ inl (suc e.0, e.1, e.2, e.3, made_there p ps c ne ∙ e.4)
          | inr lacks ↦ inr (ne, lacks)
        ])

    by : ((i : ℕ) × (p : PartMade) × (slice_get parts i ≡ Some p) × (p.caller ≡ c) × (made_in parts c ≡ p.made)) ⊎ Lacks c parts → made_by c told ≡ made_in parts c
    by (inl e) = ap (λ (d : ℕ). made_by d told) (sym e.3) ∙ (has.each e.0 e.1 e.2 ∙ sym e.4)
    by (inr lacks) = has.only c (λ i p at. lacks_at c parts lacks i p at) ∙ sym (none_in c parts lacks)

-- 6. Parts of two passes
pub lacks_both : (c : ℕ) (a b : List PartMade) → Lacks c a → Lacks c b → Lacks c (a ++ b)
lacks_both c [] b l m = m
lacks_both c (p ∷ a) b l m = (l.0, lacks_both c a b l.1 m)

pub differ_both : (a b : List PartMade) → Differ a → Differ b → ((i : ℕ) (p : PartMade) → slice_get a i ≡ Some p → Lacks p.caller b) → Differ (a ++ b)
differ_both [] b d e apart = e
differ_both (p ∷ a) b d e apart = (lacks_both p.caller a b d.0 (apart 0 p refl), differ_both a b d.1 e (λ i q at. apart (suc i) q at))

pub made_left : (c : ℕ) (a b : List PartMade) → Lacks c b → made_in (a ++ b) c ≡ made_in a c
made_left c [] b lacks = none_in c b lacks
made_left c (p ∷ a) b lacks = ap (λ (l : List Made). cond (eqb p.caller c) p.made l) (made_left c a b lacks)

pub made_right : (c : ℕ) (a b : List PartMade) → Lacks c a → made_in (a ++ b) c ≡ made_in b c
made_right c [] b lacks = refl
made_right c (p ∷ a) b lacks = made_there p (a ++ b) c lacks.0 ∙ made_right c a b lacks.1
