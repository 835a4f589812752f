-- Parts whose receipts are the places below a number, each once, rising within each part, have a history.
use Rattle.std.proofs.Common.{◌≡◌, ◌≢◌, inl, inr, ◌+◌, ◌<◌, ◌≤◌, ◌∙◌, ℕ, zero, suc, List, [], ◌∷◌, set, slice_get, Some, refl, sym, ap, subst, arith}
use mathlib.Core.Logic.{dite}
use native.Mathlib.Decide.{ℕ_discrete}
use Rattle.std.proofs.lemmas.Option.{none-some, same_Some}
use Rattle.ho_base.specs.declared.receipts.Receipt.TheVariants.{Place}
use Rattle.weave.specs.declared.made.Made.{Made}
use Rattle.weave.specs.Parts.{PartMade, Told, made_by, OfDifferentCallers, HasParts}
use Rattle.weave.specs.Places.{Rise, HasPlace, TakePlaces, PlacesMakeHistories}
use Rattle.weave.proofs.CallsByCaller.{made_own, made_other, get_set_same, get_set_other, one_then, fewer_differ}

same_place : (a b : ℕ) → Place a ≡ Place b → a ≡ b
same_place a b is = cc

-- 1. Of one part
above : (from k : ℕ) (ms : List Made) → Rise from ms → HasPlace k ms → from ≤ k
above from k [] rise has = absurd has
above from k (m ∷ ms) rise (inl is) = let same = same_place rise.0 k (sym rise.1 ∙ is) in let le = rise.2 in omega (arith, same, le)
above from k (m ∷ ms) rise (inr has) = let le = rise.2 in let far = above (rise.0 + 1) k ms rise.3 has in omega (arith, le, far)

record Begins (k : ℕ) (made : List Made) : Type 0 where
  pub first : Made
  pub later : List Made
  pub is : made ≡ first ∷ later
  pub place : first.receipt ≡ Place k
  pub rise : Rise (k + 1) later

begins : (k : ℕ) (made : List Made) → Rise k made → HasPlace k made → Begins k made
begins k [] rise has = absurd has
begins k (m ∷ ms) rise (inl is) = record { first = m; later = ms; is = refl; place = is; rise = subst (λ n. Rise (n + 1) ms) (same_place rise.0 k (sym rise.1 ∙ is)) rise.3 }
begins k (m ∷ ms) rise (inr has) = let le = rise.2 in let far = above (rise.0 + 1) k ms rise.3 has in absurd (omega (arith, le, far))

raised : (k : ℕ) (made : List Made) → Rise k made → (HasPlace k made → ⊥) → Rise (k + 1) made
raised k [] rise lacks = tt
raised k (m ∷ ms) rise lacks = (
  rise.0,
  rise.1,
  dite (ℕ_discrete rise.0 k)
      (λ (is : rise.0 ≡ k). absurd (lacks (inl (rise.1 ∙ ap Place is))))
      (λ (ne : rise.0 ≢ k). let le = rise.2 in omega (arith, le, ne)),
  rise.3,
)

nothing : (k count : ℕ) (made : List Made) → k ≡ count → Rise k made → ((n : ℕ) → HasPlace n made → n < count) → [] ≡ made
nothing k count [] is rise below = refl
nothing k count (m ∷ ms) is rise below = let lt = below rise.0 (inl rise.1) in let le = rise.2 in absurd (omega (arith, is, lt, le))

-- 2. The part with the next place, without its first call
module _ (k count : ℕ) (parts : List PartMade) (h : TakePlaces k count parts) (i c : ℕ) (m : Made) (ms : List Made) (at : slice_get parts i ≡ Some (record { caller = c; made = m ∷ ms })) (place : m.receipt ≡ Place k) (rise : Rise (k + 1) ms) where
  abbrev after : PartMade
  after = record { caller = c; made = ms }

  abbrev fewer : List PartMade
  fewer = set parts i after

  had : (n j : ℕ) (q : PartMade) → slice_get fewer j ≡ Some q → HasPlace n q.made → (p : PartMade) × (slice_get parts j ≡ Some p) × HasPlace n p.made
  had n j q is has = elim (one_then parts i c m ms at j q is) [
    | inl e ↦ (record { caller = c; made = m ∷ ms }, ap (slice_get parts) e.0 ∙ at, inr (subst (λ (x : PartMade). HasPlace n x.made) e.1 has))
    | inr e ↦ (q, e.1, has)
  ]

  still : (n : ℕ) → k + 1 ≤ n → n < count → (j : ℕ) × (q : PartMade) × (slice_get fewer j ≡ Some q) × HasPlace n q.made
  still n le lt =
      let e = h.each n (omega (arith, le)) lt in
      dite (ℕ_discrete e.0 i)
      (λ (is : e.0 ≡ i).
      let same : e.1 ≡ record { caller = c; made = m ∷ ms } = same_Some _ _ (sym e.2 ∙ (ap (slice_get parts) is ∙ at)) in
      let has : HasPlace n (m ∷ ms) = subst (λ (x : PartMade). HasPlace n x.made) same e.3 in
      elim has [
        | inl here ↦ (let both = same_place k n (sym place ∙ here) in absurd (omega (arith, both, le)))
        | inr later ↦ (i, after, get_set_same parts i after _ at, later)
      ])
      (λ (ne : e.0 ≢ i). (e.0, e.1, get_set_other parts i e.0 after ne ∙ e.2, e.3))

  next_places : TakePlaces (k + 1) count fewer
  next_places = record {
    rise = λ j q is. elim (one_then parts i c m ms at j q is) [
      | inl e ↦ subst (λ (x : PartMade). Rise (k + 1) x.made) (sym e.1) rise
      | inr e ↦ raised k q.made (h.rise j q e.1) (λ has. e.0 (sym (h.once k i j _ q at e.1 (inl place) has)))
    ];
    below = λ j q is n has. (let p = had n j q is has in h.below j p.0 p.1 n p.2);
    each = still;
    once = λ n j l p q is js a b. (let x = had n j p is a in let y = had n l q js b in h.once n j l x.0 y.0 x.1 y.1 x.2 y.2);
  }

  one_before : OfDifferentCallers parts → (told : List Told) → HasParts fewer told → HasParts parts (record { caller = c; made = m } ∷ told)
  one_before differ told has = record {
    each = λ j q is. dite (ℕ_discrete j i)
        (λ (e : j ≡ i).
        let same : record { caller = c; made = m ∷ ms } ≡ q = same_Some _ _ (sym at ∙ (ap (slice_get parts) (sym e) ∙ is)) in
        subst (λ (x : PartMade). made_by x.caller (record { caller = c; made = m } ∷ told) ≡ x.made) same
        (made_own c (record { caller = c; made = m }) told refl ∙ ap (λ (l : List Made). m ∷ l) (has.each i after (get_set_same parts i after _ at))))
        (λ (ne : j ≢ i). made_other q.caller (record { caller = c; made = m }) told (λ e. ne (sym (differ i j _ q at is e))) ∙ has.each j q (get_set_other parts i j after ne ∙ is));
    only = λ d lone. made_other d (record { caller = c; made = m }) told (lone i _ at) ∙ has.only d (λ j q is. elim (one_then parts i c m ms at j q is) [
      | inl e ↦ (λ same. lone i _ at (ap (λ (x : PartMade). x.caller) (sym e.1) ∙ same))
      | inr e ↦ lone j q e.1
    ]);
  }

-- 3. All of them
made_history : (d k count : ℕ) (parts : List PartMade) → k + d ≡ count → OfDifferentCallers parts → TakePlaces k count parts → (told : List Told) × HasParts parts told × ((j : ℕ) (t : Told) → slice_get told j ≡ Some t → t.made.receipt ≡ Place (k + j))
made_history zero k count parts is differ h = (
  [],
  record { each = λ i p at. nothing k count p.made (omega (arith, is)) (h.rise i p at) (h.below i p at); only = λ c lone. refl },
  λ j t at. absurd (none-some t at),
)
made_history (suc d) k count parts is differ h =
    let e = h.each k (omega arith) (omega (arith, is)) in
    let p = e.1 in let b = begins k p.made (h.rise e.0 p e.2) e.3 in
    let at : slice_get parts e.0 ≡ Some (record { caller = p.caller; made = b.first ∷ b.later }) = e.2 ∙ ap (λ (l : List Made). Some (record { caller = p.caller; made = l })) b.is in
    let rest = made_history d (k + 1) count (set parts e.0 (record { caller = p.caller; made = b.later })) (omega (arith, is)) (fewer_differ parts e.0 p.caller b.first b.later at differ) (next_places k count parts h e.0 p.caller b.first b.later at b.place b.rise) in (
      record { caller = p.caller; made = b.first } ∷ rest.0,
      one_before k count parts h e.0 p.caller b.first b.later at b.place b.rise differ rest.0 rest.1,
      placed (record { caller = p.caller; made = b.first }) rest.0 k b.place rest.2,
    )
  where
    placed : (x : Told) (told : List Told) (k : ℕ) → x.made.receipt ≡ Place k → ((j : ℕ) (t : Told) → slice_get told j ≡ Some t → t.made.receipt ≡ Place ((k + 1) + j)) → (j : ℕ) (t : Told) → slice_get (x ∷ told) j ≡ Some t → t.made.receipt ≡ Place (k + j)
    placed x told k first later zero t at = ap (λ (y : Told). y.made.receipt) (sym (same_Some x t at)) ∙ (first ∙ ap Place (let e : k ≡ k + 0 = omega arith in e))
    placed x told k first later (suc j) t at = later j t at ∙ ap Place (let e : (k + 1) + j ≡ k + suc j = omega arith in e)

pub places_make_histories : PlacesMakeHistories
places_make_histories count parts differ h =
    let made = made_history count 0 count parts (omega arith) differ h in
    (made.0, record { has = made.1; places = λ j t at. made.2 j t at ∙ ap Place (let e : 0 + j ≡ j = omega arith in e) })
