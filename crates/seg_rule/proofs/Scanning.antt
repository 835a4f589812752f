-- The scan for a free place, by a pass that has the tail closed: what its loads tell of a place.
use Rattle.std.proofs.Common.{◌≡◌, ℕ, zero, suc, ◌+◌, ◌-◌, ◌*◌, ◌<◌, ◌≤◌, ◌≢◌, ◌⊎◌, ⊎_elim, cond, true, List, set, sym, refl, ap, ◌∙◌, subst, arith, ne_eqb}
use Rattle.std.proofs.lemmas.Bool.{cases_lt}
use mathlib.Core.Option.{some}
use lib.ListN.{get_elem?}
use Rattle.passes.specs.Numbers.{HasNumber}
use Rattle.seg_rule.specs.declared.form.Form.{Form}
use Rattle.seg_rule.specs.declared.word.QueueWord.TheVariants.{Tail, Done, Observers}
use Rattle.seg_rule.specs.declared.view.View.{View}
use Rattle.seg_rule.specs.declared.view.Hand.{Hand}
use Rattle.seg_rule.specs.declared.view.Hand.TheVariants.{Nothing, Reserved, Stored, Taking}
use Rattle.seg_rule.specs.declared.view.Stage.TheVariants.{Closed, Found}
use Rattle.seg_rule.specs.Words.{Memory}
use Rattle.seg_rule.specs.Chain.{end_of}
use Rattle.seg_rule.specs.Rule.{Ghosts, HandOk, OutOfChain, StageOk, ViewOk, Kept, tail_word, watched, passed, takes_at, takes_in, flag}
use Rattle.seg_rule.proofs.Chains.{rises}
use Rattle.seg_rule.proofs.HeadTakes.{passed_high}
use Rattle.seg_rule.proofs.Sums.{total_zero}
use Rattle.seg_rule.proofs.Looks.{own_kept}

module _ (f : Form) (m : Memory) (views : List View) (id : ℕ) (v : View) (k : Kept f m views) (at : get_elem? views id ≡ some v) where
  abbrev g : Ghosts
  g = k.g

  abbrev ok : ViewOk f g id v
  ok = k.seats.each id v at

  -- what is kept of a place whose end was read: where a segment shows there, that is its end
  abbrev EndsAt : ℕ → ℕ → Type 0
  EndsAt p e = (n : ℕ) → g.home p ≡ suc n → (n < g.last) × ((g.segs (suc n)).start ≡ e)

  -- the tail of a place that is not the current one
  pub end_noted : (p e : ℕ) → p < f.places → p ≢ (g.segs g.last).place → m (Tail p) ≡ 2 * e + 1 → EndsAt p e
  end_noted p e near other now n h = let there = k.words.homes.there p n h in let ne : n ≢ g.last = (λ s. other (sym there.1 ∙ ap (λ (z : ℕ). (g.segs z).place) s)) in
      let w : m (Tail p) ≡ 2 * (g.segs (suc n)).start + 1 = k.words.tails p near ∙ (ap (tail_word g.segs g.last g.put g.shut) h ∙ ap (λ b. cond b (2 * g.put + g.shut) (2 * (g.segs (suc n)).start + 1)) (ne_eqb n g.last ne)) in
      ((let t = there.0 in omega arith), (let z : (g.segs (suc n)).start ≡ e = omega arith in z))

  -- once first was moved past every segment that ends at the head noted or below, a place with such an end has left the chain
  pub out_of_chain : (p e h : ℕ) → EndsAt p e → e ≤ h → (g.low ≡ g.last) ⊎ (h < (g.segs (suc g.low)).start) → OutOfChain g p
  out_of_chain p e h ends le moved n at_n = let x = ends n at_n in let top = x.0 in ⊎_elim (λ (l : n < g.low). l)
      (λ (l : g.low ≤ n). absurd (⊎_elim (λ (s : g.low ≡ g.last). omega arith)
      (λ (s : h < (g.segs (suc g.low)).start). let r = rises g.segs g.low g.last g.taken g.put k.words.chain (suc g.low) (suc n) (omega arith) x.0 in let y = x.1 in omega arith) moved))
      (cases_lt n g.low)

  -- as many takes were counted as the segment had positions: none is unfinished
  pub none_unfinished : (p e s d : ℕ) → g.prep ≡ 0 → EndsAt p e → e ≤ g.taken → ((n : ℕ) → g.home p ≡ suc n → (g.segs n).start ≡ s) → m (Done p) ≡ d → d ≡ e - s → g.untold p ≡ 0
  none_unfinished p e s d idle ends le starts now is = go (g.home p) refl
    where
      never : g.prep ≢ suc p
      never z = let y : 0 ≡ suc p = sym idle ∙ z in omega arith

      -- a take has a place that shows a segment
      no_take : (j : ℕ) (act : Type 0) (c : ℕ) (w : Hand) → g.home p ≡ 0 → HandOk g j act c w → takes_at p w ≡ 0
      no_take j act c Nothing h x = refl
      no_take j act c (Reserved a b i y) h x = refl
      no_take j act c (Stored a b i y) h x = refl
      no_take j act c (Taking a b i l) h x = ap flag (ne_eqb b p (λ e. let z : 0 ≡ suc x.1.0 = sym h ∙ (ap g.home (sym e) ∙ x.1.1.0) in omega arith))

      go : (z : ℕ) → g.home p ≡ z → g.untold p ≡ 0
      go zero h = sym (k.seats.untold_is p) ∙ total_zero (takes_in p) views (λ j u e. no_take j (HasNumber u.held u.caller) u.caller u.hand h (k.seats.each j u e).hand)
      go (suc n) h = let x = ends n h in let end : end_of g.segs g.last g.put n ≡ e = ap (λ b. cond b g.put ((g.segs (suc n)).start)) (ne_eqb n g.last (λ y. let t = x.0 in omega arith)) ∙ x.1 in
          let w = k.words.dones p n h never in
          let all : passed g.taken ((g.segs n).start) (end_of g.segs g.last g.put n) ≡ e - s = (λ j. passed g.taken (starts n h j) (end j)) ∙ passed_high g.taken s e le in omega arith

  -- and nobody watches it: the place is free
  pub found_kept : (q t p : ℕ) → v.stage ≡ Closed q t true → p < f.places → p ≢ q → OutOfChain g p → g.untold p ≡ 0 → m (Observers p) ≡ 0 → Kept f m (set views id (record v { stage = Found q t p }))
  found_kept q t p is near other out spent now =
      let st : StageOk g id (HasNumber v.held v.caller) v.caller (Closed q t true) = subst (StageOk g id (HasNumber v.held v.caller) v.caller) is ok.stage in
      own_kept f m views id v k at (record v { stage = Found q t p })
      record {
        of_object = ok.of_object;
        of_callers = ok.of_callers;
        holds = ok.holds;
        joint = ok.joint;
        notes = ok.notes;
        hand = ok.hand;
        ties = ok.ties;
        window = ok.window;
        owned = ok.owned;
        stage = (st.0, st.1, st.2, st.3, st.4, st.5, st.6 refl, ((λ e. other (e ∙ st.5)), out, (λ n h. sym (ap (watched g.watch) h) ∙ (sym (k.words.observers p near) ∙ now)), spent));
      }
      refl (λ q. refl) (λ n. refl) refl
