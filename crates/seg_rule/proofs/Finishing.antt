-- What follows a head take, as the table asks for it.
use Rattle.std.proofs.Common.{◌≡◌, ℕ, ◌+◌, ◌-◌, ◌*◌, ◌%◌, ◌^◌, ◌<◌, ◌≤◌, ⊎_elim, cond, ltb, true, false, get_or, sym, refl, ap, ◌∙◌, subst, arith, mod-eq_of_lt}
use Rattle.std.proofs.lemmas.Bool.{cases_Bool, ltb-false}
use mathlib.Core.Option.{none}
use Rattle.atomic_table.specs.Table.{Me, keeps, stepped, step, Allows}
use Rattle.passes.specs.Numbers.{HasNumber}
use Rattle.seg_rule.specs.declared.form.Form.{Form}
use Rattle.seg_rule.specs.declared.word.QueueWord.TheVariants.{Length, Observers, Done, Number}
use Rattle.seg_rule.specs.declared.view.View.{View}
use Rattle.seg_rule.specs.declared.view.Leave.{Leave}
use Rattle.seg_rule.specs.declared.view.Leave.TheVariants.{Measured, Released}
use Rattle.seg_rule.specs.declared.view.Hand.{Hand}
use Rattle.seg_rule.specs.declared.view.Hand.TheVariants.{Nothing, Taking}
use Rattle.seg_rule.specs.Words.{Memory, memory, index_of, IsWord}
use Rattle.seg_rule.specs.Chain.{end_of}
use Rattle.seg_rule.specs.Rule.{HandOk, LeaveHas, passed, Rule}
use Rattle.seg_rule.specs.Steps.{in_hand, on_leave, released, releases, publishes}
use Rattle.seg_rule.proofs.Words.{at_word}
use Rattle.seg_rule.proofs.Frames.{rule_after}
use Rattle.seg_rule.proofs.Bounds.{few_put}
use Rattle.seg_rule.proofs.Leaves.{released_kept, done_kept}
use Rattle.seg_rule.proofs.Allowed.{at_index, stores_allowed, number_word}

-- a load
passed_few : (h s e : ℕ) → passed h s e ≤ h
passed_few h s e = ⊎_elim (λ (b : ltb h e ≡ true). subst (λ z. cond z (h - s) (e - s) ≤ h) (sym b) (omega arith)) (λ (b : ltb h e ≡ false). subst (λ z. cond z (h - s) (e - s) ≤ h) (sym b) (let l = ltb-false h e b in omega arith)) (cases_Bool (ltb h e))

pub word_of : (f : Form) (q : ℕ) → q < f.places → IsWord f.places f.slots (Length q) × IsWord f.places f.slots (Observers q) × IsWord f.places f.slots (Done q)
word_of f q a = ((omega arith, omega arith), (omega arith, omega arith), (omega arith, omega arith))

module _ (f : Form) (n i slots id : ℕ) (me : Me ℕ View) (wide : f.slots ≡ n) where
  pub releases_at : (p q j l : ℕ) → me.0.hand ≡ Taking p q j (Measured l) → q < f.places → j < n → i ≡ index_of n (Number q j) → Allows (Rule f) slots id me i (λ _. 2 * (p + l)) (λ _. releases (step slots i (2 * (p + l)) 0 none) me (2 * (p + l)))
  releases_at p q j l is a b e = at_index (λ z. Allows (Rule f) slots id me z (λ _. 2 * (p + l)) (λ _ w. w ≡ (in_hand me.0 (on_leave released me.0.hand), me.1))) f n i (Number q j) wide e
      (subst (λ (h : Hand). Allows (Rule f) slots id me (index_of f.slots (Number q j)) (λ _. 2 * (p + l)) (λ _ w. w ≡ (in_hand me.0 (on_leave released h), me.1))) (sym is)
      (stores_allowed f slots id me (Number q j) (2 * (p + l)) (in_hand me.0 (Taking p q j Released)) (number_word f q j a (subst (λ z. j < z) (sym wide) b)) (λ s k at. released_kept f (memory f.places f.slots s.words) s.views id me.0 k at p q j l is)))

  pub finishes_at : (p q j : ℕ) (l : Leave) → me.0.hand ≡ Taking p q j l → ¬ LeaveHas l → q < f.places → i ≡ index_of n (Done q) → Allows (Rule f) slots id me i (λ x. (x + 1) % 2 ^ 64) (publishes (step slots i 1 0 none) me)
  finishes_at p q j l is none' a e = at_index (λ z. Allows (Rule f) slots id me z (λ x. (x + 1) % 2 ^ 64) (λ _ w. w ≡ (in_hand me.0 Nothing, me.1))) f n i (Done q) wide e go
    where
      go : Allows (Rule f) slots id me (index_of f.slots (Done q)) (λ x. (x + 1) % 2 ^ 64) (λ _ w. w ≡ (in_hand me.0 Nothing, me.1))
      go s r wide' at small =
          let m : Memory = memory f.places f.slots s.words in let x : ℕ = get_or s.words (index_of f.slots (Done q)) 0 in let k = r.kept in let near = (word_of f q a).2 in let now : m (Done q) ≡ x = at_word f.places f.slots s.words (Done q) near in
          let h : HandOk k.g id (HasNumber me.0.held me.0.caller) me.0.caller (Taking p q j l) = subst (HandOk k.g id (HasNumber me.0.held me.0.caller) me.0.caller) is (k.seats.each id me.0 at).hand in
          let d = k.words.dones q h.1.0 h.1.1.0 h.1.1.1 in let few = passed_few k.g.taken ((k.g.segs h.1.0).start) (end_of k.g.segs k.g.last k.g.put h.1.0) in let b = (few_put f m k.g k.words).1 in
          let same : m (Done q) + 1 ≡ (x + 1) % 2 ^ 64 = ap (λ z. z + 1) now ∙ sym (mod-eq_of_lt (let z : x + 1 < 2 ^ 64 = omega arith in z)) in (
            in_hand me.0 Nothing,
            keeps,
            tt,
            subst (λ z. Rule f (stepped s (index_of f.slots (Done q)) z id me.1 (in_hand me.0 Nothing) keeps)) same
                (rule_after f s r id (Done q) (m (Done q) + 1) me.1 (in_hand me.0 Nothing) near (done_kept f m s.views id me.0 k at p q j l is none')),
            refl,
          )
