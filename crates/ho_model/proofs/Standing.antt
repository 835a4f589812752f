-- Laws of what a machine stands for.
use Rattle.std.proofs.Common.{◌≡◌, ℕ, ◌+◌, length-append, ◌≤◌, List, [], ◌∷◌, ◌++◌, Some, sym, ap, ◌∙◌, subst}
use Rattle.ho_base.specs.Marks.{Mark}
use Rattle.ho_model.specs.declared.objects.Object.{Object}
use Rattle.ho_model.specs.Entries.{EntryMark}
use Rattle.ho_model.specs.Objects.{State, object_step}
use Rattle.ho_model.specs.Tallies.{Tally, tally_next, no_tally}
use Rattle.ho_model.specs.Histories.{IsLegal, StandsFor}
use Rattle.ho_model.proofs.Folds.{folded-push, tally-append}

module _ {S : Type 0} (priority : Mark → ℕ) (object : S → Object) (callers : S → ℕ) (state : S → State) (steps : S → ℕ) (tally : S → Tally) (o : Object) (n : ℕ) where
  -- a step that made no entry changes nothing
  pub stands_still : (y z : S) (h : List EntryMark) → StandsFor priority object callers state steps tally o n y h → object z ≡ object y → callers z ≡ callers y → state z ≡ state y → steps z ≡ steps y → tally z ≡ tally y
      → StandsFor priority object callers state steps tally o n z h
  stands_still y z h s same also state_is more counts = (
    same ∙ s.0,
    subst (λ (k : ℕ). n ≤ k) (sym also) s.1,
    s.2 ∙ ap (λ (x : State). Some x) (sym state_is),
    s.3 ∙ sym more,
    counts ∙ s.4,
  )

  -- a step that made an entry stands for the history with that entry at its end
  pub stands_next : (y z : S) (h : List EntryMark) (e : EntryMark) → StandsFor priority object callers state steps tally o n y h → object z ≡ object y → callers z ≡ callers y → object_step priority (object y) (state y) e ≡ Some (state z)
      → steps z ≡ steps y + 1 → tally z ≡ tally_next (tally y) e.call e.reply → StandsFor priority object callers state steps tally o n z (h ++ e ∷ [])
  stands_next y z h e s same also next more counts = (
    same ∙ s.0,
    subst (λ (k : ℕ). n ≤ k) (sym also) s.1,
    folded-push priority o h (state y) e s.2 ∙ (ap (λ (x : Object). object_step priority x (state y) e) (sym s.0) ∙ next),
    length-append h (e ∷ []) ∙ (ap (λ (k : ℕ). k + 1) s.3 ∙ sym more),
    counts ∙ (ap (λ (t : Tally). tally_next t e.call e.reply) s.4 ∙ sym (tally-append no_tally h (e ∷ []))),
  )

  -- what a machine stands for is legal
  pub stands_legal : (x : S) (h : List EntryMark) → StandsFor priority object callers state steps tally o n x h → IsLegal priority o h
  stands_legal x h s = (state x, s.2)
