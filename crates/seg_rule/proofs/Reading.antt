-- Loads, as the table asks for them.
use Rattle.std.proofs.Common.{◌≡◌, ℕ, ◌+◌, ◌*◌, ◌<◌, ◌⊎◌, ⊎_elim, Bool, List, get_or, set, sym, refl, ◌∙◌, subst}
use Rattle.std.proofs.lemmas.Bool.{cases_eq}
use mathlib.Core.Option.{some, none}
use lib.ListN.{get_elem?}
use lib.Seq.{set-get_or}
use Rattle.atomic_table.specs.Table.{State, Me, keeps, step, Allows}
use Rattle.seg_rule.specs.declared.form.Form.{Form}
use Rattle.seg_rule.specs.declared.word.QueueWord.{QueueWord}
use Rattle.seg_rule.specs.declared.word.QueueWord.TheVariants.{Head, Tail}
use Rattle.seg_rule.specs.declared.view.View.{View}
use Rattle.seg_rule.specs.Words.{memory, index_of, IsWord}
use Rattle.seg_rule.specs.Rule.{IsShape, Kept, Rule}
use Rattle.seg_rule.specs.Entering.{EntersFull, EntersEmpty, EntersPeek, MayEnterFull, MayEnterEmpty, MayEnterPeek, MayEnterCount}
use Rattle.seg_rule.specs.Plays.{Reads, Decided, looks, sees_full, sees_empty, sees_front, sees_count}
use Rattle.seg_rule.proofs.Words.{at_word}
use Rattle.seg_rule.proofs.Allowed.{at_index, head_word, tail_word}
use Rattle.seg_rule.proofs.Loads.{reads}
use Rattle.seg_rule.proofs.EntryLoads.{full_kept, empty_kept, peek_kept, count_kept}

module _ (f : Form) (slots id : ℕ) (me : Me ℕ View) where
  pub loads_allowed : (q : QueueWord) (Told : ℕ → View → Type 0) → IsWord f.places f.slots q
      → ((s : State ℕ View) → IsShape f → (k : Kept f (memory f.places f.slots s.words) s.views) → get_elem? s.views id ≡ some me.0 → (x : ℕ) → memory f.places f.slots s.words q ≡ x → (w : View) × Kept f (memory f.places f.slots s.words) (set s.views id w) × Told x w)
      → Allows (Rule f) slots id me (index_of f.slots q) (λ x. x) (λ x m'. Told x m'.0 × (m'.1 ≡ me.1))
  loads_allowed q Told near kind s r wide at small =
      let k = kind s r.shape r.kept at (get_or s.words (index_of f.slots q) 0) (at_word f.places f.slots s.words q near) in
      (k.0, keeps, tt, subst (λ (z : List ℕ). Rule f (record { words = z; homes = s.homes; views = set s.views id k.0 })) (sym (set-get_or s.words (index_of f.slots q) 0)) (record { wide = r.wide; shape = r.shape; kept = k.1 }), (k.2, refl))

  -- a load that makes no entry
  pub looks_allowed : (w : QueueWord) → IsWord f.places f.slots w → Allows (Rule f) slots id me (index_of f.slots w) (λ x. x) (λ x m'. Reads w x me.0 m'.0 × (m'.1 ≡ me.1))
  looks_allowed w near = loads_allowed w (λ x v. Reads w x me.0 v) near (λ s shape k at x now. reads f (memory f.places f.slots s.words) s.views id me.0 k at shape w x near now)

  -- a load that makes an entry where the value decides it
  decides_allowed : (w : QueueWord) (P : ℕ → Type 0) (E : ℕ → View → Type 0) → ((x : ℕ) → P x ⊎ (P x → ⊥)) → IsWord f.places f.slots w
      → ((s : State ℕ View) (k : Kept f (memory f.places f.slots s.words) s.views) → get_elem? s.views id ≡ some me.0 → (x : ℕ) → memory f.places f.slots s.words w ≡ x → P x → (w' : View) × Kept f (memory f.places f.slots s.words) (set s.views id w') × E x w')
      → Allows (Rule f) slots id me (index_of f.slots w) (λ x. x) (λ x m'. Decided (P x) (E x m'.0) (Reads w x me.0 m'.0) × (m'.1 ≡ me.1))
  decides_allowed w P E which near kind = loads_allowed w (λ x v. Decided (P x) (E x v) (Reads w x me.0 v)) near
      (λ s shape k at x now. ⊎_elim
      (λ (yes : P x). let a = kind s k at x now yes in (a.0, a.1, ((λ _. a.2), (λ no. absurd (no yes)))))
      (λ (no : P x → ⊥). let a = reads f (memory f.places f.slots s.words) s.views id me.0 k at shape w x near now in (a.0, a.1, ((λ yes. absurd (no yes)), (λ _. a.2))))
      (which x))

-- the same at the index that the code computed
module _ (f : Form) (n i slots id : ℕ) (me : Me ℕ View) (wide : f.slots ≡ n) where
  pub looks_at : (w w' : QueueWord) → w' ≡ w → i ≡ index_of n w → IsWord f.places n w → Allows (Rule f) slots id me i (λ x. x) (looks w' (step slots i 0 0 none) me)
  looks_at w w' same e near =
      subst (λ z. Allows (Rule f) slots id me i (λ x. x) (looks z (step slots i 0 0 none) me)) (sym same)
      (at_index (λ z. Allows (Rule f) slots id me z (λ x. x) (looks w (step slots z 0 0 none) me)) f n i w wide e (looks_allowed f slots id me w (subst (λ z. IsWord f.places z w) (sym wide) near)))

  pub full_at : (y t r y' t' r' : ℕ) → y' ≡ y → t' ≡ t → r' ≡ r → f.room ≡ r → MayEnterFull me.0 t → i ≡ index_of n Head → Allows (Rule f) slots id me i (λ x. x) (sees_full r' y' t' (step slots i 0 0 none) me)
  full_at y t r y' t' r' at_y at_t at_r room may e =
      subst (λ (z : (ℕ × ℕ) × ℕ). Allows (Rule f) slots id me i (λ x. x) (sees_full z.0.0 z.0.1 z.1 (step slots i 0 0 none) me)) (λ j. ((sym (at_r ∙ sym room) j, sym at_y j), sym at_t j))
      (at_index (λ z. Allows (Rule f) slots id me z (λ x. x) (sees_full f.room y t (step slots z 0 0 none) me)) f n i Head wide e
      (decides_allowed f slots id me Head (λ x. x + f.room ≡ t) (λ x v. EntersFull me.0 y t v) (λ x. cases_eq (x + f.room) t) (head_word f)
      (λ s k at x now is. subst (λ z. (w : View) × Kept f (memory f.places f.slots s.words) (set s.views id w) × EntersFull me.0 y z w) may.1.2
      (full_kept f (memory f.places f.slots s.words) s.views id me.0 k at may.0 may.1.0 y x may.1.1 now (is ∙ sym may.1.2)))))

  pub empty_at : (p h p' h' : ℕ) (peek peek' : Bool) → p' ≡ p → h' ≡ h → peek' ≡ peek → MayEnterEmpty me.0 h → p < f.places → i ≡ index_of n (Tail p) → Allows (Rule f) slots id me i (λ x. x) (sees_empty p' h' peek' (step slots i 0 0 none) me)
  empty_at p h p' h' peek peek' at_p at_h at_peek may near e =
      subst (λ (z : (ℕ × ℕ) × Bool). Allows (Rule f) slots id me i (λ x. x) (sees_empty z.0.0 z.0.1 z.1 (step slots i 0 0 none) me)) (λ j. ((sym at_p j, sym at_h j), sym at_peek j))
      (at_index (λ z. Allows (Rule f) slots id me z (λ x. x) (sees_empty p h peek (step slots z 0 0 none) me)) f n i (Tail p) wide e
      (decides_allowed f slots id me (Tail p) (λ x. x ≡ 2 * h) (λ x v. EntersEmpty me.0 h peek v) (λ x. cases_eq x (2 * h)) (tail_word f p near)
      (λ s k at x now is. empty_kept f (memory f.places f.slots s.words) s.views id me.0 k at may.0 p h peek near may.1 (now ∙ is))))

  pub front_at : (h y h' y' : ℕ) → h' ≡ h → y' ≡ y → MayEnterPeek me.0 h y → i ≡ index_of n Head → Allows (Rule f) slots id me i (λ x. x) (sees_front h' y' (step slots i 0 0 none) me)
  front_at h y h' y' at_h at_y may e =
      subst (λ (z : ℕ × ℕ). Allows (Rule f) slots id me i (λ x. x) (sees_front z.0 z.1 (step slots i 0 0 none) me)) (λ j. (sym at_h j, sym at_y j))
      (at_index (λ z. Allows (Rule f) slots id me z (λ x. x) (sees_front h y (step slots z 0 0 none) me)) f n i Head wide e
      (decides_allowed f slots id me Head (λ x. x ≡ h) (λ x v. EntersPeek me.0 h y v) (λ x. cases_eq x h) (head_word f)
      (λ s k at x now is. peek_kept f (memory f.places f.slots s.words) s.views id me.0 k at may.0 h may.1.0 may.1.1 y may.1.2 (now ∙ is))))

  pub count_at : (t t' : ℕ) → t' ≡ t → MayEnterCount me.0 t → i ≡ index_of n Head → Allows (Rule f) slots id me i (λ x. x) (sees_count t' (step slots i 0 0 none) me)
  count_at t t' at_t may e =
      subst (λ z. Allows (Rule f) slots id me i (λ x. x) (sees_count z (step slots i 0 0 none) me)) (sym at_t)
      (at_index (λ z. Allows (Rule f) slots id me z (λ x. x) (sees_count t (step slots z 0 0 none) me)) f n i Head wide e
      (counted f slots id me t may))
    where
      counted : (f : Form) (slots id : ℕ) (me : Me ℕ View) (t : ℕ) → MayEnterCount me.0 t → Allows (Rule f) slots id me (index_of f.slots Head) (λ x. x) (sees_count t (step slots (index_of f.slots Head) 0 0 none) me)
      counted f slots id me t may s r wide at small =
          let y : ℕ = get_or s.words (index_of f.slots Head) 0 in
          let k = count_kept f (memory f.places f.slots s.words) s.views id me.0 r.kept at may.0 may.1.0 t y may.1.1 may.1.2 (at_word f.places f.slots s.words Head (head_word f)) in
          (k.0, keeps, tt, subst (λ (z : List ℕ). Rule f (record { words = z; homes = s.homes; views = set s.views id k.0 })) (sym (set-get_or s.words (index_of f.slots Head) 0)) (record { wide = r.wide; shape = r.shape; kept = k.1 }), (k.2, k.3, refl))
