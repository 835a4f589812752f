-- The kinds of step, as the table asks for them.
use Rattle.std.proofs.Common.{◌≡◌, ℕ, suc, ◌+◌, ◌*◌, ◌%◌, ◌<◌, ◌≢◌, eqb, List, get_or, set, sym, refl, ap, ◌∙◌, subst, arith}
use mathlib.Core.Option.{some, none}
use lib.ListN.{get_elem?}
use lib.Seq.{set-get_or}
use prog.Atomic.{either}
use Rattle.std.specs.Prelude.{Some}
use Rattle.atomic_table.specs.Table.{State, Me, keeps, stepped, step, Allows}
use Rattle.atomic_table.proofs.Lists.{exchanged}
use Rattle.seg_rule.specs.declared.form.Form.{Form}
use Rattle.seg_rule.specs.declared.word.QueueWord.{QueueWord}
use Rattle.seg_rule.specs.declared.word.QueueWord.TheVariants.{Head, Turn, Current, Tail, Start, Length, Done, Next, Segment, Number, Item}
use Rattle.seg_rule.specs.declared.view.View.{View}
use Rattle.seg_rule.specs.declared.view.OpenTail.{OpenTail}
use Rattle.seg_rule.specs.declared.view.Hand.{Hand}
use Rattle.seg_rule.specs.declared.view.Hand.TheVariants.{Nothing, Reserved, Stored}
use Rattle.seg_rule.specs.declared.view.Stage.{Stage}
use Rattle.seg_rule.specs.declared.view.Stage.TheVariants.{Plain, Closed, Preparing}
use Rattle.seg_rule.specs.Words.{Memory, memory, update, words_of, index_of, IsWord}
use Rattle.seg_rule.specs.Rule.{Kept, Rule}
use Rattle.seg_rule.specs.Steps.{in_hand, fit_tail, MayReserve, Reserves, MissesTail, MayTake, Takes, MissesHead, MayTurn, turned, MissesTurn, is_full, on_stage, stored_hand, stores, publishes, reserves, takes, takes_turn, closes, opened_by, opened, opens, at_stage}
use Rattle.seg_rule.proofs.Words.{at_word, index_below}
use Rattle.seg_rule.proofs.Frames.{rule_after}
use Rattle.seg_rule.proofs.Missing.{tail_missed, head_missed, turn_missed}
use Rattle.seg_rule.proofs.Items.{stored_kept, published_kept}
use Rattle.seg_rule.proofs.Turns.{turn_kept, closed_kept}
use Rattle.seg_rule.proofs.Reserving.{reserved_kept}
use Rattle.seg_rule.proofs.HeadTakes.{took_kept}
use Rattle.seg_rule.proofs.Opening.{opened_kept}

module _ (f : Form) (slots id : ℕ) (me : Me ℕ View) where
  -- what a kind of step shows of the table s
  abbrev m : State ℕ View → Memory
  m s = memory f.places f.slots s.words

  -- a store
  pub stores_allowed : (q : QueueWord) (x : ℕ) (w : View) → IsWord f.places f.slots q
      → ((s : State ℕ View) (k : Kept f (m s) s.views) → get_elem? s.views id ≡ some me.0 → Kept f (update (m s) q x) (set s.views id w))
      → Allows (Rule f) slots id me (index_of f.slots q) (λ _. x) (λ _ m'. m' ≡ (w, me.1))
  stores_allowed q x w near kind s r wide at small = (w, keeps, tt, rule_after f s r id q x me.1 w near (kind s r.kept at), refl)

  -- an exchange, and what it tells where it wins and where it is lost
  pub exchange_allowed : (q : QueueWord) (old new : ℕ) (Won : View → Type 0) (Lost : ℕ → View → Type 0) → IsWord f.places f.slots q
      → ((s : State ℕ View) (k : Kept f (m s) s.views) → get_elem? s.views id ≡ some me.0 → m s q ≡ old → (w : View) × Kept f (update (m s) q new) (set s.views id w) × Won w)
      → ((s : State ℕ View) (k : Kept f (m s) s.views) → get_elem? s.views id ≡ some me.0 → (y : ℕ) → m s q ≡ y → y ≢ old → (w : View) × Kept f (m s) (set s.views id w) × Lost y w)
      → Allows (Rule f) slots id me (index_of f.slots q) (λ y. either (eqb y old) new y) (λ y m'. (y ≡ old → Won m'.0) × (y ≢ old → Lost y m'.0) × (m'.1 ≡ me.1))
  exchange_allowed q old new Won Lost near kind lost s r wide at small =
      let y : ℕ = get_or s.words (index_of f.slots q) 0 in let there = at_word f.places f.slots s.words q near in
      let go : (w : View) × Rule f (stepped s (index_of f.slots q) (either (eqb y old) new y) id me.1 w keeps) × (y ≡ old → Won w) × (y ≢ old → Lost y w) =
      exchanged y old new (λ z. (w : View) × Rule f (stepped s (index_of f.slots q) z id me.1 w keeps) × (y ≡ old → Won w) × (y ≢ old → Lost y w))
      (λ hit. let k = kind s r.kept at (there ∙ hit) in (k.0, rule_after f s r id q new me.1 k.0 near k.1, (λ _. k.2), λ miss. absurd (miss hit)))
      (λ miss. let k = lost s r.kept at y there miss in
      (k.0, subst (λ (z : List ℕ). Rule f (record { words = z; homes = s.homes; views = set s.views id k.0 })) (sym (set-get_or s.words (index_of f.slots q) 0)) (record { wide = r.wide; shape = r.shape; kept = k.1 }), (λ hit. absurd (miss hit)), λ _. k.2)) in
      (go.0, keeps, tt, go.1, (go.2, go.3, refl))

pub item_word : (f : Form) (q i : ℕ) → q < f.places → i < f.slots → IsWord f.places f.slots (Item q i)
item_word f q i a b = (omega arith, omega arith)

pub number_word : (f : Form) (q i : ℕ) → q < f.places → i < f.slots → IsWord f.places f.slots (Number q i)
number_word f q i a b = (omega arith, omega arith)

pub tail_word : (f : Form) (q : ℕ) → q < f.places → IsWord f.places f.slots (Tail q)
tail_word f q a = (omega arith, omega arith)

pub head_word : (f : Form) → IsWord f.places f.slots Head
head_word f = (omega arith, omega arith)

pub turn_word : (f : Form) → IsWord f.places f.slots Turn
turn_word f = (omega arith, omega arith)

module _ (f : Form) (slots id : ℕ) (me : Me ℕ View) where
  pub item_stores : (p q i x : ℕ) → me.0.hand ≡ Reserved p q i x → q < f.places → i < f.slots
      → Allows (Rule f) slots id me (index_of f.slots (Item q i)) (λ _. x) (λ _. stores (step slots (index_of f.slots (Item q i)) x 0 none) me x)
  item_stores p q i x is a b = subst (λ (h : Hand). Allows (Rule f) slots id me (index_of f.slots (Item q i)) (λ _. x) (λ _ w. w ≡ (in_hand me.0 (stored_hand h), me.1))) (sym is)
      (stores_allowed f slots id me (Item q i) x (in_hand me.0 (Stored p q i x)) (item_word f q i a b) (λ s k at. stored_kept f (memory f.places f.slots s.words) s.views id me.0 k at p q i x is))

  pub item_publishes : (p q i x : ℕ) → me.0.hand ≡ Stored p q i x → q < f.places → i < f.slots
      → Allows (Rule f) slots id me (index_of f.slots (Number q i)) (λ _. 2 * p + 1) (λ _. publishes (step slots (index_of f.slots (Number q i)) (2 * p + 1) 0 none) me (2 * p + 1))
  item_publishes p q i x is a b = stores_allowed f slots id me (Number q i) (2 * p + 1) (in_hand me.0 Nothing) (number_word f q i a b) (λ s k at. published_kept f (memory f.places f.slots s.words) s.views id me.0 k at p q i x is)

  pub tail_reserves : (q t n x : ℕ) → MayReserve f.room me.0 q t n → q < f.places
      → Allows (Rule f) slots id me (index_of f.slots (Tail q)) (λ y. either (eqb y (2 * t)) (2 * suc t) y) (reserves q t (t % n) x (step slots (index_of f.slots (Tail q)) (2 * t) (2 * suc t) none) me)
  tail_reserves q t n x may a = exchange_allowed f slots id me (Tail q) (2 * t) (2 * suc t) (Reserves me.0 q t (t % n) x) (MissesTail me.0 q t) (tail_word f q a) (λ s k at hit. reserved_kept f (memory f.places f.slots s.words) s.views id me.0 k at q t n x may hit)
      (λ s k at y now miss. tail_missed f (memory f.places f.slots s.words) s.views id me.0 k at (fit_tail q t n may.number may.full) y may.tail now miss)

  pub head_takes : (h q i y : ℕ) → MayTake me.0 h q i y
      → Allows (Rule f) slots id me (index_of f.slots Head) (λ z. either (eqb z h) (suc h) z) (takes h q i y (step slots (index_of f.slots Head) h (suc h) none) me)
  head_takes h q i y may = exchange_allowed f slots id me Head h (suc h) (Takes me.0 h q i y) (MissesHead me.0 h) (head_word f) (λ s k at hit. took_kept f (memory f.places f.slots s.words) s.views id me.0 k at h q i y may hit)
      (λ s k at z now miss. head_missed f (memory f.places f.slots s.words) s.views id me.0 k at h z may.head now miss)

  pub turn_takes : MayTurn me.0
      → Allows (Rule f) slots id me (index_of f.slots Turn) (λ z. either (eqb z 0) (suc me.0.caller) z) (takes_turn (step slots (index_of f.slots Turn) 0 (suc me.0.caller) none) me)
  turn_takes may = exchange_allowed f slots id me Turn 0 (suc me.0.caller) (λ w. w ≡ turned me.0) (MissesTurn me.0) (turn_word f) (λ s k at hit. (turned me.0, turn_kept f (memory f.places f.slots s.words) s.views id me.0 k at may hit, refl))
      (λ s k at y now miss. turn_missed f (memory f.places f.slots s.words) s.views id me.0 k at y may.away now miss)

  pub tail_closes : (q t : ℕ) (o : OpenTail) → me.0.stage ≡ Plain → me.0.notes.tail ≡ Some o → o.place ≡ q → o.position ≡ t → q < f.places
      → Allows (Rule f) slots id me (index_of f.slots (Tail q)) (λ y. either (eqb y (2 * t)) (2 * t + 1) y) (closes q t (step slots (index_of f.slots (Tail q)) (2 * t) (2 * t + 1) none) me)
  tail_closes q t o plain noted at_q at_t a = exchange_allowed f slots id me (Tail q) (2 * t) (2 * t + 1) (λ w. w ≡ on_stage me.0 (Closed q t (is_full me.0.notes.tail))) (MissesTail me.0 q t) (tail_word f q a)
      (λ s k at hit. (on_stage me.0 (Closed q t o.full), closed_kept f (memory f.places f.slots s.words) s.views id me.0 k at q t o plain noted at_q at_t hit, ap (λ z. on_stage me.0 (Closed q t (is_full z))) (sym noted)))
      (λ s k at y now miss. subst (λ (z : ℕ × ℕ). (w : View) × Kept f (memory f.places f.slots s.words) (set s.views id w) × MissesTail me.0 z.0 z.1 y w) (λ i. (at_q i, at_t i))
      (tail_missed f (memory f.places f.slots s.words) s.views id me.0 k at o y noted (ap (λ z. memory f.places f.slots s.words (Tail z)) at_q ∙ now) (λ z. miss (z ∙ ap (λ c. 2 * c) at_t))))

  pub tail_opens : (d q t n : ℕ) → me.0.stage ≡ Preparing d q t n (4 + n) → q < f.places
      → Allows (Rule f) slots id me (index_of f.slots (Tail q)) (λ _. 2 * t) (λ _. opens (step slots (index_of f.slots (Tail q)) (2 * t) 0 none) me (2 * t))
  tail_opens d q t n ready a = subst (λ (s : Stage). Allows (Rule f) slots id me (index_of f.slots (Tail q)) (λ _. 2 * t) (λ _ w. w ≡ (opened_by s me.0, me.1))) (sym ready)
      (stores_allowed f slots id me (Tail q) (2 * t) (opened_by (Preparing d q t n (4 + n)) me.0) (tail_word f q a) (λ s k at. opened_kept f (memory f.places f.slots s.words) s.views id me.0 k at d q t n ready))

-- the index that the code computed, where n is the code's number of slots
pub index_in : (f : Form) (n i words : ℕ) (w : QueueWord) → f.slots ≡ n → i ≡ index_of n w → words ≡ words_of f.places f.slots → IsWord f.places f.slots w → i < words
index_in f n i words w e is wide near = subst (λ z. i < z) (sym wide) (subst (λ z. z < words_of f.places f.slots) (ap (λ z. index_of z w) e ∙ sym is) (index_below f.places f.slots w near))

pub at_index : (F : ℕ → Type 0) (f : Form) (n i : ℕ) (w : QueueWord) → f.slots ≡ n → i ≡ index_of n w → F (index_of f.slots w) → F i
at_index F f n i w e is h = subst F (ap (λ z. index_of z w) e ∙ sym is) h

-- the same with the numbers of the code
module _ (f : Form) (n i slots id : ℕ) (me : Me ℕ View) (wide : f.slots ≡ n) where
  pub stores_at : (p q j x : ℕ) → me.0.hand ≡ Reserved p q j x → q < f.places → j < n → i ≡ index_of n (Item q j) → Allows (Rule f) slots id me i (λ _. x) (λ _. stores (step slots i x 0 none) me x)
  stores_at p q j x is a b e = at_index (λ z. Allows (Rule f) slots id me z (λ _. x) (λ _ w. w ≡ (in_hand me.0 (stored_hand me.0.hand), me.1))) f n i (Item q j) wide e (item_stores f slots id me p q j x is a (subst (λ z. j < z) (sym wide) b))

  pub publishes_at : (p q j x : ℕ) → me.0.hand ≡ Stored p q j x → q < f.places → j < n → i ≡ index_of n (Number q j) → Allows (Rule f) slots id me i (λ _. 2 * p + 1) (λ _. publishes (step slots i (2 * p + 1) 0 none) me (2 * p + 1))
  publishes_at p q j x is a b e = at_index (λ z. Allows (Rule f) slots id me z (λ _. 2 * p + 1) (λ _ w. w ≡ (in_hand me.0 Nothing, me.1))) f n i (Number q j) wide e (item_publishes f slots id me p q j x is a (subst (λ z. j < z) (sym wide) b))

  pub turns_at : (c : ℕ) → me.0.caller ≡ c → MayTurn me.0 → i ≡ index_of n Turn → Allows (Rule f) slots id me i (λ z. either (eqb z 0) (c + 1) z) (takes_turn (step slots i 0 (c + 1) none) me)
  turns_at c by may e = let next : suc me.0.caller ≡ c + 1 = omega arith in at_index (λ z. Allows (Rule f) slots id me z (λ z. either (eqb z 0) (c + 1) z) (takes_turn (step slots i 0 (c + 1) none) me)) f n i Turn wide e
      (subst (λ y. Allows (Rule f) slots id me (index_of f.slots Turn) (λ z. either (eqb z 0) y z) (takes_turn (step slots i 0 (c + 1) none) me)) next (turn_takes f slots id me may))

  pub closes_at : (q t q' t' : ℕ) (o : OpenTail) → q' ≡ q → t' ≡ t → me.0.stage ≡ Plain → me.0.notes.tail ≡ Some o → o.place ≡ q → o.position ≡ t → q < f.places → i ≡ index_of n (Tail q)
      → Allows (Rule f) slots id me i (λ y. either (eqb y (2 * t)) (2 * t + 1) y) (closes q' t' (step slots i (2 * t) (2 * t + 1) none) me)
  closes_at q t q' t' o at_q at_t plain noted same_q same_t a e =
      subst (λ (z : ℕ × ℕ). Allows (Rule f) slots id me i (λ y. either (eqb y (2 * t)) (2 * t + 1) y) (closes z.0 z.1 (step slots i (2 * t) (2 * t + 1) none) me)) (λ j. (sym at_q j, sym at_t j))
      (at_index (λ z. Allows (Rule f) slots id me z (λ y. either (eqb y (2 * t)) (2 * t + 1) y) (closes q t (step slots z (2 * t) (2 * t + 1) none) me)) f n i (Tail q) wide e (tail_closes f slots id me q t o plain noted same_q same_t a))

  pub reserves_at : (q t l x q' t' l' x' : ℕ) → q' ≡ q → t' ≡ t → l' ≡ t % l → x' ≡ x → MayReserve f.room me.0 q t l → q < f.places → i ≡ index_of n (Tail q)
      → Allows (Rule f) slots id me i (λ y. either (eqb y (2 * t)) (2 * (t + 1)) y) (reserves q' t' l' x' (step slots i (2 * t) (2 * (t + 1)) none) me)
  reserves_at q t l x q' t' l' x' at_q at_t at_l at_x may a e =
      let next : suc t ≡ t + 1 = omega arith in
      subst (λ (z : (ℕ × ℕ) × (ℕ × ℕ)). Allows (Rule f) slots id me i (λ y. either (eqb y (2 * t)) (2 * (t + 1)) y) (reserves z.0.0 z.0.1 z.1.0 z.1.1 (step slots i (2 * t) (2 * (t + 1)) none) me)) (λ j. ((sym at_q j, sym at_t j), (sym at_l j, sym at_x j)))
      (at_index (λ z. Allows (Rule f) slots id me z (λ y. either (eqb y (2 * t)) (2 * (t + 1)) y) (reserves q t (t % l) x (step slots i (2 * t) (2 * (t + 1)) none) me)) f n i (Tail q) wide e
      (subst (λ z. Allows (Rule f) slots id me (index_of f.slots (Tail q)) (λ y. either (eqb y (2 * t)) (2 * z) y) (reserves q t (t % l) x (step slots i (2 * t) (2 * (t + 1)) none) me)) next (tail_reserves f slots id me q t l x may a)))

  pub takes_from : (h h' q j y : ℕ) → h' ≡ h → MayTake me.0 h' q j y → i ≡ index_of n Head → Allows (Rule f) slots id me i (λ z. either (eqb z h) (h + 1) z) (takes h' q j y (step slots i h (h + 1) none) me)
  takes_from h h' q j y at_h may e =
      let next : suc h ≡ h + 1 = omega arith in
      at_index (λ z. Allows (Rule f) slots id me z (λ z. either (eqb z h) (h + 1) z) (takes h' q j y (step slots i h (h + 1) none) me)) f n i Head wide e
      (subst (λ (z : ℕ × ℕ). Allows (Rule f) slots id me (index_of f.slots Head) (λ y. either (eqb y z.0) z.1 y) (takes h' q j y (step slots i h (h + 1) none) me)) (λ d. (at_h d, (ap suc at_h ∙ next) d)) (head_takes f slots id me h' q j y may))

  pub opens_at : (d q t l : ℕ) → me.0.stage ≡ Preparing d q t l (4 + l) → q < f.places → i ≡ index_of n (Tail q) → Allows (Rule f) slots id me i (λ _. 2 * t) (λ _. opens (step slots i (2 * t) 0 none) me (2 * t))
  opens_at d q t l ready a e = at_index (λ z. Allows (Rule f) slots id me z (λ _. 2 * t) (λ _ w. w ≡ (opened me.0, me.1))) f n i (Tail q) wide e (tail_opens f slots id me d q t l ready a)

-- a store of the holder of the turn, at the index that the code computed
pub stage_at : (f : Form) (n i slots id : ℕ) (me : Me ℕ View) (w : QueueWord) (x : ℕ) (F : Stage → Stage) (s s' : Stage) → f.slots ≡ n → i ≡ index_of n w → IsWord f.places f.slots w → me.0.stage ≡ s → F s ≡ s'
    → ((st : State ℕ View) (k : Kept f (memory f.places f.slots st.words) st.views) → get_elem? st.views id ≡ some me.0 → Kept f (update (memory f.places f.slots st.words) w x) (set st.views id (on_stage me.0 (s'))))
    → Allows (Rule f) slots id me i (λ _. x) (λ _. at_stage F (step slots i x 0 none) me x)
stage_at f n i slots id me w x F s s' wide e near is to kind = at_index (λ z. Allows (Rule f) slots id me z (λ _. x) (λ _ m'. m' ≡ ((on_stage me.0 (F me.0.stage)), me.1))) f n i w wide e
    (subst (λ (z : Stage). Allows (Rule f) slots id me (index_of f.slots w) (λ _. x) (λ _ m'. m' ≡ ((on_stage me.0 (z)), me.1))) (sym (ap F is ∙ to))
    (stores_allowed f slots id me w x (on_stage me.0 (s')) near kind))

pub place_word : (f : Form) (q : ℕ) → q < f.places → IsWord f.places f.slots (Start q) × IsWord f.places f.slots (Length q) × IsWord f.places f.slots (Done q) × IsWord f.places f.slots (Next q) × IsWord f.places f.slots (Segment q)
place_word f q a = ((omega arith, omega arith), (omega arith, omega arith), (omega arith, omega arith), (omega arith, omega arith), (omega arith, omega arith))

pub current_word : (f : Form) → IsWord f.places f.slots Current
current_word f = (omega arith, omega arith)

pub takes_named : (f : Form) (n i slots id : ℕ) (me : Me ℕ View) (wide : f.slots ≡ n) (h q j y h' q' j' y' : ℕ) → h' ≡ h → q' ≡ q → j' ≡ j → y' ≡ y → MayTake me.0 h q j y → i ≡ index_of n Head
    → Allows (Rule f) slots id me i (λ z. either (eqb z h) (h + 1) z) (takes h' q' j' y' (step slots i h (h + 1) none) me)
takes_named f n i slots id me wide h q j y h' q' j' y' at_h at_q at_j at_y may e =
    subst (λ (z : (ℕ × ℕ) × (ℕ × ℕ)). Allows (Rule f) slots id me i (λ z. either (eqb z h) (h + 1) z) (takes z.0.0 z.0.1 z.1.0 z.1.1 (step slots i h (h + 1) none) me)) (λ d. ((sym at_h d, sym at_q d), (sym at_j d, sym at_y d)))
    (takes_from f n i slots id me wide h h q j y refl may e)
