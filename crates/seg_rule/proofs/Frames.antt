-- One step as a whole: what a kind of step has to show of the views, and lemmas on one cell that is put.
use Rattle.std.proofs.Common.{◌≡◌, ℕ, suc, ◌+◌, ◌*◌, ◌%◌, ◌<◌, ◌≤◌, ◌≢◌, ◌⊎◌, inl, inr, ⊎_elim, List, set, sym, refl, ap, ◌∙◌, subst, arith, le_refl, length-set}
use Rattle.std.proofs.lemmas.Bool.{cases_eq}
use mathlib.Core.Option.{some, some-injective}
use lib.ListN.{get_elem?}
use Rattle.ho_base.specs.Marks.{Mark}
use Rattle.atomic_table.specs.Table.{State, keeps, stepped}
use Rattle.passes.proofs.Seats.{seats_stay, some_seat, at_inside}
use Rattle.atomic_table.proofs.Lists.{set_here}
use Rattle.seg_rule.specs.declared.word.QueueWord.{QueueWord}
use Rattle.seg_rule.specs.declared.view.View.{View}
use Rattle.seg_rule.specs.Words.{Memory, memory, update, index_of, IsWord}
use Rattle.seg_rule.specs.Chain.{Segs, ChainOk, end_of}
use Rattle.seg_rule.specs.Slots.{free, full, Cell, up, holder, SlotOk}
use Rattle.seg_rule.specs.Places.{Cells, HomeOk, SlotsOk, put_at}
use Rattle.seg_rule.specs.declared.form.Form.{Form}
use Rattle.seg_rule.specs.Rule.{Ghosts, Words, Views, ViewOk, Kept, Rule, StraysOk, paid_of, takes_in, watches}
use Rattle.seg_rule.specs.Rely.{IsLate, StaysIn, Rely}
use Rattle.seg_rule.proofs.Words.{written}
use Rattle.seg_rule.proofs.Places.{at_here, at_else, at_cases}
use Rattle.seg_rule.proofs.Slots.{slot_stays}
use Rattle.seg_rule.proofs.Stays.{view_stays}
use Rattle.seg_rule.proofs.Sums.{total_set}

-- what a kind of step shows of the views: the others rely on it, the own one is new, and the sums move with it
pub record Moves (f : Form) (g g' : Ghosts) (views : List View) (id : ℕ) (v w : View) : Type 0 where
  pub rely : (j : ℕ) (u : View) → j ≢ id → get_elem? views j ≡ some u → ViewOk f g j u → Rely f j u g g'
  pub mine : ViewOk f g' id w
  pub paid_by : g'.paid + paid_of v ≡ g.paid + paid_of w
  pub untold_by : (q : ℕ) → g'.untold q + takes_in q v ≡ g.untold q + takes_in q w
  pub watch_by : (k : ℕ) → g'.watch k + watches k v ≡ g.watch k + watches k w
  pub seated : (q i j : ℕ) → j ≢ id → holder (g'.cells q i).1 ≡ suc j → holder (g.cells q i).1 ≡ suc j
  pub turned : (j : ℕ) → j ≢ id → g'.turn ≡ suc j → g.turn ≡ suc j
  pub seen : (v.seen ≡ g.log → w.seen ≡ g'.log) × ((w.seen ≡ g'.log) ⊎ (g'.log ≡ g.log))

module _ (f : Form) (g g' : Ghosts) (views : List View) (id : ℕ) (v w : View) (at : get_elem? views id ≡ some v) where
  here : get_elem? (set views id w) id ≡ some w
  here = set_here views id w (at_inside views id v at)

  there : (j : ℕ) → (u : View) × (get_elem? views j ≡ some u) → (u : View) × (get_elem? (set views id w) j ≡ some u)
  there j h = let s = some_seat (λ (u : View). Unit {0}) views id j v w at (λ t. tt) (h.0, h.1, tt) in (s.0, s.1)

  pub views_after : ChainOk g.segs g.low g.last g.taken g.put → HomeOk g.segs g.low g.last g.home → Views f g views → Moves f g g' views id v w → Views f g' (set views id w)
  views_after c h k s = record {
    each = seats_stay (ViewOk f g') views id w s.mine (λ j u other e. view_stays f g g' j u c h (s.rely j u other e (k.each j u e)) (k.each j u e));
    paid_is = let a = total_set paid_of views id v w at in let b = k.paid_is in let d = s.paid_by in omega arith;
    untold_is = λ q. let a = total_set (takes_in q) views id v w at in let b = k.untold_is q in let d = s.untold_by q in omega arith;
    watch_is = λ n. let a = total_set (watches n) views id v w at in let b = k.watch_is n in let d = s.watch_by n in omega arith;
    seated = λ q i j e. ⊎_elim (λ (same : j ≡ id). (w, ap (get_elem? (set views id w)) same ∙ here)) (λ (other : j ≢ id). there j (k.seated q i j (s.seated q i j other e))) (cases_eq j id);
    turned = λ j e. ⊎_elim (λ (same : j ≡ id). (w, ap (get_elem? (set views id w)) same ∙ here)) (λ (other : j ≢ id). there j (k.turned j (s.turned j other e))) (cases_eq j id);
    all = ⊎_elim (λ (e : w.seen ≡ g'.log). (id, w, here, e))
        (λ (e : g'.log ≡ g.log). let a = k.all in ⊎_elim
        (λ (same : a.0 ≡ id). let is : a.1 ≡ v = some-injective a.1 v (sym a.2 ∙ (ap (get_elem? views) same ∙ at)) in (id, w, here, s.seen.0 (ap (λ (x : View). x.seen) (sym is) ∙ a.3)))
        (λ (other : a.0 ≢ id). let t = some_seat (λ (u : View). u.seen ≡ g.log) views id a.0 v w at (λ y. s.seen.0 y ∙ e) (a.1, a.2, a.3) in (a.0, t.0, t.1, t.2 ∙ sym e))
        (cases_eq a.0 id))
        s.seen.1;
  }

pub kept_after : (f : Form) (m m' : Memory) (views : List View) (k : Kept f m views) (id : ℕ) (v w : View) (g' : Ghosts) → get_elem? views id ≡ some v → Words f m' g' → Moves f k.g g' views id v w → Kept f m' (set views id w)
kept_after f m m' views k id v w g' at words moves = record { g = g'; words = words; seats = views_after f k.g g' views id v w at k.words.chain k.words.homes k.seats moves }

-- and back to the table's words
pub rule_after : (f : Form) (s : State ℕ View) (r : Rule f s) (id : ℕ) (q : QueueWord) (x : ℕ) (cs : List (ℕ × ℕ)) (w : View) → IsWord f.places f.slots q
    → Kept f (update (memory f.places f.slots s.words) q x) (set s.views id w) → Rule f (stepped s (index_of f.slots q) x id cs w keeps)
rule_after f s r id q x cs w is k = record {
  wide = length-set s.words (index_of f.slots q) x ∙ r.wide;
  shape = r.shape;
  kept = subst (λ (m : Memory). Kept f m (set s.views id w)) (sym (written f.places f.slots s.words q x is r.wide)) k;
}

-- never other seat than id holds the cell
abbrev pub Loose : ℕ → Cell → Type 0
Loose id c = (j : ℕ) → j ≢ id → holder c.1 ≢ suc j

pub own_loose : (id : ℕ) (c : Cell) → holder c.1 ≡ suc id → Loose id c
own_loose id c e j other s = other (let z : suc id ≡ suc j = sym e ∙ s in let z' : j ≡ id = omega arith in z')

pub free_loose : (id : ℕ) (c : Cell) → holder c.1 ≡ 0 → Loose id c
free_loose id c e j other s = let z : 0 ≡ suc j = sym e ∙ s in omega arith

-- a fact of each slot, where one is put
pub each_slot : (cells : Cells) (q i : ℕ) (c : Cell) (F : ℕ → ℕ → Cell → Type 0) → F q i c → ((q' i' : ℕ) → (q ≢ q') ⊎ (i ≢ i') → F q' i' (cells q' i')) → (q' i' : ℕ) → F q' i' (put_at cells q i c q' i')
each_slot cells q i c F inside elsewhere q' i' = ⊎_elim
    (λ (y : (q ≡ q') × (i ≡ i')). subst (λ (z : ℕ × ℕ). F z.0 z.1 (put_at cells q i c z.0 z.1)) (λ j. (y.0 j, y.1 j)) (subst (F q i) (sym (at_here cells q i c)) inside))
    (λ (n : (q ≢ q') ⊎ (i ≢ i')). subst (F q' i') (sym (at_else cells q i q' i' c n)) (elsewhere q' i' n))
    (at_cases q i q' i')

module _ (g : Ghosts) (q i : ℕ) (c : Cell) where
  abbrev after : Cells
  after = put_at g.cells q i c

  pub put_free : (P : Type 0) → (g.cells q i ≡ (g.put, free) → P) → (q' i' : ℕ) → g.cells q' i' ≡ (g.put, free) → P ⊎ ((after q' i' ≡ (g.put, free)) ⊎ IsLate g q')
  put_free P never q' i' = each_slot g.cells q i c (λ a b d. g.cells a b ≡ (g.put, free) → P ⊎ ((d ≡ (g.put, free)) ⊎ IsLate g a)) (λ e. inl (never e)) (λ a b n e. inr (inl e)) q' i'

  pub put_full : (P : Type 0) → (g.cells q i ≡ (g.taken, full) → P) → (q' i' k : ℕ) → g.low ≤ k → g.cells q' i' ≡ (g.taken, full) → P ⊎ ((g.low ≤ k) × (after q' i' ≡ (g.taken, full)))
  put_full P never q' i' k l = each_slot g.cells q i c (λ a b d. g.cells a b ≡ (g.taken, full) → P ⊎ ((g.low ≤ k) × (d ≡ (g.taken, full)))) (λ e. inl (never e)) (λ a b n e. inr (l, e)) q' i'

  pub put_kept : ((k : ℕ) → g.home q ≡ suc k → g.bar k ≤ (g.cells q i).0 → StaysIn (g.cells q i) c) → (q' i' k : ℕ) → g.home q' ≡ suc k → g.bar k ≤ (g.cells q' i').0 → StaysIn (g.cells q' i') (after q' i')
  put_kept same q' i' k = each_slot g.cells q i c (λ a b d. g.home a ≡ suc k → g.bar k ≤ (g.cells a b).0 → StaysIn (g.cells a b) d) (same k) (λ a b n e l. (refl, le_refl _)) q' i'

  pub put_held : (id j : ℕ) → j ≢ id → Loose id (g.cells q i) → (q' i' : ℕ) → holder (g.cells q' i').1 ≡ suc j → after q' i' ≡ g.cells q' i'
  put_held id j other loose q' i' = each_slot g.cells q i c (λ a b d. holder (g.cells a b).1 ≡ suc j → d ≡ g.cells a b) (λ e. absurd (loose j other e)) (λ a b n e. refl) q' i'

  pub put_given : (id j : ℕ) → j ≢ id → Loose id c → (q' i' : ℕ) → holder (after q' i').1 ≡ suc j → holder (g.cells q' i').1 ≡ suc j
  put_given id j other loose q' i' = each_slot g.cells q i c (λ a b d. holder d.1 ≡ suc j → holder (g.cells a b).1 ≡ suc j) (λ e. absurd (loose j other e)) (λ a b n e. e) q' i'

-- all slots, where one cell is put and its words alone may change, and items are taken at positions of never other slot
pub slots_change : (num num' item item' : ℕ → ℕ → ℕ) (xs : List Mark) (h h' t : ℕ) (segs : Segs) (last : ℕ) (home : ℕ → ℕ) (cells : Cells) (prep q i : ℕ) (c : Cell) → h ≤ h'
    → ((q' i' : ℕ) → (q ≢ q') ⊎ (i ≢ i') → (num' q' i' ≡ num q' i') × (item' q' i' ≡ item q' i'))
    → ((q' i' k z : ℕ) → home q' ≡ suc k → (q ≢ q') ⊎ (i ≢ i') → z % (segs k).len ≡ i' → (segs k).start ≤ z → z < end_of segs last t k → h ≤ z → h' ≤ z)
    → ((k : ℕ) → home q ≡ suc k → prep ≢ suc q → i < (segs k).len → SlotOk (segs k).len xs h' (segs k).start (end_of segs last t k) (num' q i) (item' q i) i c)
    → SlotsOk num item xs h t segs last home cells prep → SlotsOk num' item' xs h' t segs last home (put_at cells q i c) prep
slots_change num num' item item' xs h h' t segs last home cells prep q i c up words others inside ok q' k i' =
    each_slot cells q i c (λ a b d. home a ≡ suc k → prep ≢ suc a → b < (segs k).len → SlotOk (segs k).len xs h' (segs k).start (end_of segs last t k) (num' a b) (item' a b) b d) (inside k)
    (λ a b n e p l. subst (λ (z : ℕ × ℕ). SlotOk (segs k).len xs h' (segs k).start (end_of segs last t k) z.0 z.1 b (cells a b)) (λ j. (sym (words a b n).0 j, sym (words a b n).1 j))
    (slot_stays (segs k).len xs xs h h' (segs k).start (end_of segs last t k) (end_of segs last t k) (num a b) (item a b) b (cells a b) (λ z x s. s) up (le_refl _) (λ z s r. r) (λ z s a' b' d. others a b k z e n s a' b' d) (ok a k b e p l)))
    q' i'

-- a number is put
pub strays_put : (num : ℕ → ℕ → ℕ) (taken : ℕ) (segs : Segs) (home : ℕ → ℕ) (prep q i x : ℕ) → ((p : ℕ) → x ≡ 2 * p + 1 → (p < taken) ⊎ ((k : ℕ) × (home q ≡ suc k) × (prep ≢ suc q) × (i < (segs k).len)))
    → StraysOk num taken segs home prep → StraysOk (put_at num q i x) taken segs home prep
strays_put num taken segs home prep q i x inside ok a b p e = ⊎_elim
    (λ (y : (q ≡ a) × (i ≡ b)). subst (λ (z : ℕ × ℕ). (p < taken) ⊎ ((k : ℕ) × (home z.0 ≡ suc k) × (prep ≢ suc z.0) × (z.1 < (segs k).len))) (λ j. (y.0 j, y.1 j))
    (inside p (sym (at_here num q i x) ∙ (ap (λ (z : ℕ × ℕ). put_at num q i x z.0 z.1) (λ j. (y.0 j, y.1 j)) ∙ e))))
    (λ (n : (q ≢ a) ⊎ (i ≢ b)). ok a b p (sym (at_else num q i a b x n) ∙ e))
    (at_cases q i a b)
