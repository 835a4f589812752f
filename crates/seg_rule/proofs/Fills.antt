-- The words of a new table are filled in one after another.
use Rattle.std.proofs.Common.{◌≡◌, ◌≢◌, ℕ, ◌+◌, ◌*◌, ◌<◌, ◌≤◌, ⊎_elim, eqb, cond, Bool, true, false, ◌&&◌, List, [], length, get_or, set, replicate, sym, refl, ap, ◌∙◌, subst, arith, length-set, eq-eqb, ne_eqb}
use Rattle.std.proofs.lemmas.Bool.{cases_eq, cases_Bool, cond_both}
use Rattle.std.proofs.lemmas.List.{get_or-replicate}
use lib.ListN.{length-replicate}
use Rattle.atomic_table.specs.Table.{opening}
use Rattle.seg_rule.specs.declared.form.Form.{Form}
use Rattle.seg_rule.specs.declared.word.QueueWord.{QueueWord}
use Rattle.seg_rule.specs.declared.word.QueueWord.TheVariants.{Head, Turn, Current, First, Tail, Start, Length, Observers, Done, Next, Segment, Number, Item}
use Rattle.seg_layout.specs.Lengths.{IsFirstLength, longest_of, places_of}
use Rattle.std.proofs.lemmas.Nat.{mul-le}
use Rattle.seg_rule.specs.Passes.{form_of}
use Rattle.seg_layout.proofs.Powers.{lengths_are_bounded}
use Rattle.seg_rule.specs.Words.{Memory, memory, update, words_of, index_of, IsWord, is_word}
use Rattle.seg_rule.specs.Rule.{IsShape, Rule}
use Rattle.seg_rule.specs.Blank.{IsZero, IsFilled}
use Rattle.seg_rule.specs.Steps.{first_view}
use Rattle.seg_rule.proofs.Words.{written, word_is, index_below}
use Rattle.seg_rule.proofs.Starts.{starts}

blank_at : (places slots : ℕ) (w : QueueWord) → memory places slots (replicate (words_of places slots) 0) w ≡ 0
blank_at places slots w = ⊎_elim
    (λ (e : is_word places slots w ≡ true). ap (λ (b : Bool). cond b (get_or (replicate (words_of places slots) 0) (index_of slots w) 0) 0) e ∙ get_or-replicate (words_of places slots) (index_of slots w) 0 0 (index_below places slots w (word_is places slots w e)))
    (λ (e : is_word places slots w ≡ false). ap (λ (b : Bool). cond b (get_or (replicate (words_of places slots) 0) (index_of slots w) 0) 0) e)
    (cases_Bool (is_word places slots w))

pub fills_first : (f : Form) → IsFilled f 1 0 0 (replicate (words_of f.places f.slots) 0)
fills_first f = record {
  wide = length-replicate (words_of f.places f.slots) 0;
  zero_words = λ w z. blank_at f.places f.slots w;
  open_tail = blank_at f.places f.slots (Tail 0);
  closed_tails = λ q a b. absurd (omega arith);
  first_lengths = λ q a. absurd (omega arith);
  free_slots = λ i a. absurd (omega arith);
  even = λ q i. (0, blank_at f.places f.slots (Number q i));
}

module _ (f : Form) (ws : List ℕ) (w : QueueWord) (x : ℕ) (near : IsWord f.places f.slots w) where
  pub after : length ws ≡ words_of f.places f.slots → (v : QueueWord) → memory f.places f.slots (set ws (index_of f.slots w) x) v ≡ update (memory f.places f.slots ws) w x v
  after wide v = λ j. written f.places f.slots ws w x near wide j v

zero_else : (m : Memory) (w v : QueueWord) (x : ℕ) → (IsZero w → ⊥) → IsZero v → update m w x v ≡ m v
zero_else m Head v x n z = absurd (n tt)
zero_else m Turn v x n z = absurd (n tt)
zero_else m Current v x n z = absurd (n tt)
zero_else m First v x n z = absurd (n tt)
zero_else m (Start q) v x n z = absurd (n tt)
zero_else m (Observers q) v x n z = absurd (n tt)
zero_else m (Done q) v x n z = absurd (n tt)
zero_else m (Next q) v x n z = absurd (n tt)
zero_else m (Segment q) v x n z = absurd (n tt)
zero_else m (Tail q) Head x n z = refl
zero_else m (Tail q) Turn x n z = refl
zero_else m (Tail q) Current x n z = refl
zero_else m (Tail q) First x n z = refl
zero_else m (Tail q) (Tail p) x n z = absurd z
zero_else m (Tail q) (Start p) x n z = refl
zero_else m (Tail q) (Length p) x n z = absurd z
zero_else m (Tail q) (Observers p) x n z = refl
zero_else m (Tail q) (Done p) x n z = refl
zero_else m (Tail q) (Next p) x n z = refl
zero_else m (Tail q) (Segment p) x n z = refl
zero_else m (Tail q) (Number p i) x n z = absurd z
zero_else m (Tail q) (Item p i) x n z = absurd z
zero_else m (Length q) Head x n z = refl
zero_else m (Length q) Turn x n z = refl
zero_else m (Length q) Current x n z = refl
zero_else m (Length q) First x n z = refl
zero_else m (Length q) (Tail p) x n z = absurd z
zero_else m (Length q) (Start p) x n z = refl
zero_else m (Length q) (Length p) x n z = absurd z
zero_else m (Length q) (Observers p) x n z = refl
zero_else m (Length q) (Done p) x n z = refl
zero_else m (Length q) (Next p) x n z = refl
zero_else m (Length q) (Segment p) x n z = refl
zero_else m (Length q) (Number p i) x n z = absurd z
zero_else m (Length q) (Item p i) x n z = absurd z
zero_else m (Number q j) Head x n z = refl
zero_else m (Number q j) Turn x n z = refl
zero_else m (Number q j) Current x n z = refl
zero_else m (Number q j) First x n z = refl
zero_else m (Number q j) (Tail p) x n z = absurd z
zero_else m (Number q j) (Start p) x n z = refl
zero_else m (Number q j) (Length p) x n z = absurd z
zero_else m (Number q j) (Observers p) x n z = refl
zero_else m (Number q j) (Done p) x n z = refl
zero_else m (Number q j) (Next p) x n z = refl
zero_else m (Number q j) (Segment p) x n z = refl
zero_else m (Number q j) (Number p i) x n z = absurd z
zero_else m (Number q j) (Item p i) x n z = absurd z
zero_else m (Item q j) Head x n z = refl
zero_else m (Item q j) Turn x n z = refl
zero_else m (Item q j) Current x n z = refl
zero_else m (Item q j) First x n z = refl
zero_else m (Item q j) (Tail p) x n z = absurd z
zero_else m (Item q j) (Start p) x n z = refl
zero_else m (Item q j) (Length p) x n z = absurd z
zero_else m (Item q j) (Observers p) x n z = refl
zero_else m (Item q j) (Done p) x n z = refl
zero_else m (Item q j) (Next p) x n z = refl
zero_else m (Item q j) (Segment p) x n z = refl
zero_else m (Item q j) (Number p i) x n z = absurd z
zero_else m (Item q j) (Item p i) x n z = absurd z

-- one tail more, one length more, and one slot more
pub tail_more : (f : Form) (k at : ℕ) (ws : List ℕ) → 0 < k → k < f.places → at ≡ index_of f.slots (Tail k) → IsFilled f k 0 0 ws → IsFilled f (k + 1) 0 0 (set ws at 1)
tail_more f k at ws some near is k' = subst (λ (z : ℕ). IsFilled f (k + 1) 0 0 (set ws z 1)) (sym is)
    (let m : Memory = memory f.places f.slots ws in let e = after f ws (Tail k) 1 (omega arith, omega arith) k'.wide in record {
      wide = length-set ws (index_of f.slots (Tail k)) 1 ∙ k'.wide;
      zero_words = λ w z. e w ∙ (zero_else m (Tail k) w 1 (λ n. n) z ∙ k'.zero_words w z);
      open_tail = e (Tail 0) ∙ (ap (λ b. cond b 1 (m (Tail 0))) (ne_eqb k 0 (λ z. omega arith)) ∙ k'.open_tail);
      closed_tails = λ q a b. e (Tail q) ∙ ⊎_elim (λ (s : k ≡ q). ap (λ b. cond b 1 (m (Tail q))) (eq-eqb k q s)) (λ (d : k ≢ q). ap (λ b. cond b 1 (m (Tail q))) (ne_eqb k q d) ∙ k'.closed_tails q a (omega arith)) (cases_eq k q);
      first_lengths = λ q a. absurd (omega arith);
      free_slots = λ i a. absurd (omega arith);
      even = λ q i. let a = k'.even q i in (a.0, e (Number q i) ∙ a.1);
    })

pub length_more : (f : Form) (k at : ℕ) (ws : List ℕ) → k < f.places → at ≡ index_of f.slots (Length k) → IsFilled f f.places k 0 ws → IsFilled f f.places (k + 1) 0 (set ws at f.first_len)
length_more f k at ws near is k' = subst (λ (z : ℕ). IsFilled f f.places (k + 1) 0 (set ws z f.first_len)) (sym is)
    (let m : Memory = memory f.places f.slots ws in let e = after f ws (Length k) f.first_len (omega arith, omega arith) k'.wide in record {
      wide = length-set ws (index_of f.slots (Length k)) f.first_len ∙ k'.wide;
      zero_words = λ w z. e w ∙ (zero_else m (Length k) w f.first_len (λ n. n) z ∙ k'.zero_words w z);
      open_tail = e (Tail 0) ∙ k'.open_tail;
      closed_tails = λ q a b. e (Tail q) ∙ k'.closed_tails q a b;
      first_lengths = λ q a. e (Length q) ∙ ⊎_elim (λ (s : k ≡ q). ap (λ b. cond b f.first_len (m (Length q))) (eq-eqb k q s)) (λ (d : k ≢ q). ap (λ b. cond b f.first_len (m (Length q))) (ne_eqb k q d) ∙ k'.first_lengths q (omega arith)) (cases_eq k q);
      free_slots = λ i a. absurd (omega arith);
      even = λ q i. let a = k'.even q i in (a.0, e (Number q i) ∙ a.1);
    })

pub number_more : (f : Form) (k at : ℕ) (ws : List ℕ) → k < f.slots → 0 < f.places → at ≡ index_of f.slots (Number 0 k) → IsFilled f f.places f.places k ws → IsFilled f f.places f.places (k + 1) (set ws at (2 * k))
number_more f k at ws near some is k' = subst (λ (z : ℕ). IsFilled f f.places f.places (k + 1) (set ws z (2 * k))) (sym is)
    (let m : Memory = memory f.places f.slots ws in let e = after f ws (Number 0 k) (2 * k) (omega arith, omega arith) k'.wide in record {
      wide = length-set ws (index_of f.slots (Number 0 k)) (2 * k) ∙ k'.wide;
      zero_words = λ w z. e w ∙ (zero_else m (Number 0 k) w (2 * k) (λ n. n) z ∙ k'.zero_words w z);
      open_tail = e (Tail 0) ∙ k'.open_tail;
      closed_tails = λ q a b. e (Tail q) ∙ k'.closed_tails q a b;
      first_lengths = λ q a. e (Length q) ∙ k'.first_lengths q a;
      free_slots = λ i a. e (Number 0 i) ∙ ⊎_elim (λ (s : k ≡ i). slot_here m i s) (λ (d : k ≢ i). slot_else m i d ∙ k'.free_slots i (omega arith)) (cases_eq k i);
      even = λ q i. even_on m e q i (k'.even q i);
    })
  where
    slot_here : (m : Memory) (i : ℕ) → k ≡ i → update m (Number 0 k) (2 * k) (Number 0 i) ≡ 2 * i
    slot_here m i s = ap (λ b. cond (b && eqb 0 0) (2 * k) (m (Number 0 i))) (eq-eqb k i s) ∙ ap (λ z. 2 * z) s

    slot_else : (m : Memory) (i : ℕ) → k ≢ i → update m (Number 0 k) (2 * k) (Number 0 i) ≡ m (Number 0 i)
    slot_else m i d = ap (λ b. cond (b && eqb 0 0) (2 * k) (m (Number 0 i))) (ne_eqb k i d)

    even_on : (m : Memory) → ((v : QueueWord) → memory f.places f.slots (set ws (index_of f.slots (Number 0 k)) (2 * k)) v ≡ update m (Number 0 k) (2 * k) v) → (q i : ℕ) → (p : ℕ) × (m (Number q i) ≡ 2 * p) → (p : ℕ) × (memory f.places f.slots (set ws (index_of f.slots (Number 0 k)) (2 * k)) (Number q i) ≡ 2 * p)
    even_on m e q i a = let b = cond_both (eqb k i && eqb 0 q) (2 * k) (m (Number q i)) (λ y. (p : ℕ) × (y ≡ 2 * p)) (λ _. (k, refl)) (λ _. a) in (b.0, e (Number q i) ∙ b.1)

-- a queue has a place
pub some_place : (f : Form) → IsShape f → 0 < f.places
some_place f s = let e = s.places in omega arith

-- a new table meets the rule
pub opens : (f : Form) (ws : List ℕ) → IsShape f → IsFilled f f.places f.places f.first_len ws → Rule f (opening ws [] (first_view f))
opens f ws s k = let m : Memory = memory f.places f.slots ws in record {
  wide = k.wide;
  shape = s;
  kept = starts f m
      record {
        head = k.zero_words Head tt;
        turn = k.zero_words Turn tt;
        current = k.zero_words Current tt;
        first = k.zero_words First tt;
        tail = λ q near. ⊎_elim (λ (e : 0 ≡ q). subst (λ z. m (Tail z) ≡ cond (eqb 0 z) 0 1) e k.open_tail) (λ (d : 0 ≢ q). k.closed_tails q (omega arith) near ∙ sym (ap (λ b. cond b 0 1) (ne_eqb 0 q d))) (cases_eq 0 q);
        start = k.zero_words (Start 0) tt;
        lens = k.first_lengths;
        segment = k.zero_words (Segment 0) tt;
        nexts = λ q near. k.zero_words (Next q) tt;
        done = k.zero_words (Done 0) tt;
        observers = λ q near. k.zero_words (Observers q) tt;
        numbers = k.free_slots;
        even = k.even;
      }
      s.callers.1 (some_place f s) s.first_len (subst (λ z. f.first_len ≤ z) (sym s.slots) (lengths_are_bounded f.first_len f.first_len s.first_len).0.1);
}

pub shape_of : (room first_len callers : ℕ) → (1 ≤ room) × (room ≤ 65536) → IsFirstLength first_len → (1 ≤ callers) × (callers ≤ 64) → places_of room first_len callers * longest_of first_len ≤ 33554432 → IsShape (form_of room first_len callers)
shape_of room first_len callers a b c d = record { room = (let l = a.0 in omega arith, a.1); first_len = b; callers = (let l = c.0 in omega arith, c.1); places = refl; slots = refl; small = d }

-- the places are few
pub few_places : (f : Form) → IsShape f → (f.places ≤ 33554431) × (f.slots ≤ 65536) × (2 ≤ f.slots)
few_places f s =
    let two = s.first_len.0 in let e = s.slots in let slots : 64 ≤ f.slots = omega arith in
    let least = mul-le 1 64 1 f.slots (omega arith) slots in let many = mul-le f.places 64 f.places f.slots (omega arith) slots in let small = s.small in
    (omega arith, omega arith, omega arith)
