-- A write to one word, seen by the memory that is read by name.
use Rattle.std.proofs.Common.{◌≡◌, ℕ, zero, suc, ◌+◌, ◌-◌, ◌*◌, ◌/◌, ◌<◌, ◌≢◌, ⊎_elim, eqb, ltb, cond, Bool, true, false, List, [], ◌∷◌, length, get_or, set, sym, refl, ap, ap₂, ◌∙◌, subst, arith, get_or-set_other, get_or-set_same, eq-eqb}
use Rattle.std.proofs.lemmas.Nat.{same_from_place, mul-add-lt, mul-le}
use Rattle.std.proofs.lemmas.Bool.{and_parts, and_from, eqb-true, true≢false, lt-ltb, ltb-true, cases_Bool}
use Rattle.std.proofs.Math.Nat.{mul_comm}
use Rattle.seg_rule.specs.declared.word.QueueWord.{QueueWord}
use Rattle.seg_rule.specs.declared.word.QueueWord.TheVariants.{Head, Turn, Current, First, Tail, Start, Length, Observers, Done, Next, Segment, Number, Item}
use Rattle.seg_rule.specs.Words.{row_of, column_of, kind, place_in, slot_in, width, index_of, words_of, IsWord, is_word, same, memory, update}

row_by : ℕ → ℕ → ℕ
row_by k p = cond (ltb k 4) 0 (suc p)

-- the column of a kind of word, slot 0
fixed : ℕ → ℕ
fixed k = get_or (0 ∷ 16 ∷ 32 ∷ 33 ∷ 0 ∷ 32 ∷ 33 ∷ 34 ∷ 16 ∷ 35 ∷ 36 ∷ []) k 0

column_by : ℕ → ℕ → ℕ
column_by k i = cond (ltb k 11) (fixed k) (37 + k + 2 * i)

row_is : (w : QueueWord) → row_of w ≡ row_by (kind w) (place_in w)
unfolding row_by
row_is Head = refl
row_is Turn = refl
row_is Current = refl
row_is First = refl
row_is (Tail p) = refl
row_is (Start p) = refl
row_is (Length p) = refl
row_is (Observers p) = refl
row_is (Done p) = refl
row_is (Next p) = refl
row_is (Segment p) = refl
row_is (Number p i) = refl
row_is (Item p i) = refl

column_is : (w : QueueWord) → column_of w ≡ column_by (kind w) (slot_in w)
unfolding column_by fixed
column_is Head = refl
column_is Turn = refl
column_is Current = refl
column_is First = refl
column_is (Tail p) = refl
column_is (Start p) = refl
column_is (Length p) = refl
column_is (Observers p) = refl
column_is (Done p) = refl
column_is (Next p) = refl
column_is (Segment p) = refl
column_is (Number p i) = refl
column_is (Item p i) = refl

place_is : (w : QueueWord) → place_in w ≡ row_of w - 1
place_is Head = refl
place_is Turn = refl
place_is Current = refl
place_is First = refl
place_is (Tail p) = omega arith
place_is (Start p) = omega arith
place_is (Length p) = omega arith
place_is (Observers p) = omega arith
place_is (Done p) = omega arith
place_is (Next p) = omega arith
place_is (Segment p) = omega arith
place_is (Number p i) = omega arith
place_is (Item p i) = omega arith

slot_is : (w : QueueWord) → slot_in w ≡ (column_of w - 48) / 2
slot_is Head = refl
slot_is Turn = refl
slot_is Current = refl
slot_is First = refl
slot_is (Tail p) = refl
slot_is (Start p) = refl
slot_is (Length p) = refl
slot_is (Observers p) = refl
slot_is (Done p) = refl
slot_is (Next p) = refl
slot_is (Segment p) = refl
slot_is (Number p i) = omega arith
slot_is (Item p i) = omega arith

-- the kind of a word of a place, by its column less twice its slot
sort_of : ℕ → ℕ
sort_of d = cond (eqb d 0) 4 (cond (eqb d 32) 5 (cond (eqb d 33) 6 (cond (eqb d 34) 7 (cond (eqb d 16) 8 (cond (eqb d 35) 9 (cond (eqb d 36) 10 (cond (eqb d 48) 11 12)))))))

kind_by : ℕ → ℕ → ℕ → ℕ
kind_by zero c i = cond (eqb c 0) 0 (cond (eqb c 16) 1 (cond (eqb c 32) 2 3))
kind_by (suc r) c i = sort_of (c - 2 * i)

kind_is : (w : QueueWord) → kind w ≡ kind_by (row_of w) (column_of w) (slot_in w)
unfolding kind_by sort_of
kind_is Head = refl
kind_is Turn = refl
kind_is Current = refl
kind_is First = refl
kind_is (Tail p) = refl
kind_is (Start p) = refl
kind_is (Length p) = refl
kind_is (Observers p) = refl
kind_is (Done p) = refl
kind_is (Next p) = refl
kind_is (Segment p) = refl
kind_is (Number p i) = ap sort_of (let g : 48 ≡ 48 + 2 * i - 2 * i = omega arith in g)
kind_is (Item p i) = ap sort_of (let g : 49 ≡ 49 + 2 * i - 2 * i = omega arith in g)

-- equal numbers, equal cells of the sheet
same_cell : (w v : QueueWord) → same w v ≡ true → (row_of w ≡ row_of v) × (column_of w ≡ column_of v)
same_cell w v e =
    let a = and_parts (eqb (kind w) (kind v)) _ e in let b = and_parts (eqb (slot_in w) (slot_in v)) _ a.1 in
    let k = eqb-true (kind w) (kind v) a.0 in let p = eqb-true (place_in w) (place_in v) b.1 in let i = eqb-true (slot_in w) (slot_in v) b.0 in
    (row_is w ∙ ap₂ row_by k p ∙ sym (row_is v), column_is w ∙ ap₂ column_by k i ∙ sym (column_is v))

cell_same : (w v : QueueWord) → row_of w ≡ row_of v → column_of w ≡ column_of v → same w v ≡ true
cell_same w v r c =
    let i : slot_in w ≡ slot_in v = slot_is w ∙ ap (λ (z : ℕ). (z - 48) / 2) c ∙ sym (slot_is v) in
    let p : place_in w ≡ place_in v = place_is w ∙ ap (λ (z : ℕ). z - 1) r ∙ sym (place_is v) in
    let k : kind w ≡ kind v = kind_is w ∙ (λ j. kind_by (r j) (c j) (i j)) ∙ sym (kind_is v) in
    and_from (eqb (kind w) (kind v)) _ (eq-eqb _ _ k) (and_from (eqb (slot_in w) (slot_in v)) _ (eq-eqb _ _ i) (eq-eqb _ _ p))

word_yes : (places slots : ℕ) (w : QueueWord) → IsWord places slots w → is_word places slots w ≡ true
word_yes places slots w k = and_from (ltb (row_of w) (places + 1)) _ (lt-ltb _ _ k.0) (lt-ltb _ _ k.1)

pub word_is : (places slots : ℕ) (w : QueueWord) → is_word places slots w ≡ true → IsWord places slots w
word_is places slots w e = let a = and_parts (ltb (row_of w) (places + 1)) _ e in (ltb-true _ _ a.0, ltb-true _ _ a.1)

pub index_below : (places slots : ℕ) (w : QueueWord) → IsWord places slots w → index_of slots w < words_of places slots
index_below places slots w k = subst (λ (z : ℕ). index_of slots w < z) (mul_comm (width slots) (places + 1)) (mul-add-lt (row_of w) (width slots) (column_of w) (places + 1) k.0 k.1)

pub at_word : (places slots : ℕ) (words : List ℕ) (w : QueueWord) → IsWord places slots w → memory places slots words w ≡ get_or words (index_of slots w) 0
at_word places slots words w k = ap (λ (b : Bool). cond b (get_or words (index_of slots w) 0) 0) (word_yes places slots w k)

-- a word is written, and the memory is updated there
pub written : (places slots : ℕ) (words : List ℕ) (w : QueueWord) (x : ℕ) → IsWord places slots w → length words ≡ words_of places slots
    → memory places slots (set words (index_of slots w) x) ≡ update (memory places slots words) w x
written places slots words w x k wide = λ j v. at v j
  where
    words' : List ℕ
    words' = set words (index_of slots w) x

    at : (v : QueueWord) → memory places slots words' v ≡ update (memory places slots words) w x v
    at v = ⊎_elim
        (λ (e : same w v ≡ true).
        let c = same_cell w v e in let k' : IsWord places slots v = (subst (λ (z : ℕ). z < places + 1) c.0 k.0, subst (λ (z : ℕ). z < width slots) c.1 k.1) in
        let i : index_of slots v ≡ index_of slots w = sym (λ j. c.0 j * width slots + c.1 j) in
        at_word places slots words' v k' ∙ ap (λ (z : ℕ). get_or words' z 0) i ∙ get_or-set_same words (index_of slots w) x 0 (subst (λ (z : ℕ). index_of slots w < z) (sym wide) (index_below places slots w k))
        ∙ sym (ap (λ (b : Bool). cond b x (memory places slots words v)) e))
        (λ (e : same w v ≡ false).
        ⊎_elim
        (λ (y : is_word places slots v ≡ true). let k' = word_is places slots v y in
        let apart : index_of slots v ≢ index_of slots w = λ i. let c = same_from_place (row_of v) (column_of v) (row_of w) (column_of w) (width slots) k'.1 k.1 i in true≢false (sym (cell_same w v (sym c.0) (sym c.1)) ∙ e) in
        at_word places slots words' v k' ∙ get_or-set_other words (index_of slots w) (index_of slots v) x 0 apart ∙ sym (at_word places slots words v k') ∙ sym (ap (λ (b : Bool). cond b x (memory places slots words v)) e))
        (λ (n : is_word places slots v ≡ false).
        ap (λ (b : Bool). cond b (get_or words' (index_of slots v) 0) 0) n ∙ sym (ap (λ (b : Bool). cond b (get_or words (index_of slots v) 0) 0) n) ∙ sym (ap (λ (b : Bool). cond b x (memory places slots words v)) e))
        (cases_Bool (is_word places slots v)))
        (cases_Bool (same w v))

-- a table has a word
pub some_words : (places slots : ℕ) → 0 < words_of places slots
some_words places slots = let least = mul-le (1) (48) (places + 1) (width slots) (omega arith) (omega arith) in omega arith
