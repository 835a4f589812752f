-- The table at the start: one segment in place 0, and one pass that holds all numbers.
use Rattle.std.proofs.Common.{◌≡◌, ℕ, zero, suc, ◌+◌, ◌*◌, ◌^◌, ◌<◌, ◌≤◌, ◌≢◌, inl, ⊎_elim, eqb, cond, Bool, true, false, [], ◌∷◌, replicate, sym, refl, ap, ◌∙◌, subst, arith, le_refl, eq-eqb, ne_eqb, mod-eq_of_lt}
use Rattle.std.proofs.lemmas.Bool.{cases_eq}
use mathlib.Core.Option.{some, some-injective, some-ne-none}
use lib.ListN.{get_elem?}
use Rattle.passes.proofs.Starts.{zero_counts, length-replicate, first_holder}
use Rattle.seg_rule.specs.declared.form.Form.{Form}
use Rattle.seg_rule.specs.declared.word.QueueWord.TheVariants.{Head, Turn, Current, First, Tail, Start, Length, Observers, Done, Next, Segment, Number, Item}
use Rattle.seg_rule.specs.declared.view.View.{View}
use Rattle.seg_rule.specs.Words.{Memory}
use Rattle.seg_rule.specs.Chain.{Seg, end_of}
use Rattle.seg_rule.specs.Slots.{free, SlotOk}
use Rattle.seg_rule.specs.Rule.{tail_word, watched, passed, Ghosts, IsWhole, ViewOk, Words, Kept}
use Rattle.seg_rule.specs.Steps.{first_view}
use Rattle.seg_layout.specs.Lengths.{IsFirstLength, IsSegmentLength}
use Rattle.seg_layout.proofs.Powers.{lengths_are_bounded}
use Rattle.seg_rule.proofs.Preps.{no_prep}
use Rattle.seg_rule.proofs.Stays.{blank_ok}

-- the words that a new table has; of the numbers of other places it matters only that they are even
pub record IsBlank (f : Form) (m : Memory) : Type 0 where
  pub head : m Head ≡ 0
  pub turn : m Turn ≡ 0
  pub current : m Current ≡ 0
  pub first : m First ≡ 0
  pub tail : (q : ℕ) → q < f.places → m (Tail q) ≡ cond (eqb 0 q) 0 1
  pub start : m (Start 0) ≡ 0
  pub lens : (q : ℕ) → q < f.places → m (Length q) ≡ f.first_len
  pub segment : m (Segment 0) ≡ 0
  pub nexts : (q : ℕ) → q < f.places → m (Next q) ≡ 0
  pub done : m (Done 0) ≡ 0
  pub observers : (q : ℕ) → q < f.places → m (Observers q) ≡ 0
  pub numbers : (i : ℕ) → i < f.first_len → m (Number 0 i) ≡ 2 * i
  pub even : (q i : ℕ) → (p : ℕ) × (m (Number q i) ≡ 2 * p)

module _ (f : Form) (m : Memory) (blank : IsBlank f m) (few : f.callers ≤ 64) (some_place : 0 < f.places) (two : IsFirstLength f.first_len) (fits : f.first_len ≤ f.slots) where
  abbrev seg : Seg
  seg = record { place = 0; start = 0; len = f.first_len }

  abbrev home : ℕ → ℕ
  home q = cond (eqb 0 q) 1 0

  abbrev g : Ghosts
  g = record {
    log = [];
    made = replicate f.callers 0;
    owner = λ _. 0;
    paid = 0;
    values = [];
    putters = [];
    put = 0;
    taken = 0;
    segs = λ _. seg;
    low = 0;
    now = 0;
    linked = 0;
    last = 0;
    home = home;
    cells = λ q i. (i, free);
    untold = λ _. 0;
    watch = λ _. 0;
    bar = λ _. 0;
    turn = 0;
    called = 0;
    shut = 0;
    prep = 0;
    plan = seg;
    written = 0;
  }

  at_home : (q k : ℕ) → home q ≡ suc k → (0 ≡ q) × (k ≡ 0)
  at_home q k e = ⊎_elim (λ (s : 0 ≡ q). (s, (let z : 1 ≡ suc k = sym (ap (λ b. cond b 1 0) (eq-eqb 0 q s)) ∙ e in omega arith)))
      (λ (n : 0 ≢ q). absurd (let z : 0 ≡ suc k = sym (ap (λ b. cond b 1 0) (ne_eqb 0 q n)) ∙ e in omega arith)) (cases_eq 0 q)

  tail_at : (b : Bool) → cond b 0 1 ≡ tail_word (λ _. seg) 0 0 0 (cond b 1 0)
  tail_at true = refl
  tail_at false = refl

  none : (b : Bool) → 0 ≡ watched (λ _. 0) (cond b 1 0)
  none true = refl
  none false = refl

  none_passed : (e : ℕ) → e ≡ 0 → passed 0 0 e ≡ 0
  none_passed e z = ap (passed 0 0) z

  words : Words f m g
  words = record {
    counts = record { head_is = blank.head; behind = le_refl _; within = omega arith; sized = refl; sized_by = refl; stands = (refl, refl, refl, refl) };
    calls = record { sized = length-replicate {A = ℕ} f.callers 0; small = few; below = tt; few = omega arith; each = λ c. subst (λ (z : ℕ). z ≤ 2 ^ 48) (sym (zero_counts f.callers c)) (omega arith) };
    chain = record { inside = le_refl _; some_slot = λ k l. two.0; follows = λ k l. absurd (omega arith); ends = le_refl _; base = le_refl _; apart = λ j k a b d. absurd (omega arith); next_apart = λ k l. absurd (omega arith) };
    ranges = record {
      placed = λ k l. some_place;
      sized = λ k l. fits;
      first_len = two;
      lengths = λ k l. (lengths_are_bounded f.first_len f.first_len two).0;
      opening = refl;
      following = λ k l. absurd (omega arith);
    };
    homes = record {
      there = λ q k e. let h = at_home q k e in ((let z = h.1 in omega arith), h.0);
      chain = λ k a b. let z : k ≡ 0 = omega arith in ap suc (sym z);
      latest = λ k l. let z : suc k ≤ 1 = omega arith in z;
    };
    tails = λ q near. blank.tail q near ∙ tail_at (eqb 0 q);
    links = record { first_is = blank.first; current_is = blank.current; order = (le_refl _, le_refl _, le_refl _, omega arith); next_is = λ k l. absurd (omega arith) };
    nexts = λ q l. subst (λ z. z < f.places) (sym (blank.nexts q l)) some_place;
    sizes = λ q l. subst (IsSegmentLength f.first_len) (sym (blank.lens q l)) (lengths_are_bounded f.first_len f.first_len two).0;
    places = λ q k e n. let h = at_home q k e in (ap (λ z. m (Start z)) (sym h.0) ∙ blank.start, ap (λ z. m (Length z)) (sym h.0) ∙ blank.lens 0 some_place, ap (λ z. m (Segment z)) (sym h.0) ∙ (blank.segment ∙ sym h.1));
    slots = λ q k i e n near. let h = at_home q k e in
        let end : end_of (λ _. seg) 0 0 k ≡ 0 = ap (λ (z : ℕ). end_of (λ _. seg) 0 0 z) h.1 in
        subst (λ (z : ℕ × ℕ). SlotOk f.first_len [] 0 0 z.1 (m (Number z.0 i)) (m (Item z.0 i)) i (i, free)) (λ j. (h.0 j, sym end j))
        record { lies = mod-eq_of_lt near; begins = omega arith; freed = inl (let z : i < 0 + f.first_len = omega arith in z); waits = omega arith; shows = blank.numbers i near ∙ (let z : 2 * i ≡ 2 * i + 0 = omega arith in z); phase = omega arith };
    strays = λ q i p e. absurd (let x = blank.even q i in let y = x.1 in omega arith);
    dones = λ q k e n. let h = at_home q k e in let d : m (Done q) ≡ 0 = ap (λ z. m (Done z)) (sym h.0) ∙ blank.done in (let z : m (Done q) + 0 ≡ 0 = omega arith in z) ∙ sym (none_passed (end_of (λ _. seg) 0 0 k) (ap (λ (z : ℕ). end_of (λ _. seg) 0 0 z) h.1));
    observers = λ q near. blank.observers q near ∙ none (eqb 0 q);
    bars = λ k. le_refl _;
    turns = record { word_is = blank.turn; idle = λ e. (refl, refl, refl, refl); calm = λ e. refl; bit = omega arith };
    preps = no_prep (λ q. m (Start q)) (λ q. m (Length q)) (λ q. m (Done q)) (λ q. m (Segment q)) (λ q i. m (Number q i)) f (λ _. seg) 0 0 0 home (λ _. 0) (λ _. 0) 0 seg 0 refl;
  }

  first_ok : ViewOk f g 0 (first_view f)
  first_ok = record {
    of_object = refl;
    of_callers = refl;
    holds = first_holder f.callers;
    joint = tt;
    notes = blank_ok g 0 (IsWhole (first_view f));
    hand = tt;
    ties = λ q i e. absurd (let z : 0 ≡ 1 = e in omega arith);
    stage = λ e. let z : 0 ≡ 1 = e in omega arith;
    window = tt;
    owned = tt;
  }

  pub starts : Kept f m (first_view f ∷ [])
  starts = record {
    g = g;
    words = words;
    seats = record {
      each = one;
      paid_is = refl;
      untold_is = λ q. refl;
      watch_is = λ k. refl;
      seated = λ q i j e. absurd (let z : 0 ≡ suc j = e in omega arith);
      turned = λ j e. absurd (let z : 0 ≡ suc j = e in omega arith);
      all = (0, first_view f, refl, refl);
    };
  }
    where
      one : (j : ℕ) (v : View) → get_elem? (first_view f ∷ []) j ≡ some v → ViewOk f g j v
      one zero v e = subst (ViewOk f g 0) (some-injective _ _ e) first_ok
      one (suc j) v e = absurd (some-ne-none v (sym e))
