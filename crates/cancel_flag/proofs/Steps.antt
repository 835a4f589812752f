-- The steps on the word keep its rule.
use Rattle.std.proofs.Common.{◌≡◌, ◌≢◌, ℕ, ◌+◌, ◌≤◌, Bool, true, false, true≢false, List, [], ◌∷◌, ◌++◌, set, eqb, refl, sym, ◌∙◌, ap, subst, ⊎_elim, zero, suc, zero-le, le_refl, arith}
use mathlib.Core.Option.{some, some-injective, some-ne-none}
use lib.ListN.{get_elem?}
use Rattle.std.proofs.lemmas.Bool.Decides.{nat_tests}
use Rattle.crossbeam_utils.specs.Register.{Turns, Forks, Merges}
use Rattle.atomic_table.proofs.Lists.{at_set, at_snoc, at_longer, set_again, set_else}
use Rattle.cancel_flag.specs.declared.rule.View.{View}
use Rattle.cancel_flag.specs.Rule.{the_word, source_view, token_view, shown, told, Knows, IsOneWay, LoadsWord, ReadsBack, LeavesOne}

get_elem?-singleton : (x v : View) (seat : ℕ) → get_elem? (x ∷ []) seat ≡ some v → (seat ≡ 0) × (x ≡ v)
get_elem?-singleton x v zero e = (refl, some-injective x v e)
get_elem?-singleton x v (suc seat) e = absurd (some-ne-none v (sym e))

get_elem?-set_same : (views : List View) (seat : ℕ) (a b : View) → get_elem? views seat ≡ some b → get_elem? (set views seat a) seat ≡ some a
get_elem?-set_same [] seat a b e = absurd (some-ne-none b (sym e))
get_elem?-set_same (x ∷ xs) zero a b e = refl
get_elem?-set_same (x ∷ xs) (suc seat) a b e = get_elem?-set_same xs seat a b e

-- a token is not a source
apart : (w u : View) → w.is_source ≡ false → w ≡ u → u.is_source ≡ true → ⊥
apart w u token same owner = true≢false (sym owner ∙ (ap (λ (k : View). k.is_source) (sym same) ∙ token))

knows_nothing : (x : List ℕ) → Knows (token_view 0 false) x
knows_nothing x = ((λ e. absurd (true≢false (sym e))), (λ e. absurd (true≢false (sym e))))

-- what a token that knows as much knows
knows_as : (v : View) (looks : ℕ) (x : List ℕ) → Knows v x → Knows (token_view looks v.has_seen) x
knows_as v looks x k = (k.0, (λ e. absurd (true≢false (sym e))))

pub rule_of_new_word : IsOneWay (0 ∷ []) (source_view false ∷ [])
rule_of_new_word = record {
  bit = zero-le;
  wherever_seen = λ seat v e. subst (λ (k : View). Knows k (0 ∷ [])) (get_elem?-singleton (source_view false) v seat e).1
      ((λ s. absurd (true≢false (sym s))), (λ s. absurd (true≢false (sym s))));
  source = source_view false;
  seat = refl;
  is_source = refl;
  only_where_source_has = λ e. absurd (omega arith);
  no_other_source = λ seat v e s. (get_elem?-singleton (source_view false) v seat e).0;
}

module _ (x y : List ℕ) (views : List View) (h : IsOneWay x views) where
  -- one more token sits down
  with_token : (t : View) → t.is_source ≡ false → Knows t x → IsOneWay x (views ++ t ∷ [])
  with_token t token knows = record {
    bit = h.bit;
    wherever_seen = λ seat u e. ⊎_elim (λ was. h.wherever_seen seat u was)
        (λ (same : t ≡ u). subst (λ (k : View). Knows k x) same knows) (at_snoc views t u seat e);
    source = h.source;
    seat = at_longer views (t ∷ []) 0 h.source h.seat;
    is_source = h.is_source;
    only_where_source_has = h.only_where_source_has;
    no_other_source = λ seat u e s. ⊎_elim (λ was. h.no_other_source seat u was s)
        (λ (same : t ≡ u). absurd (apart t u token same s)) (at_snoc views t u seat e);
  }

  -- a token's view changes, to one that knows what is so
  with_other : (pass : ℕ) (v w : View) → get_elem? views pass ≡ some v → v.is_source ≡ false → w.is_source ≡ false → Knows w x → IsOneWay x (set views pass w)
  with_other pass v w at was token knows =
      let elsewhere : 0 ≢ pass = λ e. apart v h.source was
      (sym (some-injective h.source v (sym h.seat ∙ (ap (get_elem? views) e ∙ at)))) h.is_source in
      record {
        bit = h.bit;
        wherever_seen = λ seat u e. ⊎_elim
            (λ (here : (seat ≡ pass) × (w ≡ u)). subst (λ (k : View). Knows k x) here.1 knows)
            (λ (there : (seat ≢ pass) × (get_elem? views seat ≡ some u)). h.wherever_seen seat u there.1) (at_set views pass seat w u e);
        source = h.source;
        seat = set_else views pass 0 w elsewhere ∙ h.seat;
        is_source = h.is_source;
        only_where_source_has = h.only_where_source_has;
        no_other_source = λ seat u e s. ⊎_elim
            (λ (here : (seat ≡ pass) × (w ≡ u)). absurd (apart w u token here.1 s))
            (λ (there : (seat ≢ pass) × (get_elem? views seat ≡ some u)). h.no_other_source seat u there.1 s) (at_set views pass seat w u e);
      }

  -- the source's view changes, and maybe the word
  with_source : (pass : ℕ) (v w : View) → get_elem? views pass ≡ some v → v.is_source ≡ true → w.is_source ≡ true → the_word y ≤ 1 → Knows w y
      → (the_word x ≡ 1 → the_word y ≡ 1) → (the_word y ≡ 1 → w.has_seen ≡ true) → IsOneWay y (set views pass w)
  with_source pass v w at was owner bit knows on only =
      let first : pass ≡ 0 = h.no_other_source pass v at was in
      record {
        bit = bit;
        wherever_seen = λ seat u e. ⊎_elim
            (λ (here : (seat ≡ pass) × (w ≡ u)). subst (λ (k : View). Knows k y) here.1 knows)
            (λ (there : (seat ≢ pass) × (get_elem? views seat ≡ some u)).
            let k = h.wherever_seen seat u there.1 in ((λ s. on (k.0 s)), (λ s. on (k.1 s)))) (at_set views pass seat w u e);
        source = w;
        seat = subst (λ k. get_elem? (set views pass w) k ≡ some w) first (get_elem?-set_same views pass w v at);
        is_source = owner;
        only_where_source_has = only;
        no_other_source = λ seat u e s. ⊎_elim (λ (here : (seat ≡ pass) × (w ≡ u)). here.0 ∙ first)
            (λ (there : (seat ≢ pass) × (get_elem? views seat ≡ some u)). h.no_other_source seat u there.1 s) (at_set views pass seat w u e);
      }

  -- the source's own view is the one that the rule names
  own_view : (pass : ℕ) (v : View) → get_elem? views pass ≡ some v → v.is_source ≡ true → the_word x ≡ 1 → v.has_seen ≡ true
  own_view pass v at was one =
      let first : pass ≡ 0 = h.no_other_source pass v at was in
      let same : h.source ≡ v = some-injective h.source v (sym h.seat ∙ (ap (get_elem? views) (sym first) ∙ at)) in
      ap (λ (k : View). k.has_seen) (sym same) ∙ h.only_where_source_has one

pub rule_after_split : (pass : ℕ) (v : View) → Forks IsOneWay pass v v (token_view 0 v.has_seen)
rule_after_split pass v x views h at =
    let t = token_view 0 v.has_seen in
    subst (λ l. IsOneWay x (l ++ t ∷ [])) (sym (set_again views pass v at))
    (with_token x x views h t refl (knows_as v 0 x (h.wherever_seen pass v at)))

read_is_so : (n : ℕ) → eqb n 1 ≡ true → n ≡ 1
read_is_so n e = grind (arith, nat_tests)

pub rule_after_load : (pass : ℕ) (v : View) → v.is_source ≡ false → Turns IsOneWay pass v (λ x. x) LoadsWord
rule_after_load pass v token x views h at =
    let w = token_view (v.looks + 1) (eqb (the_word x) 1) in (
      w,
      with_other x x views h pass v w at token refl ((λ s. read_is_so (the_word x) s), (λ e. absurd (true≢false (sym e)))),
      (refl, (h.wherever_seen pass v at).0),
    )

reads_back : (n : ℕ) (b : Bool) → (n ≡ 1 → b ≡ true) → (b ≡ true → n ≡ 1) → eqb n 1 ≡ b
reads_back n true only where_seen = ap (λ (k : ℕ). eqb k 1) (where_seen refl)
reads_back n false only where_seen = grind (arith, nat_tests)

pub rule_after_look_back : (pass : ℕ) (v : View) → v.is_source ≡ true → Turns IsOneWay pass v (λ x. x) ReadsBack
rule_after_look_back pass v owner x views h at =
    let w = source_view v.has_seen in
    let only = own_view x x views h pass v at owner in
    let knows = h.wherever_seen pass v at in (
      w,
      with_source x x views h pass v w at owner refl h.bit (knows.0, (λ e. absurd (true≢false (sym e)))) (λ e. e) only,
      (refl, reads_back (the_word x) v.has_seen only knows.0, (λ s. only (knows.1 s))),
    )

pub rule_after_swap : (pass : ℕ) (v : View) → v.is_source ≡ true → Turns IsOneWay pass v (λ _. 1 ∷ []) LeavesOne
rule_after_swap pass v owner x views h at = (
  source_view true,
  with_source x (1 ∷ []) views h pass v (source_view true) at owner refl (le_refl 1) ((λ s. refl), (λ s. refl)) (λ s. refl) (λ s. refl),
  refl,
)

module _ (pass : ℕ) (v : View) (other : ℕ) (w : View) where
  -- what the view of a token that is spent knew
  was_there : (x : List ℕ) (views : List View) (both : View) → IsOneWay x views → ¬ (other ≡ pass) → get_elem? (set views pass both) other ≡ some w → Knows w x
  was_there x views both h apart e = h.wherever_seen other w (sym (set_else views pass other both apart) ∙ e)

  pub rule_after_show : v.is_source ≡ true → w.is_source ≡ false → Merges IsOneWay pass v other w (shown v w) (token_view 0 false)
  rule_after_show owner token x views h at differs e =
      let both = shown v w in
      let mine = h.wherever_seen pass v at in
      let theirs = was_there x views both h differs e in
      with_other x x (set views pass both)
      (with_source x x views h pass v both at owner owner h.bit (mine.0, theirs.0) (λ e. e) (own_view x x views h pass v at owner))
      other w (token_view 0 false) e token refl (knows_nothing x)

  pub rule_after_tell : v.is_source ≡ false → w.is_source ≡ false → Merges IsOneWay pass v other w (told v w) (token_view 0 false)
  rule_after_tell token token' x views h at differs e =
      let both = told v w in
      let theirs = was_there x views both h differs e in
      with_other x x (set views pass both)
      (with_other x x views h pass v both at token refl (knows_as w v.looks x theirs))
      other w (token_view 0 false) e token' refl (knows_nothing x)
