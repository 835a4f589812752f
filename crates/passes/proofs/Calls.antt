-- How the calls of one pass add up, and what a split, a join and a whole pass come to.
use Rattle.std.proofs.Common.{◌≡◌, ℕ, ◌+◌, ◌<◌, List, [], ◌∷◌, ◌++◌, get_or, Bool, false, sym, refl, ap, ◌∙◌, subst, arith}
use Rattle.ho_base.specs.Marks.{Mark}
use Rattle.ho_model.specs.declared.marks.EntryMark.{EntryMark}
use Rattle.ho_model.specs.declared.objects.Object.{Object}
use Rattle.passes.specs.Numbers.{HasNumber, held_count, only, give, held_both}
use Rattle.passes.specs.Seen.{AreBelow, SeesOwn, IsLawful}
use Rattle.passes.specs.Views.{PassView}
use Rattle.passes.specs.Calls.{IsSamePass, AddsOne, AddsNoEntry, AddsOwn}
use Rattle.passes.specs.Laws.{JoinsKeepPlaces, WholePassesMissNothing, EntriesOfWholePasses, WholePassesAddTheirOwn, AFirstPassHoldsAll, SplitsGiveOne, JoinsTakeAll, AllNumbersMakeAWhole}
use Rattle.passes.proofs.Flags.{down_held, only_one, both_up, held_count-give, held_count-only, held_count-first, held_count-both, whole_by_count, by_flag}
use Rattle.passes.proofs.Seen.{below_front, below_drop, whole_sees}
use Rattle.passes.proofs.Owned.{own_of-whole, entry_own, others_own, own_on}
use Rattle.passes.proofs.Places.{begins_others}
use Rattle.passes.proofs.Starts.{first_below}

module _ {O : Type 0} where
  -- a pass is the same as itself, and as what it was before two calls
  pub same_pass : (p : PassView O) → HasNumber p.held p.caller → IsSamePass p p
  same_pass p own = record { table = refl; object = refl; callers = refl; caller = refl; held = refl; own = own }

  pub same_on : (p q r : PassView O) → IsSamePass p q → IsSamePass q r → IsSamePass p r
  same_on p q r a b = record {
    table = b.table ∙ a.table;
    object = b.object ∙ a.object;
    callers = b.callers ∙ a.callers;
    caller = b.caller ∙ a.caller;
    held = b.held ∙ a.held;
    own = b.own;
  }

  -- a pass that made a call held its own number before
  pub own_before : (p q : PassView O) → IsSamePass p q → HasNumber p.held p.caller
  own_before p q same = subst (λ (x : List Bool × ℕ). HasNumber x.0 x.1) (λ i. (same.held i, same.caller i)) same.own

  module _ (priority : Mark → ℕ) (p q : PassView O) where
    -- a refusal adds no entry of the pass's own, and an answer one
    pub own_none : AddsNoEntry priority p q → AddsOwn priority p [] q
    own_none a = record { seen = others_own p.held p.seen q.seen a.seen; lawful = a.lawful }

    pub own_entry : (e : EntryMark) → HasNumber p.held e.caller → AddsOne priority p e q → AddsOwn priority p (e ∷ []) q
    own_entry e has a = record { seen = entry_own p.held p.seen q.seen a.0 e has a.1.seen; lawful = a.1.lawful }

    -- one call after another
    pub own_then : (r : PassView O) (xs ys : List EntryMark) → IsSamePass p q → SeesOwn p.held p.seen xs q.seen → AddsOwn priority q ys r → AddsOwn priority p (xs ++ ys) r
    own_then r xs ys same a b = record {
      seen = own_on p.held p.seen q.seen r.seen xs ys a (subst (λ (held : List Bool). SeesOwn held q.seen ys r.seen) same.held b.seen);
      lawful = subst (λ (x : Object × ℕ). IsLawful priority x.0 x.1 r.seen) (λ i. (same.object i, same.callers i)) b.lawful;
    }

module _ (O : Type 0) where
  -- 1. Entries keep their places
  pub joins_keep : JoinsKeepPlaces O
  joins_keep priority p other q j = (begins_others p.held p.seen q.seen j.first, begins_others other.held other.seen q.seen j.second)

  -- 2. A pass that holds all numbers has seen all
  pub whole_misses : WholePassesMissNothing O
  whole_misses priority p q whole a = whole_sees p.callers p.held p.seen q.seen whole a.lawful.1 a.seen

  pub whole_enters : EntriesOfWholePasses O
  whole_enters priority p before e q whole a =
      let s = a.seen in
      let below = below_front p.callers before (e ∷ []) (subst (AreBelow p.callers) s.1 a.lawful.1) in
      let all : before ≡ p.seen = whole_sees p.callers p.held p.seen before whole below s.0 in
      (all, s.1 ∙ ap (λ (l : List EntryMark). l ++ e ∷ []) all)

  pub whole_adds : WholePassesAddTheirOwn O
  whole_adds priority p own q whole a =
      let s = a.seen in
      let below = below_drop p.callers p.seen s.0 (subst (AreBelow p.callers) s.1 a.lawful.1) in
      s.1 ∙ ap (λ (l : List EntryMark). p.seen ++ l) (sym (own_of-whole p.callers p.held s.0 whole below) ∙ s.2)

  -- 3. Numbers that go out and come home
  pub splits_give : SplitsGiveOne O
  splits_give n p q other small s below =
      let c = other.caller in let low : c < n = below c s.spare.0 in
      let kept : q.held ≡ give p.held c = ap (λ (z : PassView O). z.held) s.kept in
      let given : other.held ≡ only c = ap (λ (z : PassView O). z.held) s.given in (
        ap (λ (h : List Bool). held_count h + 1) kept ∙ held_count-give p.held c s.spare.0,
        (λ d has. below d (down_held p.held c d (subst (λ (h : List Bool). HasNumber h d) kept has)).1),
        ap held_count given ∙ held_count-only c (omega arith),
        (λ d has. subst (λ (z : ℕ). z < n) (sym (only_one c d (subst (λ (h : List Bool). HasNumber h d) given has))) low),
      )

  pub joins_take : JoinsTakeAll O
  joins_take n priority p other q j below below' =
      let both : q.held ≡ held_both p.held other.held = ap (λ (z : PassView O). z.held) j.joined in (
        ap held_count both ∙ held_count-both p.held other.held j.apart,
        (λ c has. by_flag (get_or other.held c false) (λ up. below' c up) (λ down. below c (both_up p.held other.held c (subst (λ (h : List Bool). HasNumber h c) both has) down))),
      )

  pub all_whole : AllNumbersMakeAWhole O
  all_whole p below count = whole_by_count p.callers p.held count below

pub first_all : AFirstPassHoldsAll
first_all n = (held_count-first n, λ c has. first_below n _ c has)
