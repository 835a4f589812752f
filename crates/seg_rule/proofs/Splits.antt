-- A split and a join keep the rule.
use Rattle.std.proofs.Common.{◌≡◌, ℕ, ◌≤◌, ◌≢◌, ⊎_elim, cond, Bool, true, false, List, [], ◌∷◌, ◌++◌, length, set, sym, refl, ap, ◌∙◌, subst, arith, le_refl, append-nil, length-append}
use Rattle.std.specs.Prelude.{nat_le, Option, Some, None}
use Rattle.std.proofs.lemmas.Bool.{cases_eq, leb-true, leb-false, cases_Bool}
use mathlib.Core.Option.{some, some-injective}
use lib.ListN.{get_elem?}
use Rattle.atomic_table.proofs.Lists.{set_here, set_else}
use Rattle.ho_model.specs.declared.marks.EntryMark.{EntryMark}
use Rattle.passes.specs.Numbers.{HasNumber, HasAll, IsSpare, give, held_both, made_both}
use Rattle.passes.specs.Seen.{longer}
use Rattle.passes.specs.Holders.{Holder, Meet, split_owner, join_owner}
use Rattle.passes.proofs.Holders.{holder_left, holder_right, holder_split, holder_gone, holder_joined, holder_both, holders_meet}
use Rattle.passes.proofs.Seats.{seats_split, seats_join, some_seat, some_longer, at_inside}
use Rattle.seg_rule.specs.declared.view.View.{View}
use Rattle.seg_rule.specs.declared.view.Joint.{Joint}
use Rattle.seg_rule.specs.declared.view.Obstacle.{Obstacle}
use Rattle.seg_rule.specs.Words.{Memory}
use Rattle.seg_rule.specs.declared.form.Form.{Form}
use Rattle.seg_rule.specs.Rule.{Ghosts, IsWhole, JointFact, HandOk, StageOk, WindowFact, WindowOwned, ViewOk, Words, Kept, total, paid_of, takes_in, watches}
use Rattle.seg_rule.specs.Rely.{Rely}
use Rattle.seg_rule.specs.Steps.{blank, IsAtRest, without, alone, joined, gone}
use Rattle.seg_rule.proofs.Stays.{blank_ok, view_stays}
use Rattle.seg_rule.proofs.Sums.{total_set, total_more}
use Rattle.seg_rule.proofs.Calm.{calm}

-- the numbers go to other seats, and nothing else changes
module _ (f : Form) (g : Ghosts) (owner' : ℕ → ℕ) where
  abbrev moved : Ghosts
  moved = record g { owner = owner' }

  words_moved : (m : Memory) → Words f m g → Words f m moved
  words_moved m w = record {
    counts = w.counts;
    calls = w.calls;
    chain = w.chain;
    ranges = w.ranges;
    homes = w.homes;
    tails = w.tails;
    links = w.links;
    places = w.places;
    sizes = w.sizes;
    nexts = w.nexts;
    slots = w.slots;
    strays = w.strays;
    dones = w.dones;
    observers = w.observers;
    bars = w.bars;
    turns = w.turns;
    preps = w.preps;
  }

  moved_rely : (j : ℕ) (u : View) → (Holder f.callers g.log g.made g.owner j u.held u.made u.seen → Holder f.callers g.log g.made owner' j u.held u.made u.seen) → Rely f j u g moved
  moved_rely j u holds = record {
    grows = calm g g.log g.made owner' g.paid g.now g.linked g.untold g.watch g.turn g.called g.shut g.prep g.plan g.written (le_refl _);
    holds = holds;
    still = λ a. (refl, refl, refl);
    hand_place = λ a n p e s. (e, s);
    window_place = λ a n p e s. (e, s, refl);
    held = λ a b e. refl;
    given = λ a b e. e;
    turned = λ e. record { turn = refl; called = refl; shut = refl; prep = refl; plan = refl; written = refl; now = refl; linked = refl; watch = λ n. le_refl _; untold = λ q o. le_refl _; last = refl; low = refl; home = λ q. refl; put = λ s. refl };
    turns = λ e. e;
  }

  -- a view at rest, with other numbers
  rest_view : (j : ℕ) (v : View) → ViewOk f g j v → IsAtRest v → (held : List Bool) (made : List ℕ) (seen : List EntryMark) (met : List Obstacle) (joint : Option Joint) → JointFact seen joint → Holder f.callers g.log g.made owner' j held made seen
      → ViewOk f moved j (record v { held = held; made = made; seen = seen; met = met; joint = joint; notes = blank })
  rest_view j v x r held made seen met joint meets holds = record {
    of_object = x.of_object;
    of_callers = x.of_callers;
    holds = holds;
    joint = meets;
    notes = blank_ok moved j (HasAll v.callers held);
    hand = subst (HandOk moved j (HasNumber held v.caller) v.caller) (sym r.hand) tt;
    ties = x.ties;
    stage = subst (StageOk moved j (HasNumber held v.caller) v.caller) (sym r.stage) (subst (StageOk g j (HasNumber v.held v.caller) v.caller) r.stage x.stage);
    window = subst (WindowFact moved) (sym r.window) tt;
    owned = subst (WindowOwned (HasNumber held v.caller)) (sym r.window) tt;
  }

module _ (f : Form) (m : Memory) (views : List View) (id : ℕ) (v : View) (k : Kept f m views) (at : get_elem? views id ≡ some v) (rest : IsAtRest v) where
  abbrev g : Ghosts
  g = k.g

  abbrev ok : ViewOk f g id v
  ok = k.seats.each id v at

  -- a split
  module _ (c : ℕ) (spare : IsSpare v.held v.caller c) where
    abbrev fresh : ℕ
    fresh = length views

    abbrev owner' : ℕ → ℕ
    owner' = split_owner g.owner c fresh

    abbrev left : View
    left = without v c

    abbrev right : View
    right = alone v c

    owned : g.owner c ≡ id
    owned = (ok.holds.owns c spare.0).0

    -- the new seat holds nothing
    unseated : (u : View) → get_elem? views fresh ≡ some u → ⊥
    unseated u e = let z = at_inside views fresh u e in omega arith

    right_ok : ViewOk f (moved f g owner') fresh right
    right_ok = record {
      of_object = ok.of_object;
      of_callers = ok.of_callers;
      holds = holder_right f.callers g.log g.made g.owner id v.held v.made v.seen ok.holds c fresh spare.0;
      joint = tt;
      notes = blank_ok (moved f g owner') fresh (IsWhole right);
      hand = tt;
      ties = λ a b e. let s = k.seats.seated a b fresh e in unseated s.0 s.1;
      stage = λ e. let s = k.seats.turned fresh e in unseated s.0 s.1;
      window = tt;
      owned = tt;
    }

    stay : (T : View → Type 0) (j : ℕ) → (T v → T left) → (u : View) × (get_elem? views j ≡ some u) × T u → (u : View) × (get_elem? (set views id left ++ right ∷ []) j ≡ some u) × T u
    stay T j go h = some_longer T (set views id left) j right (some_seat T views id j v left at go h)

    sum_same : (s : View → ℕ) → s left ≡ s v → s right ≡ 0 → total s (set views id left ++ right ∷ []) ≡ total s views
    sum_same s a b = let x = total_set s views id v left at in let y = total_more s (set views id left) right in omega arith

    pub split_kept : Kept f m (set views id left ++ right ∷ [])
    split_kept = record {
      g = moved f g owner';
      words = words_moved f g owner' m k.words;
      seats = record {
        each = seats_split (ViewOk f (moved f g owner')) views id left right
            (rest_view f g owner' id v ok rest (give v.held c) v.made v.seen v.met v.joint ok.joint (holder_left f.callers g.log g.made g.owner id v.held v.made v.seen ok.holds c fresh))
            right_ok
            (λ j u other e. let x = k.seats.each j u e in view_stays f g (moved f g owner') j u k.words.chain k.words.homes (moved_rely f g owner' j u (λ h. holder_split f.callers g.log g.made g.owner j u.held u.made u.seen h c fresh id other owned)) x);
        paid_is = sum_same paid_of refl refl ∙ k.seats.paid_is;
        untold_is = λ q. sum_same (takes_in q) refl refl ∙ k.seats.untold_is q;
        watch_is = λ n. sum_same (watches n) refl refl ∙ k.seats.watch_is n;
        seated = λ a b j e. let s = k.seats.seated a b j e in let t = stay (λ u. Unit {0}) j (λ x. tt) (s.0, s.1, tt) in (t.0, t.1);
        turned = λ j e. let s = k.seats.turned j e in let t = stay (λ u. Unit {0}) j (λ x. tt) (s.0, s.1, tt) in (t.0, t.1);
        all = let s = k.seats.all in let t = stay (λ u. u.seen ≡ g.log) s.0 (λ x. x) (s.1, s.2, s.3) in (s.0, t.0, t.1, t.2);
      };
    }

  -- a join
  module _ (other : ℕ) (w : View) (not_me : other ≢ id) (at' : get_elem? views other ≡ some w) (rest' : IsAtRest w) where
    abbrev theirs : ViewOk f g other w
    theirs = k.seats.each other w at'

    abbrev one_owner : ℕ → ℕ
    one_owner = join_owner g.owner w.held id

    abbrev both : View
    both = joined v w

    abbrev spent : View
    spent = gone w

    after : get_elem? (set views id both) other ≡ some w
    after = set_else views id other both not_me ∙ at'

    both_stay : (T : View → Type 0) (j : ℕ) → (T v → T both) → (T w → T spent) → (u : View) × (get_elem? views j ≡ some u) × T u → (u : View) × (get_elem? (set (set views id both) other spent) j ≡ some u) × T u
    both_stay T j go go' h = some_seat T (set views id both) other j w spent after go' (some_seat T views id j v both at go h)

    sum_both : (s : View → ℕ) → s both ≡ s v → s spent ≡ s w → total s (set (set views id both) other spent) ≡ total s views
    sum_both s a b = let x = total_set s views id v both at in let y = total_set s (set views id both) other w spent after in omega arith

    abbrev v_holds : Holder f.callers g.log g.made g.owner id v.held v.made v.seen
    v_holds = ok.holds

    abbrev w_holds : Holder f.callers g.log g.made g.owner other w.held w.made w.seen
    w_holds = theirs.holds

    abbrev both_holds : Holder f.callers g.log g.made one_owner id (held_both v.held w.held) (made_both w.held v.made w.made) (longer v.seen w.seen)
    both_holds = holder_both f.callers g.log g.made g.owner id other v.held w.held v.made w.made v.seen w.seen v_holds w_holds

    both_meet : Meet v.held w.held v.seen w.seen (longer v.seen w.seen)
    both_meet = holders_meet f.callers g.log g.made g.owner id other v.held w.held v.made w.made v.seen w.seen v_holds w_holds (λ e. not_me (sym e))

    -- what the two have seen together is all, if one has seen all
    whole_seen : (s : List EntryMark) → length s ≤ length (longer v.seen w.seen) → s ≡ g.log → longer v.seen w.seen ≡ g.log
    whole_seen s le e = let b = both_holds.behind in let l = ap length b.1 ∙ length-append (longer v.seen w.seen) b.0 in let same = ap length e in
        sym (b.1 ∙ (ap (λ (z : List EntryMark). longer v.seen w.seen ++ z) (empty b.0 (omega arith)) ∙ append-nil (longer v.seen w.seen)))
      where
        empty : (xs : List EntryMark) → length xs ≡ 0 → xs ≡ []
        empty [] e = refl
        empty (x ∷ xs) e = absurd (omega arith)

    long_first : length v.seen ≤ length (longer v.seen w.seen)
    long_first = ⊎_elim
        (λ (e : nat_le (length v.seen) (length w.seen) ≡ true). subst (λ (z : Bool). length v.seen ≤ length (cond z w.seen v.seen)) (sym e) (leb-true (length v.seen) (length w.seen) e))
        (λ (e : nat_le (length v.seen) (length w.seen) ≡ false). subst (λ (z : Bool). length v.seen ≤ length (cond z w.seen v.seen)) (sym e) (le_refl (length v.seen)))
        (cases_Bool (nat_le (length v.seen) (length w.seen)))

    long_second : length w.seen ≤ length (longer v.seen w.seen)
    long_second = ⊎_elim
        (λ (e : nat_le (length v.seen) (length w.seen) ≡ true). subst (λ (z : Bool). length w.seen ≤ length (cond z w.seen v.seen)) (sym e) (le_refl (length w.seen)))
        (λ (e : nat_le (length v.seen) (length w.seen) ≡ false). subst (λ (z : Bool). length w.seen ≤ length (cond z w.seen v.seen)) (sym e) (let a = leb-false (length v.seen) (length w.seen) e in omega arith))
        (cases_Bool (nat_le (length v.seen) (length w.seen)))

    all_seen : (j : ℕ) × (u : View) × (get_elem? (set (set views id both) other spent) j ≡ some u) × (u.seen ≡ g.log)
    all_seen = let s = k.seats.all in ⊎_elim
        (λ (e : s.0 ≡ other). let is : s.1 ≡ w = some-injective s.1 w (sym s.2 ∙ (ap (get_elem? views) e ∙ at')) in
        (id, both, set_else (set views id both) other id spent (λ z. not_me (sym z)) ∙ set_here views id both (at_inside views id v at), whole_seen w.seen long_second (ap (λ (z : View). z.seen) (sym is) ∙ s.3)))
        (λ (ne : s.0 ≢ other). let t = both_stay (λ u. u.seen ≡ g.log) s.0 (λ x. whole_seen v.seen long_first x) (λ x. x) (s.1, s.2, s.3) in (s.0, t.0, t.1, t.2))
        (cases_eq s.0 other)

    pub join_kept : Kept f m (set (set views id both) other spent) × Meet v.held w.held v.seen w.seen (longer v.seen w.seen)
    join_kept = (
      record {
        g = moved f g one_owner;
        words = words_moved f g one_owner m k.words;
        seats = record {
          each = seats_join (ViewOk f (moved f g one_owner)) views id other both spent
              (rest_view f g one_owner id v ok rest (held_both v.held w.held) (made_both w.held v.made w.made) (longer v.seen w.seen) (v.met ++ w.met) (Some (record { first = v.seen; second = w.seen; first_held = v.held; second_held = w.held })) both_meet both_holds)
              (rest_view f g one_owner other w theirs rest' [] w.made w.seen w.met None tt (holder_gone f.callers g.log g.made g.owner other w.held w.made w.seen w_holds one_owner))
              (λ j u mine its e. let x = k.seats.each j u e in view_stays f g (moved f g one_owner) j u k.words.chain k.words.homes
              (moved_rely f g one_owner j u (λ h. holder_joined f.callers g.log g.made g.owner id other v.held w.held v.made w.made v.seen w.seen v_holds w_holds j u.held u.made u.seen its h)) x);
          paid_is = sum_both paid_of refl refl ∙ k.seats.paid_is;
          untold_is = λ q. sum_both (takes_in q) refl refl ∙ k.seats.untold_is q;
          watch_is = λ n. sum_both (watches n) refl refl ∙ k.seats.watch_is n;
          seated = λ a b j e. let s = k.seats.seated a b j e in let t = both_stay (λ u. Unit {0}) j (λ x. tt) (λ x. tt) (s.0, s.1, tt) in (t.0, t.1);
          turned = λ j e. let s = k.seats.turned j e in let t = both_stay (λ u. Unit {0}) j (λ x. tt) (λ x. tt) (s.0, s.1, tt) in (t.0, t.1);
          all = all_seen;
        };
      },
      both_meet,
    )
