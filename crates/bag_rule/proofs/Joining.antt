-- A split and a join keep the rule.
use Rattle.std.proofs.Common.{◌≡◌, ℕ, List, [], ◌∷◌, ◌++◌, length, get_or, set, sym, ap, ◌∙◌, subst, inl, inr, ⊎_elim}
use Rattle.std.specs.Prelude.{None}
use mathlib.Core.Option.{some}
use lib.ListN.{get_elem?}
use Rattle.atomic_table.specs.Table.{Splits, Joins}
use Rattle.atomic_table.proofs.Lists.{set_else}
use Rattle.ho_base.specs.Marks.{Mark}
use Rattle.passes.specs.Numbers.{IsSpare}
use Rattle.passes.specs.Holders.{split_owner, join_owner}
use Rattle.passes.proofs.Seats.{seats_split, seats_join, some_seat, some_longer}
use Rattle.passes.proofs.Holders.{holder_left, holder_right, holder_split, holder_gone, holder_joined, holder_both, holders_meet}
use Rattle.bag_rule.specs.declared.view.View.{View}
use Rattle.bag_rule.specs.declared.view.Hand.{Hand}
use Rattle.bag_rule.specs.declared.view.Hand.TheVariants.{Away, Kept}
use Rattle.bag_rule.specs.Views.{hand_at, none_kept, without, alone, joined, gone}
use Rattle.bag_rule.specs.Rule.{Lain, Has, Knows, Names, IsOut, Stands, JointFact}
use Rattle.bag_rule.proofs.Lists.{is_kept, not_away, no_hand}

pub free_hand : (v : View) → v.keeps ≡ none_kept → (c : ℕ) → hand_at v c ≡ Away
free_hand v none_of c = ap (λ (hands : List Hand). get_or hands c Away) none_of ∙ no_hand 64 c

no_keeps : (v : View) → v.keeps ≡ none_kept → (T : Type 0) (c : ℕ) (items : List Mark) → hand_at v c ≡ Kept items → T
no_keeps v none_of T c items h = absurd (not_away (hand_at v c) (is_kept (hand_at v c) items h) (free_hand v none_of c))

module _ (pr : Mark → ℕ) (n : ℕ) where
  module _ (s : Lain) (r : Stands pr n s) (id c : ℕ) (v : View) (at : get_elem? s.views id ≡ some v) (idle : v.joint ≡ None) (none_of : v.keeps ≡ none_kept) (spare : IsSpare v.held v.caller c) where
    abbrev fresh : ℕ
    fresh = length s.views

    abbrev owner' : ℕ → ℕ
    owner' = split_owner r.owner c fresh

    abbrev k : Knows n r.log r.lists r.locks r.made r.owner r.keeper id v
    k = r.knows id v at

    abbrev Known' : ℕ → View → Type 0
    Known' = Knows n r.log r.lists r.locks r.made owner' r.keeper

    idle_fact : JointFact v.seen v.joint
    idle_fact = subst (JointFact v.seen) (sym idle) tt

    split_kept : Stands pr n record { words = s.words; homes = s.homes; views = set s.views id (without v c) ++ alone v c ∷ [] }
    split_kept = record {
      log = r.log;
      lists = r.lists;
      locks = r.locks;
      made = r.made;
      owner = owner';
      keeper = r.keeper;
      words = r.words;
      wide = r.wide;
      small = r.small;
      state = r.state;
      below = r.below;
      sized = r.sized;
      few = r.few;
      each = r.each;
      within = r.within;
      beyond = r.beyond;
      place = λ d lt. ⊎_elim inl (λ (h : IsOut s r.locks r.keeper d). inr (some_longer (Names r.locks d) (set s.views id (without v c)) (r.keeper d) (alone v c)
          (some_seat (Names r.locks d) s.views id (r.keeper d) v (without v c) at (λ o. o) h))) (r.place d lt);
      knows = seats_split Known' s.views id (without v c) (alone v c)
          record { of_callers = k.of_callers; wide = k.wide; holder = holder_left n r.log r.made r.owner id v.held v.made v.seen k.holder c fresh; keeps = λ d items h. no_keeps v none_of (Has n r.locks r.lists r.keeper id (without v c) d items) d items h; begun = k.begun; bare = k.bare; late = k.late; last = k.last; joint = idle_fact }
          record { of_callers = k.of_callers; wide = k.wide; holder = holder_right n r.log r.made r.owner id v.held v.made v.seen k.holder c fresh spare.0; keeps = λ d items h. no_keeps v none_of (Has n r.locks r.lists r.keeper fresh (alone v c) d items) d items h; begun = k.begun; bare = k.bare; late = k.late; last = k.last; joint = idle_fact }
          (λ j u not e. let x = r.knows j u e in record { of_callers = x.of_callers; wide = x.wide; holder = holder_split n r.log r.made r.owner j u.held u.made u.seen x.holder c fresh id not (k.holder.owns c spare.0).0; keeps = x.keeps; begun = x.begun; bare = x.bare; late = x.late; last = x.last; joint = x.joint });
    }

  pub splits : (id c : ℕ) (v : View) → v.joint ≡ None → v.keeps ≡ none_kept → IsSpare v.held v.caller c → Splits (Stands pr n) id v (without v c) (alone v c)
  splits id c v idle none_of spare s r at = split_kept s r id c v at idle none_of spare

  module _ (s : Lain) (r : Stands pr n s) (id other : ℕ) (v w : View) (at : get_elem? s.views id ≡ some v) (apart : ¬ (other ≡ id)) (there : get_elem? s.views other ≡ some w)
      (idle : w.joint ≡ None) (none_of : v.keeps ≡ none_kept) (none_of' : w.keeps ≡ none_kept) where
    abbrev kv : Knows n r.log r.lists r.locks r.made r.owner r.keeper id v
    kv = r.knows id v at

    abbrev kw : Knows n r.log r.lists r.locks r.made r.owner r.keeper other w
    kw = r.knows other w there

    abbrev one_owner : ℕ → ℕ
    one_owner = join_owner r.owner w.held id

    abbrev KnownJ : ℕ → View → Type 0
    KnownJ = Knows n r.log r.lists r.locks r.made one_owner r.keeper

    there' : get_elem? (set s.views id (joined v w)) other ≡ some w
    there' = set_else s.views id other (joined v w) apart ∙ there

    join_kept : Stands pr n record { words = s.words; homes = s.homes; views = set (set s.views id (joined v w)) other (gone w) }
    join_kept = record {
      log = r.log;
      lists = r.lists;
      locks = r.locks;
      made = r.made;
      owner = one_owner;
      keeper = r.keeper;
      words = r.words;
      wide = r.wide;
      small = r.small;
      state = r.state;
      below = r.below;
      sized = r.sized;
      few = r.few;
      each = r.each;
      within = r.within;
      beyond = r.beyond;
      place = λ d lt. ⊎_elim inl (λ (h : IsOut s r.locks r.keeper d). inr (some_seat (Names r.locks d) (set s.views id (joined v w)) other (r.keeper d) w (gone w) there' (λ o. o)
          (some_seat (Names r.locks d) s.views id (r.keeper d) v (joined v w) at (λ o. o) h))) (r.place d lt);
      knows = seats_join KnownJ s.views id other (joined v w) (gone w)
          record {
            of_callers = kv.of_callers;
            wide = kv.wide;
            holder = holder_both n r.log r.made r.owner id other v.held w.held v.made w.made v.seen w.seen kv.holder kw.holder;
            keeps = λ d items h. no_keeps v none_of (Has n r.locks r.lists r.keeper id (joined v w) d items) d items h;
            begun = kv.begun;
            bare = kv.bare;
            late = kv.late;
            last = kv.last;
            joint = holders_meet n r.log r.made r.owner id other v.held w.held v.made w.made v.seen w.seen kv.holder kw.holder (λ e. apart (sym e));
          }
          record {
            of_callers = kw.of_callers;
            wide = kw.wide;
            holder = holder_gone n r.log r.made r.owner other w.held w.made w.seen kw.holder one_owner;
            keeps = λ d items h. no_keeps w none_of' (Has n r.locks r.lists r.keeper other (gone w) d items) d items h;
            begun = kw.begun;
            bare = kw.bare;
            late = kw.late;
            last = kw.last;
            joint = subst (JointFact w.seen) (sym idle) tt;
          }
          (λ j u not not' e. let x = r.knows j u e in record {
            of_callers = x.of_callers;
            wide = x.wide;
            holder = holder_joined n r.log r.made r.owner id other v.held w.held v.made w.made v.seen w.seen kv.holder kw.holder j u.held u.made u.seen not' x.holder;
            keeps = x.keeps;
            begun = x.begun;
            bare = x.bare;
            late = x.late;
            last = x.last;
            joint = x.joint;
          });
    }

  pub joins : (id other : ℕ) (v w : View) → w.joint ≡ None → v.keeps ≡ none_kept → w.keeps ≡ none_kept → Joins (Stands pr n) id v other w (joined v w) (gone w)
  joins id other v w idle none_of none_of' s r at apart there = join_kept s r id other v w at apart (sym (set_else s.views id other (joined v w) apart) ∙ there) idle none_of none_of'
