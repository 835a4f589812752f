-- How a take ends that found no item in its own list.
use Rattle.std.proofs.Common.{◌≡◌, ◌≢◌, ℕ, ◌%◌, ◌<◌, inl, inr, ⊎_elim, List, [], ◌∷◌, ◌++◌, length, get_or, Bool, false, sym, refl, ap, ◌∙◌, subst, arith, append-nil, append_assoc}
use Rattle.std.specs.Prelude.{Contains, None}
use Rattle.std.proofs.lemmas.List.Elements.{Contains-append_left, Contains-append_right}
use Rattle.atomic_table.specs.Table.{rest}
use mathlib.Core.Logic.{dite}
use native.Mathlib.Decide.{ℕ_discrete}
use Rattle.ho_base.specs.Marks.{Mark}
use Rattle.ho_model.specs.declared.marks.EntryMark.{EntryMark}
use Rattle.passes.specs.Numbers.{HasAll}
use Rattle.bag_rule.specs.declared.view.View.{View}
use Rattle.bag_rule.specs.declared.view.Obstacle.{Obstacle}
use Rattle.bag_rule.specs.declared.view.Obstacle.TheVariants.{Bare, Event, Missed}
use Rattle.bag_rule.specs.declared.view.Hand.TheVariants.{Kept}
use Rattle.bag_rule.specs.Views.{hand_at, AreBare, left_list, entered, missed, looked_again, began, took_list}
use Rattle.bag_rule.specs.Plays.{Sits, Shows, Makes, SeesAll, SeesLaw, GotList}
use Rattle.bag_rule.specs.Seats.{front_of}
use Rattle.bag_rule.proofs.Words.{rest_of}
use Rattle.bag_tries.specs.Causes.{SkipsAList, MissesAnEvent, IsRound, IsBareRound, HasSkipped}
use Rattle.bag_tries.specs.Seats.{IsIdle, HasOwnBare, HasRead, MadeEntry, MadeNone}
use Rattle.bag_tries.specs.Takes.{wandered, robbed, Went, FindsEmpty, Settles, GoesRound, TryTakes, bare_entry, item_entry}
use Rattle.bag_tries.specs.declared.takes.TakeTry.{TakeTry}
use Rattle.bag_tries.specs.declared.takes.TakeTry.TheVariants as tries
use Rattle.bag_tries.proofs.Hands.{none_back}
use Rattle.bag_tries.proofs.Lifts.{lift_none, lift_entry}
use Rattle.bag_tries.proofs.Searching.{steps_behind, round_made, bare_made}

-- the own list, without an item, is given back
module _ (pr : Mark → ℕ) (m : Sits) (c : ℕ) (own : HasOwnBare m c) (idle : m.0.joint ≡ None) where
  abbrev v : View
  v = m.0

  left_idle : (w : View) → w.keeps ≡ v.keeps → w.joint ≡ v.joint → IsIdle (left_list w c, rest m.1)
  left_idle w same joint = (none_back w.keeps c (Kept []) (same ∙ own.0), joint ∙ idle, ap rest own.1)

  -- after an entry that changed no list
  pub left_entered : (e : EntryMark) (place : ℕ) (others : List EntryMark) (w t : Sits) → w ≡ (entered v others e, m.1) → Makes pr v others e place → t ≡ (left_list w.0 c, rest w.1) → MadeEntry pr v e place t
  left_entered e place others w t is makes left = subst (λ (z : Sits). MadeEntry pr v e place z) (sym (left ∙ ap (λ (z : Sits). (left_list z.0 c, rest z.1)) is)) record {
    back = record { idle = left_idle (entered v others e) refl refl; callers = refl; caller = refl; held = refl };
    others = others;
    makes = makes;
    seen = refl;
    made = refl;
    read = [];
    met = sym (append-nil v.met);
  }

  -- after a load, or an exchange that was lost
  pub left_missed : (events items : ℕ) (w t : Sits) → SeesLaw pr v → w ≡ (missed v events items, m.1) → t ≡ (left_list w.0 c, rest w.1) → MadeNone pr v (Missed v.events events items ∷ []) t
  left_missed events items w t law is left = subst (λ (z : Sits). MadeNone pr v (Missed v.events events items ∷ []) z) (sym (left ∙ ap (λ (z : Sits). (left_list z.0 c, rest z.1)) is)) record {
    back = record { idle = left_idle (missed v events items) refl refl; callers = refl; caller = refl; held = refl };
    seen = refl;
    made = refl;
    met = refl;
    lawful = law;
  }

  pub left_looked : (events items : ℕ) (w t : Sits) → SeesLaw pr v → w ≡ (looked_again v events items, m.1) → t ≡ (left_list w.0 c, rest w.1) → MadeNone pr v (Event events items ∷ []) t
  left_looked events items w t law is left = subst (λ (z : Sits). MadeNone pr v (Event events items ∷ []) z) (sym (left ∙ ap (λ (z : Sits). (left_list z.0 c, rest z.1)) is)) record {
    back = record { idle = left_idle (looked_again v events items) refl refl; callers = refl; caller = refl; held = refl };
    seen = refl;
    made = refl;
    met = refl;
    lawful = law;
  }

  -- after an item was taken out of another list
  pub left_robbed : (e : EntryMark) (place : ℕ) (read : List Obstacle) (bare : List Bool) (others : List EntryMark) (w t : Sits) → w ≡ (robbed v read bare others e, m.1) → Makes pr v others e place → t ≡ (left_list w.0 c, rest w.1) → MadeEntry pr v e place t
  left_robbed e place read bare others w t is makes left = subst (λ (z : Sits). MadeEntry pr v e place z) (sym (left ∙ ap (λ (z : Sits). (left_list z.0 c, rest z.1)) is)) record {
    back = record { idle = left_idle (robbed v read bare others e) refl refl; callers = refl; caller = refl; held = refl };
    others = others;
    makes = makes;
    seen = refl;
    made = refl;
    read = read;
    met = refl;
  }

-- a word that shows items
pub some_items : (word events items : ℕ) → Shows word events items → word % 1048576 ≢ 0 → 0 < items
some_items word events items s ne = let e = rest_of word events items s in omega arith

pub no_items : (word events items : ℕ) → Shows word events items → word % 1048576 ≡ 0 → items ≡ 0
no_items word events items s e = sym (rest_of word events items s) ∙ e

-- a seat that has looked again, or has begun, is the same one later
looked_later : (v w : View) (events items : ℕ) → w ≡ looked_again v events items → HasRead v w (Event events items ∷ [])
looked_later v w events items is = subst (λ (z : View). HasRead v z (Event events items ∷ [])) (sym is) record { callers = refl; caller = refl; held = refl; seen = refl; made = refl; met = refl }

pub began_later : (v w : View) (events items : ℕ) → w ≡ began v events items → HasRead v w (Event events items ∷ [])
began_later v w events items is = subst (λ (z : View). HasRead v z (Event events items ∷ [])) (sym is) record { callers = refl; caller = refl; held = refl; seen = refl; made = refl; met = refl }

went_later : (c : ℕ) (v w : View) (n k : ℕ) (skipped : Bool) (g : Went c v w n k skipped) → HasRead v w g.read
went_later c v w n k skipped g = subst (λ (z : View). HasRead v z g.read) (sym g.is) record { callers = refl; caller = refl; held = refl; seen = refl; made = refl; met = refl }

module _ {T : Type 0} (pr : Mark → ℕ) (mark : T → Mark) (c : ℕ) where
  -- a load that showed no items, and an exchange that was lost
  both_missed : (v w : View) (events items later some : ℕ) (m : Sits) → HasRead v w (Event events items ∷ []) → w.events ≡ events → items ≡ 0 → MadeNone pr w (Missed w.events later some ∷ []) m
      → MadeNone pr v (Event events 0 ∷ Missed events later some ∷ []) m
  both_missed v w events items later some m read last none n =
      subst (λ (z : ℕ × ℕ). MadeNone pr v (Event events z.0 ∷ Missed z.1 later some ∷ []) m) (λ i. (none i, last i)) (lift_none pr v w (Event events items ∷ []) read m (Missed w.events later some ∷ []) n)

  -- the event word showed no items at the second load
  pub settles_empty : (v w : View) (skipped : Bool) (events items : ℕ) (m : Sits) → w ≡ looked_again v events items → SeesAll v events → items ≡ 0 → (r : TakeTry T) → FindsEmpty pr mark c w m r → Settles pr mark c v skipped m r
  settles_empty v w skipped events items m is all none (tries.Empty place) f = lift_entry pr v w (Event events items ∷ []) (looked_later v w events items is) m (bare_entry pr mark c) place f
  settles_empty v w skipped events items m is all none tries.Lost f =
      let last : w.events ≡ events = ap (λ (z : View). z.events) is in (
        f.0,
        f.1,
        subst (λ (z : View). SeesAll z f.0) is f.4,
        inr (events, both_missed v w events items f.0 f.1 m (looked_later v w events items is) last none f.2, subst (λ (z : ℕ). z < f.0) last f.3, all),
      )
  settles_empty v w skipped events items m is all none tries.Held f = absurd f
  settles_empty v w skipped events items m is all none (tries.Item from item place) f = absurd f

  -- or at the first
  pub goes_empty : (v w : View) (events items : ℕ) (m : Sits) → w ≡ began v events items → SeesAll v events → items ≡ 0 → (r : TakeTry T) → FindsEmpty pr mark c w m r → GoesRound pr mark c v m r
  goes_empty v w events items m is all none (tries.Empty place) f = lift_entry pr v w (Event events items ∷ []) (began_later v w events items is) m (bare_entry pr mark c) place f
  goes_empty v w events items m is all none tries.Lost f =
      let last : w.events ≡ events = ap (λ (z : View). z.events) is in
      let less : events < f.0 = subst (λ (z : ℕ). z < f.0) last f.3 in
      let later_all : SeesAll v f.0 = subst (λ (z : View). SeesAll z f.0) is f.4 in (
        Event events 0 ∷ Missed events f.0 f.1 ∷ [],
        both_missed v w events items f.0 f.1 m (began_later v w events items is) last none f.2,
        record {
          events = events;
          later = f.0;
          items = f.1;
          more = less;
          how = inl refl;
          others = λ whole. let a = all whole in let b = later_all whole in omega arith;
        },
      )
  goes_empty v w events items m is all none tries.Held f = absurd f
  goes_empty v w events items m is all none (tries.Item from item place) f = absurd f

  -- after a round
  module _ (v b w : View) (events items n : ℕ) (is : b ≡ began v events items) (all : SeesAll v events) (some : 0 < items) (callers : b.callers ≡ n) (low : c < n) (skipped : Bool) (g : Went c b w n n skipped) (m : Sits) where
    abbrev first : List Obstacle
    first = Event events items ∷ g.read

    later : HasRead v w first
    later = let x = began_later v b events items is in let y = went_later c b w n n skipped g in record {
      callers = y.callers ∙ x.callers;
      caller = y.caller ∙ x.caller;
      held = y.held ∙ x.held;
      seen = y.seen ∙ x.seen;
      made = y.made ∙ x.made;
      met = y.met ∙ (ap (λ (z : List Obstacle). z ++ g.read) x.met ∙ append_assoc v.met (Event events items ∷ []) g.read);
    }

    round : IsRound v.callers c v.held g.read
    round = subst (λ (z : View). IsRound z.callers c z.held g.read) is (round_made c b w n callers low skipped g)

    since_is : w.since ≡ events
    since_is = ap (λ (z : View). z.since) (g.is ∙ ap (λ (z : View). wandered z g.read g.bare) is)

    sees : (k : ℕ) → SeesAll w k → SeesAll v k
    sees k s whole = s (subst (λ (z : ℕ × List Bool). HasAll z.0 z.1) (λ i. (sym later.callers i, sym later.held i)) whole) ∙ ap length later.seen

    pub settled : (r : TakeTry T) → Settles pr mark c w skipped m r → GoesRound pr mark c v m r
    settled (tries.Empty place) s = lift_entry pr v w first later m (bare_entry pr mark c) place s
    settled tries.Held s = let o : Obstacle = Event s.1 s.2 in (
      first ++ o ∷ [],
      lift_none pr v w first later m (o ∷ []) s.3,
      record {
        events = events;
        round = g.read;
        tried = round;
        skipped = subst (λ (z : View). HasSkipped z.callers c z.held g.read) is (g.one_held s.0);
        later = s.1;
        items = s.2;
        went = record { items = items; some = some; is = refl };
        some = s.4;
      },
    )
    settled tries.Lost s = ⊎_elim
        (λ t. let o : Obstacle = Event s.0 s.1 in let since = since_is in let less : w.since < s.0 = t.2 in (
          first ++ o ∷ [],
          lift_none pr v w first later m (o ∷ []) t.1,
          record {
            events = events;
            later = s.0;
            items = s.1;
            more = omega arith;
            how = inr (inr (g.read, subst (λ (z : View). IsBareRound z.callers c z.held g.read) is (bare_made c b w n callers low skipped g t.0), record { items = items; some = some; is = refl }, t.3));
            others = λ whole. let a = all whole in let b = sees s.0 s.2 whole in omega arith;
          },
        ))
        (λ t. let both : List Obstacle = Event t.0 0 ∷ Missed t.0 s.0 s.1 ∷ [] in (
          first ++ both,
          lift_none pr v w first later m both t.1,
          record {
            events = t.0;
            later = s.0;
            items = s.1;
            more = t.2;
            how = inr (inl (events, g.read, round, record { items = items; some = some; is = refl }));
            others = λ whole. let a = sees t.0 t.3 whole in let b = sees s.0 s.2 whole in let l : t.0 < s.0 = t.2 in omega arith;
          },
        ))
        s.3
    settled (tries.Item from item place) s = absurd s

-- after a round that found every list without an item
pub bare_round : (c : ℕ) (b w : View) (n : ℕ) → Went c b w n n false → b.callers ≡ n → c < n → hand_at w c ≡ Kept [] → AreBare w
bare_round c b w n g callers low kept d lt = dite (ℕ_discrete d c)
    (λ (e : d ≡ c). inr (ap (hand_at w) e ∙ kept))
    (λ (ne : d ≢ c).
    let same : w.callers ≡ b.callers = ap (λ (z : View). z.callers) g.is in
    let j = steps_behind c n d low (omega arith) ne in
    inl (ap (λ (z : View). get_or z.bare d false) g.is ∙ (ap (λ (z : ℕ). get_or g.bare z false) (sym j.3) ∙ (g.all_bare refl j.0 j.1 j.2).0)))

-- what a call that began with the own list in hand, without an item, comes to
module _ {T : Type 0} (pr : Mark → ℕ) (mark : T → Mark) (c : ℕ) (v w : View) (later : HasRead v w (Bare c ∷ [])) (m : Sits) where
  pub goes_take : (r : TakeTry T) → GoesRound pr mark c w m r → TryTakes pr mark c v m r
  goes_take (tries.Item from item place) k = lift_entry pr v w (Bare c ∷ []) later m (item_entry pr mark c item from) place k
  goes_take (tries.Empty place) k = lift_entry pr v w (Bare c ∷ []) later m (bare_entry pr mark c) place k
  goes_take tries.Held k = (Bare c ∷ k.0, lift_none pr v w (Bare c ∷ []) later m k.0 k.1, inr (subst (λ (z : ℕ × List Bool). SkipsAList z.0 c z.1 (Bare c ∷ k.0)) (λ i. (later.callers i, later.held i)) k.2))
  goes_take tries.Lost k = (Bare c ∷ k.0, lift_none pr v w (Bare c ∷ []) later m k.0 k.1, subst (λ (z : ℕ × List Bool). MissesAnEvent z.0 c z.1 (Bare c ∷ k.0)) (λ i. (later.callers i, later.held i)) k.2)

-- a list that was got without an item
pub got_later : (pr : Mark → ℕ) (m : Sits) (c : ℕ) (t : Sits) → GotList pr m.0 m.1 c t → front_of t.1 ≡ [] → HasRead m.0 t.0 (Bare c ∷ [])
got_later pr m c t got bare =
    let none : got.0 ≡ [] = sym (ap (λ (z : Sits). front_of z.1) got.1) ∙ bare in
    subst (λ (z : View). HasRead m.0 z (Bare c ∷ [])) (sym (ap (λ (z : Sits). z.0) got.1 ∙ ap (took_list m.0 c) none)) record { callers = refl; caller = refl; held = refl; seen = refl; made = refl; met = refl }
