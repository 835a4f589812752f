-- An entry keeps the rule, whatever lists of its seat it changes.
use Rattle.std.proofs.Common.{◌≡◌, ◌≢◌, ℕ, ◌+◌, ◌%◌, ◌^◌, ◌<◌, ◌≤◌, ◌⊎◌, List, [], ◌∷◌, ◌++◌, length, get_or, set, sym, refl, ap, ◌∙◌, subst, inl, inr, ⊎_elim, arith, length-set, get_or-set_other, get_or-set_same, length-append, Some}
use Rattle.std.specs.Prelude.{None}
use Rattle.std.proofs.Math.Nat.{mod-eq_of_lt}
use mathlib.Core.Logic.{dite}
use mathlib.Core.Option.{some, none}
use native.Mathlib.Decide.{ℕ_discrete}
use lib.ListN.{get_elem?}
use Rattle.atomic_table.specs.Table.{Act, step, keeps, stepped, Valid, carried_after, Allows}
use Rattle.ho_base.specs.Marks.{Mark}
use Rattle.ho_model.specs.declared.marks.EntryMark.{EntryMark}
use Rattle.ho_model.specs.declared.objects.Object.TheVariants.{Bag}
use Rattle.ho_model.specs.Bag.{Lists, list_of, item_count, bag_step}
use Rattle.ho_model.specs.Objects.{BagState}
use Rattle.ho_model.specs.Histories.{state_after}
use Rattle.ho_model.proofs.Folds.{folded-push}
use Rattle.passes.specs.Numbers.{HasNumber, raised}
use Rattle.passes.specs.Seen.{IsLawful}
use Rattle.passes.specs.Holders.{Holder}
use Rattle.passes.proofs.Flags.{sum-raised, raised_each}
use Rattle.passes.proofs.Seats.{seats_stay, some_seat}
use Rattle.passes.proofs.Seen.{below_more}
use Rattle.passes.proofs.Holders.{holder_enters, holder_counts, others_count, others_enter}
use Rattle.bag_rule.specs.declared.view.View.{View}
use Rattle.bag_rule.specs.declared.view.Hand.{Hand}
use Rattle.bag_rule.specs.declared.view.Hand.TheVariants.{Away, Kept}
use Rattle.bag_rule.specs.Words.{event_word}
use Rattle.bag_rule.specs.Views.{hand_at, IsKept, changed, Does}
use Rattle.bag_rule.specs.Rule.{Lain, Knows, Names, AtHome, IsOut, Stands, JointFact}
use Rattle.bag_rule.specs.Plays.{Sits, Shows, Enters, changes}
use Rattle.bag_rule.proofs.Lists.{items_set, by_hand, is_kept, kept_is, not_away, one_hand, hand_here, hand_else}
use Rattle.bag_rule.proofs.Words.{words_event}
use Rattle.bag_rule.proofs.Object.{bag_enters}
use Rattle.bag_rule.proofs.Laws.{word, few_events, few_items, shows, agrees}

module _ (pr : Mark → ℕ) (n : ℕ) where
  -- the entry e, after which the lists are lists', and the seat's hands are `hands`
  module _ (s : Lain) (r : Stands pr n s) (id : ℕ) (v : View) (at : get_elem? s.views id ≡ some v) (e : EntryMark) (own : e.caller ≡ v.caller) (active : HasNumber v.held v.caller) (below : get_or v.made v.caller 0 < 2 ^ 37)
      (lists' : Lists) (does : bag_step r.lists e.caller e.call e.reply ≡ Some lists') (long : length lists' ≡ length r.lists) (short : (c : ℕ) → length (list_of lists' c) ≤ 16383)
      (hands : List Hand) (wide : length hands ≡ 64) (frame : (c : ℕ) → hand_at v c ≡ Away → list_of lists' c ≡ list_of r.lists c)
      (kept : (c : ℕ) (items : List Mark) → get_or hands c Away ≡ Kept items → IsKept (hand_at v c) × (list_of lists' c ≡ items)) (still : (c : ℕ) → IsKept (hand_at v c) → IsKept (get_or hands c Away)) where
    abbrev known : Knows n r.log r.lists r.locks r.made r.owner r.keeper id v
    known = r.knows id v at

    abbrev others : List EntryMark
    others = known.holder.behind.0

    abbrev log' : List EntryMark
    log' = r.log ++ e ∷ []

    abbrev w : View
    w = record v { seen = (v.seen ++ others) ++ e ∷ []; made = raised v.made v.caller; keeps = hands }

    mine_at : (r.owner v.caller ≡ id) × (v.caller < n)
    mine_at = known.holder.owns v.caller active

    low : e.caller < n
    low = subst (λ (c : ℕ). c < n) (sym own) mine_at.1

    inside_made : v.caller < length r.made
    inside_made = let a = r.sized in let b = mine_at.1 in omega arith

    length_log : length log' ≡ length r.log + 1
    length_log = length-append r.log (e ∷ [])

    w_holder : Holder n log' (raised r.made v.caller) r.owner id v.held (raised v.made v.caller) ((v.seen ++ others) ++ e ∷ [])
    w_holder = holder_counts n log' r.made r.owner id v.held v.made ((v.seen ++ others) ++ e ∷ []) (holder_enters n r.log r.made r.owner id v.held v.made v.seen known.holder e) v.caller inside_made (let b = mine_at.1 in let d = r.small in omega arith) active

    -- what another seat keeps is not kept here
    others_knows : (j : ℕ) (u : View) → j ≢ id → Knows n r.log r.lists r.locks r.made r.owner r.keeper j u → Knows n log' lists' r.locks (raised r.made v.caller) r.owner r.keeper j u
    others_knows j u not x = let b = x.begun in let l = x.late in let g = length_log in record {
      of_callers = x.of_callers;
      wide = x.wide;
      holder = others_count n log' r.made r.owner j u.held u.made u.seen (others_enter n r.log r.made r.owner j u.held u.made u.seen x.holder id e not (ap r.owner own ∙ mine_at.0)) id v.caller inside_made not mine_at.0;
      keeps = λ c items h. let y = x.keeps c items h in
          (y.0, y.1, y.2, frame c (⊎_elim (λ a. a) (λ (t : (ys : List Mark) × (hand_at v c ≡ Kept ys)). absurd (not (sym y.1 ∙ (known.keeps c t.0 t.1).1))) (by_hand (hand_at v c))) ∙ y.3, y.4);
      begun = omega arith;
      bare = λ same. absurd (omega arith);
      late = omega arith;
      last = λ same. absurd (omega arith);
      joint = x.joint;
    }

    w_knows : v.joint ≡ None → Knows n log' lists' r.locks (raised r.made v.caller) r.owner r.keeper id w
    w_knows idle = let b = known.begun in let l = known.late in let g = length_log in record {
      of_callers = known.of_callers;
      wide = wide;
      holder = w_holder;
      keeps = λ c items h. let y = kept c items h in let z = kept_is (hand_at v c) y.0 in let a = known.keeps c z.0 z.1 in (a.0, a.1, a.2, y.1, a.4);
      begun = omega arith;
      bare = λ same. absurd (omega arith);
      late = omega arith;
      last = λ same. absurd (omega arith);
      joint = subst (JointFact w.seen) (sym idle) tt;
    }

    state' : state_after pr Bag log' ≡ Some (BagState lists')
    state' = folded-push pr Bag r.log (BagState r.lists) e r.state ∙ bag_enters pr r.lists lists' e (let a = low in let b = r.small in omega arith) does

    abbrev after : Lain
    after = record { words = set s.words 0 (event_word (length log') lists'); homes = s.homes; views = set s.views id w }

    away : (c : ℕ) → ((items : List Mark) → hand_at v c ≡ Kept items → ⊥) → hand_at v c ≡ Away
    away c never = ⊎_elim (λ a. a) (λ (t : (ys : List Mark) × (hand_at v c ≡ Kept ys)). absurd (never t.0 t.1)) (by_hand (hand_at v c))

    event_place : (c : ℕ) → c < n → AtHome s r.lists r.locks c ⊎ IsOut s r.locks r.keeper c → AtHome after lists' r.locks c ⊎ IsOut after r.locks r.keeper c
    event_place c lt p = ⊎_elim
        (λ (h : AtHome s r.lists r.locks c). inl (h.0, h.1 ∙ ap (λ (z : List Mark). some (some z)) (sym (frame c (away c (λ ys k. (known.keeps c ys k).2 h.0))))))
        (λ (h : IsOut s r.locks r.keeper c). inr (some_seat (Names r.locks c) s.views id (r.keeper c) v w at (λ o. (o.0, still c o.1)) h))
        p

    pub event_kept : v.joint ≡ None → Stands pr n after
    event_kept idle = let g = length_log in let f = r.few in record {
      log = log';
      lists = lists';
      locks = r.locks;
      made = raised r.made v.caller;
      owner = r.owner;
      keeper = r.keeper;
      words = words_event s.words (word pr n s r) r.locks r.words (event_word (length log') lists');
      wide = (r.wide.0, long ∙ r.wide.1, r.wide.2);
      small = r.small;
      state = state';
      below = below_more n r.log e r.below low;
      sized = length-set r.made v.caller (get_or r.made v.caller 0 + 1) ∙ r.sized;
      few = let t = sum-raised r.made v.caller inside_made in omega arith;
      each = raised_each r.made v.caller inside_made (2 ^ 37) r.each (subst (λ (z : ℕ). z < 2 ^ 37) (known.holder.agrees v.caller active) below);
      within = short;
      beyond = λ c high. frame c (away c (λ ys k. let a = (known.keeps c ys k).0 in omega arith)) ∙ r.beyond c high;
      place = λ c lt. event_place c lt (r.place c lt);
      knows = seats_stay (Knows n log' lists' r.locks (raised r.made v.caller) r.owner r.keeper) s.views id w (w_knows idle) (λ j u not x. others_knows j u not (r.knows j u x));
    }

    -- what the step tells
    pub event_enters : Enters pr v others e (word pr n s r)
    event_enters = (
      known.holder.behind.2,
      subst (λ (z : ℕ × List EntryMark). IsLawful pr Bag z.0 (z.1 ++ e ∷ [])) (λ i. (sym known.of_callers i, known.holder.behind.1 i)) ((BagState lists', state'), below_more n r.log e r.below low),
      item_count r.lists,
      subst (λ (z : ℕ). Shows (word pr n s r) z (item_count r.lists)) (ap length known.holder.behind.1) (shows pr n s r),
    )

  within_set : (lists : Lists) (d : ℕ) (items : List Mark) → d < length lists → length items ≤ 16383 → ((c : ℕ) → length (list_of lists c) ≤ 16383) → (c : ℕ) → length (list_of (set lists d items) c) ≤ 16383
  within_set lists d items inside short all c = dite (ℕ_discrete c d)
      (λ (e : c ≡ d). subst (λ (z : List Mark). length z ≤ 16383) (sym (ap (list_of (set lists d items)) e ∙ get_or-set_same lists d items [] inside)) short)
      (λ ne. subst (λ (z : List Mark). length z ≤ 16383) (sym (get_or-set_other lists d c items [] ne)) (all c))

  kept_set : (v : View) (lists : Lists) (d : ℕ) (xs xs' : List Mark) → d < length v.keeps → d < length lists → hand_at v d ≡ Kept xs → ((c : ℕ) (ys : List Mark) → hand_at v c ≡ Kept ys → list_of lists c ≡ ys)
      → (c : ℕ) (ys : List Mark) → get_or (set v.keeps d (Kept xs')) c Away ≡ Kept ys → IsKept (hand_at v c) × (list_of (set lists d xs') c ≡ ys)
  kept_set v lists d xs xs' room inside is all c ys e = dite (ℕ_discrete c d)
      (λ (eq : c ≡ d). (
        is_kept (hand_at v c) xs (ap (hand_at v) eq ∙ is),
        ap (list_of (set lists d xs')) eq ∙ (get_or-set_same lists d xs' [] inside ∙ one_hand xs' ys (sym (hand_here v.keeps d (Kept xs') room) ∙ (ap (λ (z : ℕ). get_or (set v.keeps d (Kept xs')) z Away) (sym eq) ∙ e))),
      ))
      (λ ne. let was : hand_at v c ≡ Kept ys = sym (hand_else v.keeps d (Kept xs') c ne) ∙ e in (is_kept (hand_at v c) ys was, get_or-set_other lists d c xs' [] ne ∙ all c ys was))

  still_set : (v : View) (d : ℕ) (xs' : List Mark) → d < length v.keeps → (c : ℕ) → IsKept (hand_at v c) → IsKept (get_or (set v.keeps d (Kept xs')) c Away)
  still_set v d xs' room c h = dite (ℕ_discrete c d)
      (λ (eq : c ≡ d). is_kept (get_or (set v.keeps d (Kept xs')) c Away) xs' (ap (λ (z : ℕ). get_or (set v.keeps d (Kept xs')) z Away) eq ∙ hand_here v.keeps d (Kept xs') room))
      (λ ne. subst IsKept (sym (hand_else v.keeps d (Kept xs') c ne)) h)

  -- an entry that makes the kept list d these items, by a number that is added to the event word
  pub event_changes : (slots id : ℕ) (m : Sits) (e : EntryMark) (d add : ℕ) (xs xs' : List Mark) → m.0.joint ≡ None → e.caller ≡ m.0.caller → HasNumber m.0.held m.0.caller → get_or m.0.made m.0.caller 0 < 2 ^ 37
      → hand_at m.0 d ≡ Kept xs → Does m.0 e d xs' → length xs' ≤ 16383 → length xs' + 1048576 ≡ length xs + add
      → Allows (Stands pr n) slots id m 0 (λ x. (x + add) % 2 ^ 64) (changes pr e d xs' (step slots 0 add 0 none) m)
  event_changes slots id m e d add xs xs' idle own active below is does short sum s r _ at _ =
      let v : View = m.0 in
      let k = r.knows id v at in
      let h = k.keeps d xs is in
      let lists' : Lists = set r.lists d xs' in
      let inside : d < length r.lists = let a : d < n = h.0 in let b = r.small in let f : length r.lists ≡ 64 = r.wide.1 in omega arith in
      let room : d < length v.keeps = let a : d < n = h.0 in let b = r.small in let f : length v.keeps ≡ 64 = k.wide in omega arith in
      let more : item_count lists' + length (list_of r.lists d) ≡ item_count r.lists + length xs' = items_set r.lists d xs' inside in
      let was : length (list_of r.lists d) ≡ length xs = ap length h.3 in
      let few = few_events pr n s r in
      let items = few_items pr n s r in
      let g : length (r.log ++ e ∷ []) ≡ length r.log + 1 = length-append r.log (e ∷ []) in
      let sum' : event_word (length r.log) r.lists + add ≡ event_word (length (r.log ++ e ∷ [])) lists' = omega arith in
      let low : event_word (length r.log) r.lists + add < 2 ^ 64 = omega arith in
      let does' = does r.lists (agrees pr n s r id v at) in
      let frame : (c : ℕ) → hand_at v c ≡ Away → list_of lists' c ≡ list_of r.lists c =
      λ c away. get_or-set_other r.lists d c xs' [] (λ (eq : c ≡ d). not_away (hand_at v c) (is_kept (hand_at v c) xs (ap (hand_at v) eq ∙ is)) away) in
      let short' : (c : ℕ) → length (list_of lists' c) ≤ 16383 = λ c. within_set r.lists d xs' inside short r.within c in
      let kept = kept_set v r.lists d xs xs' room inside is (λ c ys z. (k.keeps c ys z).3) in
      let still = still_set v d xs' room in
      let long = length-set r.lists d xs' in
      let wide = length-set v.keeps d (Kept xs') ∙ k.wide in
      let body = event_kept s r id v at e own active below lists' does' long short' (set v.keeps d (Kept xs')) wide frame kept still idle in
      let told = event_enters s r id v at e own active below lists' does' long short' (set v.keeps d (Kept xs')) wide frame kept still in
      subst (λ (z : ℕ). (w : View) × (a : Act (List Mark)) × Valid s.homes m.1 a × Stands pr n (stepped s 0 ((z + add) % 2 ^ 64) id m.1 w a) × changes pr e d xs' (step slots 0 add 0 none) m z (w, carried_after m.1 a)) (sym r.words.0) (
        changed v k.holder.behind.0 e d xs',
        keeps,
        tt,
        subst (λ (z : ℕ). Stands pr n record { words = set s.words 0 z; homes = s.homes; views = set s.views id (changed v k.holder.behind.0 e d xs') }) (sym (mod-eq_of_lt low ∙ sum')) body,
        (k.holder.behind.0, refl, told),
      )
