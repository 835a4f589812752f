-- What the rule says at any time, and steps that change no word.
use Rattle.std.proofs.Common.{◌≡◌, ℕ, ◌^◌, ◌<◌, ◌≤◌, inl, inr, ⊎_elim, List, length, get_or, set, sym, refl, ap, subst, arith}
use mathlib.Core.Option.{some}
use lib.ListN.{get_elem?}
use lib.Seq.{set-get_or}
use Rattle.atomic_table.specs.Table.{Act, keeps, stepped, Valid, carried_after}
use Rattle.ho_base.specs.Marks.{Mark}
use Rattle.ho_model.specs.declared.objects.Object.TheVariants.{Bag}
use Rattle.ho_model.specs.Bag.{item_count}
use Rattle.ho_model.specs.Objects.{BagState}
use Rattle.passes.specs.Seen.{IsLawful}
use Rattle.passes.proofs.Flags.{sum-bound_37}
use Rattle.passes.proofs.Seats.{seats_stay, some_seat}
use Rattle.passes.proofs.Seen.{whole_sees, lawful_seen}
use Rattle.bag_rule.specs.declared.view.View.{View}
use Rattle.bag_rule.specs.Words.{event_word}
use Rattle.bag_rule.specs.Views.{Agrees}
use Rattle.bag_rule.specs.Rule.{Lain, Knows, Names, IsOut, Stands}
use Rattle.bag_rule.specs.Plays.{Sits, Shows, SeesAll, SeesLaw}
use Rattle.bag_rule.proofs.Lists.{items_bound}

module _ (pr : Mark → ℕ) (n : ℕ) (s : Lain) (r : Stands pr n s) where
  abbrev pub word : ℕ
  word = event_word (length r.log) r.lists

  pub few_events : length r.log ≤ 2 ^ 43
  few_events = let a = sum-bound_37 r.made r.each in let b = r.sized in let d = r.small in let e = r.few in omega arith

  pub few_items : item_count r.lists < 1048576
  few_items = let a = items_bound r.lists r.within in let b : length r.lists ≡ 64 = r.wide.1 in omega arith

  pub shows : Shows word (length r.log) (item_count r.lists)
  shows = (refl, few_items, few_events)

  pub lawful : IsLawful pr Bag n r.log
  lawful = ((BagState r.lists, r.state), r.below)

  module _ (id : ℕ) (v : View) (at : get_elem? s.views id ≡ some v) where
    abbrev pub known : Knows n r.log r.lists r.locks r.made r.owner r.keeper id v
    known = r.knows id v at

    pub sees_all : SeesAll v (length r.log)
    sees_all all = ap length (whole_sees n v.held v.seen r.log (λ c lt. all c (subst (λ (z : ℕ). c < z) (sym known.of_callers) lt)) r.below known.holder.behind)

    pub sees_law : SeesLaw pr v
    sees_law = subst (λ (z : ℕ). IsLawful pr Bag z v.seen) (sym known.of_callers) (lawful_seen pr Bag n v.held v.seen r.log lawful known.holder.behind)

    pub agrees : Agrees v r.lists
    agrees = (r.wide.1, (λ c items h. (known.keeps c items h).3), λ c high. let e = known.of_callers in r.beyond c (omega arith))

    -- a step that changes no word, and after which the seat keeps what it kept
    pub quiet : (w : View) → Knows n r.log r.lists r.locks r.made r.owner r.keeper id w → ((c : ℕ) → Names r.locks c v → Names r.locks c w)
        → Stands pr n record { words = s.words; homes = s.homes; views = set s.views id w }
    quiet w knows same = record {
      log = r.log;
      lists = r.lists;
      locks = r.locks;
      made = r.made;
      owner = r.owner;
      keeper = r.keeper;
      words = r.words;
      wide = r.wide;
      small = r.small;
      state = r.state;
      below = r.below;
      sized = r.sized;
      few = r.few;
      each = r.each;
      within = r.within;
      beyond = r.beyond;
      place = λ c lt. ⊎_elim inl (λ (h : IsOut s r.locks r.keeper c). inr (some_seat (Names r.locks c) s.views id (r.keeper c) v w at (same c) h)) (r.place c lt);
      knows = seats_stay (Knows n r.log r.lists r.locks r.made r.owner r.keeper) s.views id w knows (λ j u _ e. r.knows j u e);
    }

    -- the same, as a load of the event word
    pub load_at : (carried : List (ℕ × List Mark)) (then : ℕ → Sits → Type 0) (w : View) → Stands pr n record { words = s.words; homes = s.homes; views = set s.views id w } → then word (w, carried)
        → (w : View) × (a : Act (List Mark)) × Valid s.homes carried a × Stands pr n (stepped s 0 (get_or s.words 0 0) id carried w a) × then (get_or s.words 0 0) (w, carried_after carried a)
    load_at carried then w kept told = (
      w,
      keeps,
      tt,
      subst (λ (ws : List ℕ). Stands pr n record { words = ws; homes = s.homes; views = set s.views id w }) (sym (set-get_or s.words 0 0)) kept,
      subst (λ (z : ℕ). then z (w, carried)) (sym r.words.0) told,
    )
