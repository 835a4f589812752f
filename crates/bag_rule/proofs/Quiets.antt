-- Entries that change no list.
use Rattle.std.proofs.Common.{◌≡◌, ◌≢◌, ℕ, ◌+◌, ◌%◌, ◌^◌, ◌*◌, ◌<◌, eqb, List, [], ◌∷◌, ◌++◌, length, get_or, set, sym, refl, ap, ◌∙◌, subst, arith, length-append, Some}
use Rattle.std.specs.Prelude.{None}
use Rattle.std.proofs.Math.Nat.{mod-eq_of_lt}
use mathlib.Core.Option.{some, none}
use lib.ListN.{get_elem?}
use lib.Seq.{set-get_or}
use prog.Atomic.{either}
use Rattle.atomic_table.specs.Table.{Act, step, keeps, stepped, Valid, carried_after, Allows}
use Rattle.atomic_table.proofs.Lists.{exchanged}
use Rattle.ho_base.specs.Marks.{Mark}
use Rattle.ho_model.specs.declared.marks.EntryMark.{EntryMark}
use Rattle.ho_model.specs.Bag.{item_count, bag_step}
use Rattle.passes.specs.Numbers.{HasNumber}
use Rattle.bag_rule.specs.declared.view.View.{View}
use Rattle.bag_rule.specs.Words.{event_word}
use Rattle.bag_rule.specs.Views.{hand_at, missed, entered, Leaves, count_entry, empty_entry}
use Rattle.bag_rule.specs.Rule.{Lain, Knows, Stands}
use Rattle.bag_rule.specs.Plays.{Sits, Shows, Enters, enters, counts, empties}
use Rattle.bag_rule.proofs.Lists.{is_kept}
use Rattle.bag_rule.proofs.Object.{count_does, empty_does}
use Rattle.bag_rule.proofs.Laws.{word, few_events, few_items, shows, agrees, sees_all, quiet}
use Rattle.bag_rule.proofs.Events.{event_kept, event_enters}

module _ (pr : Mark → ℕ) (n : ℕ) where
  module _ (s : Lain) (r : Stands pr n s) (id : ℕ) (m : Sits) (at : get_elem? s.views id ≡ some m.0) (idle : m.0.joint ≡ None) (active : HasNumber m.0.held m.0.caller) (below : get_or m.0.made m.0.caller 0 < 2 ^ 37)
      (e : EntryMark) (own : e.caller ≡ m.0.caller) (does : bag_step r.lists e.caller e.call e.reply ≡ Some r.lists) where
    abbrev k : Knows n r.log r.lists r.locks r.made r.owner r.keeper id m.0
    k = r.knows id m.0 at

    quiet_kept : Stands pr n record { words = set s.words 0 (event_word (length (r.log ++ e ∷ [])) r.lists); homes = s.homes; views = set s.views id (entered m.0 k.holder.behind.0 e) }
    quiet_kept = event_kept pr n s r id m.0 at e own active below r.lists does refl r.within m.0.keeps k.wide (λ c a. refl) (λ c items h. (is_kept (hand_at m.0 c) items h, (k.keeps c items h).3)) (λ c h. h) idle

    pub quiet_enters : Enters pr m.0 k.holder.behind.0 e (word pr n s r)
    quiet_enters = event_enters pr n s r id m.0 at e own active below r.lists does refl r.within m.0.keeps k.wide (λ c a. refl) (λ c items h. (is_kept (hand_at m.0 c) items h, (k.keeps c items h).3)) (λ c h. h)

    sum : event_word (length r.log) r.lists + 1048576 ≡ event_word (length (r.log ++ e ∷ [])) r.lists
    sum = let g : length (r.log ++ e ∷ []) ≡ length r.log + 1 = length-append r.log (e ∷ []) in omega arith

    low : event_word (length r.log) r.lists + 1048576 < 2 ^ 64
    low = let few = few_events pr n s r in let items = few_items pr n s r in omega arith

    -- by a number that is added
    quiet_added : (then : ℕ → Sits → Type 0) → then (word pr n s r) (entered m.0 k.holder.behind.0 e, m.1)
        → (w : View) × (a : Act (List Mark)) × Valid s.homes m.1 a × Stands pr n (stepped s 0 ((get_or s.words 0 0 + 1048576) % 2 ^ 64) id m.1 w a) × then (get_or s.words 0 0) (w, carried_after m.1 a)
    quiet_added then told =
        subst (λ (z : ℕ). (w : View) × (a : Act (List Mark)) × Valid s.homes m.1 a × Stands pr n (stepped s 0 ((z + 1048576) % 2 ^ 64) id m.1 w a) × then z (w, carried_after m.1 a)) (sym r.words.0) (
          entered m.0 k.holder.behind.0 e,
          keeps,
          tt,
          subst (λ (z : ℕ). Stands pr n record { words = set s.words 0 z; homes = s.homes; views = set s.views id (entered m.0 k.holder.behind.0 e) }) (sym (mod-eq_of_lt low ∙ sum)) quiet_kept,
          told,
        )

    -- by an exchange
    quiet_exchanged : Stands pr n record { words = set s.words 0 (event_word (length r.log) r.lists + 1048576); homes = s.homes; views = set s.views id (entered m.0 k.holder.behind.0 e) }
    quiet_exchanged = subst (λ (z : ℕ). Stands pr n record { words = set s.words 0 z; homes = s.homes; views = set s.views id (entered m.0 k.holder.behind.0 e) }) (sym sum) quiet_kept

  pub event_quiet : (slots id : ℕ) (m : Sits) (e : EntryMark) → m.0.joint ≡ None → e.caller ≡ m.0.caller → HasNumber m.0.held m.0.caller → get_or m.0.made m.0.caller 0 < 2 ^ 37 → Leaves m.0 e
      → Allows (Stands pr n) slots id m 0 (λ x. (x + 1048576) % 2 ^ 64) (enters pr e (step slots 0 1048576 0 none) m)
  event_quiet slots id m e idle own active below does s r _ at _ =
      let d = does r.lists (agrees pr n s r id m.0 at) in
      quiet_added s r id m at idle active below e own d (enters pr e (step slots 0 1048576 0 none) m) ((r.knows id m.0 at).holder.behind.0, refl, quiet_enters s r id m at idle active below e own d)

  pub event_counts : (slots id : ℕ) (m : Sits) → m.0.joint ≡ None → HasNumber m.0.held m.0.caller → get_or m.0.made m.0.caller 0 < 2 ^ 37
      → Allows (Stands pr n) slots id m 0 (λ x. (x + 1048576) % 2 ^ 64) (counts pr (step slots 0 1048576 0 none) m)
  event_counts slots id m idle active below s r _ at _ =
      let e : EntryMark = count_entry m.0 (item_count r.lists) in
      let d = count_does r.lists m.0.caller in
      let k = r.knows id m.0 at in
      quiet_added s r id m at idle active below e refl d (counts pr (step slots 0 1048576 0 none) m) (
        k.holder.behind.0,
        item_count r.lists,
        refl,
        quiet_enters s r id m at idle active below e refl d,
        subst (λ (z : ℕ). Shows (word pr n s r) z (item_count r.lists)) (ap length k.holder.behind.1) (shows pr n s r),
      )

  -- an exchange from a word that showed no items
  module _ (s : Lain) (r : Stands pr n s) (id old : ℕ) (m : Sits) (at : get_elem? s.views id ≡ some m.0) (idle : m.0.joint ≡ None) (active : HasNumber m.0.held m.0.caller) (below : get_or m.0.made m.0.caller 0 < 2 ^ 37)
      (was : old ≡ 1048576 * m.0.events + m.0.items) (none_there : m.0.items ≡ 0) where
    abbrev now : ℕ
    now = word pr n s r

    Emptied : ℕ → ℕ → ℕ → Type 0
    Emptied slots x y = (w : View) × (a : Act (List Mark)) × Valid s.homes m.1 a × Stands pr n (stepped s 0 y id m.1 w a) × empties pr (step slots 0 old (old + 1048576) none) m x (w, carried_after m.1 a)

    hit : (slots : ℕ) → now ≡ old → Emptied slots now (old + 1048576)
    unfolding Emptied
    hit slots is =
        let few = few_items pr n s r in
        let bare : item_count r.lists ≡ 0 = omega arith in
        let d = empty_does r.lists m.0.caller bare in
        let e : EntryMark = empty_entry m.0 in
        let o = (r.knows id m.0 at).holder.behind.0 in (
          entered m.0 o e,
          keeps,
          tt,
          subst (λ (z : ℕ). Stands pr n record { words = set s.words 0 (z + 1048576); homes = s.homes; views = set s.views id (entered m.0 o e) }) is (quiet_exchanged s r id m at idle active below e refl d),
          ((λ _. (o, refl, quiet_enters s r id m at idle active below e refl d)), (λ ne. absurd (ne is))),
        )

    miss : (slots : ℕ) → now ≢ old → Emptied slots now now
    unfolding Emptied
    miss slots ne =
        let k = r.knows id m.0 at in let w : View = missed m.0 (length r.log) (item_count r.lists) in
        let le = k.late in
        let apart : m.0.events ≢ length r.log = λ (same : m.0.events ≡ length r.log). let i = k.last same in ne (omega arith) in (
          w,
          keeps,
          tt,
          subst (λ (ws : List ℕ). Stands pr n record { words = ws; homes = s.homes; views = set s.views id w }) (sym (set-get_or s.words 0 0) ∙ ap (set s.words 0) r.words.0)
              (quiet pr n s r id m.0 at w
              record {
                of_callers = k.of_callers;
                wide = k.wide;
                holder = k.holder;
                keeps = k.keeps;
                begun = k.begun;
                bare = k.bare;
                late = k.late;
                last = k.last;
                joint = k.joint;
              }
              (λ d x. x)),
          ((λ is. absurd (ne is)), (λ _. (length r.log, item_count r.lists, shows pr n s r, omega arith, refl, sees_all pr n s r id m.0 at))),
        )

    emptied_at : (slots : ℕ) → Emptied slots (get_or s.words 0 0) (either (eqb (get_or s.words 0 0) old) (old + 1048576) (get_or s.words 0 0))
    emptied_at slots = subst (λ (z : ℕ). Emptied slots z (either (eqb z old) (old + 1048576) z)) (sym r.words.0) (exchanged now old (old + 1048576) (Emptied slots now) (hit slots) (miss slots))

  pub event_empties : (slots id old : ℕ) (m : Sits) → m.0.joint ≡ None → HasNumber m.0.held m.0.caller → get_or m.0.made m.0.caller 0 < 2 ^ 37 → old ≡ 1048576 * m.0.events + m.0.items → m.0.items ≡ 0
      → Allows (Stands pr n) slots id m 0 (λ x. either (eqb x old) (old + 1048576) x) (empties pr (step slots 0 old (old + 1048576) none) m)
  unfolding Emptied
  event_empties slots id old m idle active below was none_there s r _ at _ = emptied_at s r id old m at idle active below was none_there slots
