-- A try of an add, from the list that was got.
use Rattle.std.proofs.Common.{◌≡◌, ℕ, inl, inr, List, [], ◌∷◌, set, sym, refl, ap, ◌∙◌, subst}
use Rattle.atomic_table.specs.Table.{rest}
use Rattle.ho_base.specs.Marks.{Mark}
use Rattle.ho_model.specs.declared.marks.EntryMark.{EntryMark}
use Rattle.bag_rule.specs.declared.view.View.{View}
use Rattle.bag_rule.specs.declared.view.Obstacle.{Obstacle}
use Rattle.bag_rule.specs.declared.view.Hand.TheVariants.{Away, Kept}
use Rattle.bag_rule.specs.Views.{none_kept, took_list, left_list, changed, entered, found}
use Rattle.bag_rule.specs.Plays.{Sits, Makes, GotList, MissedList}
use Rattle.bag_rule.proofs.Lists.{no_hand}
use Rattle.bag_tries.specs.declared.adds.AddTry.{AddTry}
use Rattle.bag_tries.specs.declared.adds.AddTry.TheVariants.{Done, Full, Held, NoMemory}
use Rattle.bag_tries.specs.Seats.{IsIdle, MadeEntry, MadeNone}
use Rattle.bag_rule.specs.declared.view.Obstacle.TheVariants as obstacle
use Rattle.bag_tries.specs.Causes.{OwnIsHeld, OwnIsFree}
use Rattle.bag_tries.specs.Adds.{KeptAdds, TryAdds, done_entry, full_entry}
use Rattle.bag_tries.proofs.Hands.{back_once, back_twice}

-- a list that was got was free
free : (c : ℕ) (items : List Mark) → OwnIsFree c (found c items ∷ [])
free c [] = inl refl
free c (item ∷ items) = inr refl

module _ (pr : Mark → ℕ) (m : Sits) (idle : IsIdle m) (c : ℕ) (t : Sits) (got : GotList pr m.0 m.1 c t) where
  abbrev v : View
  v = m.0

  abbrev got_view : View
  got_view = took_list v c got.0

  -- an entry by which the list has other items
  pub changed_ends : (e : EntryMark) (items : List Mark) (place : ℕ) (others : List EntryMark) (w : Sits) → w ≡ (left_list (changed t.0 others e c items) c, rest t.1) → Makes pr t.0 others e place → MadeEntry pr v e place w
  changed_ends e items place others w is makes = subst (λ (z : Sits). MadeEntry pr v e place z) (sym (is ∙ ap (λ (z : Sits). (left_list (changed z.0 others e c items) c, rest z.1)) got.1)) record {
    back = record { idle = (ap (λ hands. set (set (set hands c (Kept got.0)) c (Kept items)) c Away) idle.0 ∙ back_twice none_kept c (Kept got.0) (Kept items) (no_hand 64 c), idle.1, idle.2); callers = refl; caller = refl; held = refl };
    others = others;
    makes = subst (λ (z : Sits). Makes pr z.0 others e place) got.1 makes;
    seen = refl;
    made = refl;
    read = found c got.0 ∷ [];
    met = refl;
  }

  -- an entry that changes no list
  pub entered_ends : (e : EntryMark) (place : ℕ) (others : List EntryMark) (w : Sits) → w ≡ (left_list (entered t.0 others e) c, rest t.1) → Makes pr t.0 others e place → MadeEntry pr v e place w
  entered_ends e place others w is makes = subst (λ (z : Sits). MadeEntry pr v e place z) (sym (is ∙ ap (λ (z : Sits). (left_list (entered z.0 others e) c, rest z.1)) got.1)) record {
    back = record { idle = (ap (λ hands. set (set hands c (Kept got.0)) c Away) idle.0 ∙ back_once none_kept c (Kept got.0) (no_hand 64 c), idle.1, idle.2); callers = refl; caller = refl; held = refl };
    others = others;
    makes = subst (λ (z : Sits). Makes pr z.0 others e place) got.1 makes;
    seen = refl;
    made = refl;
    read = found c got.0 ∷ [];
    met = refl;
  }

  -- no entry
  pub left_ends : (w : Sits) → w ≡ (left_list t.0 c, rest t.1) → MadeNone pr v (found c got.0 ∷ []) w
  left_ends w is = subst (λ (z : Sits). MadeNone pr v (found c got.0 ∷ []) z) (sym (is ∙ ap (λ (z : Sits). (left_list z.0 c, rest z.1)) got.1)) record {
    back = record { idle = (ap (λ hands. set (set hands c (Kept got.0)) c Away) idle.0 ∙ back_once none_kept c (Kept got.0) (no_hand 64 c), idle.1, idle.2); callers = refl; caller = refl; held = refl };
    seen = refl;
    made = refl;
    met = refl;
    lawful = got.3;
  }

  pub adds_end : {T : Type 0} (mark : T → Mark) (item : T) (w : Sits) (r : AddTry T) → KeptAdds pr mark c t item w r → TryAdds pr mark c v item w r
  adds_end mark item w (Done place) k = changed_ends (done_entry pr mark c item) _ place k.0 w k.1 k.2
  adds_end mark item w (Full place back) k = (k.0, entered_ends (full_entry pr mark c item) place k.1 w k.2 k.3)
  adds_end mark item w (Held back) k = absurd k
  adds_end mark item w (NoMemory back) k = (k.0, found c got.0 ∷ [], left_ends w k.1, free c got.0)

-- another held the list
pub held_ends : (pr : Mark → ℕ) (m : Sits) (idle : IsIdle m) (c word : ℕ) (w : Sits) → MissedList pr m.0 m.1 c word w → (read : List Obstacle) × MadeNone pr m.0 read w × OwnIsHeld m.0.callers c m.0.held read
held_ends pr m idle c word w missed = (
  obstacle.Held c missed.0 ∷ [],
  subst (λ (z : Sits). MadeNone pr m.0 (obstacle.Held c missed.0 ∷ []) z) (sym missed.1) record {
    back = record { idle = idle; callers = refl; caller = refl; held = refl };
    seen = refl;
    made = refl;
    met = refl;
    lawful = missed.3;
  },
  (missed.0, (missed.2.2, missed.2.1), refl),
)
