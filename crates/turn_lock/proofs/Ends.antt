-- The table at the start and at the end.
use Rattle.std.proofs.Common.{◌≡◌, ℕ, suc, zero, ◌^◌, ◌<◌, ◌≤◌, List, [], ◌∷◌, length, replicate, sym, refl, ap, ◌∙◌, subst, inl, ⊎_elim, arith}
use Rattle.std.specs.Prelude.{All}
use Rattle.std.specs.List.{sum}
use Rattle.std.proofs.lemmas.List.Elements.{All-nil, All-weaker}
use mathlib.Core.Option.{some, some-injective, some-ne-none}
use lib.ListN.{get_elem?}
use Rattle.atomic_table.specs.Table.{State, opening}
use Rattle.ho_base.specs.Marks.{Mark}
use Rattle.ho_model.specs.declared.marks.EntryMark.{EntryMark}
use Rattle.ho_model.specs.declared.objects.Object.{Object}
use Rattle.ho_model.specs.Histories.{IsLegal}
use Rattle.passes.proofs.Flags.{sum-le}
use Rattle.passes.proofs.Seen.{whole_sees}
use Rattle.passes.proofs.Starts.{zero_counts, length-replicate, first_holder}
use Rattle.turn_lock.specs.declared.view.View.{View}
use Rattle.turn_lock.specs.declared.view.Obstacle.{Obstacle}
use Rattle.turn_lock.specs.declared.view.Turn.TheVariants.{Idle}
use Rattle.turn_lock.specs.Views.{HasTurn, IsWhole, first_view}
use Rattle.turn_lock.specs.Rule.{WasOut, Knows, Kept, spaced}
use Rattle.turn_lock.specs.Calls.{IsOut}
use Rattle.turn_lock.proofs.TurnFacts.{idle_free, turn_ticket}
use Rattle.turn_lock.proofs.Laws.{whole_finds, ticket_of}

module _ {S : Type 0} (pr : Mark → ℕ) (stands : Object → ℕ → S → List EntryMark → Type 0) (o : Object) (n : ℕ) where
  -- at the start the machine is at home, and one pass holds all numbers
  pub starts : (x : S) → n ≤ 64 → stands o n x [] → IsLegal pr o [] → Kept pr stands o n (opening (spaced 0 0 0) (x ∷ []) (first_view o n))
  starts x small right legal = record {
    ticket = 0;
    serving = 0;
    home = some x;
    log = [];
    made = replicate n 0;
    owner = λ _. 0;
    server = λ _. 0;
    words = refl;
    homes = refl;
    lawful = (legal, tt);
    order = omega arith;
    sized = length-replicate {A = ℕ} n 0;
    small = small;
    few = omega arith;
    each = λ c. subst (λ (z : ℕ). z ≤ 2 ^ 48) (sym (zero_counts n c)) (omega arith);
    place = inl (x, refl, right, omega arith);
    queue = λ t lo hi. absurd (omega arith);
    knows = one;
  }
    where
      one : (j : ℕ) (v : View) → get_elem? (first_view o n ∷ []) j ≡ some v → Knows o n 0 0 [] (replicate n 0) (λ _. 0) (λ _. 0) j v
      one zero v e = subst (Knows o n 0 0 [] (replicate n 0) (λ _. 0) (λ _. 0) 0) (some-injective _ _ e)
          record { of_object = refl; of_callers = refl; holder = first_holder n; obstacles = All-nil (WasOut 0 0); at_turn = omega arith }
      one (suc j) v e = absurd (some-ne-none v (sym e))

  -- with a whole pass the machine is at home, and stands for all that the pass has seen
  pub ends : (s : State S View) (r : Kept pr stands o n s) (id : ℕ) (v : View) → get_elem? s.views id ≡ some v → v.turn ≡ Idle → IsWhole v
      → (x : S) × (get_elem? s.homes 0 ≡ some (some x)) × stands v.object v.callers x v.seen
  ends s r id v at idle whole =
      let k = r.knows id v at in
      let empty = whole_finds pr stands o n s r id v at (idle_free v.turn idle) whole in
      let all : r.log ≡ v.seen = whole_sees n v.held v.seen r.log (λ c h. whole c (subst (λ (z : ℕ). c < z) (sym k.of_callers) h)) r.lawful.1 k.holder.behind in
      let h = at_home (λ h. let t = ticket_of pr stands o n s r (r.server r.serving) r.serving h.0 h.1 (turn_ticket h.0.turn r.serving h.2) in let lt : r.serving < r.ticket = t.1 in omega arith) in
      (h.0, ap (λ hs. get_elem? hs 0) r.homes ∙ ap some h.1, subst (λ (z : Object × (ℕ × List EntryMark)). stands z.0 z.1.0 h.0 z.1.1) (λ i. (sym k.of_object i, (sym k.of_callers i, all i))) h.2)
    where
      at_home : (((u : View) × (get_elem? s.views (r.server r.serving) ≡ some u) × HasTurn u.turn r.serving) → ⊥) → (x : S) × (r.home ≡ some x) × stands o n x r.log × (length r.log ≤ r.serving)
      at_home never = ⊎_elim (λ h. h) (λ h. absurd (never h)) r.place

  -- what a whole pass has met is of no more tickets than it has counted calls
  module _ (s : State S View) (r : Kept pr stands o n s) (id : ℕ) (v : View) (at : get_elem? s.views id ≡ some v) (whole : IsWhole v) where
    counted : r.ticket ≤ sum v.made
    counted =
        let k = r.knows id v at in let sized = r.sized in let small = r.small in let wide = k.holder.wide in let few = r.few in
        let less = sum-le r.made v.made (omega arith) (λ c lt. let same = k.holder.agrees c (whole c (subst (λ (z : ℕ). c < z) (sym k.of_callers) (omega arith))) in omega arith) in
        omega arith

    one_out : (o : Obstacle) → WasOut r.serving r.ticket o → IsOut v.made o
    one_out o w = let a : o.ticket ≤ r.ticket = w.2 in let b = counted in (w.0, omega arith)

    pub met_out : All (IsOut v.made) v.met
    met_out = All-weaker (WasOut r.serving r.ticket) (IsOut v.made) one_out v.met (r.knows id v at).obstacles
