-- What the rule says, put to use.
use Rattle.std.proofs.Common.{◌≡◌, ℕ, ◌%◌, ◌^◌, ◌*◌, ◌<◌, ◌≤◌, List, length, get_or, set, sym, ap, subst, inl, inr, ⊎_elim, arith, le_refl}
use Rattle.std.proofs.Math.Nat.{mod-eq_of_lt}
use mathlib.Core.Logic.{dite}
use mathlib.Core.Option.{some}
use native.Mathlib.Decide.{ℕ_discrete}
use lib.ListN.{get_elem?}
use Rattle.atomic_table.specs.Table.{State}
use Rattle.ho_base.specs.Marks.{Mark}
use Rattle.ho_model.specs.declared.marks.EntryMark.{EntryMark}
use Rattle.ho_model.specs.declared.objects.Object.{Object}
use Rattle.passes.specs.Numbers.{HasNumber, HasAll}
use Rattle.passes.specs.Seen.{IsLawful}
use Rattle.passes.proofs.Flags.{sum-bound}
use Rattle.passes.proofs.Holders.{whole_alone}
use Rattle.passes.proofs.Seen.{lawful_seen}
use Rattle.passes.proofs.Seats.{seats_stay, some_seat, one_view}
use Rattle.turn_lock.specs.declared.view.View.{View}
use Rattle.turn_lock.specs.Views.{HasTicket, HasTurn, IsWhole}
use Rattle.turn_lock.specs.Rule.{Knows, Kept, spaced}
use Rattle.turn_lock.proofs.TurnFacts.{has_ticket, turn_short, turn_ticket}

pub mod-lt-is : (a b : ℕ) → a < b → a % b ≡ a
mod-lt-is a b h = mod-eq_of_lt h

module _ {S : Type 0} (pr : Mark → ℕ) (stands : Object → ℕ → S → List EntryMark → Type 0) (o : Object) (n : ℕ) where
  abbrev pub St : Type 0
  St = State S View

  abbrev pub Rule : St → Type 0
  Rule = Kept pr stands o n

  abbrev pub mine : (s : St) → Rule s → ℕ → View → Type 0
  mine s r j v = Knows o n r.serving r.ticket r.log r.made r.owner r.server j v

  pub word_at : (s : St) (r : Rule s) (i : ℕ) → get_or s.words i 0 ≡ get_or (spaced r.ticket r.serving (length r.log)) i 0
  word_at s r i = ap (λ (ws : List ℕ). get_or ws i 0) r.words

  -- no word comes near its last value
  pub few_tickets : (s : St) (r : Rule s) → r.ticket ≤ 64 * 2 ^ 48
  few_tickets s r = let a = sum-bound r.made r.each in let b = r.sized in let d = r.small in let e = r.few in omega arith

  -- what a seat has seen is legal
  pub lawful_of : (s : St) (r : Rule s) (j : ℕ) (v : View) → get_elem? s.views j ≡ some v → IsLawful pr v.object v.callers v.seen
  lawful_of s r j v at = let k = r.knows j v at in
      subst (λ (x : Object × ℕ). IsLawful pr x.0 x.1 v.seen) (λ i. (sym k.of_object i, sym k.of_callers i)) (lawful_seen pr o n v.held v.seen r.log r.lawful k.holder.behind)

  -- what a seat with a ticket knows
  pub ticket_of : (s : St) (r : Rule s) (j t : ℕ) (v : View) → get_elem? s.views j ≡ some v → HasTicket v.turn t → (r.serving ≤ t) × (t < r.ticket) × (r.server t ≡ j) × HasNumber v.held v.caller
  ticket_of s r j t v at h = has_ticket r.serving r.ticket r.log r.server j v.seen (HasNumber v.held v.caller) (IsWhole v) v.turn t h (r.knows j v at).at_turn

  -- a seat without a ticket has seen no more entries than turns are over
  pub short_of : (s : St) (r : Rule s) (j : ℕ) (v : View) → get_elem? s.views j ≡ some v → ((t : ℕ) → HasTicket v.turn t → ⊥) → length v.seen ≤ r.serving
  short_of s r j v at free = turn_short r.serving r.ticket r.log r.server j v.seen (HasNumber v.held v.caller) (IsWhole v) v.turn free (r.knows j v at).at_turn

  -- a seat that holds all numbers and has no ticket finds nobody before it
  pub whole_finds : (s : St) (r : Rule s) (me : ℕ) (v : View) → get_elem? s.views me ≡ some v → ((t : ℕ) → HasTicket v.turn t → ⊥) → IsWhole v → r.serving ≡ r.ticket
  whole_finds s r me v at free whole = dite (ℕ_discrete r.serving r.ticket) (λ e. e) (λ ne.
      let ord = r.order in let lt : r.serving < r.ticket = omega arith in
      let q = r.queue r.serving (le_refl r.serving) lt in
      let t = ticket_of s r (r.server r.serving) r.serving q.0 q.1 q.2 in
      let k = r.knows me v at in let u = r.knows (r.server r.serving) q.0 q.1 in
      let alone : r.server r.serving ≡ me = whole_alone k.holder u.holder (subst (λ (z : ℕ). HasAll z v.held) k.of_callers whole) q.0.caller t.3 in
      let same : q.0 ≡ v = one_view s.views (r.server r.serving) me q.0 v q.1 at alone in
      absurd (free r.serving (subst (λ (x : View). HasTicket x.turn r.serving) same q.2)))

  -- a step that changes no word, of a seat that has no ticket before and none after
  pub quiet : (s : St) (r : Rule s) (me : ℕ) (v w : View) → get_elem? s.views me ≡ some v → ((t : ℕ) → HasTicket v.turn t → ⊥) → mine s r me w → Rule record { words = s.words; homes = s.homes; views = set s.views me w }
  quiet s r me v w at free known = record {
    ticket = r.ticket;
    serving = r.serving;
    home = r.home;
    log = r.log;
    made = r.made;
    owner = r.owner;
    server = r.server;
    words = r.words;
    homes = r.homes;
    lawful = r.lawful;
    order = r.order;
    sized = r.sized;
    small = r.small;
    few = r.few;
    each = r.each;
    place = ⊎_elim inl (λ (h : (x : View) × (get_elem? s.views (r.server r.serving) ≡ some x) × HasTurn x.turn r.serving).
        inr (some_seat (λ (x : View). HasTurn x.turn r.serving) s.views me (r.server r.serving) v w at (λ t. absurd (free r.serving (turn_ticket v.turn r.serving t))) h)) r.place;
    queue = λ t lo hi. some_seat (λ (x : View). HasTicket x.turn t) s.views me (r.server t) v w at (λ h. absurd (free t h)) (r.queue t lo hi);
    knows = seats_stay (mine s r) s.views me w known (λ j u _ e. r.knows j u e);
  }
