-- A look, a ticket try and a ticket draw keep the rule.
use Rattle.std.proofs.Common.{◌≡◌, ◌≢◌, ℕ, ◌+◌, ◌%◌, ◌^◌, ◌<◌, ◌≤◌, eqb, cond, List, ◌∷◌, length, get_or, set, Bool, sym, refl, ap, ◌∙◌, subst, inl, inr, ⊎_elim, arith, eq-eqb, ne_eqb, le_refl, length-set}
use Rattle.std.specs.Prelude.{All}
use Rattle.std.proofs.lemmas.List.Elements.{All-push}
use mathlib.Core.Logic.{dite}
use mathlib.Core.Option.{some, none}
use native.Mathlib.Decide.{ℕ_discrete}
use lib.ListN.{get_elem?}
use lib.Seq.{set-get_or}
use prog.Atomic.{either}
use Rattle.atomic_table.specs.Table.{State, Me, Act, step, keeps, takes, stepped, Valid, carried_after, Allows}
use Rattle.atomic_table.proofs.Lists.{set_here, exchanged}
use Rattle.ho_base.specs.Marks.{Mark}
use Rattle.ho_model.specs.declared.marks.EntryMark.{EntryMark}
use Rattle.ho_model.specs.declared.objects.Object.{Object}
use Rattle.passes.specs.Numbers.{HasNumber, raised}
use Rattle.passes.specs.Seen.{IsLawful}
use Rattle.passes.proofs.Flags.{raised_each, sum-raised}
use Rattle.passes.proofs.Holders.{holder_sees, holder_counts, others_count}
use Rattle.passes.proofs.Seats.{at_inside, seats_stay, some_seat}
use Rattle.turn_lock.specs.declared.view.View.{View}
use Rattle.turn_lock.specs.declared.view.Turn.{Turn}
use Rattle.turn_lock.specs.declared.view.Turn.TheVariants.{Idle, Looked}
use Rattle.turn_lock.specs.Views.{HasTicket, HasTurn, IsWhole, in_turn, counted, drawn, holding, met}
use Rattle.turn_lock.specs.Rule.{TurnFact, WasOut, Knows, Kept}
use Rattle.std.specs.List.{sum}
use Rattle.turn_lock.specs.Plays.{Got, looked, tried, grabbed, drew}
use Rattle.turn_lock.proofs.TurnFacts.{idle_free, looked_free, turn_ticket, turn_stays, read_later}
use Rattle.turn_lock.proofs.Laws.{mod-lt-is, word_at, few_tickets, lawful_of, short_of, ticket_of, whole_finds, quiet}

module _ {S : Type 0} (pr : Mark → ℕ) (stands : Object → ℕ → S → List EntryMark → Type 0) (o : Object) (n : ℕ) where
  abbrev Rule : State S View → Type 0
  Rule = Kept pr stands o n

  looks_at : (s : State S View) (r : Rule s) (id : ℕ) (m : Me S View) → m.0.turn ≡ Idle → get_elem? s.views id ≡ some m.0 → Rule record { words = s.words; homes = s.homes; views = set s.views id (in_turn m.0 (Looked r.serving)) }
  looks_at s r id m idle at =
      let k = r.knows id m.0 at in
      quiet pr stands o n s r id m.0 (in_turn m.0 (Looked r.serving)) at (idle_free m.0.turn idle)
      record { of_object = k.of_object; of_callers = k.of_callers; holder = k.holder; obstacles = k.obstacles; at_turn = (le_refl r.serving, (λ whole. refl), short_of pr stands o n s r id m.0 at (idle_free m.0.turn idle)) }

  pub looks : (slots id : ℕ) (m : Me S View) → m.0.turn ≡ Idle → Allows Rule slots id m 16 (λ x. x) (looked (step slots 16 0 0 none) m)
  looks slots id m idle s r _ at _ =
      let w : View = in_turn m.0 (Looked r.serving) in
      let bound = few_tickets pr stands o n s r in let ord = r.order in
      subst (λ (z : ℕ). (w' : View) × (a : Act S) × Valid s.homes m.1 a × Rule (stepped s 16 (get_or s.words 16 0) id m.1 w' a) × looked (step slots 16 0 0 none) m z (w', carried_after m.1 a)) (sym (word_at pr stands o n s r 16))
      (w, keeps, tt, subst (λ (ws : List ℕ). Rule record { words = ws; homes = s.homes; views = set s.views id w }) (sym (set-get_or s.words 16 0)) (looks_at s r id m idle at), (refl, omega arith))

  -- a seat takes the ticket k
  module _ (s : State S View) (r : Rule s) (id k : ℕ) (m : Me S View) (at : get_elem? s.views id ≡ some m.0) (active : HasNumber m.0.held m.0.caller) (below : get_or m.0.made m.0.caller 0 < 2 ^ 48) where
    abbrev v : View
    v = m.0

    known_at : Knows o n r.serving r.ticket r.log r.made r.owner r.server id v
    known_at = r.knows id v at

    abbrev server' : ℕ → ℕ
    server' t = cond (eqb t k) id (r.server t)

    server_here : (t : ℕ) → t ≡ k → server' t ≡ id
    server_here t e = ap (λ (b : Bool). cond b id (r.server t)) (eq-eqb t k e)

    server_else : (t : ℕ) → t ≢ k → server' t ≡ r.server t
    server_else t ne = ap (λ (b : Bool). cond b id (r.server t)) (ne_eqb t k ne)

    abbrev made' : List ℕ
    made' = raised r.made v.caller

    inside : v.caller < n
    inside = (known_at.holder.owns v.caller active).1

    inside_made : v.caller < length r.made
    inside_made = let a = r.sized in let b = inside in omega arith

    each' : (c : ℕ) → get_or made' c 0 ≤ 2 ^ 48
    each' = raised_each r.made v.caller inside_made (2 ^ 48) r.each (let b = known_at.holder.agrees v.caller active in omega arith)

    -- what the others know stays
    other_knows : (j : ℕ) (u : View) → j ≢ id → r.ticket ≡ k → Knows o n r.serving r.ticket r.log r.made r.owner r.server j u → Knows o n r.serving (k + 1) r.log made' r.owner server' j u
    other_knows j u not is x = record {
      of_object = x.of_object;
      of_callers = x.of_callers;
      holder = others_count n r.log r.made r.owner j u.held u.made u.seen x.holder id v.caller inside_made not (known_at.holder.owns v.caller active).0;
      obstacles = read_later r.serving r.ticket r.serving (k + 1) u.met (le_refl r.serving) (omega arith) x.obstacles;
      at_turn = turn_stays r.serving r.ticket r.log r.server j u.seen (HasNumber u.held u.caller) (IsWhole u) (k + 1) server' (omega arith)
          (λ t lt e. server_else t (λ (same : t ≡ k). omega arith) ∙ e) u.turn x.at_turn;
    }

    obstacles' : r.ticket ≡ k → All (WasOut r.serving (k + 1)) v.met
    obstacles' is = read_later r.serving r.ticket r.serving (k + 1) v.met (le_refl r.serving) (omega arith) known_at.obstacles

    few' : r.ticket ≡ k → k + 1 ≤ sum made'
    few' is = let a = sum-raised r.made v.caller inside_made in let few = r.few in omega arith

    sized' : length made' ≡ n
    sized' = length-set r.made v.caller (get_or r.made v.caller 0 + 1) ∙ r.sized

    low_caller : v.caller < 64
    low_caller = let a = inside in let b = r.small in omega arith

    -- ticket draw: the next ticket, to wait for its turn
    module _ (is : r.ticket ≡ k) (idle : m.0.turn ≡ Idle) where
      abbrev waits : View
      waits = drawn v k

      drawn_at : Rule record { words = set s.words 0 (k + 1); homes = s.homes; views = set s.views id waits }
      drawn_at = let ord = r.order in let free = idle_free v.turn idle in record {
        ticket = k + 1;
        serving = r.serving;
        home = r.home;
        log = r.log;
        made = made';
        owner = r.owner;
        server = server';
        words = ap (λ (ws : List ℕ). set ws 0 (k + 1)) r.words;
        homes = r.homes;
        lawful = r.lawful;
        order = omega arith;
        sized = sized';
        small = r.small;
        few = few' is;
        each = each';
        place = ⊎_elim inl (λ (h : (x : View) × (get_elem? s.views (r.server r.serving) ≡ some x) × HasTurn x.turn r.serving).
            let t = ticket_of pr stands o n s r (r.server r.serving) r.serving h.0 h.1 (turn_ticket h.0.turn r.serving h.2) in
            let lt : r.serving < r.ticket = t.1 in
            let x = some_seat (λ (x : View). HasTurn x.turn r.serving) s.views id (r.server r.serving) v waits at (λ t. absurd (free r.serving (turn_ticket v.turn r.serving t))) h in
            inr (x.0, ap (get_elem? (set s.views id waits)) (server_else r.serving (λ (e : r.serving ≡ k). omega arith)) ∙ x.1, x.2)) r.place;
        queue = λ t lo hi. dite (ℕ_discrete t k)
            (λ (e : t ≡ k). (waits, ap (get_elem? (set s.views id waits)) (server_here t e) ∙ set_here s.views id waits (at_inside s.views id v at), sym e))
            (λ (ne : t ≢ k). let x = some_seat (λ (x : View). HasTicket x.turn t) s.views id (r.server t) v waits at (λ h. absurd (free t h)) (r.queue t lo (omega arith)) in
            (x.0, ap (get_elem? (set s.views id waits)) (server_else t ne) ∙ x.1, x.2));
        knows = seats_stay (Knows o n r.serving (k + 1) r.log made' r.owner server') s.views id waits
            record {
              of_object = known_at.of_object;
              of_callers = known_at.of_callers;
              holder = holder_counts n r.log r.made r.owner id v.held v.made v.seen known_at.holder v.caller inside_made low_caller active;
              obstacles = obstacles' is;
              at_turn = (omega arith, omega arith, server_here k refl, active, short_of pr stands o n s r id v at free);
            }
            (λ j u not e. other_knows j u not is (r.knows j u e));
      }

    -- ticket try: it is the ticket that is served, and with it comes the turn
    module _ (turn : m.0.turn ≡ Looked k) where
      look_fact : (k ≤ r.serving) × (IsWhole v → k ≡ r.serving) × (length v.seen ≤ k)
      look_fact = subst (λ (x : Turn). TurnFact r.serving r.ticket r.log r.server id v.seen (HasNumber v.held v.caller) (IsWhole v) x) turn known_at.at_turn

      home_is : r.ticket ≡ k → (x : S) × (r.home ≡ some x) × stands o n x r.log × (length r.log ≤ r.serving)
      home_is is = ⊎_elim (λ h. h) (λ (h : (x : View) × (get_elem? s.views (r.server r.serving) ≡ some x) × HasTurn x.turn r.serving).
          let t = ticket_of pr stands o n s r (r.server r.serving) r.serving h.0 h.1 (turn_ticket h.0.turn r.serving h.2) in
          let lt : r.serving < r.ticket = t.1 in let lo : k ≤ r.serving = look_fact.0 in absurd (omega arith)) r.place

      abbrev next : View
      next = counted (holding v k r.log)

      next_known : r.ticket ≡ k → Knows o n r.serving (k + 1) r.log made' r.owner server' id next
      next_known is = let lo : k ≤ r.serving = look_fact.0 in let ord = r.order in let h = home_is is in let short : length r.log ≤ r.serving = h.3 in record {
        of_object = known_at.of_object;
        of_callers = known_at.of_callers;
        holder = holder_counts n r.log r.made r.owner id v.held v.made r.log (holder_sees n r.log r.made r.owner id v.held v.made v.seen known_at.holder) v.caller inside_made low_caller active;
        obstacles = obstacles' is;
        at_turn = (omega arith, omega arith, server_here k refl, active, refl, omega arith);
      }

      won_kept : (is : r.ticket ≡ k) → Rule record { words = set s.words 0 (k + 1); homes = set s.homes 0 none; views = set s.views id next }
      won_kept is = let lo : k ≤ r.serving = look_fact.0 in let ord = r.order in let now : r.serving ≡ k = omega arith in record {
        ticket = k + 1;
        serving = r.serving;
        home = none;
        log = r.log;
        made = made';
        owner = r.owner;
        server = server';
        words = ap (λ (ws : List ℕ). set ws 0 (k + 1)) r.words;
        homes = ap (λ hs. set hs 0 none) r.homes;
        lawful = r.lawful;
        order = omega arith;
        sized = sized';
        small = r.small;
        few = few' is;
        each = each';
        place = inr (next, ap (get_elem? (set s.views id next)) (server_here r.serving now) ∙ set_here s.views id next (at_inside s.views id v at), sym now);
        queue = λ t lo' hi. (next, ap (get_elem? (set s.views id next)) (server_here t (omega arith)) ∙ set_here s.views id next (at_inside s.views id v at), omega arith);
        knows = seats_stay (Knows o n r.serving (k + 1) r.log made' r.owner server') s.views id next (next_known is) (λ j u not e. other_knows j u not is (r.knows j u e));
      }

      Tries : ℕ → ℕ → ℕ → Type 0
      Tries slots x after = (w : View) × (a : Act S) × Valid s.homes m.1 a × Rule (stepped s 0 after id m.1 w a) × tried pr stands (step slots 0 k (k + 1) none) m x (w, carried_after m.1 a)

      Grabs : ℕ → ℕ → ℕ → Type 0
      Grabs slots x after = (w : View) × (a : Act S) × Valid s.homes m.1 a × Rule (stepped s 0 after id m.1 w a) × grabbed pr stands (step slots 0 k (k + 1) none) m x (w, carried_after m.1 a)

      got : r.ticket ≡ k → (h : (x : S) × (r.home ≡ some x) × stands o n x r.log × (length r.log ≤ r.serving)) → Got pr stands (counted v) m.1 r.ticket (next, (0, h.0) ∷ m.1)
      got is h = let few = few_tickets pr stands o n s r in let ord = r.order in let a : length r.log ≤ r.serving = h.3 in (
        h.0,
        r.log,
        (λ i. (counted (holding v (sym is i) r.log), (0, h.0) ∷ m.1)),
        known_at.holder.behind,
        subst (λ (z : Object × ℕ). stands z.0 z.1 h.0 r.log) (λ i. (sym known_at.of_object i, sym known_at.of_callers i)) h.2,
        subst (λ (z : ℕ). v.caller < z) (sym known_at.of_callers) inside,
        omega arith,
        subst (λ (x : Object × ℕ). IsLawful pr x.0 x.1 r.log) (λ i. (sym known_at.of_object i, sym known_at.of_callers i)) r.lawful,
      )

      hit : (slots : ℕ) → r.ticket ≡ k → Tries slots r.ticket (k + 1)
      unfolding Tries
      hit slots is = let h = home_is is in
          (next, takes 0 h.0, ap (λ hs. get_elem? hs 0) r.homes ∙ ap some h.1, won_kept is, ((λ e. got is h), λ ne. absurd (ne is)))

      miss_known : (w : View) → w ≡ record v { met = w.met; turn = Idle } → All (WasOut r.serving r.ticket) w.met → Knows o n r.serving r.ticket r.log r.made r.owner r.server id w
      miss_known w same read = subst (Knows o n r.serving r.ticket r.log r.made r.owner r.server id) (sym same)
          record { of_object = known_at.of_object; of_callers = known_at.of_callers; holder = known_at.holder; obstacles = read; at_turn = short_of pr stands o n s r id v at (looked_free v.turn k turn) }

      miss_kept : (w : View) → w ≡ record v { met = w.met; turn = Idle } → All (WasOut r.serving r.ticket) w.met → Rule record { words = set s.words 0 r.ticket; homes = s.homes; views = set s.views id w }
      miss_kept w same read =
          let unchanged : set s.words 0 r.ticket ≡ s.words = ap (λ (z : ℕ). set s.words 0 z) (sym (word_at pr stands o n s r 0)) ∙ set-get_or s.words 0 0 in
          subst (λ (ws : List ℕ). Rule record { words = ws; homes = s.homes; views = set s.views id w }) (sym unchanged)
          (quiet pr stands o n s r id v w at (looked_free v.turn k turn) (miss_known w same read))

      miss : (slots : ℕ) → r.ticket ≢ k → Tries slots r.ticket r.ticket
      unfolding Tries
      miss slots ne = let ord = r.order in let lo : k ≤ r.serving = look_fact.0 in (
        met v k r.ticket,
        keeps,
        tt,
        miss_kept (met v k r.ticket) refl (All-push (WasOut r.serving r.ticket) v.met _ known_at.obstacles (omega arith, lo, omega arith)),
        (
          (λ e. absurd (ne e)),
          (λ _. (
            refl,
            omega arith,
            look_fact.2,
            (λ whole. ne (sym (whole_finds pr stands o n s r id v at (looked_free v.turn k turn) whole) ∙ sym (look_fact.1 whole))),
            lawful_of pr stands o n s r id v at,
          )),
        ),
      )

      grab_hit : (slots : ℕ) → r.ticket ≡ k → Grabs slots r.ticket (k + 1)
      unfolding Grabs Tries
      grab_hit slots is = let h = hit slots is in (h.0, h.1, h.2, h.3, (h.4.0, λ ne. absurd (ne is)))

      grab_miss : (slots : ℕ) → r.ticket ≢ k → Grabs slots r.ticket r.ticket
      unfolding Grabs
      grab_miss slots ne = (in_turn v Idle, keeps, tt, miss_kept (in_turn v Idle) refl known_at.obstacles, ((λ e. absurd (ne e)), (λ _. refl)))

      tried_at : (slots : ℕ) → Tries slots (get_or s.words 0 0) (either (eqb (get_or s.words 0 0) k) (k + 1) (get_or s.words 0 0))
      tried_at slots = subst (λ (z : ℕ). Tries slots z (either (eqb z k) (k + 1) z)) (sym (word_at pr stands o n s r 0)) (exchanged r.ticket k (k + 1) (Tries slots r.ticket) (hit slots) (miss slots))

      grabbed_at : (slots : ℕ) → Grabs slots (get_or s.words 0 0) (either (eqb (get_or s.words 0 0) k) (k + 1) (get_or s.words 0 0))
      grabbed_at slots = subst (λ (z : ℕ). Grabs slots z (either (eqb z k) (k + 1) z)) (sym (word_at pr stands o n s r 0)) (exchanged r.ticket k (k + 1) (Grabs slots r.ticket) (grab_hit slots) (grab_miss slots))

  pub tries : (slots id k : ℕ) (m : Me S View) → m.0.turn ≡ Looked k → HasNumber m.0.held m.0.caller → get_or m.0.made m.0.caller 0 < 2 ^ 48
      → Allows Rule slots id m 0 (λ x. either (eqb x k) (k + 1) x) (tried pr stands (step slots 0 k (k + 1) none) m)
  unfolding Tries
  tries slots id k m turn active below s r _ at _ = tried_at s r id k m at active below turn slots

  pub grabs : (slots id k : ℕ) (m : Me S View) → m.0.turn ≡ Looked k → HasNumber m.0.held m.0.caller → get_or m.0.made m.0.caller 0 < 2 ^ 48
      → Allows Rule slots id m 0 (λ x. either (eqb x k) (k + 1) x) (grabbed pr stands (step slots 0 k (k + 1) none) m)
  unfolding Grabs
  grabs slots id k m turn active below s r _ at _ = grabbed_at s r id k m at active below turn slots

  pub draws : (slots id : ℕ) (m : Me S View) → m.0.turn ≡ Idle → HasNumber m.0.held m.0.caller → get_or m.0.made m.0.caller 0 < 2 ^ 48
      → Allows Rule slots id m 0 (λ x. (x + 1) % 2 ^ 64) (drew (step slots 0 1 0 none) m)
  draws slots id m idle active below s r _ at _ =
      let few = few_tickets pr stands o n s r in
      let short : (r.ticket + 1) % 2 ^ 64 ≡ r.ticket + 1 = mod-lt-is (r.ticket + 1) (2 ^ 64) (omega arith) in
      let w : View = drawn m.0 r.ticket in
      subst (λ (z : ℕ). (w' : View) × (a : Act S) × Valid s.homes m.1 a × Rule (stepped s 0 ((z + 1) % 2 ^ 64) id m.1 w' a) × drew (step slots 0 1 0 none) m z (w', carried_after m.1 a)) (sym (word_at pr stands o n s r 0))
      (w, keeps, tt, subst (λ (z : ℕ). Rule record { words = set s.words 0 z; homes = s.homes; views = set s.views id w }) (sym short) (drawn_at s r id r.ticket m at active below refl idle), refl)
