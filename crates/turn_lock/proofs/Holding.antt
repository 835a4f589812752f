-- A turn reach, an entry and a turn leave keep the rule.
use Rattle.std.proofs.Common.{◌≡◌, ◌≢◌, ℕ, ◌+◌, ◌%◌, ◌^◌, ◌<◌, ◌≤◌, List, [], ◌∷◌, ◌++◌, length, get_or, set, sym, refl, ap, ◌∙◌, subst, inl, inr, ⊎_elim, arith, le_refl, length-append, append-nil}
use mathlib.Core.Logic.{dite}
use mathlib.Core.Option.{some, none}
use native.Mathlib.Decide.{ℕ_discrete}
use lib.ListN.{get_elem?}
use lib.Seq.{set-get_or}
use Rattle.atomic_table.specs.Table.{State, Me, Act, step, keeps, takes, gives, stepped, put_back, Valid, carried_after, Allows}
use Rattle.atomic_table.proofs.Lists.{set_here, set_else, set_again}
use Rattle.ho_base.specs.Marks.{Mark}
use Rattle.ho_model.specs.declared.marks.EntryMark.{EntryMark}
use Rattle.ho_model.specs.declared.objects.Object.{Object}
use Rattle.ho_model.specs.Histories.{IsLegal}
use Rattle.passes.specs.Numbers.{HasNumber}
use Rattle.passes.specs.Seen.{IsLawful}
use Rattle.passes.proofs.Seen.{lawful_more}
use Rattle.passes.proofs.Holders.{holder_sees, others_enter}
use Rattle.passes.proofs.Seats.{at_inside, seats_stay, some_seat, one_view}
use Rattle.turn_lock.specs.declared.view.View.{View}
use Rattle.turn_lock.specs.declared.view.Turn.{Turn}
use Rattle.turn_lock.specs.declared.view.Turn.TheVariants.{Idle, Drawn, Holds}
use Rattle.turn_lock.specs.Views.{HasTicket, HasTurn, IsWhole, in_turn, holding, entered}
use Rattle.turn_lock.specs.Rule.{TurnFact, Knows, Kept}
use Rattle.turn_lock.specs.Plays.{Got, reached, adds, left}
use Rattle.turn_lock.proofs.TurnFacts.{holds_one, drawn_one, drawn_waits, one_ticket, has_turn, turn_passes, read_later}
use Rattle.turn_lock.proofs.Laws.{mod-lt-is, word_at, few_tickets}

module _ {S : Type 0} (pr : Mark → ℕ) (stands : Object → ℕ → S → List EntryMark → Type 0) (o : Object) (n : ℕ) where
  abbrev Rule : State S View → Type 0
  Rule = Kept pr stands o n

  -- a seat with the ticket k reads the number that is served
  module _ (s : State S View) (r : Rule s) (id k : ℕ) (m : Me S View) (at : get_elem? s.views id ≡ some m.0) (turn : m.0.turn ≡ Drawn k) where
    abbrev v : View
    v = m.0

    waiting : Knows o n r.serving r.ticket r.log r.made r.owner r.server id v
    waiting = r.knows id v at

    drawn_fact : (r.serving ≤ k) × (k < r.ticket) × (r.server k ≡ id) × HasNumber v.held v.caller × (length v.seen ≤ r.serving)
    drawn_fact = subst (λ (x : Turn). TurnFact r.serving r.ticket r.log r.server id v.seen (HasNumber v.held v.caller) (IsWhole v) x) turn waiting.at_turn

    abbrev reached_view : View
    reached_view = holding v k r.log

    -- nobody has the turn, since it is this seat's and it waits
    home_is : r.serving ≡ k → (x : S) × (r.home ≡ some x) × stands o n x r.log × (length r.log ≤ r.serving)
    home_is is = ⊎_elim (λ h. h) (λ (h : (x : View) × (get_elem? s.views (r.server r.serving) ≡ some x) × HasTurn x.turn r.serving).
        let same : h.0 ≡ v = one_view s.views (r.server r.serving) id h.0 v h.1 at (ap r.server is ∙ drawn_fact.2) in
        absurd (drawn_waits v.turn k turn r.serving (subst (λ (x : View). HasTurn x.turn r.serving) same h.2))) r.place

    reached_kept : (is : r.serving ≡ k) → Rule record { words = s.words; homes = set s.homes 0 none; views = set s.views id reached_view }
    reached_kept is = let f = drawn_fact in let lt = f.1 in let h = home_is is in let short = h.3 in record {
      ticket = r.ticket;
      serving = r.serving;
      home = none;
      log = r.log;
      made = r.made;
      owner = r.owner;
      server = r.server;
      words = r.words;
      homes = ap (λ hs. set hs 0 none) r.homes;
      lawful = r.lawful;
      order = r.order;
      sized = r.sized;
      small = r.small;
      few = r.few;
      each = r.each;
      place = inr (reached_view, ap (get_elem? (set s.views id reached_view)) (ap r.server is ∙ drawn_fact.2) ∙ set_here s.views id reached_view (at_inside s.views id v at), sym is);
      queue = λ t lo hi. some_seat (λ (x : View). HasTicket x.turn t) s.views id (r.server t) v reached_view at (λ h. subst (λ (x : Turn). HasTicket x t) turn h) (r.queue t lo hi);
      knows = seats_stay (Knows o n r.serving r.ticket r.log r.made r.owner r.server) s.views id reached_view
          record {
            of_object = waiting.of_object;
            of_callers = waiting.of_callers;
            holder = holder_sees n r.log r.made r.owner id v.held v.made v.seen waiting.holder;
            obstacles = waiting.obstacles;
            at_turn = (sym is, lt, f.2, f.3, refl, omega arith);
          }
          (λ j u not e. r.knows j u e);
    }

    Reached : ℕ → ℕ → Type 0
    Reached slots x = (w : View) × (a : Act S) × Valid s.homes m.1 a × Rule (stepped s 16 (get_or s.words 16 0) id m.1 w a) × reached pr stands (step slots 16 0 0 none) m x (w, carried_after m.1 a)

    same_drawn : (k' : ℕ) → v.turn ≡ Drawn k' → k ≡ k'
    same_drawn k' e = drawn_one k k' (sym turn ∙ e)

    got : (is : r.serving ≡ k) → (h : (x : S) × (r.home ≡ some x) × stands o n x r.log × (length r.log ≤ r.serving)) → Got pr stands v m.1 r.serving (reached_view, (0, h.0) ∷ m.1)
    got is h = let few = few_tickets pr stands o n s r in let ord = r.order in let a : length r.log ≤ r.serving = h.3 in (
      h.0,
      r.log,
      (λ i. (holding v (sym is i) r.log, (0, h.0) ∷ m.1)),
      waiting.holder.behind,
      subst (λ (z : Object × ℕ). stands z.0 z.1 h.0 r.log) (λ i. (sym waiting.of_object i, sym waiting.of_callers i)) h.2,
      subst (λ (z : ℕ). v.caller < z) (sym waiting.of_callers) (waiting.holder.owns v.caller drawn_fact.3).1,
      omega arith,
      subst (λ (x : Object × ℕ). IsLawful pr x.0 x.1 r.log) (λ i. (sym waiting.of_object i, sym waiting.of_callers i)) r.lawful,
    )

    reach_now : (slots : ℕ) → r.serving ≡ k → Reached slots r.serving
    unfolding Reached
    reach_now slots is = let h = home_is is in (
      reached_view,
      takes 0 h.0,
      ap (λ hs. get_elem? hs 0) r.homes ∙ ap some h.1,
      subst (λ (ws : List ℕ). Rule record { words = ws; homes = set s.homes 0 none; views = set s.views id reached_view }) (sym (set-get_or s.words 16 0)) (reached_kept is),
      λ k' also. ((λ e. got is h), λ ne. absurd (ne (is ∙ same_drawn k' also))),
    )

    reach_not : (slots : ℕ) → r.serving ≢ k → Reached slots r.serving
    unfolding Reached
    reach_not slots ne = (
      v,
      keeps,
      tt,
      subst (λ (x : List ℕ × List View). Rule record { words = x.0; homes = s.homes; views = x.1 }) (λ i. (sym (set-get_or s.words 16 0) i, sym (set_again s.views id v at) i)) r,
      λ k' also. ((λ e. absurd (ne (e ∙ sym (same_drawn k' also)))), λ _. refl),
    )

    reach_at : (slots : ℕ) → Reached slots (get_or s.words 16 0)
    reach_at slots = subst (Reached slots) (sym (word_at pr stands o n s r 16)) (dite (ℕ_discrete r.serving k) (reach_now slots) (reach_not slots))

  pub reaches : (slots id k : ℕ) (m : Me S View) → m.0.turn ≡ Drawn k → Allows Rule slots id m 16 (λ x. x) (reached pr stands (step slots 16 0 0 none) m)
  unfolding Reached
  reaches slots id k m turn s r _ at _ = reach_at s r id k m at turn slots

  -- the seat that has the turn k
  module _ (s : State S View) (r : Rule s) (id k : ℕ) (m : Me S View) (at : get_elem? s.views id ≡ some m.0) where
    holding_at : Knows o n r.serving r.ticket r.log r.made r.owner r.server id m.0
    holding_at = r.knows id m.0 at

    module _ (turn : m.0.turn ≡ Holds k) (e : EntryMark) (own : e.caller ≡ m.0.caller) (legal : IsLegal pr m.0.object (m.0.seen ++ e ∷ [])) where
      fact : (k ≡ r.serving) × (k < r.ticket) × (r.server k ≡ id) × HasNumber m.0.held m.0.caller × (m.0.seen ≡ r.log) × (length r.log ≤ k)
      fact = subst (λ (x : Turn). TurnFact r.serving r.ticket r.log r.server id m.0.seen (HasNumber m.0.held m.0.caller) (IsWhole m.0) x) turn holding_at.at_turn

      abbrev log' : List EntryMark
      log' = r.log ++ e ∷ []

      owner_is : r.owner e.caller ≡ id
      owner_is = ap r.owner own ∙ (holding_at.holder.owns m.0.caller fact.3).0

      enter_others : (j : ℕ) (u : View) → j ≢ id → Knows o n r.serving r.ticket r.log r.made r.owner r.server j u → Knows o n r.serving r.ticket log' r.made r.owner r.server j u
      enter_others j u not x = record {
        of_object = x.of_object;
        of_callers = x.of_callers;
        holder = others_enter n r.log r.made r.owner j u.held u.made u.seen x.holder id e not owner_is;
        obstacles = x.obstacles;
        at_turn = turn_passes r.serving r.ticket r.log r.server j u.seen (HasNumber u.held u.caller) (IsWhole u) log' r.serving
            (λ same. not (sym same ∙ (ap r.server (sym fact.0) ∙ fact.2))) (le_refl r.serving) (omega arith) (λ _. refl) u.turn x.at_turn;
      }

      abbrev after : View
      after = entered m.0 k e

      seen_is : m.0.seen ++ e ∷ [] ≡ log'
      seen_is = ap (λ (l : List EntryMark). l ++ e ∷ []) fact.4

      enter_mine : Knows o n r.serving r.ticket log' r.made r.owner r.server id after
      enter_mine = let x = holding_at in let short : length r.log ≤ k = fact.5 in record {
        of_object = x.of_object;
        of_callers = x.of_callers;
        holder = record {
          behind = ([], sym seen_is ∙ sym (append-nil (m.0.seen ++ e ∷ [])), tt);
          owns = x.holder.owns;
          agrees = x.holder.agrees;
          wide = x.holder.wide;
        };
        obstacles = x.obstacles;
        at_turn = (fact.0, fact.1, fact.2, fact.3, seen_is, omega (arith, length-append r.log (e ∷ [])));
      }

      entered_at : Rule record { words = set s.words 17 (length log'); homes = s.homes; views = set s.views id after }
      entered_at = record {
        ticket = r.ticket;
        serving = r.serving;
        home = r.home;
        log = log';
        made = r.made;
        owner = r.owner;
        server = r.server;
        words = ap (λ (ws : List ℕ). set ws 17 (length log')) r.words;
        homes = r.homes;
        lawful = lawful_more pr o n r.log e r.lawful
            (subst (λ (x : Object). IsLegal pr x log') holding_at.of_object (subst (λ (l : List EntryMark). IsLegal pr m.0.object l) seen_is legal))
            (subst (λ (c : ℕ). c < n) (sym own) (holding_at.holder.owns m.0.caller fact.3).1);
        order = r.order;
        sized = r.sized;
        small = r.small;
        few = r.few;
        each = r.each;
        place = inr (after, ap (get_elem? (set s.views id after)) (ap r.server (sym fact.0) ∙ fact.2) ∙ set_here s.views id after (at_inside s.views id m.0 at), fact.0);
        queue = λ t lo hi. some_seat (λ (x : View). HasTicket x.turn t) s.views id (r.server t) m.0 after at (λ h. subst (λ (x : Turn). HasTicket x t) turn h) (r.queue t lo hi);
        knows = seats_stay (Knows o n r.serving r.ticket log' r.made r.owner r.server) s.views id after enter_mine (λ j u not x. enter_others j u not (r.knows j u x));
      }

      count_bound : length r.log < 2 ^ 63
      count_bound = let short : length r.log ≤ k = fact.5 in let lt : k < r.ticket = fact.1 in let few = few_tickets pr stands o n s r in omega arith

    -- the turn is given back, with the machine
    module _ (turn : HasTurn m.0.turn k) (x : S) (more : List (ℕ × S)) (carried : m.1 ≡ (0, x) ∷ more) (right : stands m.0.object m.0.callers x m.0.seen) where
      turn_fact : (k ≡ r.serving) × (k < r.ticket) × (r.server k ≡ id) × HasNumber m.0.held m.0.caller × (m.0.seen ≡ r.log) × (length r.log ≤ k + 1)
      turn_fact = has_turn r.serving r.ticket r.log r.server id m.0.seen (HasNumber m.0.held m.0.caller) (IsWhole m.0) m.0.turn k turn holding_at.at_turn

      abbrev idle : View
      idle = in_turn m.0 Idle

      leave_others : (j : ℕ) (u : View) → j ≢ id → Knows o n r.serving r.ticket r.log r.made r.owner r.server j u → Knows o n (r.serving + 1) r.ticket r.log r.made r.owner r.server j u
      leave_others j u not y = record {
        of_object = y.of_object;
        of_callers = y.of_callers;
        holder = y.holder;
        obstacles = read_later r.serving r.ticket (r.serving + 1) r.ticket u.met (omega arith) (le_refl r.ticket) y.obstacles;
        at_turn = turn_passes r.serving r.ticket r.log r.server j u.seen (HasNumber u.held u.caller) (IsWhole u) r.log (r.serving + 1)
            (λ same. not (sym same ∙ (ap r.server (sym turn_fact.0) ∙ turn_fact.2))) (omega arith) (le_refl (r.serving + 1))
            (λ whole. let z = holding_at.holder.owns m.0.caller turn_fact.3 in
            absurd (not (sym (y.holder.owns m.0.caller (whole m.0.caller (subst (λ (q : ℕ). m.0.caller < q) (sym y.of_callers) z.1))).0 ∙ z.0))) u.turn y.at_turn;
      }

      seen_short : length m.0.seen ≤ r.serving + 1
      seen_short = let a = turn_fact.0 in let b = turn_fact.5 in let c = ap (λ (l : List EntryMark). length l) turn_fact.4 in omega arith

      left_at : Rule record { words = set s.words 16 (r.serving + 1); homes = set s.homes 0 (some x); views = set s.views id idle }
      left_at = let y = holding_at in let a = turn_fact.0 in let lt = turn_fact.1 in let short = turn_fact.5 in record {
        ticket = r.ticket;
        serving = r.serving + 1;
        home = some x;
        log = r.log;
        made = r.made;
        owner = r.owner;
        server = r.server;
        words = ap (λ (ws : List ℕ). set ws 16 (r.serving + 1)) r.words;
        homes = ap (λ hs. set hs 0 (some x)) r.homes;
        lawful = r.lawful;
        order = omega arith;
        sized = r.sized;
        small = r.small;
        few = r.few;
        each = r.each;
        place = inl (x, refl, subst (λ (l : List EntryMark). stands o n x l) turn_fact.4 (subst (λ (z : Object × ℕ). stands z.0 z.1 x m.0.seen) (λ i. (y.of_object i, y.of_callers i)) right), omega arith);
        queue = λ t lo hi. let q = r.queue t (omega arith) hi in
            let ne : r.server t ≢ id = (λ here. let one = one_ticket m.0.turn t k (subst (λ (z : View). HasTicket z.turn t) (one_view s.views (r.server t) id q.0 m.0 q.1 at here) q.2) turn in omega arith) in
            (q.0, set_else s.views id (r.server t) idle ne ∙ q.1, q.2);
        knows = seats_stay (Knows o n (r.serving + 1) r.ticket r.log r.made r.owner r.server) s.views id idle
            record {
              of_object = y.of_object;
              of_callers = y.of_callers;
              holder = y.holder;
              obstacles = read_later r.serving r.ticket (r.serving + 1) r.ticket m.0.met (omega arith) (le_refl r.ticket) y.obstacles;
              at_turn = seen_short;
            }
            (λ j u not z. leave_others j u not (r.knows j u z));
      }

  pub enters : (slots id k : ℕ) (m : Me S View) (e : EntryMark) → m.0.turn ≡ Holds k → e.caller ≡ m.0.caller → IsLegal pr m.0.object (m.0.seen ++ e ∷ []) → Allows Rule slots id m 17 (λ x. (x + 1) % 2 ^ 64) (adds e (step slots 17 1 0 none) m)
  enters slots id k m e turn own legal s r _ at _ =
      let b = count_bound s r id k m at turn e own legal in
      let short : (length r.log + 1) % 2 ^ 64 ≡ length (r.log ++ e ∷ []) = mod-lt-is (length r.log + 1) (2 ^ 64) (omega arith) ∙ sym (length-append r.log (e ∷ [])) in
      let f = fact s r id k m at turn e own legal in
      subst (λ (z : ℕ). (w : View) × (a : Act S) × Valid s.homes m.1 a × Rule (stepped s 17 ((z + 1) % 2 ^ 64) id m.1 w a) × adds e (step slots 17 1 0 none) m z (w, carried_after m.1 a)) (sym (word_at pr stands o n s r 17)) (
        entered m.0 k e,
        keeps,
        tt,
        subst (λ (z : ℕ). Rule record { words = set s.words 17 z; homes = s.homes; views = set s.views id (entered m.0 k e) }) (sym short) (entered_at s r id k m at turn e own legal),
        λ k' also. ((λ i. (entered m.0 (holds_one k k' (sym turn ∙ also) i) e, m.1)), ap length (sym f.4)),
      )

  pub leaves : (slots id k : ℕ) (m : Me S View) (x : S) (more : List (ℕ × S)) → HasTurn m.0.turn k → m.1 ≡ (0, x) ∷ more → stands m.0.object m.0.callers x m.0.seen → Allows Rule slots id m 16 (λ z. (z + 1) % 2 ^ 64) (left (step slots 16 1 0 none) m)
  leaves slots id k m x more turn carried right s r _ at _ =
      let f = turn_fact s r id k m at turn x more carried right in let lt = f.1 in let is = f.0 in let few = few_tickets pr stands o n s r in
      let short : (r.serving + 1) % 2 ^ 64 ≡ r.serving + 1 = mod-lt-is (r.serving + 1) (2 ^ 64) (omega arith) in
      subst (λ (z : ℕ). (w : View) × (a : Act S) × Valid s.homes m.1 a × Rule (stepped s 16 ((z + 1) % 2 ^ 64) id m.1 w a) × left (step slots 16 1 0 none) m z (w, carried_after m.1 a)) (sym (word_at pr stands o n s r 16)) (
        in_turn m.0 Idle,
        gives,
        tt,
        subst (λ (z : ℕ × List (ℕ × S)). Rule record { words = set s.words 16 z.0; homes = put_back s.homes z.1; views = set s.views id (in_turn m.0 Idle) }) (λ i. (sym short i, sym carried i)) (left_at s r id k m at turn x more carried right),
        refl,
      )
