-- A split, a join and the load after it keep the rule.
use Rattle.std.proofs.Common.{◌≡◌, ◌≢◌, ℕ, List, [], ◌∷◌, ◌++◌, length, ◌≤◌, set, sym, refl, ◌∙◌, subst, inl, inr, ⊎_elim}
use Rattle.std.proofs.lemmas.List.Elements.{All-nil, All-append}
use mathlib.Core.Option.{some, none}
use lib.ListN.{get_elem?}
use lib.Seq.{set-get_or}
use Rattle.atomic_table.specs.Table.{State, Me, Splits, Joins, Allows, keeps, step}
use Rattle.atomic_table.proofs.Lists.{set_else}
use Rattle.ho_base.specs.Marks.{Mark}
use Rattle.ho_model.specs.declared.marks.EntryMark.{EntryMark}
use Rattle.ho_model.specs.declared.objects.Object.{Object}
use Rattle.passes.specs.Numbers.{HasNumber, IsSpare, give}
use Rattle.passes.specs.Holders.{split_owner, join_owner}
use Rattle.passes.proofs.Holders.{holder_left, holder_right, holder_split, holder_gone, holder_joined, holder_both, holders_meet}
use Rattle.passes.proofs.Seen.{longer_fits}
use Rattle.passes.proofs.Seats.{seats_split, seats_join, some_seat, some_longer}
use Rattle.turn_lock.specs.declared.view.View.{View}
use Rattle.turn_lock.specs.declared.view.Turn.{Turn}
use Rattle.turn_lock.specs.declared.view.Turn.TheVariants.{Idle, Joined}
use Rattle.turn_lock.specs.Views.{HasTicket, HasTurn, IsWhole, in_turn, without, alone, joined, gone}
use Rattle.turn_lock.specs.Rule.{TurnFact, WasOut, Knows, Kept}
use Rattle.turn_lock.specs.Plays.{told}
use Rattle.turn_lock.proofs.TurnFacts.{idle_free, turn_ticket}
use Rattle.turn_lock.proofs.Laws.{lawful_of, short_of, quiet}

module _ {S : Type 0} (pr : Mark → ℕ) (stands : Object → ℕ → S → List EntryMark → Type 0) (o : Object) (n : ℕ) where
  abbrev Rule : State S View → Type 0
  Rule = Kept pr stands o n

  module _ (s : State S View) (r : Rule s) (id c : ℕ) (v : View) (at : get_elem? s.views id ≡ some v) (idle : v.turn ≡ Idle) (spare : IsSpare v.held v.caller c) where
    abbrev fresh : ℕ
    fresh = length s.views

    abbrev owner' : ℕ → ℕ
    owner' = split_owner r.owner c fresh

    abbrev Known' : ℕ → View → Type 0
    Known' = Knows o n r.serving r.ticket r.log r.made owner' r.server

    known : Knows o n r.serving r.ticket r.log r.made r.owner r.server id v
    known = r.knows id v at

    left_known : Known' id (without v c)
    left_known = record {
      of_object = known.of_object;
      of_callers = known.of_callers;
      holder = holder_left n r.log r.made r.owner id v.held v.made v.seen known.holder c fresh;
      obstacles = known.obstacles;
      at_turn = subst (λ (t : Turn). TurnFact r.serving r.ticket r.log r.server id v.seen (HasNumber (give v.held c) v.caller) (IsWhole (without v c)) t) (sym idle) (short_of pr stands o n s r id v at (idle_free v.turn idle));
    }

    right_known : Known' fresh (alone v c)
    right_known = record {
      of_object = known.of_object;
      of_callers = known.of_callers;
      holder = holder_right n r.log r.made r.owner id v.held v.made v.seen known.holder c fresh spare.0;
      obstacles = All-nil (WasOut r.serving r.ticket);
      at_turn = short_of pr stands o n s r id v at (idle_free v.turn idle);
    }

    else_known : (j : ℕ) (u : View) → j ≢ id → Knows o n r.serving r.ticket r.log r.made r.owner r.server j u → Known' j u
    else_known j u not x = record {
      of_object = x.of_object;
      of_callers = x.of_callers;
      holder = holder_split n r.log r.made r.owner j u.held u.made u.seen x.holder c fresh id not (known.holder.owns c spare.0).0;
      obstacles = x.obstacles;
      at_turn = x.at_turn;
    }

    abbrev views' : List View
    views' = set s.views id (without v c) ++ alone v c ∷ []

    -- a seat that has a ticket, or the turn, still has it
    still : (T : Turn → Type 0) (seat : ℕ) → (T v.turn → ⊥) → (x : View) × (get_elem? s.views seat ≡ some x) × T x.turn → (x : View) × (get_elem? views' seat ≡ some x) × T x.turn
    still T seat free h = some_longer (λ (x : View). T x.turn) (set s.views id (without v c)) seat (alone v c)
        (some_seat (λ (x : View). T x.turn) s.views id seat v (without v c) at (λ t. absurd (free t)) h)

    split_kept : Rule record { words = s.words; homes = s.homes; views = views' }
    split_kept = let free = idle_free v.turn idle in record {
      ticket = r.ticket;
      serving = r.serving;
      home = r.home;
      log = r.log;
      made = r.made;
      owner = owner';
      server = r.server;
      words = r.words;
      homes = r.homes;
      lawful = r.lawful;
      order = r.order;
      sized = r.sized;
      small = r.small;
      few = r.few;
      each = r.each;
      place = ⊎_elim inl (λ (h : (x : View) × (get_elem? s.views (r.server r.serving) ≡ some x) × HasTurn x.turn r.serving).
          inr (still (λ t. HasTurn t r.serving) (r.server r.serving) (λ t. free r.serving (turn_ticket v.turn r.serving t)) h)) r.place;
      queue = λ t lo hi. still (λ x. HasTicket x t) (r.server t) (free t) (r.queue t lo hi);
      knows = seats_split Known' s.views id (without v c) (alone v c) left_known right_known (λ k x not y. else_known k x not (r.knows k x y));
    }

  pub splits : (id c : ℕ) (v : View) → v.turn ≡ Idle → IsSpare v.held v.caller c → Splits Rule id v (without v c) (alone v c)
  splits id c v idle spare s r at = split_kept s r id c v at idle spare

  module _ (s : State S View) (r : Rule s) (id other : ℕ) (v w : View) (at : get_elem? s.views id ≡ some v) (apart : ¬ (other ≡ id)) (there : get_elem? s.views other ≡ some w)
      (idle : v.turn ≡ Idle) (idle' : w.turn ≡ Idle) where
    abbrev one_owner : ℕ → ℕ
    one_owner = join_owner r.owner w.held id

    abbrev KnownJ : ℕ → View → Type 0
    KnownJ = Knows o n r.serving r.ticket r.log r.made one_owner r.server

    kv : Knows o n r.serving r.ticket r.log r.made r.owner r.server id v
    kv = r.knows id v at

    kw : Knows o n r.serving r.ticket r.log r.made r.owner r.server other w
    kw = r.knows other w there

    abbrev both : View
    both = joined v w

    both_short : length both.seen ≤ r.serving
    both_short = longer_fits r.serving v.seen w.seen (short_of pr stands o n s r id v at (idle_free v.turn idle)) (short_of pr stands o n s r other w there (idle_free w.turn idle'))

    both_known : KnownJ id both
    both_known = record {
      of_object = kv.of_object;
      of_callers = kv.of_callers;
      holder = holder_both n r.log r.made r.owner id other v.held w.held v.made w.made v.seen w.seen kv.holder kw.holder;
      obstacles = All-append (WasOut r.serving r.ticket) v.met w.met kv.obstacles kw.obstacles;
      at_turn = (holders_meet n r.log r.made r.owner id other v.held w.held v.made w.made v.seen w.seen kv.holder kw.holder (λ e. apart (sym e)), both_short);
    }

    gone_known : KnownJ other (gone w)
    gone_known = record {
      of_object = kw.of_object;
      of_callers = kw.of_callers;
      holder = holder_gone n r.log r.made r.owner other w.held w.made w.seen kw.holder one_owner;
      obstacles = kw.obstacles;
      at_turn = short_of pr stands o n s r other w there (idle_free w.turn idle');
    }

    rest_known : (j : ℕ) (u : View) → j ≢ id → j ≢ other → Knows o n r.serving r.ticket r.log r.made r.owner r.server j u → KnownJ j u
    rest_known j u not not' x = record {
      of_object = x.of_object;
      of_callers = x.of_callers;
      holder = holder_joined n r.log r.made r.owner id other v.held w.held v.made w.made v.seen w.seen kv.holder kw.holder j u.held u.made u.seen not' x.holder;
      obstacles = x.obstacles;
      at_turn = x.at_turn;
    }

    abbrev viewsJ : List View
    viewsJ = set (set s.views id both) other (gone w)

    there' : get_elem? (set s.views id both) other ≡ some w
    there' = set_else s.views id other both apart ∙ there

    stillJ : (T : Turn → Type 0) (seat : ℕ) → (T v.turn → ⊥) → (T w.turn → ⊥) → (x : View) × (get_elem? s.views seat ≡ some x) × T x.turn → (x : View) × (get_elem? viewsJ seat ≡ some x) × T x.turn
    stillJ T seat free free' h = some_seat (λ (x : View). T x.turn) (set s.views id both) other seat w (gone w) there' (λ t. absurd (free' t))
        (some_seat (λ (x : View). T x.turn) s.views id seat v both at (λ t. absurd (free t)) h)

    join_kept : Rule record { words = s.words; homes = s.homes; views = viewsJ }
    join_kept = let free = idle_free v.turn idle in let free' = idle_free w.turn idle' in record {
      ticket = r.ticket;
      serving = r.serving;
      home = r.home;
      log = r.log;
      made = r.made;
      owner = one_owner;
      server = r.server;
      words = r.words;
      homes = r.homes;
      lawful = r.lawful;
      order = r.order;
      sized = r.sized;
      small = r.small;
      few = r.few;
      each = r.each;
      place = ⊎_elim inl (λ (h : (x : View) × (get_elem? s.views (r.server r.serving) ≡ some x) × HasTurn x.turn r.serving).
          inr (stillJ (λ t. HasTurn t r.serving) (r.server r.serving) (λ t. free r.serving (turn_ticket v.turn r.serving t)) (λ t. free' r.serving (turn_ticket w.turn r.serving t)) h)) r.place;
      queue = λ t lo hi. stillJ (λ x. HasTicket x t) (r.server t) (free t) (free' t) (r.queue t lo hi);
      knows = seats_join KnownJ s.views id other both (gone w) both_known gone_known (λ j u not not' y. rest_known j u not not' (r.knows j u y));
    }

  pub joins : (id other : ℕ) (v w : View) → v.turn ≡ Idle → w.turn ≡ Idle → Joins Rule id v other w (joined v w) (gone w)
  joins id other v w idle idle' s r at apart there = join_kept s r id other v w at apart (sym (set_else s.views id other (joined v w) apart) ∙ there) idle idle'

  pub tells : (slots id : ℕ) (m : Me S View) → ((t : ℕ) → HasTicket m.0.turn t → ⊥) → Allows Rule slots id m 16 (λ x. x) (told pr (step slots 16 0 0 none) m)
  tells slots id m free s r _ at _ =
      let k = r.knows id m.0 at in
      let after = quiet pr stands o n s r id m.0 (in_turn m.0 Idle) at free record { of_object = k.of_object; of_callers = k.of_callers; holder = k.holder; obstacles = k.obstacles; at_turn = short_of pr stands o n s r id m.0 at free } in (
        in_turn m.0 Idle,
        keeps,
        tt,
        subst (λ (ws : List ℕ). Rule record { words = ws; homes = s.homes; views = set s.views id (in_turn m.0 Idle) }) (sym (set-get_or s.words 16 0)) after,
        (
          refl,
          (λ p q h h' is. let f : TurnFact r.serving r.ticket r.log r.server id m.0.seen (HasNumber m.0.held m.0.caller) (IsWhole m.0) (Joined p q h h') = subst (λ (x : Turn). TurnFact r.serving r.ticket r.log r.server id m.0.seen (HasNumber m.0.held m.0.caller) (IsWhole m.0) x) is k.at_turn in f.0),
          lawful_of pr stands o n s r id m.0 at,
        ),
      )
