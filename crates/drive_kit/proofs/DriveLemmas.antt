-- What was played, woven into a history.
use Rattle.std.proofs.Common.{◌≡◌, ◌<◌, ◌≤◌, ◌+◌, ◌++◌, ◌∙◌, ℕ, suc, List, [], ◌∷◌, map, max, fold, get_or, eqb, All, Bool, false, true≢false, ltb, ◌==◌, inl, inr, refl, sym, ap, subst, arith}
use Rattle.std.proofs.lemmas.Bool.{cases_Bool}
use Rattle.std.proofs.lemmas.Bool.Decides.{nat_tests}
use Rattle.ho_base.specs.Marks.{number_priority}
use Rattle.ho_model.specs.declared.marks.EntryMark.{EntryMark}
use Rattle.ho_model.specs.declared.objects.Object.{Object}
use Rattle.ho_model.specs.declared.histories.Call.{Call}
use Rattle.ho_model.specs.declared.histories.Entry.{Entry}
use Rattle.ho_model.specs.Histories.{IsLegal}
use Rattle.ho_model.specs.Written.{history_of}
use Rattle.passes.specs.Numbers.{HasNumber, HasAll}
use Rattle.passes.specs.Seen.{AreBelow}
use Rattle.passes.proofs.Flags.{by_flag}
use Rattle.passes.proofs.Starts.{first_whole}
use Rattle.turn_lock.specs.Passes.{LockPass}
use Rattle.weave.specs.declared.made.Made.{Made}
use Rattle.weave.specs.Parts.{PartMade, Told, OfDifferentCallers, entry_told, made_by}
use Rattle.weave.specs.Places.{IsPlaced}
use Rattle.drive_kit.specs.Calls.{kind_of}
use Rattle.drive_kit.specs.Checks.{IsWhole, calls_in_part}
use Rattle.drive_kit.specs.Parts.{AreMade, OwnEntry, made_in, own_entries}
use Rattle.drive_kit.specs.Plans.{IsRowOf, Plan, calls_by, callers_of}
use Rattle.drive_kit.specs.Driving.{HasSeen, IsDriven, IsPassOf, IsShown, IsWholePass}
use Rattle.drive_kit.specs.Playing.{HasPlayed, IsFirst, IsOf, IsPlayed, IsReceiptOn, MayPlay, pass_of}
use Rattle.drive_kit.specs.declared.calls.Kind.{Kind}
use Rattle.drive_kit.specs.declared.callers.Played.{Played}
use Rattle.drive_kit.specs.declared.stands.DrivenPass.{DrivenPass}
use Rattle.drive_kit.specs.declared.stands.DrivenPass.TheVariants as driven
use Rattle.drive_kit.specs.declared.stands.Stand.{Stand}
use Rattle.drive_kit.specs.declared.stands.Stand.TheVariants as stand
use Rattle.drive_kit.specs.declared.scripts.ScriptRow.{ScriptRow}
use Rattle.drive_kit.proofs.PartLemmas.{Built, are_at_places, build, differ_all, has_parts, none_in, none_made}
use Rattle.drive_kit.proofs.PlayLemmas.{lacks_other}

-- 1. How many callers there are
most_from : (most : ℕ) (rows : List ScriptRow) → most ≤ fold (λ (m : ℕ) (row : ScriptRow). max m (row.caller + 1)) most rows
most_from most [] = omega arith
most_from most (row ∷ rows) = let rest = most_from (max most (row.caller + 1)) rows in grind arith

few_from : (kind : Kind) (most : ℕ) (rows : List ScriptRow) → most ≤ 16 → All (IsRowOf kind) rows → fold (λ (m : ℕ) (row : ScriptRow). max m (row.caller + 1)) most rows ≤ 16
few_from kind most [] few are = few
few_from kind most (row ∷ rows) few are =
    let first = (are 0 row (omega arith)).few in
    let more : max most (row.caller + 1) ≤ 16 = grind arith in
    few_from kind (max most (row.caller + 1)) rows more (λ k d lt. are (suc k) d (omega (arith, lt)))

pub callers_within : (kind : Kind) (rows : List ScriptRow) → All (IsRowOf kind) rows → (0 < callers_of rows) × (callers_of rows ≤ 64)
callers_within kind rows are =
    let least = most_from 1 rows in
    let most = few_from kind 1 rows (omega arith) are in
    (omega (arith, least), omega (arith, most))

-- a caller past them has no row
none_past : (most c : ℕ) (rows : List ScriptRow) → fold (λ (m : ℕ) (row : ScriptRow). max m (row.caller + 1)) most rows ≤ c → calls_by c rows ≡ []
none_past most c [] past = refl
none_past most c (row ∷ rows) past =
    let rest = most_from (max most (row.caller + 1)) rows in
    let below : row.caller < c = grind arith in
    let not : eqb row.caller c ≡ false = grind (arith, nat_tests) in
    rw not (none_past (max most (row.caller + 1)) c rows past)

-- 2. The calls of each caller
calls_of_told : (c : ℕ) (told : List Told) → calls_in_part c (map entry_told told) ≡ map (λ (m : Made). m.call) (made_by c told)
calls_of_told c [] = refl
calls_of_told c (t ∷ ts) =
    let rest = calls_of_told c ts in
    elim (cases_Bool (t.caller == c)) [
      | inl is ↦ rw is (ap (λ (l : List Call). t.made.call ∷ l) rest)
      | inr not ↦ rw not rest
    ]

-- 3. What all callers made, once a whole pass has seen it
module _ (on : Stand) (plan : Plan) (p : LockPass) (parts : List PartMade) (played : HasPlayed on plan.rows p parts) (all : HasAll p.callers p.held) (count : p.callers ≡ callers_of plan.rows) where
  none_seen : (c : ℕ) (before es : List EntryMark) → p.callers ≤ c → AreBelow p.callers es → own_entries c before es ≡ []
  none_seen c before [] past below = refl
  none_seen c before (e ∷ es) past below =
      let small : e.caller < p.callers = below.0 in
      let not : eqb e.caller c ≡ false = grind (arith, nat_tests) in
      rw not (none_seen c (before ++ e ∷ []) es past below.1)

  -- a caller past them has made nothing
  none_past_all : (c : ℕ) → p.callers ≤ c → made_in parts c ≡ []
  none_past_all c past = by_flag (get_or p.held c false)
      (λ up. none_made (IsReceiptOn on) p.object c (own_entries c [] p.seen) (made_in parts c) (none_seen c [] p.seen past played.lawful.1) (played.entries c up))
      (λ down. none_in c parts (lacks_other p.held c parts played.held (λ has. true≢false (sym has ∙ down))))

  each_made : (c : ℕ) → AreMade (IsReceiptOn on) p.object c (own_entries c [] p.seen) (made_in parts c)
  each_made c = elim (cases_Bool (ltb c p.callers)) [
    | inl is ↦ (let lt : c < p.callers = grind (arith, nat_tests) in played.entries c (all c lt))
    | inr not ↦ (
        let past : p.callers ≤ c = grind (arith, nat_tests) in
        subst (λ (z : List OwnEntry × List Made). AreMade (IsReceiptOn on) p.object c z.0 z.1) (λ i. (sym (none_seen c [] p.seen past played.lawful.1) i, sym (none_past_all c past) i)) tt
        )
  ]

  -- the calls that were seen, each with its receipt
  pub told_all : Built (IsReceiptOn on) p.object [] p.seen (made_in parts)
  told_all = build (IsReceiptOn on) p.object [] p.seen (made_in parts) each_made

  -- a history of these parts has the calls of all rows
  pub whole_by_parts : (told : List Told) → ((c : ℕ) → made_by c told ≡ made_in parts c) → IsWhole plan (map entry_told told)
  whole_by_parts told each c = calls_of_told c told ∙ (ap (map (λ (m : Made). m.call)) (each c) ∙ elim (cases_Bool (ltb c p.callers)) [
    | inl is ↦ (let lt : c < p.callers = grind (arith, nat_tests) in played.calls c (all c lt))
    | inr not ↦ (
        let past : p.callers ≤ c = grind (arith, nat_tests) in
        ap (map (λ (m : Made). m.call)) (none_past_all c past) ∙ sym (none_past 1 c plan.rows (subst (λ (n : ℕ). n ≤ c) count past))
        )
  ])

-- 4. The whole of a script
pub may_play : (plan : Plan) (n : ℕ) (on : Stand) (pass : DrivenPass) → IsOf on pass → IsFirst plan.object n (pass_of pass) → 0 < n → All (IsRowOf (kind_of plan.object)) plan.rows → MayPlay on plan.rows pass
may_play plan n on pass of first some are = record {
  of = of;
  rows_of = subst (λ (o : Object). All (IsRowOf (kind_of o)) plan.rows) (sym (ap (λ (z : LockPass). z.object) first.1)) are;
  own = subst (λ (z : LockPass). HasNumber z.held z.caller) (sym first.1) (first_whole n 0 some);
  fresh = ap (λ (z : LockPass). z.seen) first.1;
}

shown : (plan : Plan) (h : List Entry) (on : Stand) (pass : DrivenPass) → IsOf on pass → IsWholePass plan (pass_of pass) → HasSeen plan h (pass_of pass) → IsShown plan h pass
shown plan h on (driven.Turn p) of whole seen = (whole, seen)
shown plan h on (driven.Bag p) of whole seen = (record { object = whole.object; callers = whole.callers; whole = whole.whole }, seen)
shown plan h (stand.Channel table) (driven.Queue p) of whole seen = absurd of
shown plan h (stand.Blocking table) (driven.Queue p) of whole seen = absurd of
shown plan h (stand.Queue table) (driven.Queue p) of whole seen = absurd of
shown plan h (stand.Bag table) (driven.Queue p) of whole seen = absurd of

of_kind : (on : Stand) (pass : DrivenPass) → IsOf on pass → IsPassOf (kind_of (pass_of pass).object) pass
of_kind (stand.Channel table) (driven.Turn p) of = subst (λ (k : Kind). IsPassOf k (driven.Turn p)) (sym of.1) tt
of_kind (stand.Blocking table) (driven.Turn p) of = subst (λ (k : Kind). IsPassOf k (driven.Turn p)) (sym of.1) tt
of_kind (stand.Queue table) (driven.Turn p) of = subst (λ (k : Kind). IsPassOf k (driven.Turn p)) (sym of.1) tt
of_kind (stand.Bag table) (driven.Bag p) of = subst (λ (k : Kind). IsPassOf k (driven.Bag p)) (sym of.1) tt
of_kind (stand.Channel table) (driven.Queue p) of = absurd of
of_kind (stand.Channel table) (driven.Bag p) of = absurd of
of_kind (stand.Blocking table) (driven.Queue p) of = absurd of
of_kind (stand.Blocking table) (driven.Bag p) of = absurd of
of_kind (stand.Queue table) (driven.Queue p) of = absurd of
of_kind (stand.Queue table) (driven.Bag p) of = absurd of
of_kind (stand.Bag table) (driven.Turn p) of = absurd of
of_kind (stand.Bag table) (driven.Queue p) of = absurd of

module _ (plan : Plan) (n : ℕ) (count_is : n ≡ callers_of plan.rows) (p : LockPass) (first : IsFirst plan.object n p) (on : Stand) (played : Played) (h : IsPlayed on plan.rows p played) where
  abbrev q : LockPass
  q = pass_of played.pass

  object_is : q.object ≡ plan.object
  object_is = h.object ∙ ap (λ (z : LockPass). z.object) first.1

  callers_are : q.callers ≡ n
  callers_are = h.callers ∙ ap (λ (z : LockPass). z.callers) first.1

  holds_all : HasAll q.callers q.held
  holds_all c lt = h.keeps c (subst (λ (l : List Bool). HasNumber l c) (sym (ap (λ (z : LockPass). z.held) first.1)) (first_whole n c (subst (λ (m : ℕ). c < m) callers_are lt)))

  -- the parts are of different callers, and the history of their calls at their places is the one that was seen
  module _ (parts : List PartMade) (has : HasPlayed on plan.rows q parts) where
    built : Built (IsReceiptOn on) q.object [] q.seen (made_in parts)
    built = told_all on plan q parts has holds_all (callers_are ∙ count_is)

    pub is_driven : (history : List Entry) → (OfDifferentCallers parts → (told : List Told) → IsPlaced parts told → history ≡ map entry_told told) → IsDriven plan history played.pass
    is_driven history woven =
        let is : history ≡ map entry_told built.told = woven (differ_all parts has.differ) built.told (record { has = has_parts parts built.told has.differ built.each; places = are_at_places q.object built.told built.receipts }) in
        let seen : q.seen ≡ history_of plan.object history = sym built.history ∙ (λ i. history_of (object_is i) (sym is i)) in
        record {
          legal = subst (λ (z : Object × List EntryMark). IsLegal number_priority z.0 z.1) (λ i. (object_is i, seen i)) has.lawful.0;
          whole = subst (IsWhole plan) (sym is) (whole_by_parts on plan q parts has holds_all (callers_are ∙ count_is) built.told built.each);
          kind = subst (λ (o : Object). IsPassOf (kind_of o) played.pass) object_is (of_kind on played.pass h.of);
          shown = shown plan history on played.pass h.of (record { object = object_is; callers = callers_are ∙ count_is; whole = holds_all }) seen;
        }
