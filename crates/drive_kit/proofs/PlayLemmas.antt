-- Rows played, and what workers leave taken in.
use Rattle.std.proofs.Common.{◌≡◌, ◌≢◌, ◌<◌, ◌+◌, ◌++◌, ◌∙◌, ℕ, zero, suc, List, [], ◌∷◌, length, take, drop, map, get_or, slice_get, eqb, All, Bool, true, false, true≢false, Result, Ok, Err, IsErr, IfOk, Some, Vec, Global, refl, sym, ap, subst, arith, append-nil, append_assoc}
use mathlib.Core.Logic.{dite}
use native.Mathlib.Decide.{ℕ_discrete}
use Rattle.std.proofs.lemmas.Bool.Decides.{nat_tests}
use Rattle.std.proofs.lemmas.List.{map_push, map-append, take_more, take-append-drop}
use Rattle.std.proofs.lemmas.Option.{same_Some, none-some}
use Rattle.ho_base.specs.Marks.{number_priority}
use Rattle.ho_base.specs.declared.memory.NoMemory.{NoMemory}
use Rattle.ho_model.specs.declared.marks.CallMark.{CallMark}
use Rattle.ho_model.specs.declared.marks.EntryMark.{EntryMark}
use Rattle.ho_model.specs.declared.objects.Object.{Object}
use Rattle.ho_model.specs.declared.histories.Call.{Call}
use Rattle.ho_model.specs.Objects.{empty_state}
use Rattle.ho_model.specs.Written.{call_of, entry_of}
use Rattle.passes.specs.Numbers.{HasNumber, held_count, held_both, give, only}
use Rattle.passes.specs.Seen.{IsLawful}
use Rattle.passes.specs.Calls.{AddsNoEntry, IsSamePass, Splits, Joins}
use Rattle.passes.proofs.Flags.{by_flag, flag_else, only_one, only_has, both_left, both_right, both_up, held_count-give, held_count-some}
use Rattle.passes.proofs.Owned.{part-sees}
use Rattle.turn_lock.specs.Passes.{LockPass}
use Rattle.weave.specs.declared.made.Made.{Made}
use Rattle.weave.specs.Parts.{PartMade}
use Rattle.drive_kit.specs.Calls.{IsCallOf, kind_of}
use Rattle.drive_kit.specs.Parts.{AreHeld, AreMade, IsMade, Lacks, OwnEntry, made_in, own_entries}
use Rattle.drive_kit.specs.Plans.{IsRowOf, calls_by}
use Rattle.drive_kit.specs.Playing.{AddsMade, BeginCalls, HasBegun, HasMade, HasPlayed, HoldsOne, IsAlone, IsAppended, IsOf, IsPlayed, IsReceiptOn, MayPlay, PlaysRow, PlaysRows, calls_seen, pass_of}
use Rattle.drive_kit.specs.declared.callers.Played.{Played}
use Rattle.drive_kit.specs.declared.scripts.ScriptRow.{ScriptRow}
use Rattle.drive_kit.specs.declared.stands.DrivenPass.{DrivenPass}
use Rattle.drive_kit.specs.declared.stands.Stand.{Stand}
use Rattle.drive_kit.proofs.CheckLemmas.{calls_by-append}
use Rattle.drive_kit.proofs.PartLemmas.{own_sees, own_entry, made_more, mark_of_made, made_part, made_alone, made_left, made_right, differ_both}

-- 1. Passes that stay the same
pub same_at_start : (p : LockPass) → HasNumber p.held p.caller → IsSamePass p p
same_at_start p own = record { table = refl; object = refl; callers = refl; caller = refl; held = refl; own = own }

pub same_on : (p q r : LockPass) → IsSamePass p q → IsSamePass q r → IsSamePass p r
same_on p q r a b = record {
  table = b.table ∙ a.table;
  object = b.object ∙ a.object;
  callers = b.callers ∙ a.callers;
  caller = b.caller ∙ a.caller;
  held = b.held ∙ a.held;
  own = b.own;
}

pub one_still : (p q : LockPass) → IsSamePass p q → HoldsOne p → HoldsOne q
one_still p q same one c has = one c (subst (λ (l : List Bool). HasNumber l c) same.held has) ∙ sym same.caller

-- 2. Calls that were made
pub calls_of_marks : (o : Object) (c : ℕ) (ms : List Made) → map (λ (x : EntryMark). x.call) (map (mark_of_made o c) ms) ≡ map call_of (map (λ (m : Made). m.call) ms)
calls_of_marks o c [] = refl
calls_of_marks o c (m ∷ ms) = ap (λ (l : List CallMark). call_of m.call ∷ l) (calls_of_marks o c ms)

-- the calls seen of a caller are those of its part
pub calls_seen_made : (on : Stand) (o : Object) (c : ℕ) (seen : List EntryMark) (ms : List Made) (calls : List Call) → AreMade (IsReceiptOn on) o c (own_entries c [] seen) ms → map (λ (m : Made). m.call) ms ≡ calls
    → calls_seen c seen ≡ map call_of calls
calls_seen_made on o c seen ms calls h is = ap (map (λ (x : EntryMark). x.call)) (made_part (IsReceiptOn on) o c seen ms h) ∙ (calls_of_marks o c ms ∙ ap (map call_of) is)

pub none_made_yet : (on : Stand) (p : LockPass) (own : PartMade) {caller : ℕ} → p.seen ≡ [] → own ≡ record { caller = caller; made = [] } → caller ≡ p.caller → HasMade on [] p own
none_made_yet on p own fresh is mine = subst (HasMade on [] p) (sym (is ∙ (λ i. record { caller = mine i; made = [] }))) (record {
  lawful = subst (λ (l : List EntryMark). IsLawful number_priority p.object p.callers l) (sym fresh) ((empty_state p.object, refl), tt);
  caller = refl;
  calls = refl;
  entries = subst (λ (l : List EntryMark). AreMade (IsReceiptOn on) p.object p.caller (own_entries p.caller [] l) []) (sym fresh) tt;
})

-- 3. One row more
one_row : (c : ℕ) (row : ScriptRow) → row.caller ≡ c → calls_by c (row ∷ []) ≡ row.call ∷ []
one_row c row is = let test : eqb row.caller c ≡ true = grind (arith, nat_tests) in rw test refl

no_row : (c : ℕ) (row : ScriptRow) → row.caller ≢ c → calls_by c (row ∷ []) ≡ []
no_row c row not = let test : eqb row.caller c ≡ false = grind (arith, nat_tests) in rw test refl

rows_and_one : (c : ℕ) (rows : List ScriptRow) (row : ScriptRow) → row.caller ≡ c → calls_by c (rows ++ row ∷ []) ≡ calls_by c rows ++ row.call ∷ []
rows_and_one c rows row is = calls_by-append c rows (row ∷ []) ∙ ap (λ (l : List Call). calls_by c rows ++ l) (one_row c row is)

rows_and_none : (c : ℕ) (rows : List ScriptRow) (row : ScriptRow) → row.caller ≢ c → calls_by c (rows ++ row ∷ []) ≡ calls_by c rows
rows_and_none c rows row not = calls_by-append c rows (row ∷ []) ∙ (ap (λ (l : List Call). calls_by c rows ++ l) (no_row c row not) ∙ append-nil (calls_by c rows))

-- where one number is held, what was begun speaks of that alone
begun_of : (rows : List ScriptRow) (q : LockPass) → HoldsOne q → IsLawful number_priority q.object q.callers q.seen → BeginCalls (calls_seen q.caller q.seen) (map call_of (calls_by q.caller rows)) → HasBegun rows q
begun_of rows q one lawful begin = record {
  lawful = lawful;
  calls = λ c has. subst (λ (k : ℕ). BeginCalls (calls_seen k q.seen) (map call_of (calls_by k rows))) (sym (one c has)) begin;
}

-- and what was made too
pub begun_by_made : (on : Stand) (rows : List ScriptRow) (p : LockPass) (own : PartMade) → HoldsOne p → HasMade on rows p own → HasBegun rows p
begun_by_made on rows p own one h = begun_of rows p one h.lawful ([], sym (calls_seen_made on p.object p.caller p.seen own.made (calls_by p.caller rows) h.entries h.calls) ∙ sym (append-nil (calls_seen p.caller p.seen)))

module _ (on : Stand) (rows : List ScriptRow) (row : ScriptRow) (p : LockPass) (own : PartMade) (h : HasMade on rows p own) where
  pub row_of_another : row.caller ≢ p.caller → HasMade on (rows ++ row ∷ []) p own
  row_of_another other = record { lawful = h.lawful; caller = h.caller; calls = h.calls ∙ sym (rows_and_none p.caller rows row other); entries = h.entries }

  module _ (q : LockPass) (same : IsSamePass p q) where
    has_own : HasNumber p.held p.caller
    has_own = subst (λ (z : List Bool × ℕ). HasNumber z.0 z.1) (λ i. (same.held i, same.caller i)) same.own

    module _ (m : Made) (mine : row.caller ≡ p.caller) (adds : AddsMade on p row.call m q) where
      abbrev e : EntryMark
      e = entry_of p.object (record { caller = p.caller; call = row.call; reply = m.reply })

      abbrev before : List EntryMark
      before = adds.1.0

      entries : AreMade (IsReceiptOn on) p.object p.caller (own_entries p.caller [] q.seen) (own.made ++ m ∷ [])
      entries =
          let x : OwnEntry = record { before = before; entry = e } in
          let is : IsMade (IsReceiptOn on) p.object p.caller x m = ((λ i. entry_of p.object (record { caller = p.caller; call = sym adds.0 i; reply = m.reply })), adds.1.3) in
          subst (λ (l : List OwnEntry). AreMade (IsReceiptOn on) p.object p.caller l (own.made ++ m ∷ [])) (sym (own_entry p.held p.seen before q.seen e has_own adds.1.1))
          (made_more (IsReceiptOn on) p.object p.caller (own_entries p.caller [] p.seen) x own.made m h.entries is)

      made_of : (more : PartMade) (o : Object) (n c : ℕ) → o ≡ p.object → n ≡ p.callers → c ≡ p.caller → more ≡ record { caller = own.caller; made = own.made ++ m ∷ [] }
          → (IsLawful number_priority o n q.seen) × (more.caller ≡ c) × (map (λ (x : Made). x.call) more.made ≡ calls_by c (rows ++ row ∷ [])) × AreMade (IsReceiptOn on) o c (own_entries c [] q.seen) more.made
      made_of more o n c a b d is = subst (λ (z : PartMade × Object × ℕ × ℕ). (IsLawful number_priority z.1 z.2 q.seen) × (z.0.caller ≡ z.3) × (map (λ (x : Made). x.call) z.0.made ≡ calls_by z.3 (rows ++ row ∷ [])) × AreMade (IsReceiptOn on) z.1 z.3 (own_entries z.3 [] q.seen) z.0.made)
          (λ i. (sym is i, sym a i, sym b i, sym d i))
          (adds.1.2, h.caller, map_push (λ (x : Made). x.call) own.made m ∙ ((λ i. h.calls i ++ adds.0 i ∷ []) ∙ sym (rows_and_one p.caller rows row mine)), entries)

      pub row_of_own : (more : PartMade) → more ≡ record { caller = own.caller; made = own.made ++ m ∷ [] } → HasMade on (rows ++ row ∷ []) q more
      row_of_own more is =
          let f = made_of more q.object q.callers q.caller same.object same.callers same.caller is in
          record { lawful = f.0; caller = f.1; calls = f.2; entries = f.3 }

    -- a call without an entry leaves the caller's calls as they were
    pub row_wanting : row.caller ≡ p.caller → HoldsOne p → AddsNoEntry number_priority p q → HasBegun (rows ++ row ∷ []) q
    row_wanting mine one none =
        let seen : calls_seen p.caller q.seen ≡ map call_of (calls_by p.caller rows) =
        ap (map (λ (x : EntryMark). x.call)) (part-sees p.held p.caller p.seen q.seen has_own none.seen) ∙ calls_seen_made on p.object p.caller p.seen own.made (calls_by p.caller rows) h.entries h.calls in
        let all : map call_of (calls_by p.caller (rows ++ row ∷ [])) ≡ calls_seen p.caller q.seen ++ call_of row.call ∷ [] =
        ap (map call_of) (rows_and_one p.caller rows row mine) ∙ (map_push call_of (calls_by p.caller rows) row.call ∙ ap (λ (l : List CallMark). l ++ call_of row.call ∷ []) (sym seen)) in
        begun_of (rows ++ row ∷ []) q (one_still p q same one)
        (subst (λ (z : Object × ℕ). IsLawful number_priority z.0 z.1 q.seen) (λ i. (sym same.object i, sym same.callers i)) none.lawful)
        (call_of row.call ∷ [], subst (λ (c : ℕ). map call_of (calls_by c (rows ++ row ∷ [])) ≡ calls_seen c q.seen ++ call_of row.call ∷ []) (sym same.caller) all)

-- what was begun of the first rows was begun of all
pub begun_more : (rows more : List ScriptRow) (p : LockPass) → HasBegun rows p → HasBegun (rows ++ more) p
begun_more rows more p h = record {
  lawful = h.lawful;
  calls = λ c has. (
    (h.calls c has).0 ++ map call_of (calls_by c more),
    ap (map call_of) (calls_by-append c rows more) ∙ (map-append call_of (calls_by c rows) (calls_by c more)
        ∙ (ap (λ (l : List CallMark). l ++ map call_of (calls_by c more)) (h.calls c has).1 ∙ append_assoc (calls_seen c p.seen) (h.calls c has).0 (map call_of (calls_by c more)))),
  );
}

rows_first : (rows : List ScriptRow) (i : ℕ) (row : ScriptRow) → i < length rows → row ≡ get_or rows i row → take (i + 1) rows ≡ take i rows ++ row ∷ []
rows_first rows i row lt is = take_more rows i row lt ∙ ap (λ (z : ScriptRow). take i rows ++ z ∷ []) (sym is)

pub rows_more : (on : Stand) (rows : List ScriptRow) (i : ℕ) (row : ScriptRow) (p : LockPass) (own : PartMade) → i < length rows → row ≡ get_or rows i row
    → HasMade on (take i rows ++ row ∷ []) p own → HasMade on (take (i + 1) rows) p own
rows_more on rows i row p own lt is h = subst (λ (l : List ScriptRow). HasMade on l p own) (sym (rows_first rows i row lt is)) h

pub rows_begun : (rows : List ScriptRow) (i : ℕ) (row : ScriptRow) (p : LockPass) → i < length rows → row ≡ get_or rows i row → HasBegun (take i rows ++ row ∷ []) p → HasBegun rows p
rows_begun rows i row p lt is h =
    subst (λ (l : List ScriptRow). HasBegun l p) (take-append-drop (i + 1) rows)
    (begun_more (take (i + 1) rows) (drop (i + 1) rows) p (subst (λ (l : List ScriptRow). HasBegun l p) (sym (rows_first rows i row lt is)) h))

-- a row for which no memory was found ends the rows
pub row_begun : (on : Stand) (rows : List ScriptRow) (i : ℕ) (row : ScriptRow) (p q : LockPass) (own more : PartMade) (want : NoMemory) → i < length rows → row ≡ get_or rows i row
    → (r : Result Unit NoMemory) → r ≡ Err want → PlaysRow on row p own q more r → HasMade on (take i rows) p own → HasBegun rows q
row_begun on rows i row p q own more want lt is r err plays h = rows_begun rows i row q lt is (subst (PlaysRow on row p own q more) err plays (take i rows) h)

-- the row's call is one that the pass's object has
pub row_call : (rows : List ScriptRow) (i : ℕ) (row : ScriptRow) (p q : LockPass) → IsSamePass p q → All (IsRowOf (kind_of p.object)) rows → i < length rows → row ≡ get_or rows i row → IsCallOf (kind_of q.object) row.call
row_call rows i row p q same are lt is =
    let here : IsRowOf (kind_of p.object) row = subst (IsRowOf (kind_of p.object)) (sym is) (are i row lt) in
    subst (λ (o : Object). IsCallOf (kind_of o) row.call) (sym same.object) here.of_kind

-- a caller's part alone
pub played_alone : (on : Stand) (rows : List ScriptRow) (p : LockPass) (own : PartMade) → HasNumber p.held p.caller → HoldsOne p → HasMade on rows p own → HasPlayed on rows p (own ∷ [])
played_alone on rows p own has one h =
    let alone : made_in (own ∷ []) p.caller ≡ own.made = subst (λ (c : ℕ). made_in (own ∷ []) c ≡ own.made) h.caller (made_alone own) in
    record {
      lawful = h.lawful;
      held = (subst (HasNumber p.held) (sym h.caller) has, tt);
      differ = (tt, tt);
      calls = λ c holds. subst (λ (k : ℕ). map (λ (m : Made). m.call) (made_in (own ∷ []) k) ≡ calls_by k rows) (sym (one c holds)) (ap (map (λ (m : Made). m.call)) alone ∙ h.calls);
      entries = λ c holds. subst (λ (k : ℕ). AreMade (IsReceiptOn on) p.object k (own_entries k [] p.seen) (made_in (own ∷ []) k)) (sym (one c holds))
          (subst (λ (l : List Made). AreMade (IsReceiptOn on) p.object p.caller (own_entries p.caller [] p.seen) l) (sym alone) h.entries);
    }

-- 4. Two passes made one
held_at : (held : List Bool) (parts : List PartMade) → AreHeld held parts → (i : ℕ) (x : PartMade) → slice_get parts i ≡ Some x → HasNumber held x.caller
held_at held [] h i x at = absurd (none-some x at)
held_at held (y ∷ parts) h zero x at = subst (λ (z : PartMade). HasNumber held z.caller) (same_Some y x at) h.0
held_at held (y ∷ parts) h (suc i) x at = held_at held parts h.1 i x at

-- a number of the one has no part of the other
pub lacks_other : (held : List Bool) (c : ℕ) (parts : List PartMade) → AreHeld held parts → ¬ HasNumber held c → Lacks c parts
lacks_other held c [] h not = tt
lacks_other held c (x ∷ parts) h not = ((λ is. not (subst (HasNumber held) is h.0)), lacks_other held c parts h.1 not)

held_more : (a b : List Bool) (parts : List PartMade) → ((c : ℕ) → HasNumber a c → HasNumber b c) → AreHeld a parts → AreHeld b parts
held_more a b [] more h = tt
held_more a b (x ∷ parts) more h = (more x.caller h.0, held_more a b parts more h.1)

held_append : (held : List Bool) (xs ys : List PartMade) → AreHeld held xs → AreHeld held ys → AreHeld held (xs ++ ys)
held_append held [] ys h k = k
held_append held (x ∷ xs) ys h k = (h.0, held_append held xs ys h.1 k)

module _ (rows : List ScriptRow) (p other q : LockPass) (joins : Joins number_priority p other q) (alike : other.object ≡ p.object) where
  both_is : q.held ≡ held_both p.held other.held
  both_is = ap (λ (z : LockPass). z.held) joins.joined

  object_is : q.object ≡ p.object
  object_is = ap (λ (z : LockPass). z.object) joins.joined

  -- what holds of each number of either pass holds of each of both
  of_both : {P : ℕ → Type 0} → ((c : ℕ) → HasNumber p.held c → P c) → ((c : ℕ) → HasNumber other.held c → P c) → (c : ℕ) → HasNumber q.held c → P c
  of_both {P} h k c has = by_flag (get_or other.held c false) (k c) (λ down. h c (both_up p.held other.held c (subst (λ (l : List Bool). HasNumber l c) both_is has) down))

  pub begun_by_both : HasBegun rows p → HasBegun rows other → HasBegun rows q
  begun_by_both h k = record {
    lawful = joins.lawful;
    calls = of_both {P = λ c. BeginCalls (calls_seen c q.seen) (map call_of (calls_by c rows))}
        (λ c has. subst (λ (l : List EntryMark). BeginCalls (map (λ (x : EntryMark). x.call) l) (map call_of (calls_by c rows))) (sym (part-sees p.held c p.seen q.seen has joins.first)) (h.calls c has))
        (λ c has. subst (λ (l : List EntryMark). BeginCalls (map (λ (x : EntryMark). x.call) l) (map call_of (calls_by c rows))) (sym (part-sees other.held c other.seen q.seen has joins.second)) (k.calls c has));
  }

  module _ (on : Stand) (a b : List PartMade) (h : HasPlayed on rows p a) (k : HasPlayed on rows other b) where
    left : (c : ℕ) → HasNumber p.held c → made_in (a ++ b) c ≡ made_in a c
    left c has = made_left c a b (lacks_other other.held c b k.held (joins.apart c has))

    right : (c : ℕ) → HasNumber other.held c → made_in (a ++ b) c ≡ made_in b c
    right c has = made_right c a b (lacks_other p.held c a h.held (λ mine. joins.apart c mine has))

    in_first : (c : ℕ) → HasNumber p.held c → AreMade (IsReceiptOn on) q.object c (own_entries c [] q.seen) (made_in (a ++ b) c)
    in_first c has = subst (λ (z : Object × List OwnEntry × List Made). AreMade (IsReceiptOn on) z.0 c z.1 z.2) (λ i. (sym object_is i, sym (own_sees c p.held p.seen q.seen has joins.first) i, sym (left c has) i)) (h.entries c has)

    in_second : (c : ℕ) → HasNumber other.held c → AreMade (IsReceiptOn on) q.object c (own_entries c [] q.seen) (made_in (a ++ b) c)
    in_second c has = subst (λ (z : Object × List OwnEntry × List Made). AreMade (IsReceiptOn on) z.0 c z.1 z.2) (λ i. (sym (object_is ∙ sym alike) i, sym (own_sees c other.held other.seen q.seen has joins.second) i, sym (right c has) i)) (k.entries c has)

    pub played_by_both : HasPlayed on rows q (a ++ b)
    played_by_both = record {
      lawful = joins.lawful;
      held = held_append q.held a b
          (held_more p.held q.held a (λ c has. subst (λ (l : List Bool). HasNumber l c) (sym both_is) (both_left p.held other.held c has)) h.held)
          (held_more other.held q.held b (λ c has. subst (λ (l : List Bool). HasNumber l c) (sym both_is) (both_right p.held other.held c has)) k.held);
      differ = differ_both a b h.differ k.differ (λ i x at. lacks_other other.held x.caller b k.held (joins.apart x.caller (held_at p.held a h.held i x at)));
      calls = of_both {P = λ c. map (λ (m : Made). m.call) (made_in (a ++ b) c) ≡ calls_by c rows}
          (λ c has. ap (map (λ (m : Made). m.call)) (left c has) ∙ h.calls c has)
          (λ c has. ap (map (λ (m : Made). m.call)) (right c has) ∙ k.calls c has);
      entries = of_both {P = λ c. AreMade (IsReceiptOn on) q.object c (own_entries c [] q.seen) (made_in (a ++ b) c)} in_first in_second;
    }

-- 5. Numbers given away and taken in
module _ (p p' q : LockPass) (s : Splits p p' q) (inside : q.caller < 64) where
  pub kept_own : HasNumber p.held p.caller → HasNumber p'.held p'.caller
  kept_own own =
      let held_is : p'.held ≡ give p.held q.caller = ap (λ (z : LockPass). z.held) s.kept in
      let caller_is : p'.caller ≡ p.caller = ap (λ (z : LockPass). z.caller) s.kept in
      subst (λ (z : List Bool × ℕ). HasNumber z.0 z.1) (λ i. (sym held_is i, sym caller_is i)) (flag_else p.held q.caller p.caller (λ is. s.spare.1 (sym is)) false ∙ own)

  -- one number fewer is left
  pub fewer_left : held_count p'.held + 1 ≡ held_count p.held
  fewer_left = let held_is : p'.held ≡ give p.held q.caller = ap (λ (z : LockPass). z.held) s.kept in ap (λ (l : List Bool). held_count l + 1) held_is ∙ held_count-give p.held q.caller s.spare.0

  pub given_own : HasNumber q.held q.caller
  given_own = let held_is : q.held ≡ only q.caller = ap (λ (z : LockPass). z.held) s.given in subst (λ (l : List Bool). HasNumber l q.caller) (sym held_is) (only_has q.caller inside)

  pub given_one : HoldsOne q
  given_one c has = let held_is : q.held ≡ only q.caller = ap (λ (z : LockPass). z.held) s.given in only_one q.caller c (subst (λ (l : List Bool). HasNumber l c) held_is has)

  -- no number is lost where one is split off and taken in again
  pub keeps_all : (rest mine r : LockPass) → ((c : ℕ) → HasNumber q.held c → HasNumber mine.held c) → ((c : ℕ) → HasNumber p'.held c → HasNumber rest.held c)
      → Joins number_priority rest mine r → (c : ℕ) → HasNumber p.held c → HasNumber r.held c
  keeps_all rest mine r mine_keeps rest_keeps j c has =
      let both : r.held ≡ held_both rest.held mine.held = ap (λ (z : LockPass). z.held) j.joined in
      let held_is : p'.held ≡ give p.held q.caller = ap (λ (z : LockPass). z.held) s.kept in
      subst (λ (l : List Bool). HasNumber l c) (sym both) (
      dite (ℕ_discrete c q.caller)
      (λ (is : c ≡ q.caller). both_right rest.held mine.held c (subst (λ (k : ℕ). HasNumber mine.held k) (sym is) (mine_keeps q.caller given_own)))
      (λ (ne : c ≢ q.caller). both_left rest.held mine.held c (rest_keeps c (subst (λ (l : List Bool). HasNumber l c) (sym held_is) (flag_else p.held q.caller c ne false ∙ has)))))

-- a pass without a number to spare holds its own alone
pub none_to_spare : (p : LockPass) → HasNumber p.held p.caller → ¬ (1 < held_count p.held) → HoldsOne p
none_to_spare p own none c has = dite (ℕ_discrete c p.caller)
    (λ (is : c ≡ p.caller). is)
    (λ (ne : c ≢ p.caller).
    let left = held_count-give p.held p.caller own in
    let some = held_count-some (give p.held p.caller) c (flag_else p.held p.caller c ne false ∙ has) in
    absurd (none (omega (arith, left, some))))

-- 6. Who may play, and what is then played
module _ (on : Stand) (rows : List ScriptRow) (pass : DrivenPass) (may : MayPlay on rows pass) where
  pub rest_may : (q : LockPass) (pass' : DrivenPass) → IsOf on pass' → q.caller < 64 → Splits (pass_of pass) (pass_of pass') q → MayPlay on rows pass'
  rest_may q pass' of inside s = record {
    of = of;
    rows_of = subst (λ (o : Object). All (IsRowOf (kind_of o)) rows) (sym (ap (λ (z : LockPass). z.object) s.kept)) may.rows_of;
    own = kept_own (pass_of pass) (pass_of pass') q s inside may.own;
    fresh = ap (λ (z : LockPass). z.seen) s.kept ∙ may.fresh;
  }

  pub other_may : (p' : LockPass) (other : DrivenPass) → IsOf on other → (pass_of other).caller < 64 → Splits (pass_of pass) p' (pass_of other) → MayPlay on rows other
  other_may p' other of inside s = record {
    of = of;
    rows_of = subst (λ (o : Object). All (IsRowOf (kind_of o)) rows) (sym (ap (λ (z : LockPass). z.object) s.given)) may.rows_of;
    own = given_own (pass_of pass) p' (pass_of other) s inside;
    fresh = ap (λ (z : LockPass). z.seen) s.given ∙ may.fresh;
  }

gathered : (on : Stand) (rows : List ScriptRow) (p other q : LockPass) → Joins number_priority p other q → other.object ≡ p.object
    → (made more all : Result (Vec PartMade Global) NoMemory) → IsAppended made more all
    → IfOk made (λ v. HasPlayed on rows p v.items) → IfOk more (λ v. HasPlayed on rows other v.items) → IfOk all (λ v. HasPlayed on rows q v.items)
gathered on rows p other q joins alike made more (Err e) is h k = tt
gathered on rows p other q joins alike (Ok v) (Ok w) (Ok all) is h k = subst (HasPlayed on rows q) (sym is) (played_by_both rows p other q joins alike on v.items w.items h k)
gathered on rows p other q joins alike (Ok v) (Err e) (Ok all) is h k = absurd is
gathered on rows p other q joins alike (Err e) more (Ok all) is h k = absurd is

pub all_played : (on : Stand) (rows : List ScriptRow) (p p' q : LockPass) → Splits p p' q → q.caller < 64 → (first rest all : Played) → IsPlayed on rows q first → IsPlayed on rows p' rest
    → IsOf on all.pass → Joins number_priority (pass_of rest.pass) (pass_of first.pass) (pass_of all.pass) → IsAppended rest.made first.made all.made → IsPlayed on rows p all
all_played on rows p p' q s inside first rest all h k of joins appended =
    let rest_object : (pass_of rest.pass).object ≡ p.object = k.object ∙ ap (λ (z : LockPass). z.object) s.kept in
    let first_object : (pass_of first.pass).object ≡ p.object = h.object ∙ ap (λ (z : LockPass). z.object) s.given in
    record {
      of = of;
      object = ap (λ (z : LockPass). z.object) joins.joined ∙ rest_object;
      callers = ap (λ (z : LockPass). z.callers) joins.joined ∙ (k.callers ∙ ap (λ (z : LockPass). z.callers) s.kept);
      keeps = keeps_all p p' q s inside (pass_of rest.pass) (pass_of first.pass) (pass_of all.pass) h.keeps k.keeps joins;
      begun = begun_by_both rows (pass_of rest.pass) (pass_of first.pass) (pass_of all.pass) joins (first_object ∙ sym rest_object) k.begun h.begun;
      made = gathered on rows (pass_of rest.pass) (pass_of first.pass) (pass_of all.pass) joins (first_object ∙ sym rest_object) rest.made first.made all.made appended k.made h.made;
    }

-- a row, or all rows, for which no memory was found
pub row_unpaid : (on : Stand) (row : ScriptRow) (p : LockPass) (own : PartMade) (q : LockPass) (more : PartMade) (r : Result Unit NoMemory) → IsErr r → ((rows : List ScriptRow) → HasMade on rows p own → HasBegun (rows ++ row ∷ []) q) → PlaysRow on row p own q more r
row_unpaid on row p own q more (Ok done) is begun = absurd (true≢false (sym is))
row_unpaid on row p own q more (Err want) is begun = begun

pub rows_unpaid : (on : Stand) (rows : List ScriptRow) (p : LockPass) (r : Result PartMade NoMemory) → IsErr r → HasBegun rows p → PlaysRows on rows p r
rows_unpaid on rows p (Ok own) is begun = absurd (true≢false (sym is))
rows_unpaid on rows p (Err want) is begun = begun

-- what a worker leaves
pub own_played : (on : Stand) (rows : List ScriptRow) (p : LockPass) (played : Played) (own : Result PartMade NoMemory) → HasNumber p.held p.caller → HoldsOne p → IsOf on played.pass → IsSamePass p (pass_of played.pass)
    → PlaysRows on rows (pass_of played.pass) own → IsAlone own played.made → IsPlayed on rows p played
own_played on rows p played own has one of same plays alone = record {
  of = of;
  object = same.object;
  callers = same.callers;
  keeps = λ c holds. subst (λ (l : List Bool). HasNumber l c) (sym same.held) holds;
  begun = begun own plays;
  made = made own played.made plays alone;
}
  where
    still : HoldsOne (pass_of played.pass)
    still = one_still p (pass_of played.pass) same one

    begun : (own : Result PartMade NoMemory) → PlaysRows on rows (pass_of played.pass) own → HasBegun rows (pass_of played.pass)
    begun (Ok x) h = begun_by_made on rows (pass_of played.pass) x still h
    begun (Err e) h = h

    made : (own : Result PartMade NoMemory) (all : Result (Vec PartMade Global) NoMemory) → PlaysRows on rows (pass_of played.pass) own → IsAlone own all → IfOk all (λ v. HasPlayed on rows (pass_of played.pass) v.items)
    made (Ok x) (Ok v) h is = subst (HasPlayed on rows (pass_of played.pass)) (sym is) (played_alone on rows (pass_of played.pass) x same.own still h)
    made own (Err e) h is = tt
    made (Err e) (Ok v) h is = absurd is
