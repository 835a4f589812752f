-- A snapshot's kinds of step, as the table asks for them: no more windows lie over a segment than there are callers.
use Rattle.std.proofs.Common.{◌≡◌, ℕ, zero, suc, ◌+◌, ◌-◌, ◌%◌, ◌^◌, ◌<◌, ◌≤◌, ◌≢◌, ◌⊎◌, ⊎_elim, inl, inr, leb, ltb, cond, Bool, true, false, ◌&&◌, List, [], ◌∷◌, ◌++◌, get_or, set, map, drop, sym, refl, ap, ◌∙◌, subst, arith, le_refl, mod-eq_of_lt, eq-eqb, ne_eqb}
use Rattle.std.proofs.lemmas.Bool.{cases_eq, cases_Bool, le-leb, leb-true}
use mathlib.Core.Option.{some, none}
use lib.ListN.{get_elem?}
use lib.Seq.{set-get_or}
use Rattle.std.specs.Prelude.{Option, Some, None, IfSome}
use Rattle.atomic_table.specs.Table.{State, Me, keeps, stepped, step, Allows}
use Rattle.ho_base.specs.Marks.{number_of, number_priority}
use Rattle.ho_model.specs.declared.marks.EntryMark.{EntryMark}
use Rattle.ho_model.specs.declared.marks.CallMark.TheVariants.{Snap}
use Rattle.ho_model.specs.declared.marks.ReplyMark.TheVariants.{Numbers}
use Rattle.ho_model.specs.Entries.{entry}
use Rattle.passes.specs.Numbers.{HasNumber}
use Rattle.passes.specs.Seen.{IsLawful}
use Rattle.seg_rule.specs.declared.form.Form.{Form}
use Rattle.seg_rule.specs.declared.word.QueueWord.TheVariants.{Head, Observers}
use Rattle.seg_rule.specs.declared.view.View.{View}
use Rattle.seg_rule.specs.declared.view.Window.{Window}
use Rattle.seg_rule.specs.declared.view.Stage.TheVariants.{Closed, Observing}
use Rattle.seg_rule.specs.Words.{Memory, memory, update, index_of, IsWord}
use Rattle.seg_rule.specs.Rule.{ViewOk, NextAt, WindowOk, WindowFact, WindowOwned, StageOk, Kept, Rule, watched, watches, in_range, flag, total}
use Rattle.seg_rule.specs.Steps.{blank, count_made}
use Rattle.seg_rule.specs.Snapshots.{MayObserve, Observes, ObservesFrom, observing, first_of, MayLookAll, Snaps, snap_of, window_over, tail_at, looked_stage, looked_window, MayEnd, ended, rest_of, without_first, observes, snaps, ends}
use Rattle.std.proofs.Math.Nat.{add-mod_right}
use Rattle.seg_rule.proofs.Spans.{range_is}
use Rattle.seg_rule.proofs.Sums.{total_part}
use Rattle.seg_rule.proofs.Words.{at_word}
use Rattle.seg_rule.proofs.Frames.{rule_after}
use Rattle.seg_rule.proofs.Object.{snap_next}
use Rattle.seg_rule.proofs.Lawful.{entry_lawful, put_counted, taken_counted}
use Rattle.seg_rule.proofs.Allowed.{at_index, head_word}
use Rattle.seg_rule.proofs.Windows.{first_observed_kept, next_observed_kept, head_looked, more_left_kept, none_left_kept}

-- How many windows there are.

-- how many numbers below n are of seats from i on
abbrev owners : (ℕ → ℕ) → ℕ → ℕ → ℕ
owners owner i zero = 0
owners owner i (suc n) = flag (leb i (owner n)) + owners owner i n

flag_few : (b : Bool) → flag b ≤ 1
flag_few true = omega arith
flag_few false = omega arith

owners_few : (owner : ℕ → ℕ) (i n : ℕ) → owners owner i n ≤ n
owners_few owner i zero = omega arith
owners_few owner i (suc n) = let a = flag_few (leb i (owner n)) in let b = owners_few owner i n in omega arith

flag_up : (a b : Bool) → (a ≡ true → b ≡ true) → flag a ≤ flag b
flag_up true b f = subst (λ z. 1 ≤ flag z) (sym (f refl)) (omega arith)
flag_up false b f = omega arith

later : (i x : ℕ) → flag (leb (suc i) x) ≤ flag (leb i x)
later i x = flag_up (leb (suc i) x) (leb i x) (λ e. le-leb i x (let l = leb-true (suc i) x e in omega arith))

owners_later : (owner : ℕ → ℕ) (i n : ℕ) → owners owner (suc i) n ≤ owners owner i n
owners_later owner i zero = omega arith
owners_later owner i (suc n) = let a = later i (owner n) in let b = owners_later owner i n in omega arith

-- a seat that owns a number counts
owner_counts : (owner : ℕ → ℕ) (i n c : ℕ) → c < n → owner c ≡ i → suc (owners owner (suc i) n) ≤ owners owner i n
owner_counts owner i zero c l e = absurd (omega arith)
owner_counts owner i (suc n) c l e = ⊎_elim
    (λ (s : c ≡ n). let e' : owner n ≡ i = ap owner (sym s) ∙ e in
    let here : flag (leb i (owner n)) ≡ 1 = ap flag (le-leb i (owner n) (omega arith)) in
    let gone : flag (leb (suc i) (owner n)) ≡ 0 = none_above e' (leb (suc i) (owner n)) refl in
    let b = owners_later owner i n in omega arith)
    (λ (ne : c ≢ n). let a = later i (owner n) in let b = owner_counts owner i n c (omega arith) e in omega arith)
    (cases_eq c n)
  where
    none_above : owner n ≡ i → (b : Bool) → leb (suc i) (owner n) ≡ b → flag b ≡ 0
    none_above e true s = let l = leb-true (suc i) (owner n) s in absurd (omega arith)
    none_above e false s = refl

-- a sum over views of which each part is of a seat with a number of its own
few_parts : (owner : ℕ → ℕ) (n : ℕ) (part : View → ℕ) (i : ℕ) (views : List View)
    → ((j : ℕ) (v : View) → get_elem? views j ≡ some v → (part v ≡ 0) ⊎ ((part v ≡ 1) × ((c : ℕ) × (c < n) × (owner c ≡ i + j))))
    → total part views ≤ owners owner i n
few_parts owner n part i [] own = omega arith
few_parts owner n part i (v ∷ vs) own =
    let rest = few_parts owner n part (suc i) vs (λ j u e. ⊎_elim (λ (z : part u ≡ 0). inl z) (λ (z : (part u ≡ 1) × ((c : ℕ) × (c < n) × (owner c ≡ i + suc j))). inr (z.0, (z.1.0, z.1.1, (let y = z.1.2 in let y' : owner z.1.0 ≡ suc i + j = omega arith in y')))) (own (suc j) u e)) in
    ⊎_elim
    (λ (z : part v ≡ 0). let l = owners_later owner i n in omega arith)
    (λ (z : (part v ≡ 1) × ((c : ℕ) × (c < n) × (owner c ≡ i + 0))). let l = owner_counts owner i n z.1.0 z.1.1 (let y = z.1.2 in omega arith) in let o = z.0 in omega arith)
    (own 0 v refl)

pub few_windows : (f : Form) (m : Memory) (views : List View) (k : Kept f m views) (n : ℕ) → k.g.watch n ≤ 64
few_windows f m views k n =
    let a = few_parts k.g.owner f.callers (watches n) 0 views (λ j u e. own j u (u.window) refl (k.seats.each j u e)) in let b = owners_few k.g.owner 0 f.callers in let w = k.seats.watch_is n in let c = k.words.calls.small in omega arith
  where
    own : (j : ℕ) (u : View) (w : Option Window) → u.window ≡ w → ViewOk f k.g j u → (watches n u ≡ 0) ⊎ ((watches n u ≡ 1) × ((c : ℕ) × (c < f.callers) × (k.g.owner c ≡ 0 + j)))
    own j u None is ok = inl (ap (λ z. flag (in_range n z)) is)
    own j u (Some o) is ok = ⊎_elim
        (λ (e : in_range n (Some o) ≡ true). let h = ok.holds.owns u.caller (subst (WindowOwned (HasNumber u.held u.caller)) is ok.owned) in inr (ap (λ z. flag (in_range n z)) is ∙ ap flag e, (u.caller, h.1, (let o = h.0 in let o' : k.g.owner u.caller ≡ 0 + j = omega arith in o'))))
        (λ (e : in_range n (Some o) ≡ false). inl (ap (λ z. flag (in_range n z)) is ∙ ap flag e))
        (cases_Bool (in_range n (Some o)))

few_watched : (watch : ℕ → ℕ) → ((n : ℕ) → watch n ≤ 64) → (h : ℕ) → watched watch h ≤ 64
few_watched watch few zero = omega arith
few_watched watch few (suc n) = few n

-- The kinds of step.

pub observers_word : (f : Form) (q : ℕ) → q < f.places → IsWord f.places f.slots (Observers q)
observers_word f q a = (omega arith, omega arith)

module _ (f : Form) (slots id : ℕ) (me : Me ℕ View) where
  abbrev mem : State ℕ View → Memory
  mem s = memory f.places f.slots s.words

  -- the view after observe add, and that it keeps the rule
  observed_by : (s : State ℕ View) (k : Kept f (mem s) s.views) → get_elem? s.views id ≡ some me.0 → (r : ℕ) → MayObserve me.0 r
      → (w : View) × Kept f (update (mem s) (Observers r) (mem s (Observers r) + 1)) (set s.views id w) × Observes me.0 r w
  observed_by s k at r (inl may) =
      let ok = k.seats.each id me.0 at in
      let st : StageOk k.g id (HasNumber me.0.held me.0.caller) me.0.caller (Closed may.current may.tail may.full) = subst (StageOk k.g id (HasNumber me.0.held me.0.caller) me.0.caller) may.stage ok.stage in
      let here : (k.g.segs k.g.low).place ≡ r = subst (λ (z : Option ℕ). IfSome z (λ p. (k.g.segs k.g.low).place ≡ p)) may.first (ok.notes.scan st.0.0).first in (
        observing me.0 may.current may.tail k.g.low k.g.low r r,
        first_observed_kept f (mem s) s.views id me.0 k at may.current may.tail r may.full may.stage may.none here,
        subst (λ z. ObservesFrom z me.0 r (observing me.0 may.current may.tail k.g.low k.g.low r r)) (sym may.stage) (k.g.low, refl),
      )
  observed_by s k at r (inr may) =
      let ok = k.seats.each id me.0 at in
      let st : StageOk k.g id (HasNumber me.0.held me.0.caller) me.0.caller (Observing may.current may.tail may.seen.begin may.segment may.place) = subst (StageOk k.g id (HasNumber me.0.held me.0.caller) me.0.caller) may.stage ok.stage in
      let next : NextAt k.g (may.place, r) = subst (λ (z : Option (ℕ × ℕ)). IfSome z (NextAt k.g)) may.next (ok.notes.scan st.0.0).next in
      let w : View = observing me.0 may.current may.tail may.seen.begin (suc may.segment) may.seen.first r in (
        w,
        next_observed_kept f (mem s) s.views id me.0 k at may.seen may.current may.tail may.segment may.place r may.stage may.there may.ends may.other next,
        subst (λ z. ObservesFrom z me.0 r w) (sym may.stage) (subst (λ (z : Option Window). w ≡ observing me.0 may.current may.tail may.seen.begin (suc may.segment) (first_of z) r) (sym may.there) refl),
      )

  observe_allowed : (r : ℕ) → r < f.places → MayObserve me.0 r → Allows (Rule f) slots id me (index_of f.slots (Observers r)) (λ x. (x + 1) % 2 ^ 64) (observes r (step slots (index_of f.slots (Observers r)) 1 0 none) me)
  observe_allowed r near may s rule wide at small =
      let x : ℕ = get_or s.words (index_of f.slots (Observers r)) 0 in let k = rule.kept in
      let now : mem s (Observers r) ≡ x = at_word f.places f.slots s.words (Observers r) (observers_word f r near) in
      let few : mem s (Observers r) ≤ 64 = subst (λ z. z ≤ 64) (sym (k.words.observers r near)) (few_watched k.g.watch (few_windows f (mem s) s.views k) (k.g.home r)) in
      let same : mem s (Observers r) + 1 ≡ (x + 1) % 2 ^ 64 = ap (λ z. z + 1) now ∙ sym (mod-eq_of_lt (let z : x + 1 < 2 ^ 64 = omega arith in z)) in
      let a = observed_by s k at r may in (
        a.0,
        keeps,
        tt,
        subst (λ z. Rule f (stepped s (index_of f.slots (Observers r)) z id me.1 a.0 keeps)) same (rule_after f s rule id (Observers r) (mem s (Observers r) + 1) me.1 a.0 (observers_word f r near) a.1),
        (a.2, refl),
      )

  -- the view after observe end
  ended_by : (s : State ℕ View) (k : Kept f (mem s) s.views) → get_elem? s.views id ≡ some me.0 → (r : ℕ) → MayEnd me.0 r
      → Kept f (update (mem s) (Observers r) (mem s (Observers r) - 1)) (set s.views id (without_first me.0))
  ended_by s k at r may =
      let o : Window = may.seen in
      subst (λ (z : ℕ). Kept f (update (mem s) (Observers z) (mem s (Observers z) - 1)) (set s.views id (without_first me.0))) may.first
      (subst (λ (z : Option Window). Kept f (update (mem s) (Observers o.first) (mem s (Observers o.first) - 1)) (set s.views id (record me.0 { window = ended z }))) (sym may.there)
      (⊎_elim
      (λ (e : o.first ≡ o.last). subst (λ (b : Bool). Kept f (update (mem s) (Observers o.first) (mem s (Observers o.first) - 1)) (set s.views id (record me.0 { window = cond b None (rest_of o o.after) }))) (sym (eq-eqb o.first o.last e))
      (none_left_kept f (mem s) s.views id me.0 k at o may.there e))
      (λ (ne : o.first ≢ o.last). let n = may.next ne in subst (λ (b : Bool). Kept f (update (mem s) (Observers o.first) (mem s (Observers o.first) - 1)) (set s.views id (record me.0 { window = cond b None (rest_of o o.after) }))) (sym (ne_eqb o.first o.last ne))
      (subst (λ (z : Option ℕ). Kept f (update (mem s) (Observers o.first) (mem s (Observers o.first) - 1)) (set s.views id (record me.0 { window = rest_of o z }))) (sym n.1)
      (more_left_kept f (mem s) s.views id me.0 k at o n.0 may.there ne n.1)))
      (cases_eq o.first o.last)))

  -- somebody observes the first place of a window
  some_observer : (s : State ℕ View) (k : Kept f (mem s) s.views) → get_elem? s.views id ≡ some me.0 → (r : ℕ) → r < f.places → MayEnd me.0 r → 1 ≤ mem s (Observers r)
  some_observer s k at r near may =
      let o : Window = may.seen in let ok = k.seats.each id me.0 at in let x : WindowOk k.g o = subst (WindowFact k.g) may.there ok.window in
      let first : (leb o.begin o.begin && ltb o.begin o.end) ≡ true = range_is o.begin o.end o.begin (le_refl _) x.some in
      let part = total_part (watches o.begin) s.views id me.0 at in let w = k.seats.watch_is o.begin in
      let one : watches o.begin me.0 ≡ 1 = ap (λ z. flag (in_range o.begin z)) may.there ∙ ap flag first in
      let home : k.g.home r ≡ suc o.begin = ap k.g.home (sym (x.first x.some ∙ may.first)) ∙ (x.opened o.begin first).1 in
      subst (λ z. 1 ≤ z) (sym (k.words.observers r near ∙ ap (watched k.g.watch) home)) (omega arith)

  end_allowed : (r : ℕ) → r < f.places → MayEnd me.0 r → Allows (Rule f) slots id me (index_of f.slots (Observers r)) (λ x. (x + (2 ^ 64 - 1)) % 2 ^ 64) (ends (step slots (index_of f.slots (Observers r)) 1 0 none) me)
  end_allowed r near may s rule wide at small =
      let x : ℕ = get_or s.words (index_of f.slots (Observers r)) 0 in let k = rule.kept in
      let now : mem s (Observers r) ≡ x = at_word f.places f.slots s.words (Observers r) (observers_word f r near) in
      let some' = some_observer s k at r near may in
      let low : mem s (Observers r) - 1 ≡ (x + (2 ^ 64 - 1)) % 2 ^ 64 = less (mem s (Observers r)) x now some' small in (
        without_first me.0,
        keeps,
        tt,
        subst (λ z. Rule f (stepped s (index_of f.slots (Observers r)) z id me.1 (without_first me.0) keeps)) low (rule_after f s rule id (Observers r) (mem s (Observers r) - 1) me.1 (without_first me.0) (observers_word f r near) (ended_by s k at r may)),
        refl,
      )
    where
      less : (y x : ℕ) → y ≡ x → 1 ≤ y → x < 2 ^ 64 → y - 1 ≡ (x + (2 ^ 64 - 1)) % 2 ^ 64
      less y x e l s = let z : x + (2 ^ 64 - 1) ≡ (x - 1) + 2 ^ 64 = omega arith in let w : y - 1 ≡ x - 1 = omega arith in w ∙ (sym (mod-eq_of_lt (let q : x - 1 < 2 ^ 64 = omega arith in q)) ∙ (sym (add-mod_right (x - 1) (2 ^ 64)) ∙ ap (λ z. z % 2 ^ 64) (sym z)))

  -- the view after head look
  snapped_by : (s : State ℕ View) (k : Kept f (mem s) s.views) → get_elem? s.views id ≡ some me.0 → MayLookAll me.0 → (h : ℕ) → mem s Head ≡ h → (w : View) × Kept f (mem s) (set s.views id w) × Snaps me.0 h w × (h ≤ tail_at me.0.stage)
  snapped_by s k at may h now =
      let v : View = me.0 in let o : Window = may.seen in let ok = k.seats.each id v at in let c = k.words.counts in
      let x : k.g.taken ≡ h = sym c.head_is ∙ now in let mine = (ok.holds.owns v.caller may.may.0).1 in let small : v.caller < 64 = (let z = k.words.calls.small in omega arith) in
      let looked = head_looked f (mem s) s.views id v k at may.may o may.current may.tail may.segment may.stage may.there may.ends in
      let at_tail : tail_at v.stage ≡ may.tail = ap tail_at may.stage in
      let e : EntryMark = entry v.caller Snap (Numbers (map number_of (drop k.g.taken k.g.values))) in
      let is : e ≡ snap_of v h k.g.log = (λ i. entry v.caller Snap (Numbers (map number_of (drop (x i) (sym c.stands.1 i))))) in
      let w : View = record v { seen = k.g.log ++ e ∷ []; joint = None; made = count_made v.paid v.made v.caller; paid = false; notes = blank; stage = Closed may.current may.tail false; window = Some (record (window_over o.begin o.end o.first may.current) { head = k.g.taken; tail = may.tail }) } in (
        w,
        looked.0,
        record {
          before = k.g.log;
          seen = (ok.holds.behind, refl);
          lawful = subst (λ (z : EntryMark). IsLawful number_priority v.object v.callers (k.g.log ++ z ∷ [])) is (entry_lawful f (mem s) s.views id v k at e mine k.g.values k.g.putters k.g.taken (snap_next f.room f.first_len k.g.log k.g.values k.g.putters k.g.taken v.caller c.stands small));
          enqueued = put_counted f (mem s) s.views id v k at ∙ (looked.1 ∙ sym at_tail);
          taken = taken_counted f (mem s) s.views id v k at ∙ x;
          left = (λ i. record v { seen = k.g.log ++ is i ∷ []; joint = None; made = count_made v.paid v.made v.caller; paid = false; notes = blank; stage = looked_stage (sym may.stage i); window = looked_window (x i) (sym may.stage i) (sym may.there i) });
        },
        subst (λ z. h ≤ z) (sym at_tail) (let l = c.behind in let y = looked.1 in omega arith),
      )

  snap_allowed : MayLookAll me.0 → Allows (Rule f) slots id me (index_of f.slots Head) (λ x. x) (snaps (step slots (index_of f.slots Head) 0 0 none) me)
  snap_allowed may s r wide at small =
      let k = snapped_by s r.kept at may (get_or s.words (index_of f.slots Head) 0) (at_word f.places f.slots s.words Head (head_word f)) in
      (k.0, keeps, tt, subst (λ (z : List ℕ). Rule f (record { words = z; homes = s.homes; views = set s.views id k.0 })) (sym (set-get_or s.words (index_of f.slots Head) 0)) (record { wide = r.wide; shape = r.shape; kept = k.1 }), (k.2, k.3, refl))

-- the same with the numbers of the code
module _ (f : Form) (n i slots id : ℕ) (me : Me ℕ View) (wide : f.slots ≡ n) where
  pub observes_at : (r r' : ℕ) → r' ≡ r → r < f.places → MayObserve me.0 r → i ≡ index_of n (Observers r) → Allows (Rule f) slots id me i (λ x. (x + 1) % 2 ^ 64) (observes r' (step slots i 1 0 none) me)
  observes_at r r' at_r near may e =
      subst (λ z. Allows (Rule f) slots id me i (λ x. (x + 1) % 2 ^ 64) (observes z (step slots i 1 0 none) me)) (sym at_r)
      (at_index (λ z. Allows (Rule f) slots id me z (λ x. (x + 1) % 2 ^ 64) (observes r (step slots z 1 0 none) me)) f n i (Observers r) wide e (observe_allowed f slots id me r near may))

  pub snaps_at : MayLookAll me.0 → i ≡ index_of n Head → Allows (Rule f) slots id me i (λ x. x) (snaps (step slots i 0 0 none) me)
  snaps_at may e = at_index (λ z. Allows (Rule f) slots id me z (λ x. x) (snaps (step slots z 0 0 none) me)) f n i Head wide e (snap_allowed f slots id me may)

  pub ends_at : (r : ℕ) → r < f.places → MayEnd me.0 r → i ≡ index_of n (Observers r) → Allows (Rule f) slots id me i (λ x. (x + (2 ^ 64 - 1)) % 2 ^ 64) (ends (step slots i 1 0 none) me)
  ends_at r near may e = at_index (λ z. Allows (Rule f) slots id me z (λ x. (x + (2 ^ 64 - 1)) % 2 ^ 64) (ends (step slots z 1 0 none) me)) f n i (Observers r) wide e (end_allowed f slots id me r near may)
