-- First store, by what the holder of the turn has read.
use Rattle.std.proofs.Common.{◌≡◌, ◌≢◌, ℕ, suc, ◌<◌, ◌≤◌, inl, ⊎_elim, true, List, set, sym, ap, ◌∙◌, subst, arith, le_refl}
use Rattle.std.proofs.lemmas.Bool.{cases_eq}
use mathlib.Core.Option.{some, none}
use lib.ListN.{get_elem?}
use Rattle.std.specs.Prelude.{Some, None, IfSome}
use Rattle.atomic_table.specs.Table.{Me, Allows, step}
use Rattle.passes.specs.Numbers.{HasNumber}
use Rattle.seg_rule.specs.declared.form.Form.{Form}
use Rattle.seg_rule.specs.declared.word.QueueWord.TheVariants.{First}
use Rattle.seg_rule.specs.declared.view.View.{View}
use Rattle.seg_rule.specs.declared.view.Stage.{Stage}
use Rattle.seg_rule.specs.declared.view.Stage.TheVariants.{Away, Plain, Closed, Found, Preparing, Opened, Linked, Observing}
use Rattle.seg_rule.specs.Words.{Memory, memory, update, index_of, IsWord}
use Rattle.seg_rule.specs.Rule.{Ghosts, IsWhole, HeadNote, CandidateSeen, NextAt, IsPast, StageOk, ViewOk, Kept, Rule}
use Rattle.seg_rule.specs.Steps.{MayMoveFirst}
use Rattle.seg_rule.specs.Loads.{is_read, end_noted, moved_scan, first_moved, MayMove}
use Rattle.seg_rule.specs.Plays.{moves_first}
use Rattle.seg_rule.proofs.Allowed.{at_index, stores_allowed}
use Rattle.seg_rule.proofs.Links.{first_kept}
use Rattle.seg_rule.proofs.Noting.{read_fact, head_fact, some_fact}

module _ (f : Form) (m : Memory) (views : List View) (id : ℕ) (v : View) (k : Kept f m views) (at : get_elem? views id ≡ some v) where
  abbrev g : Ghosts
  g = k.g

  abbrev ok : ViewOk f g id v
  ok = k.seats.each id v at

  mine : (s : Stage) → MayMoveFirst s → StageOk g id (HasNumber v.held v.caller) v.caller s → g.turn ≡ suc id
  mine Away i y = absurd i
  mine Plain i y = y.0.0
  mine (Closed q t u) i y = y.0.0
  mine (Found q t p) i y = absurd i
  mine (Preparing d q t n w) i y = absurd i
  mine (Opened d q t) i y = absurd i
  mine (Linked q t) i y = absurd i
  mine (Observing q t b n p) i y = absurd i

  pub moved_kept : (r : ℕ) → MayMove v r → Kept f (update m First r) (set views id (first_moved v r))
  moved_kept r may =
      let turn = mine v.stage may.stage ok.stage in let s = ok.notes.scan turn in
      let head : HeadNote g (IsWhole v) (Some may.head) = subst (HeadNote g (IsWhole v)) may.noted ok.notes.head in
      let low : (g.segs g.low).place ≡ may.place = subst (λ z. IfSome z (λ p. (g.segs g.low).place ≡ p)) may.first s.first in
      let now : (g.now ≤ g.last) × ((g.segs g.now).place ≡ may.current) = subst (λ z. IfSome z (λ p. (g.now ≤ g.last) × ((g.segs g.now).place ≡ p))) may.is_current s.current in
      let end : CandidateSeen g may.closed = subst (λ z. IfSome z (CandidateSeen g)) may.ended s.candidate in
      let next : NextAt g (may.place, r) = subst (λ z. IfSome z (NextAt g)) may.next s.next in
      let home : g.home may.closed.place ≡ suc g.low = ap g.home (may.there ∙ sym low) ∙ k.words.homes.chain g.low (le_refl _) k.words.chain.inside in
      let ends = end.ends g.low home in
      let ord = k.words.links.order in
      let before : g.low < g.now = ⊎_elim (λ (z : g.low ≡ g.now). absurd (may.other (sym low ∙ (ap (λ y. (g.segs y).place) z ∙ now.1)))) (λ (z : g.low ≢ g.now). let a = ord.0 in omega arith) (cases_eq g.low g.now) in
      let there : r ≡ (g.segs (suc g.low)).place = next g.low (le_refl _) before ends.0 low in
      first_kept f m views id v k at r (moved_scan r v.notes.head v.notes.scan) turn may.stage before (sym there) (let a = ends.1 in let b = may.below in let c = head.0 in omega arith)
      record {
        first = sym there;
        current = s.current;
        length = tt;
        next = tt;
        past = head_fact (IsPast (record g { low = suc g.low })) (is_read v.notes.scan.current r) v.notes.head None
            (λ b. some_fact (IsPast (record g { low = suc g.low })) v.notes.head (λ y e. (noted y e, inl (same (now_at b)))))
            tt;
        inside = tt;
        moved = subst (λ z. IfSome (end_noted z) (λ e. e ≤ (g.segs (suc g.low)).start)) (sym may.ended) (let a = ends.1 in let z : may.closed.end ≤ (g.segs (suc g.low)).start = omega arith in z);
        candidate = tt;
      }
    where
      noted : (y : ℕ) → v.notes.head ≡ Some y → y ≤ g.taken
      noted y e = let n : HeadNote g (IsWhole v) (Some y) = subst (HeadNote g (IsWhole v)) e ok.notes.head in n.0

      now_at : is_read v.notes.scan.current r ≡ true → (g.segs g.now).place ≡ (g.segs (suc g.low)).place
      now_at b =
          let turn = mine v.stage may.stage ok.stage in let s = ok.notes.scan turn in
          let low : (g.segs g.low).place ≡ may.place = subst (λ z. IfSome z (λ p. (g.segs g.low).place ≡ p)) may.first s.first in
          let now : (g.now ≤ g.last) × ((g.segs g.now).place ≡ may.current) = subst (λ z. IfSome z (λ p. (g.now ≤ g.last) × ((g.segs g.now).place ≡ p))) may.is_current s.current in
          let next : NextAt g (may.place, r) = subst (λ z. IfSome z (NextAt g)) may.next s.next in
          let ord = k.words.links.order in
          let before : g.low < g.now = ⊎_elim (λ (z : g.low ≡ g.now). absurd (may.other (sym low ∙ (ap (λ y. (g.segs y).place) z ∙ now.1)))) (λ (z : g.low ≢ g.now). let a = ord.0 in omega arith) (cases_eq g.low g.now) in
          (read_fact (λ p. (g.now ≤ g.last) × ((g.segs g.now).place ≡ p)) r v.notes.scan.current s.current b).1 ∙ next g.low (le_refl _) before (let a = now.0 in omega arith) low

      same : (g.segs g.now).place ≡ (g.segs (suc g.low)).place → suc g.low ≡ g.now
      same e =
          let turn = mine v.stage may.stage ok.stage in let s = ok.notes.scan turn in
          let low : (g.segs g.low).place ≡ may.place = subst (λ z. IfSome z (λ p. (g.segs g.low).place ≡ p)) may.first s.first in
          let now : (g.now ≤ g.last) × ((g.segs g.now).place ≡ may.current) = subst (λ z. IfSome z (λ p. (g.now ≤ g.last) × ((g.segs g.now).place ≡ p))) may.is_current s.current in
          let ord = k.words.links.order in
          let before : g.low < g.now = ⊎_elim (λ (z : g.low ≡ g.now). absurd (may.other (sym low ∙ (ap (λ y. (g.segs y).place) z ∙ now.1)))) (λ (z : g.low ≢ g.now). let a = ord.0 in omega arith) (cases_eq g.low g.now) in
          ⊎_elim (λ (z : suc g.low ≡ g.now). z) (λ (z : suc g.low ≢ g.now). absurd (k.words.chain.apart (suc g.low) g.now (omega arith) (omega arith) now.0 (sym e))) (cases_eq (suc g.low) g.now)

pub moves_at : (f : Form) (n i slots id r : ℕ) (me : Me ℕ View) → f.slots ≡ n → i ≡ index_of n First → MayMove me.0 r → Allows (Rule f) slots id me i (λ _. r) (λ _. moves_first (step slots i r 0 none) me r)
moves_at f n i slots id r me wide e may = at_index (λ z. Allows (Rule f) slots id me z (λ _. r) (λ _ w. w ≡ (first_moved me.0 r, me.1))) f n i First wide e
    (stores_allowed f slots id me First r (first_moved me.0 r) (first_word f) (λ s k at. moved_kept f (memory f.places f.slots s.words) s.views id me.0 k at r may))
  where
    first_word : (f : Form) → IsWord f.places f.slots First
    first_word f = (omega arith, omega arith)
