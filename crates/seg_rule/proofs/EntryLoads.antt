-- The entries that a load makes, by the value that it reads: full, empty, peek, count.
use Rattle.std.proofs.Common.{Bool, true, false, ◌≡◌, ℕ, ◌+◌, ◌-◌, ◌*◌, ◌<◌, ◌≤◌, ⊎_elim, List, [], ◌∷◌, ◌++◌, set, sym, refl, ap, ◌∙◌, subst, arith}
use mathlib.Core.Option.{some}
use lib.ListN.{get_elem?}
use Rattle.std.specs.Prelude.{Some, None}
use Rattle.ho_model.specs.declared.marks.EntryMark.{EntryMark}
use Rattle.ho_model.specs.declared.marks.CallMark.TheVariants.{Enq, Deq, Peek, Count}
use Rattle.ho_model.specs.declared.marks.ReplyMark.TheVariants as reply
use Rattle.ho_model.specs.Entries.{entry}
use Rattle.seg_rule.specs.declared.form.Form.{Form}
use Rattle.seg_rule.specs.declared.word.QueueWord.TheVariants.{Head, Tail}
use Rattle.seg_rule.specs.declared.view.View.{View}
use Rattle.seg_rule.specs.declared.view.OpenTail.{OpenTail}
use Rattle.seg_rule.specs.declared.view.Stage.TheVariants.{Closed}
use Rattle.seg_rule.specs.Words.{Memory}
use Rattle.seg_rule.specs.Rule.{Ghosts, IsWhole, HeadNote, TailSeen, TailFact, FrontSeen, FrontFact, StageOk, ViewOk, Kept}
use Rattle.passes.specs.Numbers.{HasNumber}
use Rattle.ho_model.specs.declared.marks.Tally.{Tally}
use Rattle.seg_rule.specs.Object.{Stands}
use Rattle.seg_rule.specs.Steps.{blank, count_made, MayCount, Enters, front_of}
use Rattle.seg_rule.specs.Tells.{room_in}
use Rattle.seg_rule.specs.Entering.{EntersFull, EntersEmpty, EntersPeek, EntersCount}
use Rattle.seg_rule.proofs.Lawful.{entry_lawful, put_counted, taken_counted}
use Rattle.seg_rule.proofs.Object.{full_next, empty_next, empty_peek_next, peek_next, count_next}
use Rattle.seg_rule.proofs.Tails.{tail_even}
use Rattle.seg_rule.proofs.Looks.{entry_kept}

module _ (f : Form) (m : Memory) (views : List View) (id : ℕ) (v : View) (k : Kept f m views) (at : get_elem? views id ≡ some v) (may : MayCount v) where
  abbrev g : Ghosts
  g = k.g

  abbrev ok : ViewOk f g id v
  ok = k.seats.each id v at

  small : v.caller < 64
  small = let o = ok.holds.owns v.caller may.0 in let l = o.1 in let z = k.words.calls.small in omega arith

  -- the view after an entry that moves no count
  abbrev after : EntryMark → View
  after e = record v { seen = g.log ++ e ∷ []; joint = None; made = count_made v.paid v.made v.caller; paid = false; notes = blank }

  mine_below : v.caller < f.callers
  mine_below = (ok.holds.owns v.caller may.0).1

  -- what an entry that moves no count tells
  entered_here : (e : EntryMark) → e.caller ≡ v.caller → Stands f.room f.first_len (g.log ++ e ∷ []) g.values g.putters g.taken → (C : Tally → Type 0) → C (record { enqueued = g.put; taken = g.taken })
      → (w : View) × Kept f m (set views id w) × Enters v e C v.hand w
  entered_here e by stands C counts = (
    after e,
    entry_kept f m views id v k at e by stands may v.stage ok.stage v.window (λ n. refl) ok.window,
    record {
      before = g.log;
      seen = (ok.holds.behind, refl);
      lawful = entry_lawful f m views id v k at e (subst (λ z. z < f.callers) (sym by) mine_below) g.values g.putters g.taken stands;
      counted = subst C (λ i. record { enqueued = sym (put_counted f m views id v k at) i; taken = sym (taken_counted f m views id v k at) i }) counts;
      left = refl;
    },
  )

  -- the head stands as far behind the noted tail as there is room
  pub full_kept : (o : OpenTail) (y h : ℕ) → v.notes.tail ≡ Some o → m Head ≡ h → h + f.room ≡ o.position → (w : View) × Kept f m (set views id w) × EntersFull v y o.position w
  full_kept o y h noted now is =
      let s : TailSeen g (IsWhole v) o = subst (TailFact g (IsWhole v)) noted ok.notes.tail in let c = k.words.counts in let b = s.there.below in let w = c.within in let hd = c.head_is in
      let e : g.put ≡ o.position = omega arith in let t : g.taken + f.room ≡ o.position = omega arith in
      entered_here (entry v.caller (Enq (y ∷ [])) reply.Full) refl (full_next f.room f.first_len g.log g.values g.putters g.taken v.caller c.stands small y (let z = c.sized in omega arith)) (λ counts. (counts.enqueued ≡ o.position) × (counts.taken + room_in v.object ≡ o.position)) (e, ap (λ z. g.taken + room_in z) ok.of_object ∙ t)

  -- an open tail stands at the noted head
  pub empty_kept : (q h : ℕ) (peek : Bool) → q < f.places → v.notes.head ≡ Some h → m (Tail q) ≡ 2 * h → (w : View) × Kept f m (set views id w) × EntersEmpty v h peek w
  empty_kept q h peek near noted now =
      let n : (h ≤ g.taken) × (IsWhole v → h ≡ g.taken) = subst (HeadNote g (IsWhole v)) noted ok.notes.head in let c = k.words.counts in
      let e = (tail_even g.segs g.last g.put g.shut (g.home q) h (sym (k.words.tails q near) ∙ now) k.words.turns.bit).1 in
      let b = c.behind in let l = n.0 in let t : g.taken ≡ h = omega arith in go peek e t
    where
      go : (peek : Bool) → g.put ≡ h → g.taken ≡ h → (w : View) × Kept f m (set views id w) × EntersEmpty v h peek w
      go true e t = let c = k.words.counts in entered_here (entry v.caller Peek reply.Empty) refl (empty_peek_next f.room f.first_len g.log g.values g.putters g.taken v.caller c.stands small (let z = c.sized in omega arith)) (λ counts. (counts.enqueued ≡ h) × (counts.taken ≡ h)) (e, t)
      go false e t = let c = k.words.counts in entered_here (entry v.caller Deq reply.Empty) refl (empty_next f.room f.first_len g.log g.values g.putters g.taken v.caller c.stands small (let z = c.sized in omega arith)) (λ counts. (counts.enqueued ≡ h) × (counts.taken ≡ h)) (e, t)

  -- the head is still the position whose item was noted
  pub peek_kept : (h q i y : ℕ) → v.notes.front ≡ Some (front_of h q i y) → m Head ≡ h → (w : View) × Kept f m (set views id w) × EntersPeek v h y w
  peek_kept h q i y noted now =
      let s : FrontSeen g (front_of h q i y) = subst (FrontFact g) noted ok.notes.front in let c = k.words.counts in let t : g.taken ≡ h = sym c.head_is ∙ now in
      let item : get_elem? g.values h ≡ some (y ∷ []) = ⊎_elim (λ (z : h < g.taken). absurd (omega arith)) (λ z. z) (s.item y refl) in
      entered_here (entry v.caller Peek (reply.Item (y ∷ []))) refl (peek_next f.room f.first_len g.log g.values g.putters g.taken v.caller c.stands small y (subst (λ (z : ℕ). get_elem? g.values z ≡ some (y ∷ [])) (sym t) item)) (λ counts. counts.taken ≡ h) t

  -- while this pass has the tail closed at t
  pub count_kept : (q t h : ℕ) (b : Bool) → v.stage ≡ Closed q t b → m Head ≡ h → (w : View) × Kept f m (set views id w) × EntersCount v t h w × (h ≤ t)
  count_kept q t h b is now =
      let st : StageOk g id (HasNumber v.held v.caller) v.caller (Closed q t b) = subst (StageOk g id (HasNumber v.held v.caller) v.caller) is ok.stage in let c = k.words.counts in let x : g.taken ≡ h = sym c.head_is ∙ now in
      let le : h ≤ t = (let y = c.behind in let z = st.4 in omega arith) in
      let made = entered_here (entry v.caller Count (reply.Counted (t - h))) refl (count_next f.room f.first_len g.log g.values g.putters g.taken v.caller c.stands small (t - h) (let z = c.sized in let y = st.4 in omega arith)) (λ counts. (counts.enqueued ≡ t) × (counts.taken ≡ h)) (st.4, x) in (made.0, made.1, made.2, le)
