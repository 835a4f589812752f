-- A history of a queue, woven a turn at a time: a history of what is in it and what is left exists all
-- the while, and each turn pulls one call to the front of what is left.
use Rattle.std.proofs.Common.{◌≡◌, ℕ, ◌≤◌, ◌<◌, List, [], ◌∷◌, ◌++◌, map, slice_get, length, Some, None, true, false, refl, sym, ap, ◌∙◌, subst, arith, append_assoc, append-nil, inl, inr}
use Rattle.std.specs.List.{list_all}
use Rattle.std.proofs.lemmas.List.{map_push}
use Rattle.std.proofs.lemmas.Option.{same_Some, slice_get_within}
use Rattle.ho_base.specs.declared.receipts.Receipt.{Receipt}
use Rattle.ho_model.specs.declared.histories.Entry.{Entry}
use Rattle.weave.specs.declared.made.Made.{Made}
use Rattle.weave.specs.declared.aheads.Ahead.{Ahead}
use Rattle.weave.specs.declared.least.Candidate.{Candidate}
use Rattle.weave.specs.Parts.{PartMade, Told, entry_told, made_by, OfDifferentCallers, HasParts}
use Rattle.weave.specs.Order.{EachTold, NoneBefore, IsLeastCaller, IsChosen}
use Rattle.weave.specs.Queues.{IsQueueHistory, IsOfQueue}
use Rattle.weave.specs.Cursors.{TakesNext}
use Rattle.weave.specs.Aheads.{aheads_of, leaves_free, can_go, IsLeast}
use Rattle.weave.proofs.CallsByCaller.{first_of, made_first, made_after, begins_a_part, part_at, each_of_parts, parts_each, each_front, fewer_parts, fewer_differ}
use Rattle.weave.proofs.Swaps.{AllFit, takes_then, enqueues_then, MayNot, steps, first_free}
use Rattle.weave.proofs.Replies.{fit_and_agree}
use Rattle.weave.proofs.Orders.{none_before, calls_pull_forward}
use Rattle.weave.proofs.Chosen.{none_may, least_same, each_without, ChosenSoFar, chosen_more, all_chosen}
use Rattle.weave.proofs.Firsts.{NeverFalls, part_never_falls, leaves_free_all, all_leaves_free, free_at, free_everywhere, not_itself}

pub record IsWeaving (room : ℕ) (parts left : List PartMade) (entries : List Entry) : Type 0 where
  pub done : List Told
  pub rest : List Told
  pub history : IsQueueHistory room (done ++ rest)
  pub whole : HasParts parts (done ++ rest)
  pub entries_are : entries ≡ map entry_told done
  pub has : HasParts left rest
  pub differ : OfDifferentCallers left
  pub chosen : ChosenSoFar room done rest

pub nothing_yet : (room : ℕ) (parts left : List PartMade) → left ≡ parts → OfDifferentCallers parts → (told : List Told) → IsOfQueue room parts told → IsWeaving room parts left []
nothing_yet room parts left same differ told of_queue = record {
  done = [];
  rest = told;
  history = of_queue.history;
  whole = of_queue.has;
  entries_are = refl;
  has = subst (λ (l : List PartMade). HasParts l told) (sym same) of_queue.has;
  differ = subst OfDifferentCallers (sym same) differ;
  chosen = tt;
}

-- what is left fits after some counts
record FitsAfter (room : ℕ) (rest : List Told) : Type 0 where
  pub n : ℕ
  pub e : ℕ
  pub order : n ≤ e
  pub fit : AllFit room n e rest

fits_after : (room n e : ℕ) (done rest : List Told) → n ≤ e → AllFit room n e (done ++ rest) → FitsAfter room rest
fits_after room n e [] rest o fit = record { n = n; e = e; order = o; fit = fit }
fits_after room n e (x ∷ done) rest o fit =
    let r = x.made.receipt in fits_after room (takes_then n r) (enqueues_then e r) done rest (steps room n e r o fit.0).2 fit.1

has_same : (parts : List PartMade) (xs ys : List Told) → ((c : ℕ) → made_by c xs ≡ made_by c ys) → HasParts parts xs → HasParts parts ys
has_same parts xs ys same has = record {
  each = λ i p at. sym (same p.caller) ∙ has.each i p at;
  only = λ c lone. sym (same c) ∙ has.only c lone;
}

-- the next call of a part that can go on
pub next_of : (room : ℕ) (aheads : List Ahead) (made : List Made) → can_go room aheads made ≡ true → (m : Made) × (ms : List Made) × (made ≡ m ∷ ms)
next_of room aheads [] h = absurd (cc)
next_of room aheads (m ∷ ms) h = (m, ms, refl)

module _ (room : ℕ) (parts left : List PartMade) (entries : List Entry) (h : IsWeaving room parts left entries) where
  fits : FitsAfter room h.rest
  fits = fits_after room 0 0 h.done h.rest (omega arith) (fit_and_agree room (h.done ++ h.rest) h.history).1

  never_falls : (i : ℕ) (p : PartMade) → slice_get left i ≡ Some p → NeverFalls p.made
  never_falls i p at = subst NeverFalls (h.has.each i p at) (part_never_falls room fits.n fits.e h.rest p.caller fits.order fits.fit)

  -- where the test passes, no call left may go before y
  all_free : (y : Receipt) → list_all (leaves_free room y) (aheads_of left) ≡ true → EachTold (MayNot room y) h.rest
  all_free y test = each_of_parts (MayNot room y) left h.rest h.has (λ i p at. leaves_free_all room y p.made (never_falls i p at) (free_at room y left test i p at))

  -- and where no call left goes before a part's next call the test passes
  passes : (c : ℕ) (m : Made) (ms : List Made) → made_by c h.rest ≡ m ∷ ms → NoneBefore room m.receipt h.rest → (i : ℕ) (p : PartMade) → slice_get left i ≡ Some p → p.caller ≡ c → can_go room (aheads_of left) p.made ≡ true
  passes c m ms is free i p at same =
      let y = m.receipt in
      let t : Told = record { caller = c; made = m } in
      let f = first_of c m ms h.rest is in
      let fit = subst (AllFit room fits.n fits.e) f.is fits.fit in
      let may = subst (EachTold (MayNot room y)) (sym f.is) (none_may room fits.n fits.e f.front t f.back fits.order fit (subst (NoneBefore room y) f.is free)) in
      let made : p.made ≡ m ∷ ms = sym (h.has.each i p at) ∙ (ap (λ k. made_by k h.rest) same ∙ is) in
      let test = free_everywhere room y left (λ k q there. all_leaves_free room y q.made (parts_each (MayNot room y) left h.rest h.has may k q there)) in
      ap (can_go room (aheads_of left)) made ∙ test

  -- so the least caller that can go on is the least of all of whose next call that is so
  least_caller : (caller : ℕ) → ((k : ℕ) (q : PartMade) → slice_get left k ≡ Some q → can_go room (aheads_of left) q.made ≡ true → caller ≤ q.caller) → IsLeastCaller room caller h.rest
  least_caller caller least c m ms is free = elim (part_at left c) [
    | inl found ↦ (let le = least found.0 found.1 found.2 (passes c m ms is free found.0 found.1 found.2 found.3) in let same = found.3 in omega (arith, le, same))
    | inr lone ↦ (let none : m ∷ ms ≡ [] = sym is ∙ h.has.only c lone in absurd (cc))
  ]

  -- the next call of the part of the least caller that can go on is next in the history
  turn_taken : (i : ℕ) (p : PartMade) → slice_get left i ≡ Some p → can_go room (aheads_of left) p.made ≡ true
      → ((k : ℕ) (q : PartMade) → slice_get left k ≡ Some q → can_go room (aheads_of left) q.made ≡ true → p.caller ≤ q.caller) → (e : Entry) (new : List PartMade) → TakesNext left i e new → IsWeaving room parts new (entries ++ e ∷ [])
  turn_taken i p at goes least e new takes =
      let c = takes.caller in let m = takes.next in let ms = takes.later in
      let was : p ≡ record { caller = c; made = m ∷ ms } = same_Some _ _ (sym at ∙ takes.at) in
      let test : list_all (leaves_free room m.receipt) (aheads_of left) ≡ true = subst (λ (q : PartMade). can_go room (aheads_of left) q.made ≡ true) was goes in
      let t : Told = record { caller = c; made = m } in
      let f = first_of c m ms h.rest (h.has.each i (record { caller = c; made = m ∷ ms }) takes.at) in
      let free = each_front (MayNot room m.receipt) f.front (t ∷ f.back) (subst (EachTold (MayNot room m.receipt)) f.is (all_free m.receipt test)) in
      let history = subst (λ (l : List Told). IsQueueHistory room (h.done ++ l)) f.is h.history in
      let whole = subst (λ (l : List Told). HasParts parts (h.done ++ l)) f.is h.whole in
      let same : (k : ℕ) → made_by k (h.done ++ (f.front ++ t ∷ f.back)) ≡ made_by k (h.done ++ t ∷ (f.front ++ f.back)) = λ k. made_after k h.done (f.front ++ t ∷ f.back) (t ∷ (f.front ++ f.back)) (made_first k t f.front f.back f.none) in
      let same_left : (k : ℕ) → made_by k h.rest ≡ made_by k (t ∷ (f.front ++ f.back)) = λ k. ap (made_by k) f.is ∙ made_first k t f.front f.back f.none in
      let all = subst (EachTold (MayNot room m.receipt)) f.is (all_free m.receipt test) in
      let least_of = least_same room c h.rest (t ∷ (f.front ++ f.back)) same_left (subst (λ k. IsLeastCaller room k h.rest) (ap (λ (q : PartMade). q.caller) was) (least_caller p.caller least)) in
      let order = sym (append_assoc h.done (t ∷ []) (f.front ++ f.back)) in
      record {
        done = h.done ++ t ∷ [];
        rest = f.front ++ f.back;
        history = subst (IsQueueHistory room) order (calls_pull_forward room h.done f.front t f.back history (none_before room m.receipt f.front free));
        whole = subst (HasParts parts) order (has_same parts (h.done ++ (f.front ++ t ∷ f.back)) (h.done ++ t ∷ (f.front ++ f.back)) same whole);
        entries_are = ap (λ (z : List Entry). z ++ e ∷ []) h.entries_are ∙ (ap (λ (x : Entry). map entry_told h.done ++ x ∷ []) takes.entry ∙ sym (map_push entry_told h.done t));
        has = subst (λ (l : List PartMade). HasParts l (f.front ++ f.back)) (sym takes.left) (fewer_parts left i c m ms takes.at h.differ h.rest h.has f);
        differ = subst OfDifferentCallers (sym takes.left) (fewer_differ left i c m ms takes.at h.differ);
        chosen = chosen_more room h.done h.rest t (f.front ++ f.back) same_left h.chosen (none_before room m.receipt (f.front ++ f.back) (each_without (MayNot room m.receipt) f.front t f.back all)) least_of;
      }

  pub turn : (n : ℕ) → n ≡ length left → (best : Candidate) → IsLeast room (aheads_of left) left n (Some best) → (e : Entry) (new : List PartMade) → TakesNext left best.index e new → IsWeaving room parts new (entries ++ e ∷ [])
  turn n is best least e new takes =
      let below : (k : ℕ) (q : PartMade) → slice_get left k ≡ Some q → can_go room (aheads_of left) q.made ≡ true → least.0.caller ≤ q.caller = λ k q at goes. (let within = slice_get_within left k q at in let le = least.4 k q (omega (arith, within, is)) at goes in let same = least.2 in omega (arith, le, same)) in
      turn_taken best.index least.0 least.1 least.3 below e new takes

  -- where no part can go on, nothing is left
  none_left : ((i : ℕ) (p : PartMade) → slice_get left i ≡ Some p → can_go room (aheads_of left) p.made ≡ false) → (rest : List Told) → rest ≡ h.rest → rest ≡ []
  none_left stuck [] is = refl
  none_left stuck (t ∷ ts) is =
      let y = t.made.receipt in
      let has = subst (HasParts left) (sym is) h.has in
      let part = begins_a_part left t ts has in
      let fit = subst (AllFit room fits.n fits.e) (sym is) fits.fit in
      let free : EachTold (MayNot room y) (t ∷ ts) = (not_itself room y, first_free room fits.n fits.e t ts fits.order fit) in
      let test = free_everywhere room y left (λ i p at. all_leaves_free room y p.made (parts_each (MayNot room y) left (t ∷ ts) has free i p at)) in
      let stays : can_go room (aheads_of left) (t.made ∷ made_by t.caller ts) ≡ false = ap (can_go room (aheads_of left)) (sym part.4) ∙ stuck part.0 part.1 part.2 in
      let both : true ≡ false = sym test ∙ stays in
      absurd (cc)

  pub woven : (n : ℕ) → n ≡ length left → IsLeast room (aheads_of left) left n None → (told : List Told) × IsOfQueue room parts told × IsChosen room told × (entries ≡ map entry_told told)
  woven n is least =
      let none = none_left (λ i p at. least i p (subst (λ k. i < k) (sym is) (slice_get_within left i p at)) at) h.rest refl in
      let all : h.done ++ h.rest ≡ h.done = ap (λ (l : List Told). h.done ++ l) none ∙ append-nil h.done in
      (h.done, record { has = subst (HasParts parts) all h.whole; history = subst (IsQueueHistory room) all h.history }, all_chosen room h.done (subst (ChosenSoFar room h.done) none h.chosen), h.entries_are)
