-- What is told of the end, and how a history ends.
use Rattle.std.specs.Prelude.{ℕ, List, [], ◌∷◌, Bool, true, false, cond, Option, Some, None, count_by}
use Rattle.std.specs.Option.{option_or}
use Rattle.std.specs.List.{sum_by}
use Rattle.std.proofs.Common.{◌≡◌, refl, ap, ◌∙◌, subst, ◌+◌, ◌<◌, ◌≤◌, ◌⊎◌, inl, inr, length, arith}
use Rattle.std.proofs.lemmas.Bool.{both_ways, eqb-true, leb-true}
use Rattle.std.proofs.lemmas.List.Sums.{sum_by-cons}
use Rattle.ho_base.specs.Marks.{Mark}
use Rattle.ho_model.specs.declared.marks.EntryMark.{EntryMark}
use Rattle.ho_model.specs.declared.marks.ReplyMark.{ReplyMark}
use Rattle.ho_model.specs.declared.marks.ReplyMark.TheVariants.{Dropped, Refused, ClosedWith, Ready, Faulted}
use Rattle.ho_model.specs.declared.marks.CallMark.{CallMark}
use Rattle.ho_model.specs.declared.marks.CallMark.TheVariants.{CompleteWith}
use Rattle.ho_model.specs.Channel.{Channel, Kind, Waiter, is_full, drops, empty_channel}
use Rattle.channel_laws.proofs.Settling.{HasRoom}
use Rattle.channel_flow.specs.Items.{loses, refuses, taken_in, dropped_in, refused_in, weight, one}
use Rattle.channel_flow.specs.Ends.{is_closed_reply, is_closed, is_closed_reply_with, is_closed_with, tells_end, is_told, is_completing_call, is_completing, IsDrained}
use Rattle.channel_flow.proofs.Balance.{contents}
use Rattle.channel_flow.proofs.Stock.{stock}
use Rattle.channel_laws.proofs.Table.{Act, completes, act_of}
use Rattle.channel_flow.proofs.Answers.{not_both}
use Rattle.channel_flow.proofs.Telling.{Tells, completion_after}
use Rattle.channel_flow.proofs.Runs.{Step, Runs, step_keeps, run_stands, run_stocks}

-- 1. Counts of entries

counted : (p : EntryMark → Bool) (e : EntryMark) (es : List EntryMark) (b : Bool) → p e ≡ b → count_by p (e ∷ es) ≡ cond b 1 0 + count_by p es
counted p e es b is = sum_by-cons (λ a. cond (p a) 1 0) e es ∙ ap (λ (b : Bool). cond b 1 0 + count_by p es) is

pub none_first : (p : EntryMark → Bool) (e : EntryMark) (es : List EntryMark) (b : Bool) → p e ≡ b → count_by p (e ∷ es) ≡ 0 → (b ≡ false) × (count_by p es ≡ 0)
none_first p e es true is z = let n = counted p e es true is in absurd (omega arith)
none_first p e es false is z = let n = counted p e es false is in (refl, omega arith)

-- a step whose entry passes the test, and the run after it
record IsMet (kind : Kind) (p : EntryMark → Bool) (x : Channel) : Type 0 where
  entry : EntryMark
  before : Channel
  after : Channel
  rest : List EntryMark
  passes : p entry ≡ true
  step : Step kind before entry after
  run : Runs kind after rest x

met_step : (kind : Kind) (p : EntryMark → Bool) (e : EntryMark) (es : List EntryMark) (s x : Channel) (b : Bool) → p e ≡ b → Runs kind s (e ∷ es) x → 0 < count_by p (e ∷ es) → ((t : Channel) → Runs kind t es x → 0 < count_by p es → IsMet kind p x) → IsMet kind p x
met_step kind p e es s x true is run some more = record { entry = e; before = s; after = run.0; rest = es; passes = is; step = run.1; run = run.2 }
met_step kind p e es s x false is run some more = let n = counted p e es false is in more run.0 run.2 (omega arith)

some_met : (kind : Kind) (p : EntryMark → Bool) (es : List EntryMark) (s x : Channel) → Runs kind s es x → 0 < count_by p es → IsMet kind p x
some_met kind p [] s x run some = absurd (omega arith)
some_met kind p (e ∷ es) s x run some = met_step kind p e es s x (p e) refl run some (λ t. some_met kind p es t x)

-- 2. A channel that is complete and empty stays so, and who is told of the end leaves such a one

pub record IsShut (fault : ℕ) (s : Channel) : Type 0 where
  pub complete : s.completion ≡ Some fault
  pub empty : length s.buffer ≡ 0

stays_complete : (fault : ℕ) (c : Option ℕ) (a : Act) → c ≡ Some fault → completion_after c a ≡ Some fault
stays_complete fault c (completes later) e = ap (λ (c : Option ℕ). option_or c (Some later)) e
stays_complete fault c _ e = e

closed_is : (r : ReplyMark) → is_closed_reply r ≡ true → (fault : ℕ) × (r ≡ ClosedWith fault)
closed_is (ClosedWith fault) k = (fault, refl)
closed_is _ k = let no : false ≡ true = k in cc

closed_with_is : (fault : ℕ) (r : ReplyMark) → is_closed_reply_with fault r ≡ true → r ≡ ClosedWith fault
closed_with_is fault (ClosedWith told) k = ap (λ (f : ℕ). ClosedWith f) (eqb-true told fault k)
closed_with_is fault _ k = let no : false ≡ true = k in cc

module _ (kind : Kind) (room : HasRoom kind.capacity) where
  shut_stays : (fault : ℕ) (es : List EntryMark) (s x : Channel) → Runs kind s es x → IsShut fault s → IsShut fault x
  shut_stays fault [] s x run shut = subst (IsShut fault) run shut
  shut_stays fault (e ∷ es) s x run shut =
      let keeps = step_keeps kind room s run.0 e run.1 in
      let shrinks = keeps.shrinks fault shut.complete in
      let empty = shut.empty in
      shut_stays fault es run.0 x run.2 (record { complete = keeps.same ∙ stays_complete fault s.completion (act_of e.call) shut.complete; empty = omega arith })

  met_shuts : (p : EntryMark → Bool) (fault : ℕ) (x : Channel) (met : IsMet kind p x) → met.entry.reply ≡ ClosedWith fault → IsShut fault x
  met_shuts p fault x met is =
      let s = met.before in
      let t = met.after in
      let told : Tells kind (length s.buffer) (length t.buffer) t.completion (ClosedWith fault) = subst (Tells kind (length s.buffer) (length t.buffer) t.completion) is (step_keeps kind room s t met.entry met.step).reply in
      shut_stays fault met.rest t x met.run (record { complete = told.0; empty = told.1 })

  closed_shuts : (es : List EntryMark) (s x : Channel) → Runs kind s es x → 0 < count_by is_closed es → (fault : ℕ) × IsShut fault x
  closed_shuts es s x run some =
      let met = some_met kind is_closed es s x run some in
      let closed = closed_is met.entry.reply met.passes in
      (closed.0, met_shuts is_closed closed.0 x met closed.1)

  pub fault_shuts : (fault : ℕ) (es : List EntryMark) (s x : Channel) → Runs kind s es x → 0 < count_by (is_closed_with fault) es → IsShut fault x
  fault_shuts fault es s x run some =
      let met = some_met kind (is_closed_with fault) es s x run some in
      met_shuts (is_closed_with fault) fault x met (closed_with_is fault met.entry.reply met.passes)

-- 3. A drained channel is empty, and none waits

no_items : (h : Mark → ℕ) (xs : List Mark) → length xs ≡ 0 → sum_by h xs ≡ 0
no_items h [] z = refl
no_items h (x ∷ xs) z = absurd (omega arith)

no_waits : (ws : List Waiter) → length ws ≡ 0 → ws ≡ []
no_waits [] z = refl
no_waits (w ∷ ws) z = absurd (omega arith)

record IsOver (x : Channel) : Type 0 where
  items : length x.buffer ≡ 0
  waits : x.waits ≡ []

module _ (kind : Kind) (room : HasRoom kind.capacity) (es : List EntryMark) (x : Channel) (run : Runs kind empty_channel es x) (drained : IsDrained es) where
  is_over : IsOver x
  is_over =
      let shut = closed_shuts kind room es empty_channel x run drained.closed in
      let stand = run_stands kind room es empty_channel x run in
      let even = drained.finished in
      record { items = shut.1.empty; waits = no_waits x.waits (omega arith) }

  pub drained_is_empty : (h : Mark → ℕ) → contents h x.buffer x.waits ≡ 0
  drained_is_empty h =
      let a = no_items h x.buffer is_over.items in
      let b = ap (λ (ws : List Waiter). contents h x.buffer ws) is_over.waits in
      omega arith

  drained_has_no_stock : stock x.buffer x.waits ≡ 0
  drained_has_no_stock =
      let a = is_over.items in
      let b = ap (λ (ws : List Waiter). stock x.buffer ws) is_over.waits in
      omega arith

-- 4. Before a completion nothing is told of one

stays_open : (c : Option ℕ) (call : CallMark) → c ≡ None → is_completing_call call ≡ false → completion_after c (act_of call) ≡ None
stays_open c (CompleteWith fault) e k = let no : true ≡ false = k in cc
stays_open c _ e k = e

open_tells : (kind : Kind) (before after : ℕ) (c : Option ℕ) (r : ReplyMark) → c ≡ None → Tells kind before after c r → tells_end r ≡ false
open_tells kind before after c (Refused fault item) none told = absurd (not_both c fault none told)
open_tells kind before after c (ClosedWith fault) none told = absurd (not_both c fault none told.0)
open_tells kind before after c (Faulted fault) none told = absurd (not_both c fault none told)
open_tells kind before after c (Ready true) none told = refl
open_tells kind before after c (Ready false) none told = absurd (not_both c 0 none told)
open_tells kind before after c _ none told = refl

pub open_is_untold : (kind : Kind) → HasRoom kind.capacity → (es : List EntryMark) (s x : Channel) → Runs kind s es x → s.completion ≡ None → count_by is_completing es ≡ 0 → count_by is_told es ≡ 0
open_is_untold kind room [] s x run none z = refl
open_is_untold kind room (e ∷ es) s x run none z =
    let first = none_first is_completing e es (is_completing e) refl z in
    let keeps = step_keeps kind room s run.0 e run.1 in
    let after : run.0.completion ≡ None = keeps.same ∙ stays_open s.completion e.call none first.0 in
    let rest = open_is_untold kind room es run.0 x run.2 after first.1 in
    let here = counted is_told e es false (open_tells kind (length s.buffer) (length run.0.buffer) run.0.completion e.reply after keeps.reply) in
    omega arith

untold_refuses : (h : Mark → ℕ) (r : ReplyMark) → tells_end r ≡ false → sum_by h (refuses r) ≡ 0
untold_refuses h (Refused fault item) k = let no : true ≡ false = k in cc
untold_refuses h _ k = refl

pub untold_is_unrefused : (h : Mark → ℕ) (es : List EntryMark) → count_by is_told es ≡ 0 → sum_by (weight h refused_in) es ≡ 0
untold_is_unrefused h [] z = refl
untold_is_unrefused h (e ∷ es) z =
    let first = none_first is_told e es (is_told e) refl z in
    let here = untold_refuses h e.reply first.0 in
    let rest = untold_is_unrefused h es first.1 in
    let n = sum_by-cons (weight h refused_in) e es in
    omega arith

-- 5. Drops

lossless : (kind : Kind) (h : Mark → ℕ) (before after : ℕ) (c : Option ℕ) (r : ReplyMark) → drops kind.mode ≡ false → Tells kind before after c r → sum_by h (loses r) ≡ 0
lossless kind h before after c (Dropped item) mode told = absurd (both_ways (drops kind.mode) mode told.1)
lossless kind h before after c _ mode told = refl

pub none_dropped : (kind : Kind) → HasRoom kind.capacity → (h : Mark → ℕ) (es : List EntryMark) (s x : Channel) → Runs kind s es x → drops kind.mode ≡ false → sum_by (weight h dropped_in) es ≡ 0
none_dropped kind room h [] s x run mode = refl
none_dropped kind room h (e ∷ es) s x run mode =
    let here = lossless kind h (length s.buffer) (length run.0.buffer) run.0.completion e.reply mode (step_keeps kind room s run.0 e run.1).reply in
    let rest = none_dropped kind room h es run.0 x run.2 mode in
    let n = sum_by-cons (weight h dropped_in) e es in
    omega arith

-- nothing was dropped, or at least this much was taken, or is there to be taken
abbrev pub IsKept : ℕ → List EntryMark → ℕ → Type 0
IsKept capacity es left = ((h : Mark → ℕ) → sum_by (weight h dropped_in) es ≡ 0) ⊎ (capacity ≤ sum_by (weight one taken_in) es + left)

module _ (kind : Kind) (room : HasRoom kind.capacity) (capacity : ℕ) (is : kind.capacity ≡ Some capacity) where
  full_loses : (before after : ℕ) (c : Option ℕ) (r : ReplyMark) → Tells kind before after c r → ((h : Mark → ℕ) → sum_by h (loses r) ≡ 0) ⊎ (capacity ≤ before)
  full_loses before after c (Dropped item) told =
      let full : is_full (Some capacity) before ≡ true = subst (λ (c : Option ℕ). is_full c before ≡ true) is told.0 in
      inr (leb-true capacity before full)
  full_loses before after c _ told = inl (λ h. refl)

  kept_step : (e : EntryMark) (es : List EntryMark) (s x : Channel) → Runs kind s (e ∷ es) x → ((h : Mark → ℕ) → sum_by h (loses e.reply) ≡ 0) ⊎ (capacity ≤ length s.buffer) → IsKept capacity es (stock x.buffer x.waits) → IsKept capacity (e ∷ es) (stock x.buffer x.waits)
  kept_step e es s x run (inr full) more = let n = run_stocks kind room (e ∷ es) s x run in inr (omega arith)
  kept_step e es s x run (inl none) (inl rest) = inl (λ h. (let a = none h in let b = rest h in let n = sum_by-cons (weight h dropped_in) e es in omega arith))
  kept_step e es s x run (inl none) (inr rest) = let n = sum_by-cons (weight one taken_in) e es in inr (omega arith)

  run_is_kept : (es : List EntryMark) (s x : Channel) → Runs kind s es x → IsKept capacity es (stock x.buffer x.waits)
  run_is_kept [] s x run = inl (λ h. refl)
  run_is_kept (e ∷ es) s x run =
      kept_step e es s x run (full_loses (length s.buffer) (length run.0.buffer) run.0.completion e.reply (step_keeps kind room s run.0 e run.1).reply) (run_is_kept es run.0 x run.2)

  pub drained_is_kept : (es : List EntryMark) (x : Channel) → Runs kind empty_channel es x → IsDrained es → IsKept capacity es 0
  drained_is_kept es x run drained = subst (IsKept capacity es) (drained_has_no_stock kind room es x run drained) (run_is_kept es empty_channel x run)
