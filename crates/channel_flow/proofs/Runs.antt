-- A legal history of a channel as its steps, one after another, and what adds up over them.
use Rattle.std.specs.Prelude.{ℕ, List, [], ◌∷◌, Option, Some, None, cond, count_by}
use Rattle.std.specs.Option.{option_or}
use Rattle.std.specs.List.{sum_by}
use Rattle.std.proofs.Common.{◌≡◌, refl, ap, sym, ◌∙◌, subst, ◌+◌, ◌≤◌, length, arith}
use Rattle.std.proofs.lemmas.List.Sums.{sum_by-cons}
use Rattle.ho_base.specs.Marks.{Mark}
use Rattle.ho_model.specs.declared.marks.EntryMark.{EntryMark}
use Rattle.ho_model.specs.declared.marks.CallMark.{CallMark}
use Rattle.ho_model.specs.declared.marks.CallMark.TheVariants.{Write, CompleteWith}
use Rattle.ho_model.specs.declared.marks.ReplyMark.{ReplyMark}
use Rattle.ho_model.specs.declared.objects.Object.{Object}
use Rattle.ho_model.specs.Channel.{Channel, Kind, Outcome, Waiter, channel_answer, empty_channel}
use Rattle.ho_model.specs.Objects.{State, ChannelState, object_step}
use Rattle.ho_model.specs.Histories.{fold_from, IsLegal}
use Rattle.ho_model.proofs.Folds.{and_then_some}
use Rattle.channel_laws.specs.Kinds.{is_begin}
use Rattle.channel_laws.specs.Reached.{IsReached, IsChannelObject, kind_in}
use Rattle.channel_laws.proofs.Histories.{entry_is, is_channel, has_room, starts_empty}
use Rattle.channel_laws.proofs.Settling.{HasRoom, StaysReached, steps_stay, empty_is_reached}
use Rattle.channel_flow.specs.Items.{writes, written_in, taken_in, dropped_in, refused_in, given_back_in, weight, one}
use Rattle.channel_flow.specs.Ends.{is_begun, is_fetch, is_finished, fault_of, first_fault}
use Rattle.channel_laws.proofs.Table.{Act, act_of, Rows, HoldsRow, rows_hold}
use Rattle.channel_flow.proofs.Balance.{puts, out, contents, Balances, balances}
use Rattle.channel_flow.proofs.Answers.{HasSound}
use Rattle.channel_flow.proofs.Waits.{begins_wait, fetches_wait, Stand, stand}
use Rattle.channel_flow.proofs.Stock.{stock, Stocks, stocks}
use Rattle.channel_flow.proofs.Telling.{Keeps, keeps, completion_after}

-- 1. Steps

-- an entry leads from a state, which histories reach, to the next
pub record Step (kind : Kind) (s : Channel) (e : EntryMark) (t : Channel) : Type 0 where
  pub reached : IsReached kind s
  pub sound : HasSound s
  pub answer : ◌≡◌ {A = Option Outcome} (channel_answer kind s e.caller e.call) (Some (e.reply, t))

abbrev pub Runs : Kind → Channel → List EntryMark → Channel → Type 0
Runs kind s [] x = s ≡ x
Runs kind s (e ∷ es) x = (t : Channel) × Step kind s e t × Runs kind t es x

-- what holds of each row holds of a step
step_has : (kind : Kind) (s t : Channel) (e : EntryMark) (P : Act → ReplyMark → List Mark → List Waiter → Option ℕ → Type 0) → ◌≡◌ {A = Option Outcome} (channel_answer kind s e.caller e.call) (Some (e.reply, t)) → Rows kind s e.caller e.call P
    → P (act_of e.call) e.reply t.buffer t.waits t.completion
step_has kind s t e P answer rows = (subst (HoldsRow kind s e.caller e.call P) answer (rows_hold kind s e.caller P e.call rows)).1

module _ (priority : Mark → ℕ) (o : Object) (is : IsChannelObject o) where
  abbrev kind_of : Kind
  kind_of = kind_in priority o

  runs_from : (es : List EntryMark) (s : Channel) (t : State) → IsReached kind_of s → HasSound s → fold_from priority o (ChannelState s) es ≡ Some t → (x : Channel) × Runs kind_of s es x
  runs_from [] s t reached sound h = (s, refl)
  runs_from (e ∷ es) s t reached sound h =
      let room = has_room priority o is in
      let by = and_then_some (λ n. fold_from priority o n es) (object_step priority o (ChannelState s) e) t h in
      let own = entry_is priority o (is_channel o is) s e by.0 by.1 in
      let reached' = subst (StaysReached kind_of) own.answer (steps_stay kind_of s e.caller e.call room own.caller reached) in
      let kept = step_has kind_of s own.after e (Keeps kind_of s) own.answer (keeps kind_of s e.caller e.call reached sound) in
      let rest = runs_from es own.after t reached' kept.answers (subst (λ (n : State). fold_from priority o n es ≡ Some t) own.state by.2) in
      (rest.0, (own.after, record { reached = reached; sound = sound; answer = own.answer }, rest.1))

  -- a legal history runs from the channel before its first call
  pub history_runs : (es : List EntryMark) → IsLegal priority o es → (x : Channel) × Runs kind_of empty_channel es x
  history_runs es legal =
      runs_from es empty_channel legal.0 (empty_is_reached kind_of) tt (subst (λ (n : State). fold_from priority o n es ≡ Some legal.0) (starts_empty o (is_channel o is)) legal.1)

-- 2. Calls as entries have them, and as the table has them

puts_are : (call : CallMark) → puts (act_of call) ≡ writes call
puts_are (Write item) = refl
puts_are _ = refl

begins_are : (call : CallMark) → begins_wait (act_of call) ≡ is_begin call
begins_are (Write item) = refl
begins_are _ = refl

fetches_are : (call : CallMark) → fetches_wait (act_of call) ≡ is_fetch call
fetches_are (Write item) = refl
fetches_are _ = refl

completes_are : (c rest : Option ℕ) (call : CallMark) → option_or (completion_after c (act_of call)) rest ≡ option_or c (option_or (fault_of call) rest)
completes_are None rest (CompleteWith fault) = refl
completes_are (Some first) rest (CompleteWith fault) = refl
completes_are c rest _ = refl

-- 3. What adds up over the steps

module _ (kind : Kind) (room : HasRoom kind.capacity) where
  pub step_keeps : (s t : Channel) (e : EntryMark) → Step kind s e t → Keeps kind s (act_of e.call) e.reply t.buffer t.waits t.completion
  step_keeps s t e step = step_has kind s t e (Keeps kind s) step.answer (keeps kind s e.caller e.call step.reached step.sound)

  -- items
  module _ (h : Mark → ℕ) where
    step_balances : (s t : Channel) (e : EntryMark) → Step kind s e t → weight h written_in e + contents h s.buffer s.waits ≡ weight h taken_in e + weight h dropped_in e + weight h refused_in e + weight h given_back_in e + contents h t.buffer t.waits
    step_balances s t e step =
        subst (λ (xs : List Mark). sum_by h xs + contents h s.buffer s.waits ≡ out h xs e.reply + contents h t.buffer t.waits) (puts_are e.call)
        (step_has kind s t e (Balances h s) step.answer (balances h kind room s e.caller e.call))

    pub run_balances : (es : List EntryMark) (s x : Channel) → Runs kind s es x
        → sum_by (weight h written_in) es + contents h s.buffer s.waits ≡ sum_by (weight h taken_in) es + sum_by (weight h dropped_in) es + sum_by (weight h refused_in) es + sum_by (weight h given_back_in) es + contents h x.buffer x.waits
    run_balances [] s x run = let same = ap (λ (c : Channel). contents h c.buffer c.waits) run in omega arith
    run_balances (e ∷ es) s x run =
        let here = step_balances s run.0 e run.1 in
        let rest = run_balances es run.0 x run.2 in
        let w = sum_by-cons (weight h written_in) e es in
        let t = sum_by-cons (weight h taken_in) e es in
        let d = sum_by-cons (weight h dropped_in) e es in
        let r = sum_by-cons (weight h refused_in) e es in
        let b = sum_by-cons (weight h given_back_in) e es in
        omega arith

  -- waits
  step_stands : (s t : Channel) (e : EntryMark) → Step kind s e t → length s.waits + cond (is_begun e) 1 0 ≡ length t.waits + cond (is_finished e) 1 0
  step_stands s t e step =
      let b = begins_are e.call in
      let f = fetches_are e.call in
      simp (← b, ← f) (step_has kind s t e (Stand s) step.answer (stand kind s e.caller e.call step.sound))

  pub run_stands : (es : List EntryMark) (s x : Channel) → Runs kind s es x → length s.waits + count_by is_begun es ≡ length x.waits + count_by is_finished es
  run_stands [] s x run = let same = ap (λ (c : Channel). length c.waits) run in omega arith
  run_stands (e ∷ es) s x run =
      let here = step_stands s run.0 e run.1 in
      let rest = run_stands es run.0 x run.2 in
      let b = sum_by-cons (λ a. cond (is_begun a) 1 0) e es in
      let f = sum_by-cons (λ a. cond (is_finished a) 1 0) e es in
      omega arith

  -- items to be taken
  pub run_stocks : (es : List EntryMark) (s x : Channel) → Runs kind s es x → stock s.buffer s.waits ≤ sum_by (weight one taken_in) es + stock x.buffer x.waits
  run_stocks [] s x run = let same = ap (λ (c : Channel). stock c.buffer c.waits) run in omega arith
  run_stocks (e ∷ es) s x run =
      let here = step_has kind s run.0 e (Stocks s) run.1.answer (stocks kind room s e.caller e.call) in
      let rest = run_stocks es run.0 x run.2 in
      let t = sum_by-cons (weight one taken_in) e es in
      omega arith

  -- the completion is the first
  or_none : (c : Option ℕ) → c ≡ option_or c None
  or_none None = refl
  or_none (Some fault) = refl

  pub run_completes : (es : List EntryMark) (s x : Channel) → Runs kind s es x → x.completion ≡ option_or s.completion (first_fault es)
  run_completes [] s x run = sym (ap (λ (c : Channel). c.completion) run) ∙ or_none s.completion
  run_completes (e ∷ es) s x run =
      run_completes es run.0 x run.2 ∙ (ap (λ (c : Option ℕ). option_or c (first_fault es)) (step_keeps s run.0 e run.1).same ∙ completes_are s.completion (first_fault es) e.call)
