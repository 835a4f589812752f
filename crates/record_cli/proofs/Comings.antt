-- What tasks come to.
use Rattle.std.proofs.Common.{◌≡◌, true, false, Some, IfOk, IfSome, Result, Ok, Err, sym, subst}
use Rattle.record_cli.specs.Answers.{Answer, Computes, IsAnswerOf, IsRefused, StopsWith, answer_in, has_read_fault, is_read_fault}
use Rattle.record_cli.specs.Commands.{Task, is_reading}
use Rattle.record_cli.specs.Leaves.{Comes}
use Rattle.record_cli.specs.Reading.{Fetches, Files, Reading, ShelfState}
use Rattle.record_cli.specs.Tasks.{IsAnswerTo, IsTaskAnswer, reading_for}
use Rattle.record_cli.proofs.Files.{map_some}
use Rattle.record_cli.specs.declared.answer.Answer.{Answer as Computed}
use Rattle.record_cli.specs.declared.stopped.Stopped.{Stopped}
use Rattle.record_cli.specs.declared.stopped.Stopped.TheVariants as stopped

-- a refusal answers for what is refused
pub refusal_answers : {X : Type 0} (P : X → Answer → Type 0) (e : Result X Answer) (stop : Stopped) → StopsWith (IsRefused e) stop → StopsWith (IsAnswerOf P e) stop
refusal_answers P (Ok x) (stopped.Refused row) h = absurd h
refusal_answers P (Err refusal) (stopped.Refused row) h = h
refusal_answers P e stopped.ReadFault h = tt
refusal_answers P e stopped.NoMemory h = tt

-- what is not refused has its answer
pub answers : {X : Type 0} (P : X → Answer → Type 0) (e : Result X Answer) (x : X) (computed : Result Computed Stopped) → e ≡ Ok x → Computes (P x) computed → Computes (IsAnswerOf P e) computed
answers P e x computed h p = subst (λ e. Computes (IsAnswerOf P e) computed) (sym h) p

-- what was read, of a command that goes on without a fault
pub read_on : (reading : Reading) (a b : ShelfState) {X : Type 0} (computed : Result X Stopped) → has_read_fault computed ≡ false → Fetches reading a b false → Fetches reading a b (has_read_fault computed)
read_on reading a b computed e h = subst (λ f. Fetches reading a b f) (sym e) h

-- what holds of the answers of a task is known of the answer that was computed
given : (P Q : Answer → Type 0) (computed : Result Computed Stopped) → Computes P computed → ((answer : Answer) → P answer → Q answer) → IfOk computed (λ answer. Q (answer_in answer))
given P Q (Ok answer) h f = f (answer_in answer) h
given P Q (Err stop) h f = tt

-- A command that reads files: what refuses one of them ends it, and else its answer is made of what they hold.
module _ {X : Type 0} (P : X → Answer → Type 0) (e : Files → Result X Answer) (task : Task) (is : (files : Files) → (λ (answer : Answer). IsTaskAnswer files (Some task) answer) ≡ IsAnswerOf P (e files))
    (is_made : (x : X) (answer : Answer) → P x answer → IsAnswerTo (Some task) answer) (reads : is_reading (Some task) ≡ true) (a b : ShelfState) where
  pub refused_comes : (computed : Result Computed Stopped) (stop : Stopped) → computed ≡ Err stop → Fetches (reading_for (Some task)) a b (is_read_fault stop) → IfSome a.files (λ files. StopsWith (IsRefused (e files)) stop) → Comes (Some task) a b computed
  refused_comes computed stop same fetches refused =
      subst (λ (r : Result Computed Stopped). Comes (Some task) a b r) (sym same) (record {
        fetches = fetches;
        answer = map_some a.files refused (λ files h. subst (λ (Q : Answer → Type 0). StopsWith Q stop) (sym (is files)) (refusal_answers P (e files) stop h));
        made = tt;
        unread = λ r. cc;
        unfailed = λ r. cc;
      })

  pub made_comes : (x : X) (computed : Result Computed Stopped) → has_read_fault computed ≡ false → Fetches (reading_for (Some task)) a b false → IfSome a.files (λ files. e files ≡ Ok x) → Computes (P x) computed → Comes (Some task) a b computed
  made_comes x computed unread fetches is_read h = record {
    fetches = read_on (reading_for (Some task)) a b computed unread fetches;
    answer = map_some a.files is_read (λ files e_is. subst (λ (Q : Answer → Type 0). Computes Q computed) (sym (is files)) (answers P (e files) x computed e_is h));
    made = given (P x) (IsAnswerTo (Some task)) computed h (is_made x);
    unread = λ r. cc;
    unfailed = λ r. cc;
  }
