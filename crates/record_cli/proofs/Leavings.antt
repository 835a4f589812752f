-- What a command leaves, from what it came to and how this was written.
use Rattle.std.proofs.Common.{◌≡◌, ◌≤◌, ◌+◌, ◌∙◌, ℕ, List, Bool, true, false, if◌then◌else◌, length, Option, Some, None, IfSome, Result, Ok, Err, refl, sym, ap, subst, inl, inr, arith}
use Rattle.drive_kit.specs.declared.check.Checked.{Checked}
use Rattle.drive_kit.specs.declared.check.Checked.TheVariants as checked
use Rattle.record_lang.specs.Guards.{is_stopped}
use Rattle.ho_io.specs.Counts.{Rose, counted}
use Rattle.ho_io.specs.Whole.{TookFirst}
use Rattle.record_cli.specs.Answers.{Answer, IsAnswerOf, answer_in, row_in}
use Rattle.record_cli.specs.Check.{verdict}
use Rattle.record_cli.specs.Commands.{Task, Plain, Run, Drive, Check, Made, is_reading, waits_for}
use Rattle.record_cli.specs.Inputs.{answer_for, inputs_of}
use Rattle.record_cli.specs.Leaves.{Beside, Comes, Ends, EndsAt, EndsWith, IsAnswered, IsComplete, IsShownWhere, IsTold, IsUnfailing, IsUnwritten, IsWhole, Leaves, RunsAsPlain, SinkState, Writes, shown_at}
use Rattle.record_cli.specs.Reading.{Fetches, Files, ShelfState, faults_after}
use Rattle.record_cli.specs.Statuses.{is_read_fault, is_refusal, write_faults}
use Rattle.record_cli.specs.Tasks.{IsAnswerTo, IsDropless, IsRun, IsTaskAnswer, MayAnswer, is_done, is_end, is_showing, reading_for}
use Rattle.record_cli.proofs.Files.{always, map_some}
use Rattle.record_cli.specs.declared.answer.Answer.{Answer as Computed}
use Rattle.record_cli.specs.declared.answer.Row.{Row}
use Rattle.record_cli.specs.declared.finished.Shown.{Shown}
use Rattle.record_cli.specs.declared.finished.Shown.TheVariants as show
use Rattle.record_cli.specs.declared.inputs.Inputs.{Inputs}
use Rattle.record_cli.specs.declared.status.Status.{Status}
use Rattle.record_cli.specs.declared.status.Status.TheVariants as status
use Rattle.record_cli.specs.declared.stopped.Stopped.{Stopped}
use Rattle.record_cli.specs.declared.stopped.Stopped.TheVariants as stopped

no_read_fault : (s : Status) → (s ≡ status.ReadFault → ⊥) → is_read_fault s ≡ false
no_read_fault status.ReadFault h = absurd (h refl)
no_read_fault status.WriteFault h = refl
no_read_fault status.NoMemory h = refl
no_read_fault status.Done h = refl
no_read_fault status.Ended h = refl
no_read_fault status.Usage h = refl
no_read_fault status.Missing h = refl
no_read_fault status.SpecRefused h = refl
no_read_fault status.InputRefused h = refl
no_read_fault status.TooLarge h = refl

-- an answer of which this holds, as it ended
told : (P : Answer → Type 0) (answer : Answer) (c d : SinkState) (s : Status) (shown : Shown) → P answer → Ends answer c d s shown → IsTold P c d s
told P answer c d status.ReadFault shown p e = absurd (e.read refl)
told P answer c d status.NoMemory shown p e = record { taken = e.writes.answered; puts = e.unwritten refl; reserves = e.writes.asked }
told P answer c d status.WriteFault shown p e = (answer, p, e.writes)
told P answer c d status.Done shown p e = (answer, p, e.writes)
told P answer c d status.Ended shown p e = (answer, p, e.writes)
told P answer c d status.Usage shown p e = (answer, p, e.writes)
told P answer c d status.Missing shown p e = (answer, p, e.writes)
told P answer c d status.SpecRefused shown p e = (answer, p, e.writes)
told P answer c d status.InputRefused shown p e = (answer, p, e.writes)
told P answer c d status.TooLarge shown p e = (answer, p, e.writes)

-- where nothing failed, all of it was written
complete : (P : Answer → Type 0) (c d : SinkState) (s : Status) → IsTold P c d s → IsUnfailing s → IsComplete P c.taken d.taken s
complete P c d status.ReadFault h fine = absurd fine
complete P c d status.WriteFault h fine = absurd fine
complete P c d status.NoMemory h fine = h.taken
complete P c d status.Done h fine = (h.0, h.1, h.2.answered)
complete P c d status.Ended h fine = (h.0, h.1, h.2.answered)
complete P c d status.Usage h fine = (h.0, h.1, h.2.answered)
complete P c d status.Missing h fine = (h.0, h.1, h.2.answered)
complete P c d status.SpecRefused h fine = (h.0, h.1, h.2.answered)
complete P c d status.InputRefused h fine = (h.0, h.1, h.2.answered)
complete P c d status.TooLarge h fine = (h.0, h.1, h.2.answered)

-- where neither count of faults rose, neither a read nor a write failed
unfailing : (s : Status) (before now put_before put_now : ℕ) → now ≡ faults_after before (is_read_fault s) → put_now ≡ write_faults put_before s → ¬ Rose before now → ¬ Rose put_before put_now → IsUnfailing s
unfailing status.ReadFault before now put_before put_now e f r w = r (subst (λ n. counted before 1 ≤ n) (sym e) (omega arith))
unfailing status.WriteFault before now put_before put_now e f r w = w (subst (λ n. counted put_before 1 ≤ n) (sym f) (omega arith))
unfailing status.NoMemory before now put_before put_now e f r w = tt
unfailing status.Done before now put_before put_now e f r w = tt
unfailing status.Ended before now put_before put_now e f r w = tt
unfailing status.Usage before now put_before put_now e f r w = tt
unfailing status.Missing before now put_before put_now e f r w = tt
unfailing status.SpecRefused before now put_before put_now e f r w = tt
unfailing status.InputRefused before now put_before put_now e f r w = tt
unfailing status.TooLarge before now put_before put_now e f r w = tt

whole_as : (x y : Answer) (before after : Option (List ℕ)) (s : Status) → y.status ≡ x.status → y.text ≡ x.text → IsWhole y before after s → IsWhole x before after s
whole_as x y before after s e f h = (h.0 ∙ e, subst (λ text. TookFirst before after text (length text)) f h.1)

-- what was written of an answer is that of another with the same status and text
same_text : (x y : Answer) (before after : Option (List ℕ)) (s : Status) → y.status ≡ x.status → y.text ≡ x.text → IsAnswered y before after s → IsAnswered x before after s
same_text x y before after status.ReadFault e f h = h
same_text x y before after status.NoMemory e f h = h
same_text x y before after status.WriteFault e f h = subst (λ text. (k : ℕ) × (k ≤ length text) × TookFirst before after text k) f h
same_text x y before after status.Done e f h = whole_as x y before after status.Done e f h
same_text x y before after status.Ended e f h = whole_as x y before after status.Ended e f h
same_text x y before after status.Usage e f h = whole_as x y before after status.Usage e f h
same_text x y before after status.Missing e f h = whole_as x y before after status.Missing e f h
same_text x y before after status.SpecRefused e f h = whole_as x y before after status.SpecRefused e f h
same_text x y before after status.InputRefused e f h = whole_as x y before after status.InputRefused e f h
same_text x y before after status.TooLarge e f h = whole_as x y before after status.TooLarge e f h

true_is_not_false : (b : Bool) → b ≡ true → b ≡ false → ⊥
true_is_not_false b e f = cc

not_false : (b : Bool) → (b ≡ false → ⊥) → b ≡ true
not_false true h = refl
not_false false h = absurd (h refl)

-- at no other status than those of an end something is shown
not_done : (s : Status) → is_end s ≡ false → is_done s ≡ false
not_done status.Done e = cc
not_done status.Ended e = cc
not_done status.ReadFault e = refl
not_done status.WriteFault e = refl
not_done status.NoMemory e = refl
not_done status.Usage e = refl
not_done status.Missing e = refl
not_done status.SpecRefused e = refl
not_done status.InputRefused e = refl
not_done status.TooLarge e = refl

hidden : (task : Option Task) (s : Status) → is_end s ≡ false → is_showing task s ≡ false
hidden None s e = refl
hidden (Some (Plain pipe file)) s e = refl
hidden (Some (Run pipe file workers)) s e = e
hidden (Some (Drive script)) s e = not_done s e
hidden (Some (Check script history)) s e = refl
hidden (Some (Made count seed workers)) s e = not_done s e

refusal_is_no_end : (s : Status) → is_refusal s ≡ true → is_end s ≡ false
refusal_is_no_end status.Done e = cc
refusal_is_no_end status.Ended e = cc
refusal_is_no_end status.ReadFault e = refl
refusal_is_no_end status.WriteFault e = refl
refusal_is_no_end status.NoMemory e = refl
refusal_is_no_end status.Usage e = refl
refusal_is_no_end status.Missing e = refl
refusal_is_no_end status.SpecRefused e = refl
refusal_is_no_end status.InputRefused e = refl
refusal_is_no_end status.TooLarge e = refl

nothing_where : (b : Bool) (task : Option Task) (c d : SinkState) (s : Status) (shown : Shown) → b ≡ false → shown ≡ show.Nothing → IsShownWhere b task c d s shown
nothing_where b task c d s shown e h = subst (λ b. IsShownWhere b task c d s shown) (sym e) h

is_run_end : (stops : Bool) → is_end (if stops then status.Ended else status.Done) ≡ true
is_run_end true = refl
is_run_end false = refl

is_verdict_end : (checked : Checked) → is_end (verdict checked).status ≡ true
is_verdict_end (checked.Legal entries) = refl
is_verdict_end (checked.Illegal at) = refl
is_verdict_end (checked.Lacking caller index) = refl

of_status : (answer : Answer) (s : Status) → answer.status ≡ s → is_end s ≡ true → is_end answer.status ≡ true
of_status answer s e h = ap (λ s. is_end s) e ∙ h

-- a task that is not refused goes to its end
ends : (task : Task) (answer : Answer) → IsAnswerTo (Some task) answer → is_end answer.status ≡ true
ends (Plain pipe file) answer h = of_status answer _ h.1.status (is_run_end (is_stopped h.0.pipeline.guard h.0.records))
ends (Run pipe file workers) answer h = of_status answer _ h.1.2.status (is_run_end (is_stopped h.0.pipeline.guard h.0.records))
ends (Drive script) answer h = of_status answer status.Done h.1.3.status refl
ends (Check script history) answer h = of_status answer _ h.1.2.status (is_verdict_end h.1.0)
ends (Made count seed workers) answer h = of_status answer status.Done h.2.status refl

-- words without a form alone may be answered by the row of usage
usage_only : (task : Option Task) (answer : Answer) → MayAnswer task answer → answer.status ≡ status.Usage → task ≡ None
usage_only None answer may e = refl
usage_only (Some task) answer (inl h) e = absurd (true_is_not_false (is_end answer.status) (ends task answer h) (ap (λ s. is_end s) e))
usage_only (Some task) answer (inr h) e = absurd (true_is_not_false (is_refusal answer.status) h.1.status (ap (λ s. is_refusal s) e))

usage_told : (task : Option Task) (answer : Answer) (before after : Option (List ℕ)) (s : Status) → MayAnswer task answer → IsAnswered answer before after s → s ≡ status.Usage → task ≡ None
usage_told task answer before after s may w e =
    let whole : IsWhole answer before after status.Usage = subst (λ s. IsAnswered answer before after s) e w in
    usage_only task answer may (sym whole.0)

verdict_shows_nothing : (checked : Checked) → (verdict checked).shown ≡ show.Nothing
verdict_shows_nothing (checked.Legal entries) = refl
verdict_shows_nothing (checked.Illegal at) = refl
verdict_shows_nothing (checked.Lacking caller index) = refl

-- at a status at which a task shows something, an answer that it may have is not the row of a refused file
showing : (task : Option Task) (answer : Answer) → MayAnswer task answer → is_showing task answer.status ≡ true → IsAnswerTo task answer
showing task answer (inl h) e = h
showing task answer (inr h) e = absurd (true_is_not_false (is_showing task answer.status) e (hidden task answer.status (refusal_is_no_end answer.status h.1.status)))

unshown : (task : Option Task) (answer : Answer) → IsAnswerTo task answer → is_showing task answer.status ≡ false → answer.shown ≡ show.Nothing
unshown None answer h e = h.shown
unshown (Some (Plain pipe file)) answer h e = h.1.shown
unshown (Some (Run pipe file workers)) answer h e = absurd (true_is_not_false (is_end answer.status) (ends (Run pipe file workers) answer h) e)
unshown (Some (Drive script)) answer h e = absurd (true_is_not_false (is_done answer.status) (ap (λ s. is_done s) h.1.3.status) e)
unshown (Some (Check script history)) answer h e = h.1.2.shown ∙ verdict_shows_nothing h.1.0
unshown (Some (Made count seed workers)) answer h e = absurd (true_is_not_false (is_done answer.status) (ap (λ s. is_done s) h.2.status) e)

-- at any other, it shows nothing
not_showing : (task : Option Task) (answer : Answer) → MayAnswer task answer → is_showing task answer.status ≡ false → answer.shown ≡ show.Nothing
not_showing task answer (inl h) e = unshown task answer h e
not_showing task answer (inr h) e = h.1.shown

module _ (task : Option Task) (answer : Answer) (c d : SinkState) (shown : Shown) (may : MayAnswer task answer) where
  shown_where : (b : Bool) (s : Status) → is_showing task answer.status ≡ b → Writes answer c d s → shown ≡ answer.shown → IsShownWhere b task c d s shown
  shown_where true s is w e = (answer, showing task answer may is, w, e)
  shown_where false s is w e = e ∙ not_showing task answer may is

  shown_end : (s : Status) → Writes answer c d s → answer.status ≡ s → shown ≡ answer.shown → IsShownWhere (is_showing task s) task c d s shown
  shown_end s w same e = shown_where (is_showing task s) s (ap (λ t. is_showing task t) same) w e

  shown_is : (s : Status) → Writes answer c d s → shown ≡ shown_at s answer.shown → IsShownWhere (is_showing task s) task c d s shown
  shown_is status.Done w e = shown_end status.Done w (sym w.answered.0) e
  shown_is status.Ended w e = shown_end status.Ended w (sym w.answered.0) e
  shown_is status.ReadFault w e = nothing_where _ task c d status.ReadFault shown (hidden task status.ReadFault refl) e
  shown_is status.WriteFault w e = nothing_where _ task c d status.WriteFault shown (hidden task status.WriteFault refl) e
  shown_is status.NoMemory w e = nothing_where _ task c d status.NoMemory shown (hidden task status.NoMemory refl) e
  shown_is status.Usage w e = nothing_where _ task c d status.Usage shown (hidden task status.Usage refl) e
  shown_is status.Missing w e = nothing_where _ task c d status.Missing shown (hidden task status.Missing refl) e
  shown_is status.SpecRefused w e = nothing_where _ task c d status.SpecRefused shown (hidden task status.SpecRefused refl) e
  shown_is status.InputRefused w e = nothing_where _ task c d status.InputRefused shown (hidden task status.InputRefused refl) e
  shown_is status.TooLarge w e = nothing_where _ task c d status.TooLarge shown (hidden task status.TooLarge refl) e

run_status : (workers : ℕ) (r : Result Inputs Answer) (answer : Answer) → IsAnswerOf (IsRun workers) r answer → answer.status ≡ (answer_for r).status
run_status workers (Ok inputs) answer h = h.2.status
run_status workers (Err refusal) answer h = h.status

run_bytes : (workers : ℕ) (r : Result Inputs Answer) (answer : Answer) → IsAnswerOf (IsRun workers) r answer → IsDropless r → answer.text ≡ (answer_for r).text
run_bytes workers (Ok inputs) answer h dropless = h.2.text ∙ h.1.plain dropless
run_bytes workers (Err refusal) answer h dropless = h.text

runs_as_plain : (files : Files) (task : Option Task) (answer : Answer) (c d : SinkState) (s : Status) → IsTaskAnswer files task answer → IsAnswered answer c.taken d.taken s → RunsAsPlain files task c d s
runs_as_plain files None answer c d s h w = tt
runs_as_plain files (Some (Plain pipe file)) answer c d s h w = tt
runs_as_plain files (Some (Run pipe file workers)) answer c d s h w =
    λ dropless. same_text (answer_for (inputs_of files pipe file)) answer c.taken d.taken s (run_status workers (inputs_of files pipe file) answer h) (run_bytes workers (inputs_of files pipe file) answer h dropless) w
runs_as_plain files (Some (Drive script)) answer c d s h w = tt
runs_as_plain files (Some (Check script history)) answer c d s h w = tt
runs_as_plain files (Some (Made count seed workers)) answer c d s h w = tt

-- the same where nothing was written, since a file could not be read or there was no memory
nothing_as_plain : (files : Files) (task : Option Task) (c : SinkState) (s : Status) → ((answer : Answer) → IsAnswered answer c.taken c.taken s) → RunsAsPlain files task c c s
nothing_as_plain files None c s w = tt
nothing_as_plain files (Some (Plain pipe file)) c s w = tt
nothing_as_plain files (Some (Run pipe file workers)) c s w = λ dropless. w (answer_for (inputs_of files pipe file))
nothing_as_plain files (Some (Drive script)) c s w = tt
nothing_as_plain files (Some (Check script history)) c s w = tt
nothing_as_plain files (Some (Made count seed workers)) c s w = tt

-- a refused file, of a task that reads files; of any other it is the answer
refused : (reading : Bool) (task : Option Task) (row : Row) → is_reading task ≡ reading → is_refusal row.status ≡ true → (is_reading task ≡ false → IsAnswerTo task (row_in row)) → MayAnswer task (row_in row)
refused true task row is h unread = inr (is, record { status = h; shown = refl })
refused false task row is h unread = inl (unread is)

module _ (task : Option Task) (a b : ShelfState) where
  -- an answer was written, or what is left of it
  answer_leaves : (answer : Answer) (c d : SinkState) (s : Status) (shown : Shown) → Fetches (reading_for task) a b false → IfSome a.files (λ files. IsTaskAnswer files task answer) → MayAnswer task answer → Ends answer c d s shown
      → Leaves task a b c d s shown
  answer_leaves answer c d s shown fetches h may e =
      let unread : is_read_fault s ≡ false = no_read_fault s e.read in
      let fetched : Fetches (reading_for task) a b (is_read_fault s) = subst (λ f. Fetches (reading_for task) a b f) (sym unread) fetches in
      let fine : ¬ Rose a.faults b.faults → ¬ Rose c.faults d.faults → IsUnfailing s = unfailing s a.faults b.faults c.faults d.faults fetched.faults e.faults in
      record {
        fetches = fetched;
        answered = map_some a.files h (λ files p. told (Beside (IsTaskAnswer files task) s shown) answer c d s shown (p, e.shown_is) e);
        told = told (Beside (MayAnswer task) s shown) answer c d s shown (may, e.shown_is) e;
        usage_only = usage_told task answer c.taken d.taken s may e.writes.answered;
        reading_only = λ fault. absurd (e.read fault);
        shown_is = shown_is task answer c d shown may s e.writes e.shown_is;
        as_plain = map_some a.files h (λ files p. runs_as_plain files task answer c d s p e.writes.answered);
        later = e.later;
        faults = e.faults;
        unfailing = fine;
        complete = map_some a.files h (λ files p r w. complete (Beside (IsTaskAnswer files task) s shown) c d s (told (Beside (IsTaskAnswer files task) s shown) answer c d s shown (p, e.shown_is) e) (fine r w));
      }

  read_fault_leaves : (c : SinkState) → Fetches (reading_for task) a b true → (is_reading task ≡ false → ⊥) → Leaves task a b c c status.ReadFault show.Nothing
  read_fault_leaves c h reads =
      let fine : ¬ Rose a.faults b.faults → ¬ Rose c.faults c.faults → IsUnfailing status.ReadFault = unfailing status.ReadFault a.faults b.faults c.faults c.faults h.faults refl in
      record {
        fetches = h;
        answered = always a.files (λ files. refl);
        told = refl;
        usage_only = λ e. cc;
        reading_only = λ e. not_false (is_reading task) reads;
        shown_is = nothing_where _ task c c status.ReadFault show.Nothing (hidden task status.ReadFault refl) refl;
        as_plain = always a.files (λ files. nothing_as_plain files task c status.ReadFault (λ answer. refl));
        later = omega arith;
        faults = refl;
        unfailing = fine;
        complete = always a.files (λ files r w. absurd (fine r w));
      }

  no_memory_leaves : (c : SinkState) → Fetches (reading_for task) a b false → Leaves task a b c c status.NoMemory show.Nothing
  no_memory_leaves c h =
      let unwritten : IsUnwritten c c = record { taken = refl; puts = refl; reserves = omega arith } in
      record {
        fetches = h;
        answered = always a.files (λ files. unwritten);
        told = unwritten;
        usage_only = λ e. cc;
        reading_only = λ e. cc;
        shown_is = nothing_where _ task c c status.NoMemory show.Nothing (hidden task status.NoMemory refl) refl;
        as_plain = always a.files (λ files. nothing_as_plain files task c status.NoMemory (λ answer. refl));
        later = omega arith;
        faults = refl;
        unfailing = λ r w. tt;
        complete = always a.files (λ files r w. refl);
      }

  leaves_at : (expected s : Status) (c d : SinkState) (shown : Shown) → EndsAt expected c d s shown → Leaves task a b c c expected show.Nothing → Leaves task a b c d s shown
  leaves_at expected s c d shown e h =
      subst (λ s. Leaves task a b c d s shown) (sym e.status_is) (subst (λ d. Leaves task a b c d expected shown) (sym e.same) (subst (λ shown. Leaves task a b c c expected shown) (sym e.shown_is) h))

  -- what a command leaves
  pub leaves : (computed : Result Computed Stopped) (c d : SinkState) (s : Status) (shown : Shown) → Comes task a b computed → EndsWith computed c d s shown → Leaves task a b c d s shown
  leaves (Ok given) c d s shown h e = answer_leaves (answer_in given) c d s shown h.fetches h.answer (inl h.made) e
  leaves (Err (stopped.Refused row)) c d s shown h e = answer_leaves (row_in row) c d s shown h.fetches h.answer (refused (is_reading task) task row refl e.1 h.unread) e.0
  leaves (Err stopped.ReadFault) c d s shown h e = leaves_at status.ReadFault s c d shown e (read_fault_leaves c h.fetches (λ r. true_is_not_false true refl (h.unfailed r)))
  leaves (Err stopped.NoMemory) c d s shown h e = leaves_at status.NoMemory s c d shown e (no_memory_leaves c h.fetches)

-- a command that does not wait shows nothing
nothing_shown : (task : Option Task) (s : Status) → waits_for task ≡ false → is_showing task s ≡ false
nothing_shown None s e = refl
nothing_shown (Some (Plain pipe file)) s e = refl
nothing_shown (Some (Run pipe file workers)) s e = cc
nothing_shown (Some (Drive script)) s e = cc
nothing_shown (Some (Check script history)) s e = refl
nothing_shown (Some (Made count seed workers)) s e = cc

pub plain_leaves : (task : Option Task) (a b : ShelfState) (c d : SinkState) (s : Status) (shown : Shown) → waits_for task ≡ false → Leaves task a b c d s shown → Leaves task a b c d s show.Nothing
plain_leaves task a b c d s shown e h =
    let is : shown ≡ show.Nothing = subst (λ b. IsShownWhere b task c d s shown) (nothing_shown task s e) h.shown_is in
    subst (λ shown. Leaves task a b c d s shown) is h
