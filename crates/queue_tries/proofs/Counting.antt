-- The parts of a count put together.
use Rattle.std.proofs.Common.{◌≡◌, ◌≢◌, ℕ, ◌*◌, [], ◌++◌, true, false, cond, eqb, refl, ap, ◌∙◌, arith}
use Rattle.std.specs.Prelude.{Some, None, ◌/◌}
use Rattle.ho_model.specs.declared.marks.CallMark.TheVariants.{Count}
use Rattle.ho_model.specs.declared.marks.ReplyMark.TheVariants.{Counted}
use Rattle.ho_model.specs.QueueReceipts.{IsLook}
use Rattle.passes.specs.Numbers.{HasNumber}
use Rattle.seg_rule.specs.declared.view.View.{View}
use Rattle.seg_rule.specs.declared.view.OpenTail.{OpenTail}
use Rattle.seg_rule.specs.declared.view.Hand.TheVariants.{Nothing}
use Rattle.seg_rule.specs.declared.view.Stage.TheVariants.{Plain, Away, Closed}
use Rattle.seg_rule.specs.declared.word.QueueWord.TheVariants.{Tail}
use Rattle.seg_rule.specs.Loads.{obstacles}
use Rattle.seg_rule.specs.Steps.{closed_at, no_scan, is_full, tail_moved, on_stage, MissesTail}
use Rattle.seg_rule.specs.Plays.{Reads}
use Rattle.seg_rule.specs.Passes.{QueueView}
use Rattle.queue_tries.specs.Tries.{HasNoCallLeft, CountsOnce}
use Rattle.queue_tries.specs.Walks.{WalksPaid}
use Rattle.queue_tries.specs.Counts.{ReadsCurrent, ReadsOpen, Closes, CountsPaid}
use Rattle.queue_tries.specs.declared.answers.QueueOnce.{QueueOnce}
use Rattle.queue_tries.specs.declared.answers.QueueOnce.TheVariants.{Answer, Again, Spent}
use Rattle.queue_tries.specs.declared.answers.QueueAgain.TheVariants.{Lost, Turn, InFlight, NoPlace}
use Rattle.queue_tries.proofs.Walks.{told_goes, goes_quiet, goes_on, tail_missed, tail_moved_among, not_whole_before, not_whole, paid_goes, paid_ends, made_ends}

-- the tail of the current place is open
pub open_read : (place x : ℕ) (v u : View) → v.stage ≡ Plain → v.notes.scan.current ≡ Some place → v.hand ≡ Nothing → v.window ≡ None → Reads (Tail place) x v u → ReadsOpen v place (x / 2) u
open_read place x v u plain current hand window r =
    let tail : OpenTail = record { place = place; position = x / 2; length = None; number = None; fits = false; full = false } in record {
      read = obstacles v.stage (Tail place) x v.notes;
      goes = told_goes (Tail place) x v u r.sees window hand;
      plain = ap (λ (z : View). z.stage) r.sees ∙ plain;
      tail = tail;
      noted = ap (λ (z : View). z.notes.tail) r.sees ∙ ap (λ (n : ℕ). cond (eqb n 0) (Some tail) v.notes.tail) (r.told.current plain current);
      place_is = refl;
      at_is = refl;
    }

pub closes_true : (place at : ℕ) (v w : View) → w ≡ closed_at v place at → Closes v place at w true
closes_true place at v w is = (goes_quiet v w (no_scan v.notes) (Closed place at (is_full v.notes.tail)) is, (is_full v.notes.tail, ap (λ (z : View). z.stage) is))

pub closes_false : (place at x : ℕ) (v w : View) → v.stage ≡ Plain → x ≢ 2 * at → MissesTail v place at x w → Closes v place at w false
closes_false place at x v w plain other m =
    let t = tail_missed place at x v w plain other m in
    (tail_moved place at x v.notes.scan.current, t.0, t.1, t.2, t.3)

-- the tail had moved on, and the turn was given back
pub counts_lost : (v w u z z' : View) (place at : ℕ) → ReadsCurrent v place w → ReadsOpen w place at u → Closes u place at z false → z' ≡ on_stage z Away → CountsPaid v z' (Again Lost)
counts_lost v w u z z' place at a b k is =
    let left = goes_quiet z z' (no_scan z.notes) Away is in
    let walk = goes_on v w u [] b.read a.goes b.goes in (
      b.read ++ (k.0 ++ []),
      goes_on v u z' b.read (k.0 ++ []) walk (goes_on u z z' k.0 [] k.1 left),
      tail_moved_among b.read k.0 [] k.3,
      not_whole_before v u b.read walk k.4,
    )

-- a count from the turn on is that of the whole call
pub counts_end : (p q : QueueView) (w : View) (r : QueueOnce ℕ) → WalksPaid p.view w [] → q.table ≡ p.table → HasNumber p.view.held p.view.caller → (¬ HasNoCallLeft p) → CountsPaid w q.view r → CountsOnce p q r
counts_end p q w (Answer count receipt) a table own below made = made_ends p q w [] Count (Counted count) (λ t. IsLook t receipt) receipt a.walks made table own below (λ t is. is)
counts_end p q w (Again Lost) a table own below k = (k.0, paid_ends p q Lost k.0 (omega arith) (paid_goes p.view w q.view [] k.0 a k.1) table own below, (k.2, not_whole p.view w [] a.walks k.3))
counts_end p q w (Again Turn) a table own below k = absurd k
counts_end p q w (Again InFlight) a table own below k = absurd k
counts_end p q w (Again NoPlace) a table own below k = absurd k
counts_end p q w Spent a table own below k = absurd k
