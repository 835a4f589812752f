-- What contracts see of the passes of a queue, of either form: p before a call, and q after. O is the type of the obstacles that tries meet.
use Rattle.std.specs.Prelude.{◌≡◌, ℕ, List, Option, None}
use Rattle.ho_base.specs.declared.receipts.Receipt.{Receipt}
use Rattle.ho_model.specs.declared.marks.EntryMark.{EntryMark}
use Rattle.ho_model.specs.QueueReceipts.{IsQueueReceipt}
use Rattle.ho_model.specs.Tallies.{tally_of}
use Rattle.passes.specs.Views.{PassView}
use Rattle.passes.specs.Calls.{Splits, Joins}
use Rattle.passes.specs.Repeats.{EndsByEntry}
use Rattle.seg_rule.specs.declared.view.Obstacle.{Obstacle}
use Rattle.seg_rule.specs.declared.view.Window.{Window}
use Rattle.turn_lock.specs.Passes.{LockPass}
use Rattle.turn_lock.specs.declared.view.Obstacle as turn
use Rattle.ho_base.specs.Marks.{number_priority}

-- What all passes have in common; and the window that the pass has open: the places that it holds, and what it has read of the first one.
pub record WindowedPass (O : Type 0) : Type 0 where
  pub pass : PassView O
  pub window : Option Window

-- a pass of the queue that is stored in segments, and of the one behind a turn
abbrev pub QueueView : Type 0
QueueView = WindowedPass Obstacle

abbrev pub TurnQueueView : Type 0
TurnQueueView = WindowedPass turn.Obstacle

abbrev pub turn_view : LockPass → TurnQueueView
turn_view p = record { pass = p; window = None }

module _ {O : Type 0} where
  -- After an answer of a call: one of its tries made this entry. The receipt is that of the entry, for the
  -- counts of the entries before it. No window is opened or ended.
  abbrev pub Answers : ℕ → WindowedPass O → EntryMark → Receipt → WindowedPass O → Type 0
  Answers first_len p e receipt q =
      (before : List EntryMark) × EndsByEntry number_priority p.pass before e q.pass × IsQueueReceipt first_len e.call e.reply (tally_of before) receipt × (q.window ≡ p.window)

  -- A split and a join are those of all passes. A pass that is split off has no window open.
  abbrev pub SplitsQueue : WindowedPass O → WindowedPass O → WindowedPass O → Type 0
  SplitsQueue p q other = Splits p.pass q.pass other.pass × (q.window ≡ p.window) × (other.window ≡ None)

  abbrev pub JoinsQueue : WindowedPass O → WindowedPass O → WindowedPass O → Type 0
  JoinsQueue p other q = Joins number_priority p.pass other.pass q.pass × (q.window ≡ p.window)
