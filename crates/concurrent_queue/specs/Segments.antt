-- How the pass of the segments' table makes that of the queue.
use Rattle.std.specs.Prelude.{◌≡◌, None}
use Rattle.seg_rule.specs.Passes as segments
use Rattle.seg_rule.specs.Passes.{QueueShape, pass_of}
use Rattle.seg_rule.specs.declared.view.Hand.TheVariants.{Nothing}
use Rattle.seg_rule.specs.declared.view.Stage.TheVariants.{Away}
use Rattle.seg_rule.specs.Tells.{place_count, slot_count}
use Rattle.seg_rule.specs.Words.{words_of}
use Rattle.concurrent_queue.specs.Passes.{QueueView}
use Rattle.concurrent_queue.specs.Queues.{QueueId, IsOf, IsInside}

abbrev pub queue_view : segments.QueueView → QueueView
queue_view p = record { pass = pass_of p; window = p.view.window }

abbrev pub id_of : QueueShape → QueueId
id_of queue = record { table = queue.table; room = queue.form.room; first_len = queue.form.first_len }

-- The pass is between calls, maybe with a window, and its table has the words of a queue for so many callers.
pub record IsBetween (p : segments.QueueView) : Type 0 where
  pub hand : p.view.hand ≡ Nothing
  pub stage : p.view.stage ≡ Away
  pub joint : p.view.joint ≡ None
  pub words : p.table.words ≡ words_of (place_count p.view) (slot_count p.view)

-- the pass is of the queue, between calls
abbrev pub IsReady : QueueShape → segments.QueueView → Type 0
IsReady queue p = IsBetween p × IsOf (id_of queue) (queue_view p)

-- the pass is of the queue, between calls, and may have a window open
abbrev pub IsReadyInside : QueueShape → segments.QueueView → Type 0
IsReadyInside queue p = IsBetween p × IsInside (id_of queue) (queue_view p)
