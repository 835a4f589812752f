-- How the holder of the turn opens a place behind a full segment: v is the view before, and w after.
use Rattle.std.specs.Prelude.{ℕ, Some, None, true, false}
use Rattle.seg_rule.specs.declared.view.View.{View}
use Rattle.seg_rule.specs.declared.view.OpenTail.{OpenTail}
use Rattle.seg_rule.specs.declared.view.Stage.TheVariants.{Plain, Preparing}
use Rattle.seg_rule.specs.Steps.{fit_tail, no_scan, on_stage}

-- the tail that was closed, of a full segment, with its length and how many segments were opened before it
abbrev pub ended_tail : ℕ → ℕ → ℕ → ℕ → OpenTail
ended_tail place t length number = record { place = place; position = t; length = Some length; number = Some number; fits = false; full = true }

-- so many snapshots were read to observe the place
abbrev pub observed_by : View → ℕ → ℕ → View
observed_by v place count = record v { notes = record v.notes { scan = record v.notes.scan { observers = Some (place, count) } } }

-- so many words of the place are written
abbrev pub prepared : View → ℕ → ℕ → ℕ → ℕ → ℕ → View
prepared v current place t length words = on_stage v (Preparing current place t length words)

-- the place is current, and the slot of its tail is free for it
abbrev pub moved_on : View → ℕ → ℕ → ℕ → View
moved_on v place t length = record v { notes = record (no_scan v.notes) { tail = Some (fit_tail place t length None false) }; stage = Plain }
