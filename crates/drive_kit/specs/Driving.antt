-- What playing a script on a shared object comes to.
use Rattle.std.specs.Prelude.{◌≡◌, ℕ, List, ⊤, None}
use Rattle.ho_model.specs.declared.histories.Entry.{Entry}
use Rattle.ho_model.specs.Histories.{part}
use Rattle.ho_model.specs.Written.{history_of}
use Rattle.passes.specs.Views as passes
use Rattle.passes.specs.Views.{PassView}
use Rattle.drive_kit.specs.Calls.{kind_of}
use Rattle.drive_kit.specs.Checks.{IsLegalFor, IsWhole}
use Rattle.drive_kit.specs.Plans.{Plan, callers_of}
use Rattle.drive_kit.specs.declared.calls.Kind.{Kind}
use Rattle.drive_kit.specs.declared.calls.Kind.TheVariants as kinds
use Rattle.drive_kit.specs.declared.stands.DrivenPass.{DrivenPass}
use Rattle.drive_kit.specs.declared.stands.DrivenPass.TheVariants.{Turn, Queue, Bag}

-- the pass of an object with the script's parameters, for the script's callers, that holds all numbers
pub record IsWholePass {O : Type 0} (plan : Plan) (p : PassView O) : Type 0 where
  pub object : p.object ≡ plan.object
  pub callers : p.callers ≡ callers_of plan.rows
  pub whole : passes.IsWhole p

module _ {O : Type 0} (plan : Plan) (history : List Entry) (p : PassView O) where
  -- the pass has seen just this history
  abbrev pub HasSeen : Type 0
  HasSeen = p.seen ≡ history_of plan.object history

  -- it has seen the same of each caller, whatever the order of different callers
  abbrev pub HasSeenParts : Type 0
  HasSeenParts = (caller : ℕ) → part caller p.seen ≡ part caller (history_of plan.object history)

-- the pass is that of such an object: a channel, a blocking collection and a queue stand behind a turn, and a
-- bag does not
abbrev pub IsPassOf : Kind → DrivenPass → Type 0
IsPassOf kinds.Channel (Turn p) = ⊤
IsPassOf kinds.Blocking (Turn p) = ⊤
IsPassOf kinds.Queue (Turn p) = ⊤
IsPassOf kinds.Bag (Bag p) = ⊤
IsPassOf _ _ = ⊥

-- the whole pass shows the history
abbrev pub IsShown : Plan → List Entry → DrivenPass → Type 0
IsShown plan history (Turn p) = IsWholePass plan p × HasSeen plan history p
IsShown plan history (Bag p) = IsWholePass plan p × HasSeen plan history p
IsShown plan history (Queue p) = IsWholePass plan p.pass × HasSeenParts plan history p.pass × (p.window ≡ None)

-- a script was played: the history is legal for its object, each caller made the calls of its rows, each
-- once, in order, and no others, and the pass, which is that of such an object, shows it
pub record IsDriven (plan : Plan) (history : List Entry) (pass : DrivenPass) : Type 0 where
  pub legal : IsLegalFor plan history
  pub whole : IsWhole plan history
  pub kind : IsPassOf (kind_of plan.object) pass
  pub shown : IsShown plan history pass
