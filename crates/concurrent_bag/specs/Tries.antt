-- What one try of a call on a bag of local lists comes to: p is the pass before, and q after.
use Rattle.std.specs.Prelude.{◌≡◌, ℕ, ◌≤◌, ◌^◌, ◌++◌, List, slice_index}
use Rattle.ho_base.specs.Marks.{Mark}
use Rattle.ho_model.specs.Entries.{entry}
use Rattle.ho_model.specs.declared.marks.CallMark.TheVariants as callmark
use Rattle.passes.specs.Seen.{IsLawful}
use Rattle.passes.specs.Views.{IsWhole}
use Rattle.passes.specs.Calls.{IsSamePass, AddsNoEntry}
use Rattle.bag_rule.specs.declared.view.Obstacle.{Obstacle}
use Rattle.bag_tries.specs.Causes.{OwnIsHeld, OwnIsFree, TakeIsHeld, MissesAnEvent}
use Rattle.concurrent_bag.specs.declared.answers.BagAgain.TheVariants as again
use Rattle.concurrent_bag.specs.declared.answers.BagAddOnce.{BagAddOnce}
use Rattle.concurrent_bag.specs.declared.answers.BagAddOnce.TheVariants as add
use Rattle.concurrent_bag.specs.declared.answers.BagTakeOnce.{BagTakeOnce}
use Rattle.concurrent_bag.specs.declared.answers.BagTakeOnce.TheVariants as take
use Rattle.concurrent_bag.specs.Seats.{BagView}
use Rattle.concurrent_bag.specs.Passes.{Answers}
use Rattle.concurrent_bag.specs.Answers.{AddReplies, take_mark}

-- the caller has made as many calls as it may
abbrev pub HasNoCallLeft : BagView → Type 0
HasNoCallLeft p = 2 ^ 37 ≤ slice_index p.made p.caller

-- A try made no entry, is not counted, and read this of others. It had a call left.
pub record MakesNone (priority : Mark → ℕ) (p q : BagView) (read : List Obstacle) : Type 0 where
  pub below_limit : ¬ HasNoCallLeft p
  pub same : IsSamePass p q
  pub no_entry : AddsNoEntry priority p q
  pub uncounted : q.made ≡ p.made
  pub met : q.met ≡ p.met ++ read

-- A caller that has no call left changes nothing.
pub record IsSpent (priority : Mark → ℕ) (p q : BagView) : Type 0 where
  pub at_limit : HasNoCallLeft p
  pub same : q ≡ p
  pub lawful : IsLawful priority p.object p.callers p.seen

module _ {T : Type 0} (priority : Mark → ℕ) (mark : T → Mark) (p q : BagView) where
  -- an add of x, which comes back where it is not kept
  abbrev pub AddsOnce : T → BagAddOnce T → Type 0
  AddsOnce x (add.Answer reply receipt) = (¬ HasNoCallLeft p) × AddReplies priority mark p q x reply receipt
  AddsOnce x (add.Again again.Held back) = (back ≡ x) × (¬ IsWhole p) × (read : List Obstacle) × MakesNone priority p q read × OwnIsHeld p.callers p.caller p.held read
  AddsOnce x (add.Again again.Lost back) = ⊥
  AddsOnce x (add.Spent back) = (back ≡ x) × IsSpent priority p q
  AddsOnce x (add.NoMemory back) = (back ≡ x) × (read : List Obstacle) × MakesNone priority p q read × OwnIsFree p.caller read

  -- a take
  abbrev pub TakesOnce : BagTakeOnce T → Type 0
  TakesOnce (take.Answer reply receipt) = (¬ HasNoCallLeft p) × Answers priority p (entry p.caller callmark.Take (take_mark mark reply)) receipt q
  TakesOnce (take.Again again.Held) = (¬ IsWhole p) × (read : List Obstacle) × MakesNone priority p q read × TakeIsHeld p.callers p.caller p.held read
  TakesOnce (take.Again again.Lost) = (¬ IsWhole p) × (read : List Obstacle) × MakesNone priority p q read × MissesAnEvent p.callers p.caller p.held read
  TakesOnce take.Spent = IsSpent priority p q
