-- A fact for one variant of an attempt.
use Rattle.std.specs.Prelude.{⊤}
use Rattle.ho_base.specs.declared.receipts.Receipt.{Receipt}
use Rattle.turn_lock.specs.declared.attempt.Attempt.{Attempt}
use Rattle.turn_lock.specs.declared.attempt.Attempt.TheVariants.{Answer, Busy, Spent, NoMemory}

module _ {C R : Type 0} where
  abbrev pub IfAnswer : Attempt C R → (R → Receipt → Type 0) → Type 0
  IfAnswer (Answer reply receipt) P = P reply receipt
  IfAnswer _ P = ⊤

  abbrev pub IfBusy : Attempt C R → (C → Type 0) → Type 0
  IfBusy (Busy back) P = P back
  IfBusy _ P = ⊤

  abbrev pub IfSpent : Attempt C R → (C → Type 0) → Type 0
  IfSpent (Spent back) P = P back
  IfSpent _ P = ⊤

  abbrev pub IfNoMemory : Attempt C R → (C → Type 0) → Type 0
  IfNoMemory (NoMemory back) P = P back
  IfNoMemory _ P = ⊤
