-- What callers made, beside what was seen of it.
use Rattle.std.specs.Prelude.{◌≡◌, ◌≢◌, ◌++◌, ℕ, List, [], ◌∷◌, Bool, length, ◌==◌, ⊤, if◌then◌else◌}
use Rattle.ho_base.specs.declared.receipts.Receipt.{Receipt}
use Rattle.ho_base.specs.declared.receipts.Receipt.TheVariants.{Place}
use Rattle.ho_model.specs.declared.marks.EntryMark.{EntryMark}
use Rattle.ho_model.specs.declared.objects.Object.{Object}
use Rattle.ho_model.specs.Written.{entry_of}
use Rattle.passes.specs.Numbers.{HasNumber}
use Rattle.weave.specs.declared.made.Made.{Made}
use Rattle.weave.specs.Parts.{PartMade, entry_told}

-- a caller's entry, and what was seen before it
pub record OwnEntry : Type 0 where
  pub before : List EntryMark
  pub entry : EntryMark

-- those of one caller, where this was seen before them all
abbrev pub own_entries : ℕ → List EntryMark → List EntryMark → List OwnEntry
own_entries caller before [] = []
own_entries caller before (e ∷ es) =
    if e.caller == caller then record { before = before; entry = e } ∷ own_entries caller (before ++ e ∷ []) es
    else own_entries caller (before ++ e ∷ []) es

-- the receipt is the number of entries before
abbrev pub IsPlaceOf : List EntryMark → EntryMark → Receipt → Type 0
IsPlaceOf before e receipt = receipt ≡ Place (length before)

-- what a receipt tells of an entry and those before it
module _ (Tells : List EntryMark → EntryMark → Receipt → Type 0) (o : Object) (caller : ℕ) where
  -- the call made this entry, of which its receipt tells
  abbrev pub IsMade : OwnEntry → Made → Type 0
  IsMade own made = (own.entry ≡ entry_of o (entry_told (record { caller = caller; made = made }))) × Tells own.before own.entry made.receipt

  -- the calls made these entries, in order
  abbrev pub AreMade : List OwnEntry → List Made → Type 0
  AreMade [] [] = ⊤
  AreMade (own ∷ owns) (made ∷ more) = IsMade own made × AreMade owns more
  AreMade _ _ = ⊥

-- what a caller made: nothing, where no part is its own
abbrev pub made_in : List PartMade → ℕ → List Made
made_in [] caller = []
made_in (p ∷ parts) caller = if p.caller == caller then p.made else made_in parts caller

-- no part is this caller's
abbrev pub Lacks : ℕ → List PartMade → Type 0
Lacks caller [] = ⊤
Lacks caller (p ∷ parts) = (p.caller ≢ caller) × Lacks caller parts

-- each part is another caller's
abbrev pub Differ : List PartMade → Type 0
Differ [] = ⊤
Differ (p ∷ parts) = Lacks p.caller parts × Differ parts

-- each part is that of a number held
abbrev pub AreHeld : List Bool → List PartMade → Type 0
AreHeld held [] = ⊤
AreHeld held (p ∷ parts) = HasNumber held p.caller × AreHeld held parts
