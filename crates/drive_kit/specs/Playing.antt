-- What playing the rows of a script leaves of the pass: p before, and q after.
use Rattle.std.specs.Prelude.{◌≡◌, ◌++◌, ℕ, List, [], ◌∷◌, All, Bool, true, false, map, ⊤, Vec, Result, Ok, Err, IfOk}
use Rattle.std.specs.declared.alloc.Global.{Global}
use Rattle.atomic_table.specs.Seated.{TableId}
use Rattle.ho_base.specs.Marks.{number_priority}
use Rattle.ho_base.specs.declared.receipts.Receipt.{Receipt}
use Rattle.ho_model.specs.declared.marks.CallMark.{CallMark}
use Rattle.ho_model.specs.declared.marks.EntryMark.{EntryMark}
use Rattle.ho_model.specs.declared.marks.ReplyMark.{ReplyMark}
use Rattle.ho_model.specs.declared.marks.ReplyMark.TheVariants.{Item, Shown}
use Rattle.ho_model.specs.declared.objects.Object.{Object}
use Rattle.ho_model.specs.declared.histories.Call.{Call}
use Rattle.ho_model.specs.declared.histories.Reply.{Reply}
use Rattle.ho_model.specs.Histories.{part}
use Rattle.ho_model.specs.Written.{call_of, entry_of}
use Rattle.passes.specs.Numbers.{HasNumber}
use Rattle.passes.specs.Seen.{SeesEntry, IsLawful}
use Rattle.passes.specs.Views.{PassView, first_pass}
use Rattle.turn_lock.specs.Passes.{LockPass}
use Rattle.weave.specs.declared.made.Made.{Made}
use Rattle.weave.specs.Parts.{PartMade}
use Rattle.drive_kit.specs.Calls.{kind_of}
use Rattle.drive_kit.specs.Parts.{AreHeld, AreMade, Differ, IsPlaceOf, made_in, own_entries}
use Rattle.drive_kit.specs.Plans.{IsRowOf, calls_by}
use Rattle.drive_kit.specs.declared.calls.Kind.TheVariants as kind
use Rattle.drive_kit.specs.declared.callers.Played.{Played}
use Rattle.drive_kit.specs.declared.scripts.ScriptRow.{ScriptRow}
use Rattle.drive_kit.specs.declared.stands.DrivenPass.{DrivenPass}
use Rattle.drive_kit.specs.declared.stands.DrivenPass.TheVariants.{Turn, Queue, Bag}
use Rattle.drive_kit.specs.declared.stands.Stand.{Stand}
use Rattle.drive_kit.specs.declared.stands.Stand.TheVariants as stand

-- what passes of all objects have in common: the obstacles that tries met are left out
abbrev pub without_obstacles : {O : Type 0} → PassView O → LockPass
without_obstacles p = record { table = p.table; object = p.object; callers = p.callers; caller = p.caller; held = p.held; made = p.made; seen = p.seen; met = [] }

-- what contracts see of the pass, whichever object it is of
abbrev pub pass_of : DrivenPass → LockPass
pass_of (Turn p) = p
pass_of (Queue p) = without_obstacles p.pass
pass_of (Bag p) = without_obstacles p

-- the pass is of this object, and of its kind
abbrev pub IsOf : Stand → DrivenPass → Type 0
IsOf (stand.Channel table) (Turn p) = (p.table ≡ table) × (kind_of p.object ≡ kind.Channel)
IsOf (stand.Blocking table) (Turn p) = (p.table ≡ table) × (kind_of p.object ≡ kind.Blocking)
IsOf (stand.Queue table) (Turn p) = (p.table ≡ table) × (kind_of p.object ≡ kind.Queue)
IsOf (stand.Bag table) (Bag p) = (p.table ≡ table) × (kind_of p.object ≡ kind.Bag)
IsOf _ _ = ⊥

-- the first pass of such an object
abbrev pub IsFirst : Object → ℕ → LockPass → Type 0
IsFirst object callers p = (table : TableId) × (p ≡ first_pass table object callers)

-- what the receipts of an object tell: a place
abbrev pub IsReceiptOn : Stand → List EntryMark → EntryMark → Receipt → Type 0
IsReceiptOn on before e receipt = IsPlaceOf before e receipt

-- One entry more, of this call with this reply: what was seen goes on with entries of other callers, which
-- makes `before`, and then with it. All that is seen is legal, and the receipt tells of the entry.
abbrev pub Adds : (List EntryMark → EntryMark → Receipt → Type 0) → LockPass → Call → Reply → Receipt → LockPass → Type 0
Adds Tells p call said receipt q =
    let e = entry_of p.object (record { caller = p.caller; call = call; reply = said }) in
    (before : List EntryMark) × SeesEntry p.held p.seen before e q.seen × IsLawful number_priority p.object p.callers q.seen × Tells before e receipt

-- the calls of one caller that were seen, in order
abbrev pub calls_seen : ℕ → List EntryMark → List CallMark
calls_seen caller seen = map (λ e. e.call) (part caller seen)

-- The caller of the pass has made the calls of its rows, each once, in order, and no others, and these are
-- its calls with their receipts; all that is seen is legal.
pub record HasMade (on : Stand) (rows : List ScriptRow) (p : LockPass) (own : PartMade) : Type 0 where
  pub lawful : IsLawful number_priority p.object p.callers p.seen
  pub caller : own.caller ≡ p.caller
  pub calls : map (λ m. m.call) own.made ≡ calls_by p.caller rows
  pub entries : AreMade (IsReceiptOn on) p.object p.caller (own_entries p.caller [] p.seen) own.made

-- The same of each number that the pass holds, each with its part, if it has one.
pub record HasPlayed (on : Stand) (rows : List ScriptRow) (p : LockPass) (parts : List PartMade) : Type 0 where
  pub lawful : IsLawful number_priority p.object p.callers p.seen
  pub held : AreHeld p.held parts
  pub differ : Differ parts
  pub calls : (caller : ℕ) → HasNumber p.held caller → map (λ m. m.call) (made_in parts caller) ≡ calls_by caller rows
  pub entries : (caller : ℕ) → HasNumber p.held caller → AreMade (IsReceiptOn on) p.object caller (own_entries caller [] p.seen) (made_in parts caller)

-- the first calls are these, and more may follow
abbrev pub BeginCalls : List CallMark → List CallMark → Type 0
BeginCalls first all = (more : List CallMark) × (all ≡ first ++ more)

-- each number that the pass holds has made the first calls of its rows, each once, in order, and no others
pub record HasBegun (rows : List ScriptRow) (p : LockPass) : Type 0 where
  pub lawful : IsLawful number_priority p.object p.callers p.seen
  pub calls : (caller : ℕ) → HasNumber p.held caller → BeginCalls (calls_seen caller p.seen) (map call_of (calls_by caller rows))

-- the pass may play these rows: it is of this object, which has their calls, and has seen nothing
pub record MayPlay (on : Stand) (rows : List ScriptRow) (pass : DrivenPass) : Type 0 where
  pub of : IsOf on pass
  pub rows_of : All (IsRowOf (kind_of (pass_of pass).object)) rows
  pub own : HasNumber (pass_of pass).held (pass_of pass).caller
  pub fresh : (pass_of pass).seen ≡ []

-- The rows of all its numbers were played, or as many as memory was found for: it keeps its object and each
-- of its numbers.
pub record IsPlayed (on : Stand) (rows : List ScriptRow) (p : LockPass) (played : Played) : Type 0 where
  pub of : IsOf on played.pass
  pub object : (pass_of played.pass).object ≡ p.object
  pub callers : (pass_of played.pass).callers ≡ p.callers
  pub keeps : (caller : ℕ) → HasNumber p.held caller → HasNumber (pass_of played.pass).held caller
  pub begun : HasBegun rows (pass_of played.pass)
  pub made : IfOk played.made (λ made. HasPlayed on rows (pass_of played.pass) made.items)

-- the call was added, with its reply and its receipt
abbrev pub AddsMade : Stand → LockPass → Call → Made → LockPass → Type 0
AddsMade on p call made q = (made.call ≡ call) × Adds (IsReceiptOn on) p call made.reply made.receipt q

-- Whatever rows were played before, this one is played too; and where no memory was found, they were begun.
abbrev pub PlaysRow : {E : Type 0} → Stand → ScriptRow → LockPass → PartMade → LockPass → PartMade → Result Unit E → Type 0
PlaysRow on row p own q more (Ok done) = (rows : List ScriptRow) → HasMade on rows p own → HasMade on (rows ++ row ∷ []) q more
PlaysRow on row p own q more (Err want) = (rows : List ScriptRow) → HasMade on rows p own → HasBegun (rows ++ row ∷ []) q

-- all rows were played; and where no memory was found, they were begun
abbrev pub PlaysRows : {E : Type 0} → Stand → List ScriptRow → LockPass → Result PartMade E → Type 0
PlaysRows on rows p (Ok own) = HasMade on rows p own
PlaysRows on rows p (Err want) = HasBegun rows p

-- the pass holds no number but its caller's
abbrev pub HoldsOne : LockPass → Type 0
HoldsOne p = (caller : ℕ) → HasNumber p.held caller → caller ≡ p.caller

-- the part alone, where there is one
abbrev pub IsAlone : {E : Type 0} → Result PartMade E → Result (Vec PartMade Global) E → Type 0
IsAlone own (Err want) = ⊤
IsAlone (Ok own) (Ok all) = all.items ≡ own ∷ []
IsAlone _ (Ok all) = ⊥

-- the parts of both, where both have all of theirs
abbrev pub IsAppended : {E : Type 0} → Result (Vec PartMade Global) E → Result (Vec PartMade Global) E → Result (Vec PartMade Global) E → Type 0
IsAppended made more (Err want) = ⊤
IsAppended (Ok made) (Ok more) (Ok all) = all.items ≡ made.items ++ more.items
IsAppended _ _ (Ok all) = ⊥

-- an item that is given, and the number of one that is shown
abbrev pub is_item : ReplyMark → Bool
is_item (Item item) = true
is_item _ = false

abbrev pub is_shown : ReplyMark → Bool
is_shown (Shown number) = true
is_shown _ = false
