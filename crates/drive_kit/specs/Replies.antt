-- The words of replies, read and written.
use Rattle.std.specs.Prelude.{◌<◌, ◌≤◌, ◌^◌, ℕ, List, [], ◌∷◌, ⊤, All, Bool, true, false, Option, Some, None, option_map, option_and_then, Result, Ok, Err, codes, decimal, map, if◌then◌else◌}
use Rattle.std.specs.Option.{ok_or}
use Rattle.std.specs.Str.{bytes_eq}
use Rattle.ho_model.specs.declared.histories.Call.{Call}
use Rattle.ho_model.specs.declared.histories.Reply.{Reply}
use Rattle.ho_model.specs.declared.histories.Reply.TheVariants.{Done, Dropped, Full, Refused, Item, ItemFrom, Empty, Ended, Closed, ClosedWith, Count, Numbers, Waiting, Ready, Faulted, Cancelled, CancelledWrite, Unknown, Flag}
use Rattle.drive_kit.specs.Answers.{fits}
use Rattle.drive_kit.specs.Causes.{and_then}
use Rattle.drive_kit.specs.Numbers.{caller_in, fault_in, number_in}
use Rattle.drive_kit.specs.declared.calls.Kind.{Kind}
use Rattle.drive_kit.specs.declared.causes.Cause.{Cause}
use Rattle.drive_kit.specs.declared.causes.Cause.TheVariants.{BadReply}

-- one word
unfoldable pub word_reply : List ℕ → Option Reply
word_reply said =
    if bytes_eq said (codes "done") then Some Done
    else if bytes_eq said (codes "full") then Some Full
    else if bytes_eq said (codes "empty") then Some Empty
    else if bytes_eq said (codes "ended") then Some Ended
    else if bytes_eq said (codes "closed") then Some Closed
    else if bytes_eq said (codes "cancelled") then Some Cancelled
    else if bytes_eq said (codes "unknown") then Some Unknown
    else if bytes_eq said (codes "yes") then Some (Flag true)
    else if bytes_eq said (codes "no") then Some (Flag false)
    else None

-- whether what was looked for is there
unfoldable pub flag_of : List ℕ → Option Bool
flag_of field =
    if bytes_eq field (codes "1") then Some true
    else if bytes_eq field (codes "0") then Some false
    else None

-- a word and a field
unfoldable pub pair_reply : List ℕ → List ℕ → Option Reply
pair_reply said field =
    if bytes_eq said (codes "item") then option_map Item (number_in field)
    else if bytes_eq said (codes "count") then option_map Count (number_in field)
    else if bytes_eq said (codes "waiting") then option_map Waiting (number_in field)
    else if bytes_eq said (codes "cancelled") then option_map CancelledWrite (number_in field)
    else if bytes_eq said (codes "closed") then option_map ClosedWith (fault_in field)
    else if bytes_eq said (codes "faulted") then option_map Faulted (fault_in field)
    else if bytes_eq said (codes "ready") then option_map Ready (flag_of field)
    else None

-- a write that was done, with the item that it dropped
abbrev pub dropped_of : List ℕ → List ℕ → Option Reply
dropped_of field item = if bytes_eq field (codes "dropped") then option_map Dropped (number_in item) else None

-- a word and two fields
unfoldable pub triple_reply : List ℕ → List ℕ → List ℕ → Option Reply
triple_reply said first second =
    if bytes_eq said (codes "done") then dropped_of first second
    else if bytes_eq said (codes "item") then option_and_then (λ item. option_map (λ from. ItemFrom item from) (caller_in second)) (number_in first)
    else if bytes_eq said (codes "refused") then option_and_then (λ fault. option_map (λ item. Refused fault item) (number_in second)) (fault_in first)
    else None

-- a reply that is no list of items
abbrev pub short_reply : List ℕ → List (List ℕ) → Option Reply
short_reply said [] = word_reply said
short_reply said (field ∷ []) = pair_reply said field
short_reply said (first ∷ second ∷ []) = triple_reply said first second
short_reply said fields = None

-- the numbers that all of the fields hold
abbrev pub numbers_of : List (List ℕ) → Option (List ℕ)
numbers_of [] = Some []
numbers_of (field ∷ fields) = option_and_then (λ n. option_map (λ ns. n ∷ ns) (numbers_of fields)) (number_in field)

-- the reply of a word and the fields behind it
unfoldable pub reply_of : List ℕ → List (List ℕ) → Option Reply
reply_of said more = if bytes_eq said (codes "items") then option_map Numbers (numbers_of more) else short_reply said more

abbrev pub if_fits : Kind → Call → Reply → Result Reply Cause
if_fits kind call said = if fits kind call said then Ok said else Err BadReply

-- the same to a call
abbrev pub reply_to : Kind → Call → List ℕ → List (List ℕ) → Result Reply Cause
reply_to kind call said more = and_then (ok_or (reply_of said more) BadReply) (if_fits kind call)

abbrev pub flag_field : Bool → List ℕ
flag_field true = codes "1"
flag_field false = codes "0"

-- the fields of a reply
unfoldable pub reply_fields : Reply → List (List ℕ)
reply_fields Done = codes "done" ∷ []
reply_fields (Dropped item) = codes "done" ∷ codes "dropped" ∷ decimal item ∷ []
reply_fields Full = codes "full" ∷ []
reply_fields (Refused fault item) = codes "refused" ∷ decimal fault ∷ decimal item ∷ []
reply_fields (Item item) = codes "item" ∷ decimal item ∷ []
reply_fields (ItemFrom item from) = codes "item" ∷ decimal item ∷ decimal from ∷ []
reply_fields Empty = codes "empty" ∷ []
reply_fields Ended = codes "ended" ∷ []
reply_fields Closed = codes "closed" ∷ []
reply_fields (ClosedWith fault) = codes "closed" ∷ decimal fault ∷ []
reply_fields (Count count) = codes "count" ∷ decimal count ∷ []
reply_fields (Numbers numbers) = codes "items" ∷ map decimal numbers
reply_fields (Waiting wait) = codes "waiting" ∷ decimal wait ∷ []
reply_fields (Ready flag) = codes "ready" ∷ flag_field flag ∷ []
reply_fields (Faulted fault) = codes "faulted" ∷ decimal fault ∷ []
reply_fields Cancelled = codes "cancelled" ∷ []
reply_fields (CancelledWrite item) = codes "cancelled" ∷ decimal item ∷ []
reply_fields Unknown = codes "unknown" ∷ []
reply_fields (Flag true) = codes "yes" ∷ []
reply_fields (Flag false) = codes "no" ∷ []

-- each number of a reply is one that a text can hold
abbrev pub IsWritable : Reply → Type 0
IsWritable (Dropped item) = item < 2 ^ 64
IsWritable (Refused fault item) = (fault ≤ 65535) × (item < 2 ^ 64)
IsWritable (Item item) = item < 2 ^ 64
IsWritable (ItemFrom item from) = (item < 2 ^ 64) × (from ≤ 15)
IsWritable (ClosedWith fault) = fault ≤ 65535
IsWritable (Count count) = count < 2 ^ 64
IsWritable (Numbers numbers) = All (λ n. n < 2 ^ 64) numbers
IsWritable (Waiting wait) = wait < 2 ^ 64
IsWritable (Faulted fault) = fault ≤ 65535
IsWritable (CancelledWrite item) = item < 2 ^ 64
IsWritable _ = ⊤
