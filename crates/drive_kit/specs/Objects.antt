-- The row that names a script's object.
use Rattle.std.specs.Prelude.{◌≡◌, ◌≤◌, ℕ, List, [], ◌∷◌, ⊤, true, ◌==◌, Option, Some, None, option_map, option_and_then, codes, if◌then◌else◌}
use Rattle.std.specs.Int.{is_power_of_two}
use Rattle.std.specs.Str.{bytes_eq}
use Rattle.ho_model.specs.declared.objects.Mode.{Mode}
use Rattle.ho_model.specs.declared.objects.Mode.TheVariants as mode
use Rattle.ho_model.specs.declared.objects.Store.{Store}
use Rattle.ho_model.specs.declared.objects.Store.TheVariants as store
use Rattle.ho_model.specs.declared.objects.Object.{Object}
use Rattle.ho_model.specs.declared.objects.Object.TheVariants.{Queue, Bag, Unbounded, Bounded, Prioritized, Blocking}
use Rattle.drive_kit.specs.Numbers.{number_within}

unfoldable pub mode_of : List ℕ → Option Mode
mode_of word =
    if bytes_eq word (codes "wait") then Some mode.Wait
    else if bytes_eq word (codes "dropnewest") then Some mode.DropNewest
    else if bytes_eq word (codes "dropoldest") then Some mode.DropOldest
    else if bytes_eq word (codes "dropwrite") then Some mode.DropWrite
    else None

unfoldable pub store_of : List ℕ → Option Store
store_of word =
    if bytes_eq word (codes "fifo") then Some store.Fifo
    else if bytes_eq word (codes "lifo") then Some store.Lifo
    else if bytes_eq word (codes "bag") then Some store.Bag
    else None

abbrev pub power_of_two : ℕ → Option ℕ
power_of_two n = if is_power_of_two n then Some n else None

-- the length of a queue's first segment
unfoldable pub first_length_of : List ℕ → Option ℕ
first_length_of field = option_and_then power_of_two (number_within 2 1024 field)

-- a bound on items, or none at 0
abbrev pub bound_or_none : ℕ → Option ℕ
bound_or_none n = if n == 0 then None else Some n

unfoldable pub bound_of : List ℕ → Option (Option ℕ)
bound_of field = option_map bound_or_none (number_within 0 65536 field)

-- `ROOM,FIRST`, `CAP,MODE` and `STORE,BOUND`
unfoldable pub queue_of : List ℕ → List ℕ → Option Object
queue_of room first_len = option_and_then (λ r. option_map (λ f. Queue r f) (first_length_of first_len)) (number_within 1 4096 room)

unfoldable pub bounded_of : List ℕ → List ℕ → Option Object
bounded_of capacity full = option_and_then (λ c. option_map (λ m. Bounded c m) (mode_of full)) (number_within 1 65536 capacity)

unfoldable pub blocking_of : List ℕ → List ℕ → Option Object
blocking_of kept bound = option_and_then (λ s. option_map (λ b. Blocking s b) (bound_of bound)) (store_of kept)

-- an object without numbers
unfoldable pub plain_object : List ℕ → Option Object
plain_object name =
    if bytes_eq name (codes "bag") then Some Bag
    else if bytes_eq name (codes "unbounded") then Some Unbounded
    else if bytes_eq name (codes "prioritized") then Some Prioritized
    else None

-- an object with two fields after its name
unfoldable pub object_with : List ℕ → List ℕ → List ℕ → Option Object
object_with name first second =
    if bytes_eq name (codes "queue") then queue_of first second
    else if bytes_eq name (codes "bounded") then bounded_of first second
    else if bytes_eq name (codes "blocking") then blocking_of first second
    else None

-- the object that a row names
abbrev pub object_of : List (List ℕ) → Option Object
object_of (name ∷ []) = plain_object name
object_of (name ∷ first ∷ second ∷ []) = object_with name first second
object_of fields = None

abbrev pub IsBetween : ℕ → ℕ → ℕ → Type 0
IsBetween least most n = (least ≤ n) × (n ≤ most)

abbrev pub IsBound : Option ℕ → Type 0
IsBound None = ⊤
IsBound (Some bound) = IsBetween 1 65536 bound

-- an object with numbers in the ranges of scripts
abbrev pub IsBuildable : Object → Type 0
IsBuildable (Queue room first_len) = IsBetween 1 4096 room × IsBetween 2 1024 first_len × (is_power_of_two first_len ≡ true)
IsBuildable (Bounded capacity full) = IsBetween 1 65536 capacity
IsBuildable (Blocking kept bound) = IsBound bound
IsBuildable _ = ⊤
