-- The first item of least priority, found from the end of a list.
use Rattle.std.proofs.Common.{◌≡◌, ℕ, ◌+◌, ◌-◌, ◌<◌, ◌≤◌, ◌/◌, List, [], ◌∷◌, length, map, drop, get_or, refl, sym, ap, subst, ◌∙◌, Bool, true, false, arith, add-one}
use Rattle.std.specs.Prelude.{nat_le, if◌then◌else◌}
use Rattle.std.proofs.Math.Seq.{drop-cons}
use Rattle.std.proofs.lemmas.List.{length-drop, length-map}
use Rattle.ho_base.specs.Marks.{Mark, number_priority}
use Rattle.ho_model.specs.Channel.{least_place}
use Rattle.ho_model.specs.Written.{mark_of}
use Rattle.ho_model.proofs.Marked.{mark_at}

-- its place and itself
abbrev pub least_of : (Mark → ℕ) → List Mark → ℕ × Mark
least_of priority [] = (0, [])
least_of priority (x ∷ xs) = least_place priority x xs

-- one item more, before others
pub least_before : (priority : Mark → ℕ) (x : Mark) (xs : List Mark) (found : ℕ × Mark) → 0 < length xs → least_of priority xs ≡ found
    → least_of priority (x ∷ xs) ≡ (if nat_le (priority x) (priority found.1) then (0, x) else (found.0 + 1, found.1))
least_before priority x [] found some is = absurd (omega arith)
least_before priority x (y ∷ ys) found some is =
    ap (λ (rest : ℕ × Mark). if nat_le (priority x) (priority rest.1) then (0, x) else (rest.0 + 1, rest.1)) is

-- an item and its place, counted from i
abbrev pub found : List Mark → ℕ → ℕ → ℕ × Mark
found xs i place = (place - i, get_or xs place [])

-- the scan goes on: the item before the place is least, or the one that was found is
least_step : (priority : Mark → ℕ) (xs : List Mark) (i least : ℕ) (test : Bool) → i + 1 ≤ least → nat_le (priority (get_or xs i [])) (priority (get_or xs least [])) ≡ test
    → ◌≡◌ {A = ℕ × Mark} (if nat_le (priority (get_or xs i [])) (priority (get_or xs least [])) then (0, get_or xs i []) else ((least - (i + 1)) + 1, get_or xs least [])) (found xs i (if test then i else least))
least_step priority xs i least true order is =
    let none : 0 ≡ i - i = omega arith in rw is (ap (λ (n : ℕ). (n, get_or xs i [])) none)
least_step priority xs i least false order is =
    let more : (least - (i + 1)) + 1 ≡ least - i = omega arith in rw is (ap (λ (n : ℕ). (n, get_or xs least [])) more)

pub least_more : (priority : Mark → ℕ) (xs : List Mark) (i least chosen : ℕ) → i + 1 ≤ least → least < length xs → least_of priority (drop (i + 1) xs) ≡ (least - (i + 1), get_or xs least [])
    → chosen ≡ (if nat_le (priority (get_or xs i [])) (priority (get_or xs least [])) then i else least) → least_of priority (drop i xs) ≡ (chosen - i, get_or xs chosen [])
least_more priority xs i least chosen order inside was is =
    let some : 0 < length (drop (i + 1) xs) = simp length-drop (omega arith) in
    let here : i < length xs = omega arith in
    ap (least_of priority) (drop-cons xs i [] here ∙ ap (λ (n : ℕ). get_or xs i [] ∷ drop n xs) (sym (add-one i)))
    ∙ least_before priority (get_or xs i []) (drop (i + 1) xs) (least - (i + 1), get_or xs least []) some was
    ∙ least_step priority xs i least (nat_le (priority (get_or xs i [])) (priority (get_or xs least []))) order refl
    ∙ ap (found xs i) (sym is)

chosen_within : (i least : ℕ) (test : Bool) → i ≤ least → (i ≤ (if test then i else least)) × ((if test then i else least) ≤ least)
chosen_within i least true order = (omega arith, order)
chosen_within i least false order = (order, omega arith)

-- the place stays between the two
pub lesser_within : (i least chosen : ℕ) (test : Bool) → i ≤ least → chosen ≡ (if test then i else least) → (i ≤ chosen) × (chosen ≤ least)
lesser_within i least chosen test order is =
    let P : ℕ → Type 0 = λ n. (i ≤ n) × (n ≤ least) in subst P (sym is) (chosen_within i least test order)

-- the same of numbers, as the code compares them
pub scan_more : (ns : List ℕ) (i least chosen : ℕ) → i + 1 ≤ least → least < length (map mark_of ns) → least_of number_priority (drop (i + 1) (map mark_of ns)) ≡ (least - (i + 1), get_or (map mark_of ns) least [])
    → chosen ≡ (if nat_le (get_or ns i 0 / 1000) (get_or ns least 0 / 1000) then i else least) → least_of number_priority (drop i (map mark_of ns)) ≡ (chosen - i, get_or (map mark_of ns) chosen [])
scan_more ns i least chosen order inside was is =
    let same_length = length-map ns mark_of in
    let long : least < length ns = omega arith in
    let short : i < length ns = omega arith in
    let here = mark_at ns i 0 short in
    let there = mark_at ns least 0 long in
    let alike : (if nat_le (get_or ns i 0 / 1000) (get_or ns least 0 / 1000) then i else least)
    ≡ (if nat_le (number_priority (get_or (map mark_of ns) i [])) (number_priority (get_or (map mark_of ns) least [])) then i else least) = rw (here, there) refl in
    least_more number_priority (map mark_of ns) i least chosen order inside was (is ∙ alike)
