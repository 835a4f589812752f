-- Numbers of items, one more in each turn of a loop.
use Rattle.std.proofs.Common.{◌≡◌, ℕ, ◌+◌, ◌<◌, List, [], ◌∷◌, ◌++◌, map, take, length, get_or, sym, ◌∙◌, ap}
use Rattle.std.specs.Prelude.{Some, slice_get}
use Rattle.std.proofs.lemmas.List.{map_more, take-map, length-map, get_or-map, append_assoc}
use Rattle.ho_base.specs.Marks.{Mark, number_of}

-- what an item shows is its mark's number
shown : (m : Mark) (n : ℕ) → slice_get m 0 ≡ Some n → number_of m ≡ n
shown [] n h = absurd (cc h)
shown (k ∷ m) n h = cc h

pub numbers_more : {T : Type 0} (mark : T → Mark) (xs : List T) (i : ℕ) (x : T) (n : ℕ) (start now : List ℕ) → i < length xs → get_or xs i x ≡ x → slice_get (mark x) 0 ≡ Some n
    → now ≡ start ++ map number_of (take i (map mark xs)) → now ++ n ∷ [] ≡ start ++ map number_of (take (i + 1) (map mark xs))
numbers_more mark xs i x n start now inside at said before =
    let here : number_of (get_or (map mark xs) i []) ≡ n = ap number_of (get_or-map mark xs i x [] inside ∙ ap mark at) ∙ shown (mark x) n said in
    let long : i < length (map mark xs) = rw (length-map xs mark) inside in
    rw (map_more number_of (map mark xs) i [] long, here, before) (append_assoc start (map number_of (take i (map mark xs))) (n ∷ []))
