-- A text to which a loop adds a piece for each item.
use Rattle.std.proofs.Common.{◌≡◌, ◌<◌, ◌≤◌, ◌+◌, ◌++◌, ◌∙◌, ℕ, List, [], ◌∷◌, length, take, get_or, Option, Some, ap, sym}
use Rattle.std.specs.List.{flat_map}
use Rattle.std.proofs.lemmas.List.{append-nil, flat_map_more, take_all, take_more}

pub no_piece : {X : Type 0} (piece : X → List ℕ) (xs : List X) (text : List ℕ) (written : Option (List ℕ)) → written ≡ Some text → written ≡ Some (text ++ flat_map piece (take 0 xs))
no_piece piece xs text written is = is ∙ ap (λ (t : List ℕ). Some t) (sym (append-nil text))

pub one_piece_more : {X : Type 0} (piece : X → List ℕ) (xs : List X) (i : ℕ) (x : X) (text : List ℕ) (written : Option (List ℕ)) → i < length xs → x ≡ get_or xs i x
    → written ≡ Some ((text ++ flat_map piece (take i xs)) ++ piece x) → written ≡ Some (text ++ flat_map piece (take (i + 1) xs))
one_piece_more piece xs i x text written h here is =
    is ∙ ap (λ (t : List ℕ). Some t) (flat_map_more piece text (take i xs) x ∙ ap (λ z. text ++ flat_map piece (take i xs ++ z ∷ [])) here ∙ ap (λ z. text ++ flat_map piece z) (sym (take_more xs i x h)))

-- the same of an item that is read by its place
pub one_read_more : {X : Type 0} (piece : X → List ℕ) (xs : List X) (i : ℕ) (d : X) (text : List ℕ) (written : Option (List ℕ)) → i < length xs
    → written ≡ Some ((text ++ flat_map piece (take i xs)) ++ piece (get_or xs i d)) → written ≡ Some (text ++ flat_map piece (take (i + 1) xs))
one_read_more piece xs i d text written h is =
    is ∙ ap (λ (t : List ℕ). Some t) (flat_map_more piece text (take i xs) (get_or xs i d) ∙ ap (λ z. text ++ flat_map piece z) (sym (take_more xs i d h)))

pub all_pieces : {X : Type 0} (piece : X → List ℕ) (xs : List X) (i : ℕ) (text : List ℕ) (written : Option (List ℕ)) → length xs ≤ i
    → written ≡ Some (text ++ flat_map piece (take i xs)) → written ≡ Some (text ++ flat_map piece xs)
all_pieces piece xs i text written h is = is ∙ ap (λ z. Some (text ++ flat_map piece z)) (take_all i xs h)
