-- Ranges of segments, by their numbers.
use Rattle.std.proofs.Common.{◌≡◌, ℕ, ◌<◌, ◌≤◌, ltb, leb, Bool, true, false, ◌&&◌, sym, refl}
use Rattle.std.proofs.lemmas.Bool.{and_from, and_parts, lt-ltb, ltb-true, leb-true, le-leb}

pub range_is : (b e n : ℕ) → b ≤ n → n < e → (leb b n && ltb n e) ≡ true
range_is b e n l r = and_from (leb b n) (ltb n e) (le-leb b n l) (lt-ltb n e r)

pub range_told : (b e n : ℕ) → (leb b n && ltb n e) ≡ true → (b ≤ n) × (n < e)
range_told b e n r = let a = and_parts (leb b n) (ltb n e) r in (leb-true b n a.0, ltb-true n e a.1)

pub same_flag : (a b : Bool) → (a ≡ true → b ≡ true) → (b ≡ true → a ≡ true) → a ≡ b
same_flag true b f g = sym (f refl)
same_flag false true f g = g refl
same_flag false false f g = refl

pub false_flag : (a : Bool) → (a ≡ true → ⊥) → a ≡ false
false_flag true f = absurd (f refl)
false_flag false f = refl
