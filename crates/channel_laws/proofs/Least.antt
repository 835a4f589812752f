-- The item that a read takes by priority is the first of least priority.
use Rattle.std.specs.Prelude.{◌≡◌, ℕ, ◌<◌, ◌≤◌, ◌+◌, List, [], ◌∷◌, Bool, true, false, Option, Some, None, length, nat_le, cond}
use Rattle.std.proofs.Common.{refl, ap, ◌∙◌, zero, suc, arith, add-one}
use Rattle.std.proofs.lemmas.Bool.{leb-true, leb-false}
use Rattle.ho_base.specs.Marks.{Mark}
use Rattle.ho_model.specs.Channel.{least_place, read_place, item_at}
use Rattle.channel_laws.specs.Laws.{IsFirstLeast}

record IsLeast (priority : Mark → ℕ) (buffer : List Mark) (found : ℕ × Mark) : Type 0 where
  pub below : found.0 < length buffer
  pub item : item_at buffer found.0 ≡ found.1
  pub least : (k : ℕ) → k < length buffer → priority found.1 ≤ priority (item_at buffer k)
  pub first : (k : ℕ) → k < found.0 → priority found.1 < priority (item_at buffer k)

least_one : (priority : Mark → ℕ) (x : Mark) (k : ℕ) → k < 1 → priority x ≤ priority (item_at (x ∷ []) k)
least_one priority x zero l = omega arith
least_one priority x (suc k) l = absurd (omega arith)

least_here : (priority : Mark → ℕ) (x : Mark) (xs : List Mark) (b : ℕ) → b ≤ priority x → ((k : ℕ) → k < length xs → b ≤ priority (item_at xs k)) → (k : ℕ) → k < length (x ∷ xs) → b ≤ priority (item_at (x ∷ xs) k)
least_here priority x xs b h more zero l = h
least_here priority x xs b h more (suc k) l = more k (omega arith)

first_here : (priority : Mark → ℕ) (x : Mark) (xs : List Mark) (b place : ℕ) → b < priority x → ((k : ℕ) → k < place → b < priority (item_at xs k)) → (k : ℕ) → k < place + 1 → b < priority (item_at (x ∷ xs) k)
first_here priority x xs b place h more zero l = h
first_here priority x xs b place h more (suc k) l = more k (omega arith)

least_step : (priority : Mark → ℕ) (x y : Mark) (ys : List Mark) (rest : ℕ × Mark) (t : Bool) → nat_le (priority x) (priority rest.1) ≡ t → IsLeast priority (y ∷ ys) rest → IsLeast priority (x ∷ y ∷ ys) (cond {A = ℕ × Mark} t (0, x) (rest.0 + 1, rest.1))
least_step priority x y ys rest true e was =
    let l : priority x ≤ priority rest.1 = leb-true (priority x) (priority rest.1) e in
    record {
      below = omega arith;
      item = refl;
      least = least_here priority x (y ∷ ys) (priority x) (omega arith) (λ k b. (let m = was.least k b in omega arith));
      first = λ k b. absurd (omega arith);
    }
least_step priority x y ys rest false e was =
    let l : priority rest.1 < priority x = leb-false (priority x) (priority rest.1) e in
    let b = was.below in
    record {
      below = omega arith;
      item = ap (item_at (x ∷ y ∷ ys)) (add-one rest.0) ∙ was.item;
      least = least_here priority x (y ∷ ys) (priority rest.1) (omega arith) was.least;
      first = first_here priority x (y ∷ ys) (priority rest.1) rest.0 l was.first;
    }

least_is : (priority : Mark → ℕ) (x : Mark) (xs : List Mark) → IsLeast priority (x ∷ xs) (least_place priority x xs)
least_is priority x [] = record { below = omega arith; item = refl; least = least_one priority x; first = λ k b. absurd (omega arith) }
least_is priority x (y ∷ ys) = least_step priority x y ys (least_place priority y ys) (nat_le (priority x) (priority (least_place priority y ys).1)) refl (least_is priority y ys)

pub reads_take_first_least : (priority : Mark → ℕ) (buffer : List Mark) → 0 < length buffer → IsFirstLeast priority buffer (read_place (Some priority) buffer)
reads_take_first_least priority [] h = absurd (omega arith)
reads_take_first_least priority (x ∷ xs) h =
    let was = least_is priority x xs in
    record {
      below = was.below;
      least = λ k l. rw was.item (was.least k l);
      first = λ k l. rw was.item (was.first k l);
    }

-- the place of a read is one of the buffer's
pub read_below : (priority : Option (Mark → ℕ)) (buffer : List Mark) → 0 < length buffer → read_place priority buffer < length buffer
read_below None buffer h = h
read_below (Some priority) buffer h = (reads_take_first_least priority buffer h).below
