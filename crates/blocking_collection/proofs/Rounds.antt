-- Rounds, one after another.
use Rattle.std.proofs.Common.{◌≡◌, ℕ, suc, ◌<◌, ◌+◌, List, [], ◌∷◌, ◌++◌, Bool, true, false, refl, sym, ap, ◌∙◌, subst, arith, length, All, get_or, ◌⊎◌, inl, inr}
use Rattle.std.specs.Prelude.{IsTrue}
use Rattle.std.proofs.lemmas.List.Elements.{All-nil, All-cons, All-append}
use Rattle.std.proofs.Math.ListN.{length-append}
use Rattle.atomic_table.specs.Seated.{TableId}
use Rattle.ho_base.specs.Marks.{Mark}
use Rattle.turn_lock.specs.Passes.{LockPass}
use Rattle.cancel_flag.specs.Seen.{Token}
use Rattle.cancel_flag.specs.Looks.{LooksInVain, SeesAtLast}
use Rattle.cancel_flag.proofs.Looks.{no_look, looks_again, sees_at_last}
use Rattle.blocking_collection.specs.Own.{OwnCall, times}
use Rattle.blocking_collection.specs.Tries.{Tries, Stops}
use Rattle.blocking_collection.specs.Several.{AllOf, AllDid, no_item, no_items}
use Rattle.blocking_collection.specs.SeveralWaits.{SomeEmpty, Takes, StopsTaking}
use Rattle.blocking_collection.proofs.Doing.{same_table}
use Rattle.blocking_collection.proofs.Places.{all_on, all_same}

module _ (again : List OwnCall) (t : Token) where
  pub start : (A : List OwnCall → Type 0) → A [] → Tries again A t t
  start A a = record { rounds = 0; looked = no_look t; then = a }

  module _ (A B : List OwnCall → Type 0) (u : Token) (before : Tries again A t u) where
    pub ends : ((b : List OwnCall) → A b → B b) → Tries again B t u
    ends on = record { rounds = before.rounds; looked = before.looked; then = on (times before.rounds again) before.then }

    pub more : (v : Token) → v ≡ record u { looks = u.looks + 1; seen = false } → (u.seen ≡ true → IsTrue false) → ((b : List OwnCall) → A b → B (b ++ again)) → Tries again B t v
    more v look for_good on = record { rounds = suc before.rounds; looked = looks_again t u v before.rounds before.looked false look for_good refl; then = on (times before.rounds again) before.then }

    pub stops : (v : Token) → v ≡ record u { looks = u.looks + 1; seen = true } → ((b : List OwnCall) → A b → B (b ++ again)) → Stops again B t v
    stops v look on = record { rounds = suc before.rounds; looked = sees_at_last t u v before.rounds before.looked true look refl; then = on (times before.rounds again) before.then }

-- a token is not looked at where there is no member
pub not_looked : (t u : Token) (n : ℕ) → (u ≡ t) ⊎ (0 < n) → n ≡ 0 → u ≡ t
not_looked t u n (inl same) none = same
not_looked t u n (inr some) none = absurd (omega arith)

-- the passes are still of their collections
pub still_of : (pr : Mark → ℕ) (collections : List TableId) (old new : List LockPass) (ds : ℕ → List OwnCall) → AllOf collections old → AllDid pr old ds new → AllOf collections new
still_of pr collections old new ds of did = record {
  size = did.size ∙ of.size;
  each = λ i p c lt. same_table pr (get_or old i p) (get_or new i p) (ds i) (did.each i p (subst (λ (n : ℕ). i < n) (sym of.size) lt)) ∙ of.each i p c lt;
}

-- rounds of takes
no_items_more : (rs : List (ℕ → Bool)) (f : ℕ → Bool) (j : ℕ) → no_items (rs ++ f ∷ []) j ≡ no_items rs j ++ no_item j (f j) ∷ []
no_items_more [] f j = refl
no_items_more (g ∷ rs) f j = ap (λ (l : List OwnCall). no_item j (g j) ∷ l) (no_items_more rs f j)

pub round_taken : (pr : Mark → ℕ) (old mid new : List LockPass) (rs : List (ℕ → Bool)) (f : ℕ → Bool) → AllDid pr old (no_items rs) mid → AllDid pr mid (λ j. no_item j (f j) ∷ []) new → AllDid pr old (no_items (rs ++ f ∷ [])) new
round_taken pr old mid new rs f a b = all_same pr old new (λ j. no_items rs j ++ no_item j (f j) ∷ []) (no_items (rs ++ f ∷ [])) (λ j lt. no_items_more rs f j) (all_on pr old mid new (no_items rs) (λ j. no_item j (f j) ∷ []) a b)

module _ (n : ℕ) (t : Token) where
  pub take_start : (A : List (ℕ → Bool) → Type 0) → A [] → Takes n A t t
  take_start A a = record { rounds = []; some_empty = All-nil (SomeEmpty n); looked = no_look t; then = a }

  module _ (A B : List (ℕ → Bool) → Type 0) (u : Token) (before : Takes n A t u) where
    pub take_ends : ((b : List (ℕ → Bool)) → A b → B b) → Takes n B t u
    take_ends on = record { rounds = before.rounds; some_empty = before.some_empty; looked = before.looked; then = on before.rounds before.then }

    module _ (f : ℕ → Bool) (e : SomeEmpty n f) (v : Token) where
      one_more : suc (length before.rounds) ≡ length (before.rounds ++ f ∷ [])
      one_more = let grown = length-append before.rounds (f ∷ []) in omega arith

      all_more : All (SomeEmpty n) (before.rounds ++ f ∷ [])
      all_more = All-append (SomeEmpty n) before.rounds (f ∷ []) before.some_empty (All-cons (SomeEmpty n) f [] e (All-nil (SomeEmpty n)))

      pub take_more : v ≡ record u { looks = u.looks + 1; seen = false } → (u.seen ≡ true → IsTrue false) → ((b : List (ℕ → Bool)) → A b → B (b ++ f ∷ [])) → Takes n B t v
      take_more look for_good on = record {
        rounds = before.rounds ++ f ∷ [];
        some_empty = all_more;
        looked = subst (λ (k : ℕ). LooksInVain k t v) one_more (looks_again t u v (length before.rounds) before.looked false look for_good refl);
        then = on before.rounds before.then;
      }

      pub take_stops : v ≡ record u { looks = u.looks + 1; seen = true } → ((b : List (ℕ → Bool)) → A b → B (b ++ f ∷ [])) → StopsTaking n B t v
      take_stops look on = record {
        rounds = before.rounds ++ f ∷ [];
        some_empty = all_more;
        looked = subst (λ (k : ℕ). SeesAtLast k t v) one_more (sees_at_last t u v (length before.rounds) before.looked true look refl);
        then = on before.rounds before.then;
      }
