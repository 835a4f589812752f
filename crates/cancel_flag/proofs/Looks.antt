-- Looks at a token, one after another.
use Rattle.std.proofs.Common.{◌≡◌, ℕ, ◌+◌, Bool, true, false, true≢false, refl, sym, ap, ◌∙◌, suc, arith, add-zero}
use Rattle.cancel_flag.specs.Seen.{Token}
use Rattle.cancel_flag.specs.Looks.{LooksInVain, LooksOut, SeesAtLast}

token_is : (t u : Token) → u.word ≡ t.word → u.looks ≡ t.looks → u.seen ≡ t.seen → u ≡ t
token_is t u word looks seen = λ i. record { word = word i; looks = looks i; seen = seen i }

-- what a look that read 0 tells of what was seen before
had_not : (before after : Bool) → (before ≡ true → after ≡ true) → after ≡ false → before ≡ false
had_not true after for_good unset = absurd (true≢false (sym (for_good refl) ∙ unset))
had_not false after for_good unset = refl

pub no_look : (t : Token) → LooksInVain 0 t t
no_look t = record { looked = λ i. record t { looks = sym (add-zero t.looks) i }; unseen = λ h. absurd (omega arith) }

-- one look more, after looks in vain
module _ (t u v : Token) (count : ℕ) (before : LooksInVain count t u) (seen : Bool) (look : v ≡ record u { looks = u.looks + 1; seen = seen }) where
  same_word : v.word ≡ t.word
  same_word = ap (λ (k : Token). k.word) look ∙ ap (λ (k : Token). k.word) before.looked

  one_more : v.looks ≡ t.looks + suc count
  one_more =
      let last : v.looks ≡ u.looks + 1 = ap (λ (k : Token). k.looks) look in
      let others : u.looks ≡ t.looks + count = ap (λ (k : Token). k.looks) before.looked in
      omega arith

  pub looks_again : (u.seen ≡ true → seen ≡ true) → seen ≡ false → LooksInVain (suc count) t v
  looks_again for_good unset =
      let unseen : t.seen ≡ false = sym (ap (λ (k : Token). k.seen) before.looked) ∙ had_not u.seen seen for_good unset in record {
        looked = token_is (record t { looks = t.looks + suc count }) v same_word one_more (ap (λ (k : Token). k.seen) look ∙ (unset ∙ sym unseen));
        unseen = λ h. unseen;
      }

  pub looks_out : (u.seen ≡ true → seen ≡ true) → LooksOut (suc count) t v
  looks_out for_good = record {
    some = omega arith;
    looked = token_is (record t { looks = t.looks + suc count; seen = v.seen }) v same_word one_more refl;
    unseen = λ h. before.unseen (omega arith);
    for_good = λ set. ap (λ (k : Token). k.seen) look ∙ for_good (ap (λ (k : Token). k.seen) before.looked ∙ set);
  }

  pub sees_at_last : seen ≡ true → SeesAtLast (suc count) t v
  sees_at_last set = record { out = looks_out (λ h. set); seen = ap (λ (k : Token). k.seen) look ∙ set }
