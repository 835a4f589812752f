-- The part of the rule on the place in preparation, as steps elsewhere leave it.
use Rattle.std.proofs.Common.{◌≡◌, ℕ, suc, ◌≤◌, sym, ◌∙◌, arith}
use Rattle.seg_rule.specs.Chain.{Seg, Segs}
use Rattle.seg_rule.specs.declared.form.Form.{Form}
use Rattle.seg_rule.specs.Rule.{PrepOk}

-- numbers change elsewhere
pub prep_numbers : (start len done number : ℕ → ℕ) (num num' : ℕ → ℕ → ℕ) (f : Form) (segs : Segs) (low last put : ℕ) (home untold watch : ℕ → ℕ) (prep : ℕ) (plan : Seg) (written : ℕ)
    → ((q i : ℕ) → prep ≡ suc q → num' q i ≡ num q i) → PrepOk start len done number num f segs low last put home untold watch prep plan written → PrepOk start len done number num' f segs low last put home untold watch prep plan written
prep_numbers start len done number num num' f segs low last put home untold watch prep plan written same k = record {
  inside = k.inside;
  lengths = k.lengths;
  apart = k.apart;
  no_take = k.no_take;
  full = k.full;
  start_is = k.start_is;
  len_is = k.len_is;
  done_is = k.done_is;
  number_is = k.number_is;
  num_is = λ q i e l w. let h = k.num_is q i e l w in (h.0, same q i e ∙ h.1, h.2, h.3, h.4);
}

-- a take is begun elsewhere
pub prep_takes : (start len done number : ℕ → ℕ) (num : ℕ → ℕ → ℕ) (f : Form) (segs : Segs) (low last put : ℕ) (home untold untold' watch : ℕ → ℕ) (prep : ℕ) (plan : Seg) (written : ℕ)
    → ((q : ℕ) → prep ≡ suc q → untold' q ≡ untold q) → PrepOk start len done number num f segs low last put home untold watch prep plan written → PrepOk start len done number num f segs low last put home untold' watch prep plan written
prep_takes start len done number num f segs low last put home untold untold' watch prep plan written same k = record {
  inside = k.inside;
  lengths = k.lengths;
  apart = k.apart;
  no_take = λ q e. same q e ∙ k.no_take q e;
  full = k.full;
  start_is = k.start_is;
  len_is = k.len_is;
  done_is = k.done_is;
  number_is = k.number_is;
  num_is = k.num_is;
}

-- any words change elsewhere, and takes begin and end elsewhere
pub prep_else : (start start' len len' done done' number number' : ℕ → ℕ) (num num' : ℕ → ℕ → ℕ) (f : Form) (segs : Segs) (low last put : ℕ) (home untold untold' watch : ℕ → ℕ) (prep : ℕ) (plan : Seg) (written : ℕ)
    → ((q : ℕ) → prep ≡ suc q → (start' q ≡ start q) × (len' q ≡ len q) × (done' q ≡ done q) × (number' q ≡ number q) × ((i : ℕ) → num' q i ≡ num q i) × (untold' q ≡ untold q))
    → PrepOk start len done number num f segs low last put home untold watch prep plan written → PrepOk start' len' done' number' num' f segs low last put home untold' watch prep plan written
prep_else start start' len len' done done' number number' num num' f segs low last put home untold untold' watch prep plan written same k = record {
  inside = k.inside;
  lengths = k.lengths;
  apart = k.apart;
  no_take = λ q e. (same q e).5 ∙ k.no_take q e;
  full = k.full;
  start_is = λ q e w. (same q e).0 ∙ k.start_is q e w;
  len_is = λ q e w. (same q e).1 ∙ k.len_is q e w;
  done_is = λ q e w. (same q e).2 ∙ k.done_is q e w;
  number_is = λ q e w. (same q e).3 ∙ k.number_is q e w;
  num_is = λ q i e l w. let h = k.num_is q i e l w in (h.0, (same q e).4 i ∙ h.1, h.2, h.3, h.4);
}

-- a segment is watched less
pub prep_watch : (start len done number : ℕ → ℕ) (num : ℕ → ℕ → ℕ) (f : Form) (segs : Segs) (low last put : ℕ) (home untold watch watch' : ℕ → ℕ) (prep : ℕ) (plan : Seg) (written : ℕ)
    → ((k : ℕ) → watch' k ≤ watch k) → PrepOk start len done number num f segs low last put home untold watch prep plan written → PrepOk start len done number num f segs low last put home untold watch' prep plan written
prep_watch start len done number num f segs low last put home untold watch watch' prep plan written less k = record {
  inside = k.inside;
  lengths = k.lengths;
  apart = λ q n e h. let a = k.apart q n e h in let b = less n in let z = a.1 in (a.0, omega arith);
  no_take = k.no_take;
  full = k.full;
  start_is = k.start_is;
  len_is = k.len_is;
  done_is = k.done_is;
  number_is = k.number_is;
  num_is = k.num_is;
}

-- nothing is in preparation
pub no_prep : (start len done number : ℕ → ℕ) (num : ℕ → ℕ → ℕ) (f : Form) (segs : Segs) (low last put : ℕ) (home untold watch : ℕ → ℕ) (prep : ℕ) (plan : Seg) (written : ℕ)
    → prep ≡ 0 → PrepOk start len done number num f segs low last put home untold watch prep plan written
no_prep start len done number num f segs low last put home untold watch prep plan written none = record {
  inside = λ q e. absurd (never q e);
  lengths = λ q e. absurd (never q e);
  apart = λ q k e h. absurd (never q e);
  no_take = λ q e. absurd (never q e);
  full = λ q e. absurd (never q e);
  start_is = λ q e w. absurd (never q e);
  len_is = λ q e w. absurd (never q e);
  done_is = λ q e w. absurd (never q e);
  number_is = λ q e w. absurd (never q e);
  num_is = λ q i e l w. absurd (never q e);
}
  where
    never : (q : ℕ) → prep ≡ suc q → ⊥
    never q e = let z : 0 ≡ suc q = sym none ∙ e in omega arith
