-- What each kind of step leaves of a pass: its own steps, those of another pass, a split and a join.
use Rattle.std.proofs.Common.{◌≡◌, ◌≢◌, ℕ, ◌+◌, ◌<◌, ◌≤◌, cond, List, [], ◌∷◌, ◌++◌, length, get_or, Bool, true, false, sym, refl, ap, ◌∙◌, subst, arith, eq-eqb, ne_eqb, true≢false, length-set, append-nil}
use Rattle.std.specs.Prelude.{nat_le}
use Rattle.std.proofs.lemmas.Bool.{leb-true, leb-false}
use mathlib.Core.Logic.{dite}
use native.Mathlib.Decide.{ℕ_discrete}
use Rattle.ho_model.specs.declared.marks.EntryMark.{EntryMark}
use Rattle.passes.specs.Numbers.{HasNumber, HasAll, raised, only, give, held_both, made_both}
use Rattle.passes.specs.Seen.{AreOthers, SeesOthers, longer}
use Rattle.passes.specs.Holders.{Holder, Meet, split_owner, join_owner}
use Rattle.passes.proofs.Flags.{by_flag, not_held, only_one, down_held, both_up, made_both_at, made_both_length, raised_here, raised_else}
use Rattle.passes.proofs.Seen.{others_down, others_only, others_both, others_none, others_drop, others_front, sees_same, sees_more, begins_longer}

module _ (n : ℕ) (log : List EntryMark) (made : List ℕ) (owner : ℕ → ℕ) (seat : ℕ) (held : List Bool) (counts : List ℕ) (seen : List EntryMark) (h : Holder n log made owner seat held counts seen) where
  -- its own step: it sees the whole history
  pub holder_sees : Holder n log made owner seat held counts log
  holder_sees = record { behind = sees_same held log; owns = h.owns; agrees = h.agrees; wide = h.wide }

  -- its own step: it has seen all, and an entry of its own stands last
  pub holder_enters : (e : EntryMark) → Holder n (log ++ e ∷ []) made owner seat held counts ((seen ++ h.behind.0) ++ e ∷ [])
  holder_enters e = record {
    behind = ([], ap (λ (l : List EntryMark). l ++ e ∷ []) h.behind.1 ∙ sym (append-nil ((seen ++ h.behind.0) ++ e ∷ [])), tt);
    owns = h.owns;
    agrees = h.agrees;
    wide = h.wide;
  }

  -- its own step: a call of its own is counted
  pub holder_counts : (c : ℕ) → c < length made → c < 64 → HasNumber held c → Holder n log (raised made c) owner seat held (raised counts c) seen
  holder_counts c inside low has = record {
    behind = h.behind;
    owns = h.owns;
    agrees = λ d up. dite (ℕ_discrete d c)
        (λ e. subst (λ (z : ℕ). get_or (raised counts c) z 0 ≡ get_or (raised made c) z 0) (sym e)
        (raised_here counts c (let w = h.wide in omega arith) ∙ (ap (λ (z : ℕ). z + 1) (h.agrees c has) ∙ sym (raised_here made c inside))))
        (λ ne. raised_else counts c (let w = h.wide in omega arith) d ne ∙ (h.agrees d up ∙ sym (raised_else made c inside d ne)));
    wide = length-set counts c (get_or counts c 0 + 1) ∙ h.wide;
  }

  -- a number of another seat is not held
  pub not_theirs : (me c : ℕ) → seat ≢ me → owner c ≡ me → get_or held c false ≡ false
  not_theirs me c not own = not_held held c (λ up. not (sym (h.owns c up).0 ∙ own))

  -- another seat's step: a call is counted
  pub others_count : (me c : ℕ) → c < length made → seat ≢ me → owner c ≡ me → Holder n log (raised made c) owner seat held counts seen
  others_count me c inside not own = record {
    behind = h.behind;
    owns = h.owns;
    agrees = λ d up. h.agrees d up ∙ sym (raised_else made c inside d (λ is. not (sym (h.owns d up).0 ∙ (ap owner is ∙ own))));
    wide = h.wide;
  }

  -- another seat's step: an entry
  pub others_enter : (me : ℕ) (e : EntryMark) → seat ≢ me → owner e.caller ≡ me → Holder n (log ++ e ∷ []) made owner seat held counts seen
  others_enter me e not own = record {
    behind = sees_more held seen log (e ∷ []) h.behind (not_theirs me e.caller not own, tt);
    owns = h.owns;
    agrees = h.agrees;
    wide = h.wide;
  }

  -- a split: the number c is given to a fresh seat
  module _ (c fresh : ℕ) where
    split_here : split_owner owner c fresh c ≡ fresh
    split_here = ap (λ (b : Bool). cond b fresh (owner c)) (eq-eqb c c refl)

    split_else : (d : ℕ) → d ≢ c → split_owner owner c fresh d ≡ owner d
    split_else d ne = ap (λ (b : Bool). cond b fresh (owner d)) (ne_eqb d c ne)

    pub holder_left : Holder n log made (split_owner owner c fresh) seat (give held c) counts seen
    holder_left = record {
      behind = (h.behind.0, h.behind.1, others_down held c h.behind.0 h.behind.2);
      owns = λ d up. let x = down_held held c d up in let y = h.owns d x.1 in (split_else d x.0 ∙ y.0, y.1);
      agrees = λ d up. h.agrees d (down_held held c d up).1;
      wide = h.wide;
    }

    pub holder_right : HasNumber held c → Holder n log made (split_owner owner c fresh) fresh (only c) counts seen
    holder_right has = record {
      behind = (h.behind.0, h.behind.1, others_only held c h.behind.0 has h.behind.2);
      owns = λ d up. let is = only_one c d up in (ap (split_owner owner c fresh) is ∙ split_here, subst (λ (z : ℕ). z < n) (sym is) (h.owns c has).1);
      agrees = λ d up. h.agrees d (subst (λ (z : ℕ). HasNumber held z) (sym (only_one c d up)) has);
      wide = h.wide;
    }

    -- any other seat
    pub holder_split : (me : ℕ) → seat ≢ me → owner c ≡ me → Holder n log made (split_owner owner c fresh) seat held counts seen
    holder_split me not own = record {
      behind = h.behind;
      owns = λ d up. let y = h.owns d up in (split_else d (λ (is : d ≡ c). not (sym y.0 ∙ (ap owner is ∙ own))) ∙ y.0, y.1);
      agrees = h.agrees;
      wide = h.wide;
    }

  -- a join: its numbers are given to another seat, and it holds none
  pub holder_gone : (owner' : ℕ → ℕ) → Holder n log made owner' seat [] counts seen
  holder_gone owner' = record {
    behind = (h.behind.0, h.behind.1, others_none h.behind.0);
    owns = λ c up. absurd (true≢false (sym up));
    agrees = λ c up. absurd (true≢false (sym up));
    wide = h.wide;
  }

-- a seat that holds all numbers is the only one that holds any
pub whole_alone : {n : ℕ} {log : List EntryMark} {made : List ℕ} {owner : ℕ → ℕ} {me other : ℕ} {held held' : List Bool} {counts counts' : List ℕ} {seen seen' : List EntryMark}
    → Holder n log made owner me held counts seen → Holder n log made owner other held' counts' seen' → HasAll n held → (c : ℕ) → HasNumber held' c → other ≡ me
whole_alone v w whole c has = let theirs = w.owns c has in sym theirs.0 ∙ (v.owns c (whole c theirs.1)).0

-- a join of two seats
module _ (n : ℕ) (log : List EntryMark) (made : List ℕ) (owner : ℕ → ℕ) (me other : ℕ) (held held' : List Bool) (counts counts' : List ℕ) (seen seen' : List EntryMark)
    (v : Holder n log made owner me held counts seen) (w : Holder n log made owner other held' counts' seen') where
  abbrev one_owner : ℕ → ℕ
  one_owner = join_owner owner held' me

  -- a third seat
  pub holder_joined : (seat : ℕ) (held'' : List Bool) (counts'' : List ℕ) (seen'' : List EntryMark) → seat ≢ other → Holder n log made owner seat held'' counts'' seen'' → Holder n log made one_owner seat held'' counts'' seen''
  holder_joined seat held'' counts'' seen'' not' x = record {
    behind = x.behind;
    owns = λ c up. let y = x.owns c up in
        (by_flag (get_or held' c false) (λ its. absurd (not' (sym y.0 ∙ (w.owns c its).0))) (λ down. ap (λ (b : Bool). cond b me (owner c)) down ∙ y.0), y.1);
    agrees = x.agrees;
    wide = x.wide;
  }

  abbrev short : Bool
  short = nat_le (length seen) (length seen')

  middle : length seen ≤ length seen' → (mid : List EntryMark) × (seen' ≡ seen ++ mid) × (v.behind.0 ≡ mid ++ w.behind.0)
  middle le = begins_longer seen v.behind.0 seen' w.behind.0 (sym v.behind.1 ∙ w.behind.1) le

  middle' : length seen' ≤ length seen → (mid : List EntryMark) × (seen ≡ seen' ++ mid) × (w.behind.0 ≡ mid ++ v.behind.0)
  middle' le = begins_longer seen' w.behind.0 seen v.behind.0 (sym w.behind.1 ∙ v.behind.1) le

  -- the rest of the history behind the longer of the two
  behind_both : (b : Bool) → short ≡ b → SeesOthers (held_both held held') (cond b seen' seen) log
  behind_both true is = let m = middle (leb-true (length seen) (length seen') is) in
      (w.behind.0, w.behind.1, others_both held held' w.behind.0 (others_drop held m.0 w.behind.0 (subst (AreOthers held) m.2 v.behind.2)) w.behind.2)
  behind_both false is = let m = middle' (let a = leb-false (length seen) (length seen') is in omega arith) in
      (v.behind.0, v.behind.1, others_both held held' v.behind.0 v.behind.2 (others_drop held' m.0 v.behind.0 (subst (AreOthers held') m.2 w.behind.2)))

  pub holder_both : Holder n log made one_owner me (held_both held held') (made_both held' counts counts') (longer seen seen')
  holder_both = record {
    behind = behind_both short refl;
    owns = λ c h. by_flag (get_or held' c false)
        (λ up. (ap (λ (b : Bool). cond b me (owner c)) up, (w.owns c up).1))
        (λ down. let x = v.owns c (both_up held held' c h down) in (ap (λ (b : Bool). cond b me (owner c)) down ∙ x.0, x.1));
    agrees = λ c h. by_flag (get_or held' c false)
        (λ up. made_both_at held' counts counts' c (v.wide ∙ sym w.wide) ∙ (ap (λ (b : Bool). cond b (get_or counts' c 0) (get_or counts c 0)) up ∙ w.agrees c up))
        (λ down. made_both_at held' counts counts' c (v.wide ∙ sym w.wide) ∙ (ap (λ (b : Bool). cond b (get_or counts' c 0) (get_or counts c 0)) down ∙ v.agrees c (both_up held held' c h down)));
    wide = made_both_length held' counts counts' ∙ v.wide;
  }

  -- what a join leaves in the rule of the two, for a step that tells it
  meet_by : (b : Bool) → short ≡ b → SeesOthers held seen (cond b seen' seen) × SeesOthers held' seen' (cond b seen' seen)
  meet_by true is = let m = middle (leb-true (length seen) (length seen') is) in
      ((m.0, m.1, others_front held m.0 w.behind.0 (subst (AreOthers held) m.2 v.behind.2)), sees_same held' seen')
  meet_by false is = let m = middle' (let a = leb-false (length seen) (length seen') is in omega arith) in
      (sees_same held seen, (m.0, m.1, others_front held' m.0 v.behind.0 (subst (AreOthers held') m.2 w.behind.2)))

  pub holders_meet : me ≢ other → Meet held held' seen seen' (longer seen seen')
  holders_meet not = record {
    first = (meet_by short refl).0;
    second = (meet_by short refl).1;
    apart = λ c up up'. not (sym (v.owns c up).0 ∙ (w.owns c up').0);
  }
