-- From own entries of two passes to all entries, and back.
use Rattle.std.specs.Prelude.{ℕ, List, [], ◌∷◌, ◌++◌, Bool, true, false, cond, not, Some, All, count_by, slice_index_or, min}
use Rattle.std.specs.List.{sum_by}
use Rattle.std.proofs.Common.{◌≡◌, true≢false, refl, ap, sym, ◌∙◌, subst, ◌+◌, ◌<◌, ◌≤◌, arith, append_assoc, ◌⊎◌, inl, inr}
use Rattle.std.proofs.lemmas.List.Elements.{All-cons, All-nil}
use Rattle.std.proofs.lemmas.List.Sums.{sum_by-cons, sum_by-append, sum_by_push}
use Rattle.ho_base.specs.Marks.{Mark}
use Rattle.ho_model.specs.declared.marks.EntryMark.{EntryMark}
use Rattle.ho_model.specs.declared.marks.CallMark.TheVariants.{CompleteWith}
use Rattle.ho_model.specs.declared.marks.ReplyMark.TheVariants.{Flag}
use Rattle.ho_model.specs.declared.objects.Object.{Object}
use Rattle.ho_model.specs.declared.objects.Object.TheVariants.{Bounded}
use Rattle.channel_laws.specs.Reached.{kind_in}
use Rattle.ho_model.specs.Channel.{drops}
use Rattle.ho_model.specs.Entries.{entry}
use Rattle.ho_model.specs.Histories.{IsLegal}
use Rattle.ho_model.proofs.Folds.{legal_begins}
use Rattle.passes.specs.Numbers.{HasAll, AreApart, held_both}
use Rattle.passes.specs.Seen.{AreBelow, own_of}
use Rattle.passes.proofs.Flags.{both_up, by_flag}
use Rattle.passes.proofs.Owned.{own_of-append, own_of-whole, own_of-sees, entry_own, own_of-own, sum_by-own_both}
use Rattle.channel_flow.specs.Items.{written_in, taken_in, dropped_in, refused_in, given_back_in, weight, one}
use Rattle.channel_flow.specs.Ends.{is_begun, is_finished, is_closed, is_closed_with, is_completing, first_fault, IsDrained}
use Rattle.channel_flow.proofs.Laws.{what_goes_in_comes_out, none_is_refused_before_the_end, none_is_dropped_without_mode, only_full_channels_drop, one_fault_is_told, first_fault-at}
use Rattle.stage_pipeline.specs.Callers.{is_call_of, strays}
use Rattle.stage_pipeline.specs.Joints.{tally, tally_of, IsJoined, AreQuiet, JointsAddUp, FaultGoesOn, JointsDropNothing, FewAreDropped}

-- own entries weigh at most as all
cond_le : (f : EntryMark → ℕ) (b : Bool) (e : EntryMark) (xs ys : List EntryMark) → sum_by f xs ≤ sum_by f ys → sum_by f (cond b (e ∷ xs) xs) ≤ sum_by f (e ∷ ys)
cond_le f true e xs ys le = let a = sum_by-cons f e xs in let b = sum_by-cons f e ys in omega arith
cond_le f false e xs ys le = let b = sum_by-cons f e ys in omega arith

own_le : (f : EntryMark → ℕ) (held : List Bool) (es : List EntryMark) → tally f held es ≤ sum_by f es
own_le f held [] = omega arith
own_le f held (e ∷ es) = cond_le f (slice_index_or held e.caller false) e (own_of held es) es (own_le f held es)

below_begins : (n : ℕ) (ys zs : List EntryMark) → AreBelow n (ys ++ zs) → AreBelow n ys
below_begins n [] zs b = tt
below_begins n (y ∷ ys) zs b = (b.0, below_begins n ys zs b.1)

-- of a front, as of all
tally-append : (f : EntryMark → ℕ) (held : List Bool) (ys zs : List EntryMark) → tally f held (ys ++ zs) ≡ tally f held ys + tally f held zs
tally-append f held ys zs = ap (sum_by f) (own_of-append held ys zs) ∙ sum_by-append f (own_of held ys) (own_of held zs)

two_parts : (f : EntryMark → ℕ) (n : ℕ) (held held' : List Bool) (es : List EntryMark) → HasAll n (held_both held held') → AreApart held held' → AreBelow n es → sum_by f es ≡ tally f held es + tally f held' es
two_parts f n held held' es all apart below = sym (ap (sum_by f) (own_of-whole n (held_both held held') es all below)) ∙ sum_by-own_both f held held' es apart

-- each call is one of its caller's side
abbrev pub IsSided : List Bool → EntryMark → Type 0
IsSided readers e = is_call_of (slice_index_or readers e.caller false) e ≡ true

weighs_none : (f : EntryMark → ℕ) (b : Bool) (e : EntryMark) (xs : List EntryMark) → sum_by f (cond b (e ∷ xs) xs) ≡ 0 → (sum_by f xs ≡ 0) × (b ≡ true → f e ≡ 0)
weighs_none f true e xs none = let s = sum_by-cons f e xs in (omega (arith, s, none), λ yes. omega (arith, s, none))
weighs_none f false e xs none = (none, λ yes. absurd (true≢false (sym yes)))

abbrev count_not : Bool → ℕ
count_not b = cond (not b) 1 0

no_stray : (b : Bool) → count_not b ≡ 0 → b ≡ true
no_stray true none = refl
no_stray false none = absurd (omega (arith, none))

sided : (writers readers : List Bool) (n : ℕ) (es : List EntryMark) → HasAll n (held_both writers readers) → AreBelow n es → tally_of (strays false) writers es ≡ 0 → tally_of (strays true) readers es ≡ 0 → All (IsSided readers) es
sided writers readers n [] whole below mine theirs = All-nil (IsSided readers)
sided writers readers n (e ∷ es) whole below mine theirs =
    let ws = weighs_none (λ x. cond (strays false x) 1 0) (slice_index_or writers e.caller false) e (own_of writers es) mine in
    let rs = weighs_none (λ x. cond (strays true x) 1 0) (slice_index_or readers e.caller false) e (own_of readers es) theirs in
    let here : IsSided readers e =
    by_flag (slice_index_or readers e.caller false)
    (λ yes. subst (λ (b : Bool). is_call_of b e ≡ true) (sym yes) (no_stray (is_call_of true e) (rs.1 yes)))
    (λ no. subst (λ (b : Bool). is_call_of b e ≡ true) (sym no) (no_stray (is_call_of false e) (ws.1 (both_up writers readers e.caller (whole e.caller below.0) no)))) in
    All-cons (IsSided readers) e es here (sided writers readers n es whole below.1 ws.0 rs.0)

module _ (priority : Mark → ℕ) (o : Object) (n : ℕ) (writers : List Bool) (wrote : List EntryMark) (readers : List Bool) (read all : List EntryMark) (caller fault : ℕ) (set : Bool) (j : IsJoined priority o n writers wrote readers read all caller fault set) where
  abbrev last_entry : EntryMark
  last_entry = entry caller (CompleteWith fault) (Flag set)

  abbrev rest : List EntryMark
  rest = j.first.0

  shape : all ≡ j.front ++ last_entry ∷ rest
  shape = j.first.1 ∙ (ap (λ (l : List EntryMark). l ++ rest) j.completes.1 ∙ append_assoc j.front (last_entry ∷ []) rest)

  -- the weight of all entries, by sides
  all_mine : (f : EntryMark → ℕ) → tally f writers all ≡ tally f writers wrote + f last_entry
  all_mine f =
      let mine = ap (sum_by f) (own_of-sees writers j.completed all j.first) in
      let one_more = ap (sum_by f) (own_of-own writers wrote j.completed (last_entry ∷ []) (entry_own writers wrote j.completed j.front last_entry j.own j.completes)) in
      let pushed = sum_by_push f (own_of writers wrote) last_entry in
      omega arith

  all_theirs : (f : EntryMark → ℕ) → tally f readers all ≡ tally f readers read
  all_theirs f = ap (sum_by f) (own_of-sees readers read all j.second)

  pub total : (f : EntryMark → ℕ) → sum_by f all ≡ tally f writers wrote + f last_entry + tally f readers read
  total f =
      let parts = two_parts f n writers readers all j.whole j.apart j.lawful.1 in
      let mine = all_mine f in
      let theirs = all_theirs f in
      omega arith

  -- where writers and readers make no other calls, there are no others
  pub all_sided : tally_of (strays false) writers wrote ≡ 0 → tally_of (strays true) readers read ≡ 0 → All (IsSided readers) all
  all_sided mine theirs =
      let w = all_mine (λ e. cond (strays false e) 1 0) in
      let r = all_theirs (λ e. cond (strays true e) 1 0) in
      sided writers readers n all j.whole j.lawful.1 (omega (arith, w, mine)) (omega (arith, r, theirs))

  front_mine : (f : EntryMark → ℕ) → tally f writers j.front ≡ tally f writers wrote
  front_mine f = ap (sum_by f) (own_of-sees writers wrote j.front j.completes.0)

  -- what stands before the completion is in the front
  front_theirs : (f : EntryMark → ℕ) → tally f readers j.front ≤ tally f readers read
  front_theirs f =
      let a = ap (λ (l : List EntryMark). tally f readers l) shape in
      let b = tally-append f readers j.front (last_entry ∷ rest) in
      let c = ap (sum_by f) (own_of-sees readers read all j.second) in
      omega arith

  front_below : AreBelow n j.front
  front_below = below_begins n j.front (last_entry ∷ rest) (subst (AreBelow n) shape j.lawful.1)

  front_legal : IsLegal priority o j.front
  front_legal = legal_begins priority o j.front (last_entry ∷ rest) (subst (IsLegal priority o) shape j.lawful.0)

  drops_nothing : drops (kind_in priority o).mode ≡ false → (h : Mark → ℕ) → tally (weight h dropped_in) writers wrote ≡ 0
  drops_nothing mode h =
      let law = none_is_dropped_without_mode priority o all (j.room, j.lawful.0) mode h in
      let t = total (weight h dropped_in) in
      omega arith

  module _ (q : AreQuiet writers wrote readers read) where
    front_uncompleted : count_by is_completing j.front ≡ 0
    front_uncompleted =
        let parts = two_parts (λ e. cond (is_completing e) 1 0) n writers readers j.front j.whole j.apart front_below in
        let a = front_mine (λ e. cond (is_completing e) 1 0) in
        let b = front_theirs (λ e. cond (is_completing e) 1 0) in
        let c = q.uncompleted in
        let d = q.uncompleting in
        omega arith

    pub fault_is_first : first_fault all ≡ Some fault
    fault_is_first = ap first_fault shape ∙ first_fault-at j.front rest caller fault (Flag set) front_uncompleted

    -- nothing is refused: not before the completion, and the writers made no call after it
    unrefused : (h : Mark → ℕ) → sum_by (weight h refused_in) all ≡ 0
    unrefused h =
        let t = total (weight h refused_in) in
        let front = none_is_refused_before_the_end priority o j.front (j.room, front_legal) front_uncompleted h in
        let le = own_le (weight h refused_in) writers j.front in
        let m = front_mine (weight h refused_in) in
        let theirs = (q.readers_quiet h).2 in
        omega arith

    drained : IsDrained all
    drained =
        let b = total (λ e. cond (is_begun e) 1 0) in
        let f = total (λ e. cond (is_finished e) 1 0) in
        let c = total (λ e. cond (is_closed e) 1 0) in
        let ws = q.writers_settled in
        let rs = q.readers_settled in
        let told = q.told in
        record { finished = omega arith; closed = omega arith }

    adds_up : (h : Mark → ℕ) → tally (weight h written_in) writers wrote ≡ tally (weight h taken_in) readers read + tally (weight h dropped_in) writers wrote
    adds_up h =
        let law = what_goes_in_comes_out priority o all (j.room, j.lawful.0) drained h in
        let w = total (weight h written_in) in
        let t = total (weight h taken_in) in
        let d = total (weight h dropped_in) in
        let g = total (weight h given_back_in) in
        let r = unrefused h in
        let wq = q.writers_quiet h in
        let rq = q.readers_quiet h in
        omega arith

    tells_fault : (told : ℕ) → 0 < tally_of (is_closed_with told) readers read → told ≡ fault
    tells_fault told some =
        let c = total (λ e. cond (is_closed_with told e) 1 0) in
        let law = one_fault_is_told priority o all told (j.room, j.lawful.0) (omega arith) in
        let same : Some told ≡ Some fault = sym law ∙ fault_is_first in
        cc

pub joints_add_up : JointsAddUp
joints_add_up priority o n writers wrote readers read all caller fault set j q h = adds_up priority o n writers wrote readers read all caller fault set j q h

pub fault_goes_on : FaultGoesOn
fault_goes_on priority o n writers wrote readers read all caller fault set j q told some = tells_fault priority o n writers wrote readers read all caller fault set j q told some

pub joints_drop_nothing : JointsDropNothing
joints_drop_nothing priority o n writers wrote readers read all caller fault set j mode h = drops_nothing priority o n writers wrote readers read all caller fault set j mode h

-- with all written or with the capacity
few_step : (written dropped taken others capacity : ℕ) → written ≡ taken + dropped → others ≡ taken → (dropped ≡ 0) ⊎ (capacity ≤ others) → min written capacity ≤ taken
few_step written dropped taken others capacity adds same (inl none) = omega arith
few_step written dropped taken others capacity adds same (inr full) = omega arith

at_one : (es : List EntryMark) (capacity : ℕ) → ((h : Mark → ℕ) → sum_by (weight h dropped_in) es ≡ 0) ⊎ (capacity ≤ sum_by (weight one taken_in) es) → (sum_by (weight one dropped_in) es ≡ 0) ⊎ (capacity ≤ sum_by (weight one taken_in) es)
at_one es capacity (inl none) = inl (none one)
at_one es capacity (inr full) = inr full

pub few_are_dropped : FewAreDropped
few_are_dropped priority capacity mode n writers wrote readers read all caller fault set j q =
    let o = Bounded capacity mode in
    let law = only_full_channels_drop priority capacity mode all (j.room, j.lawful.0) (drained priority o n writers wrote readers read all caller fault set j q) in
    let adds = adds_up priority o n writers wrote readers read all caller fault set j q one in
    let d = total priority o n writers wrote readers read all caller fault set j (weight one dropped_in) in
    let t = total priority o n writers wrote readers read all caller fault set j (weight one taken_in) in
    let wq = q.writers_quiet one in
    let rq = q.readers_quiet one in
    few_step (tally (weight one written_in) writers wrote) (sum_by (weight one dropped_in) all) (tally (weight one taken_in) readers read) (sum_by (weight one taken_in) all) capacity (omega arith) (omega arith) (at_one all capacity law)
