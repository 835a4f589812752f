-- What is gathered so far, joint by joint.
use Rattle.std.specs.Prelude.{ℕ, zero, suc, List, [], ◌∷◌, ◌++◌, Option, None, Some, true, length, drop}
use Rattle.std.specs.List.{sum_by}
use Rattle.std.proofs.Common.{◌≡◌, refl, ap, sym, ◌∙◌, subst, ◌+◌, ◌<◌, arith, append_assoc, append-nil, get_or}
use Rattle.std.proofs.lemmas.List.{drop-drop}
use Rattle.std.proofs.lemmas.List.Sums.{sum_by-cons, sum_by-append}
use Rattle.std.proofs.Math.Seq.{drop-nil}
use Rattle.atomic_table.specs.Seated.{TableId}
use Rattle.turn_lock.specs.Passes.{LockPass}
use Rattle.record_lang.specs.declared.outcomes.Outcome.{Outcome}
use Rattle.record_lang.specs.declared.reports.Dropped.{Dropped}
use Rattle.stage_pipeline.specs.Gathered.{AreEndsOf, AreJoined, Gathers, GathersOne, dropped_by, weight_lost, weight_over}
use Rattle.stage_pipeline.specs.declared.flow.Flow.{Flow}
use Rattle.stage_pipeline.specs.declared.kits.CrewEnd.{CrewEnd}
use Rattle.stage_pipeline.specs.declared.meeting.Side.{Side}
use Rattle.stage_pipeline.specs.declared.runs.Done.{Done}

-- 1. The passes of a joint are of its table

ends_some : (ts : List TableId) (w : LockPass) (e : CrewEnd) (ends : List CrewEnd) (d : TableId) → AreEndsOf ts (Some w) (e ∷ ends) → (0 < length ts) × (w.table ≡ get_or ts 0 d) × (e.read.table ≡ get_or ts 0 d)
ends_some [] w e ends d h = absurd h
ends_some (t ∷ ts) w e ends d h = (omega arith, h.0, h.1)

pub ends_at : (ts : List TableId) (k : ℕ) (w : LockPass) (e : CrewEnd) (ends : List CrewEnd) (d : TableId) → AreEndsOf (drop k ts) (Some w) (e ∷ ends) → (k < length ts) × (w.table ≡ get_or ts k d) × (e.read.table ≡ get_or ts k d)
ends_at [] k w e ends d h = absurd (subst (λ (l : List TableId). AreEndsOf l (Some w) (e ∷ ends)) (drop-nil k) h)
ends_at (t ∷ ts) zero w e ends d h = ends_some (t ∷ ts) w e ends d h
ends_at (t ∷ ts) (suc k) w e ends d h = let rest = ends_at ts k w e ends d h in let low = rest.0 in (omega (arith, low), rest.1, rest.2)

-- there is a writers' pass where there is a crew to read
pub ends_there : (ts : List TableId) (w : Option LockPass) (e : CrewEnd) (ends : List CrewEnd) → AreEndsOf ts w (e ∷ ends) → (p : LockPass) × (w ≡ Some p)
ends_there [] None e ends h = absurd h
ends_there [] (Some p) e ends h = absurd h
ends_there (t ∷ ts) None e ends h = absurd h
ends_there (t ∷ ts) (Some p) e ends h = (p, refl)

drop_none : (ts : List TableId) → drop 0 ts ≡ ts
drop_none [] = refl
drop_none (t ∷ ts) = refl

ends_next : (ts : List TableId) (w : Option LockPass) (e : CrewEnd) (ends : List CrewEnd) → AreEndsOf ts w (e ∷ ends) → AreEndsOf (drop 1 ts) e.write ends
ends_next [] None e ends h = absurd h
ends_next [] (Some p) e ends h = absurd h
ends_next (t ∷ ts) None e ends h = absurd h
ends_next (t ∷ ts) (Some p) e ends h = subst (λ (l : List TableId). AreEndsOf l e.write ends) (sym (drop_none ts)) h.2

ends_none : (ts : List TableId) (w : Option LockPass) → AreEndsOf ts w [] → w ≡ None
ends_none [] None h = refl
ends_none [] (Some p) h = absurd h
ends_none (t ∷ ts) None h = absurd h
ends_none (t ∷ ts) (Some p) h = absurd h

-- 2. The joints gathered so far

pub record SoFar (flow : Flow) (tables : List TableId) (joint : ℕ) (side : Side) (rest : List CrewEnd) (done : Done) : Type 0 where
  pub ends : AreEndsOf (drop joint tables) side.write rest
  pub joined : (passes : List LockPass) → AreJoined side.write rest passes → AreJoined (Some flow.fed.write) flow.ends.items (done.joints.items ++ passes)
  pub outcomes : (k : Outcome → ℕ) → sum_by k done.outcomes.items + weight_over rest k ≡ weight_over flow.ends.items k
  pub dropped : (g : Dropped → ℕ) → sum_by g done.dropped.items + weight_lost (joint + 1) side.lost.items rest g ≡ weight_lost 1 flow.fed.lost.items flow.ends.items g

joins_more : (first w w' : Option LockPass) (all rest : List CrewEnd) (e : CrewEnd) (p : LockPass) (ps ps' : List LockPass) → ((passes : List LockPass) → AreJoined w (e ∷ rest) passes → AreJoined first all (ps ++ passes)) → ps' ≡ ps ++ p ∷ []
    → ((passes : List LockPass) → AreJoined w' rest passes → AreJoined w (e ∷ rest) (p ∷ passes)) → (passes : List LockPass) → AreJoined w' rest passes → AreJoined first all (ps' ++ passes)
joins_more first w w' all rest e p ps ps' so is one passes h =
    subst (λ (l : List LockPass). AreJoined first all l) (sym (ap (λ (l : List LockPass). l ++ passes) is ∙ append_assoc ps (p ∷ []) passes)) (so (p ∷ passes) (one passes h))

module _ (flow : Flow) (tables : List TableId) (joint : ℕ) (side side' : Side) (e : CrewEnd) (rest : List CrewEnd) (done done' : Done) (s : SoFar flow tables joint side (e ∷ rest) done) (m : GathersOne (joint + 1) side e done done' side') where
  joined_here : (passes : List LockPass) → AreJoined side'.write rest passes → AreJoined side.write (e ∷ rest) (m.joined ∷ passes)
  joined_here passes h =
      let later = subst (λ (w : Option LockPass). AreJoined w rest passes) m.next_write h in
      let here : AreJoined (Some m.writers) (e ∷ rest) (m.joined ∷ passes) = (m.is_whole, m.joins, later) in
      subst (λ (w : Option LockPass). AreJoined w (e ∷ rest) (m.joined ∷ passes)) (sym m.there) here

  ends_here : AreEndsOf (drop (joint + 1) tables) side'.write rest
  ends_here =
      let next = ends_next (drop joint tables) side.write e rest s.ends in
      let moved = subst (λ (l : List TableId). AreEndsOf l e.write rest) (drop-drop 1 joint tables) next in
      subst (λ (w : Option LockPass). AreEndsOf (drop (joint + 1) tables) w rest) (sym m.next_write) moved

  outcomes_here : (k : Outcome → ℕ) → sum_by k done'.outcomes.items + weight_over rest k ≡ weight_over flow.ends.items k
  outcomes_here k =
      let a = ap (sum_by k) m.outcomes in
      let b = sum_by-append k done.outcomes.items e.over.items in
      let c = sum_by-cons (λ (x : CrewEnd). sum_by k x.over.items) e rest in
      let d = s.outcomes k in
      omega (arith, a, b, c, d)

  dropped_here : (g : Dropped → ℕ) → sum_by g done'.dropped.items + weight_lost (joint + 1 + 1) side'.lost.items rest g ≡ weight_lost 1 flow.fed.lost.items flow.ends.items g
  dropped_here g =
      let a = ap (sum_by g) m.dropped in
      let b = sum_by-append g done.dropped.items (dropped_by (joint + 1) side.lost.items) in
      let c = ap (λ (l : List ℕ). weight_lost (joint + 1 + 1) l rest g) m.next_lost in
      let d = s.dropped g in
      omega (arith, a, b, c, d)

  pub so_far_more : SoFar flow tables (joint + 1) side' rest done'
  so_far_more = record {
    ends = ends_here;
    joined = joins_more (Some flow.fed.write) side.write side'.write flow.ends.items rest e m.joined done.joints.items done'.joints.items s.joined m.joints joined_here;
    outcomes = outcomes_here;
    dropped = dropped_here;
  }

pub so_far_all : (flow : Flow) (tables : List TableId) (joint : ℕ) (side : Side) (rest : List CrewEnd) (done : Done) → flow.fed.whole ≡ true → rest ≡ [] → SoFar flow tables joint side rest done → Gathers flow done
so_far_all flow tables joint side rest done whole is s =
    let at_end = subst (λ (l : List CrewEnd). AreEndsOf (drop joint tables) side.write l) is s.ends in
    let none : side.write ≡ None = ends_none (drop joint tables) side.write at_end in
    let base : AreJoined None [] [] = tt in
    let last = subst (λ (w : Option LockPass). AreJoined w [] []) (sym none) base in
    let here = subst (λ (l : List CrewEnd). AreJoined side.write l []) (sym is) last in record {
      fed = whole;
      joints = subst (λ (l : List LockPass). AreJoined (Some flow.fed.write) flow.ends.items l) (append-nil done.joints.items) (s.joined [] here);
      outcomes = λ k. (let a = s.outcomes k in let b = ap (λ (l : List CrewEnd). weight_over l k) is in omega (arith, a, b));
      dropped = λ g. (let a = s.dropped g in let b = ap (λ (l : List CrewEnd). weight_lost (joint + 1) side.lost.items l g) is in omega (arith, a, b));
    }
