-- Numbers that are given to workers and come home, and the work of two passes that are joined.
use Rattle.std.specs.Prelude.{ℕ, List, [], ◌++◌, Bool, true, false, cond, Option, Some, None, slice_get}
use Rattle.std.specs.List.{sum_by}
use Rattle.std.proofs.Common.{◌≡◌, true≢false, refl, ap, sym, ◌∙◌, subst, ◌+◌, ◌-◌, ◌<◌, ◌≤◌, arith}
use Rattle.std.proofs.lemmas.List.Sums.{sum_by-append}
use Rattle.atomic_table.specs.Seated.{TableId}
use Rattle.ho_base.specs.Marks.{Mark, number_of}
use Rattle.ho_model.specs.declared.marks.EntryMark.{EntryMark}
use Rattle.passes.specs.Numbers.{HasNumber, HoldsBelow, held_count, held_both, give, only}
use Rattle.passes.specs.Seen.{own_of}
use Rattle.passes.specs.Calls.{Joins, Splits}
use Rattle.passes.proofs.Flags.{flag_else, only_has}
use Rattle.passes.proofs.Owned.{own_of-sees, sum_by-own_both}
use Rattle.passes.proofs.Calls.{splits_give, joins_take}
use Rattle.turn_lock.specs.Passes.{LockPass}
use Rattle.turn_lock.specs.declared.view.Obstacle.{Obstacle}
use Rattle.channel_core.specs.Marks.{fault_number}
use Rattle.channel_flow.specs.Items.{taken_in, weight, written_in}
use Rattle.channel_flow.specs.Ends.{is_begun, is_closed, is_closed_with, is_finished}
use Rattle.record_lang.specs.Pipelines.{Meaning}
use Rattle.record_lang.specs.declared.outcomes.Outcome.{Outcome}
use Rattle.record_lang.specs.declared.pipelines.Stage.{Stage}
use Rattle.joint_reports.specs.Through.{says, goes, ends}
use Rattle.stage_pipeline.specs.Crews.{ComesBack, ComesBackTo, IsNewAt, IsNewAtTo}
use Rattle.stage_pipeline.specs.Seats.{AreOfTo, IsSeat, JoinsTo, SeatEnds, SplitsSeat, SplitsTo, TakesIn, IsToldFault}
use Rattle.stage_pipeline.specs.Works.{IsNewTo, WorksOff, counts, counts_to, is_last, lost_by, weighs, weighs_to}
use Rattle.stage_pipeline.specs.declared.seats.Seat.{Seat}
use Rattle.stage_pipeline.specs.declared.seats.SeatEnd.{SeatEnd}
use Rattle.stage_pipeline.proofs.Turns.{new_counts, works_start}

-- 1. Numbers that are given away

module _ (joints : List TableId) (index n : ℕ) (p q other : LockPass) (new : IsNewAt joints index (n + 1) p) (s : Splits p q other) where
  shares : (held_count q.held + 1 ≡ held_count p.held) × HoldsBelow p.callers q.held × (held_count other.held ≡ 1) × HoldsBelow p.callers other.held
  shares = splits_give Obstacle p.callers p q other new.few s new.below

  kept_own : HasNumber q.held q.caller
  kept_own =
      let held_is : q.held ≡ give p.held other.caller = ap (λ (z : LockPass). z.held) s.kept in
      let caller_is : q.caller ≡ p.caller = ap (λ (z : LockPass). z.caller) s.kept in
      subst (λ (z : List Bool × ℕ). HasNumber z.0 z.1) (λ i. (sym held_is i, sym caller_is i)) (flag_else p.held other.caller p.caller (λ is. s.spare.1 (sym is)) false ∙ new.own)

  given_own : HasNumber other.held other.caller
  given_own =
      let held_is : other.held ≡ only other.caller = ap (λ (z : LockPass). z.held) s.given in
      let low = new.below other.caller s.spare.0 in
      subst (λ (l : List Bool). HasNumber l other.caller) (sym held_is) (only_has other.caller (let few = new.few in omega arith))

  pub kept_new : IsNewAt joints index n q
  kept_new = record {
    table = new.table ∙ ap Some (sym (ap (λ (z : LockPass). z.table) s.kept));
    unused = ap (λ (z : LockPass). z.seen) s.kept ∙ new.unused;
    count = let a = shares.0 in let b = new.count in omega (arith, a, b);
    below = subst (λ (k : ℕ). HoldsBelow k q.held) (sym (ap (λ (z : LockPass). z.callers) s.kept)) shares.1;
    few = let e = ap (λ (z : LockPass). z.callers) s.kept in let few = new.few in omega (arith, e, few);
    own = kept_own;
  }

  pub given_new : IsNewAt joints index 1 other
  given_new = record {
    table = new.table ∙ ap Some (sym (ap (λ (z : LockPass). z.table) s.given));
    unused = ap (λ (z : LockPass). z.seen) s.given ∙ new.unused;
    count = shares.2;
    below = subst (λ (k : ℕ). HoldsBelow k other.held) (sym (ap (λ (z : LockPass). z.callers) s.given)) shares.3;
    few = let e = ap (λ (z : LockPass). z.callers) s.given in let few = new.few in omega (arith, e, few);
    own = given_own;
  }

  -- 2. Numbers that come home

  pub both_come_back : (q' other' all : LockPass) → ComesBack q q' → ComesBack other other' → Joins number_of q' other' all → ComesBack p all
  both_come_back q' other' all a b j =
      let callers_q : q'.callers ≡ p.callers = a.callers ∙ ap (λ (z : LockPass). z.callers) s.kept in
      let callers_other : other'.callers ≡ p.callers = b.callers ∙ ap (λ (z : LockPass). z.callers) s.given in
      let home = joins_take Obstacle p.callers number_of q' other' all j (subst (λ (k : ℕ). HoldsBelow k q'.held) callers_q a.below) (subst (λ (k : ℕ). HoldsBelow k other'.held) callers_other b.below) in
      let callers_all : all.callers ≡ p.callers = ap (λ (z : LockPass). z.callers) j.joined ∙ callers_q in
      record {
        table = ap (λ (z : LockPass). z.table) j.joined ∙ (a.table ∙ ap (λ (z : LockPass). z.table) s.kept);
        object = ap (λ (z : LockPass). z.object) j.joined ∙ (a.object ∙ ap (λ (z : LockPass). z.object) s.kept);
        callers = callers_all;
        count = let x = home.0 in let y = shares.0 in let z = shares.2 in let u = a.count in let v = b.count in omega (arith, x, y, z, u, v);
        below = subst (λ (k : ℕ). HoldsBelow k all.held) (sym callers_all) home.1;
      }

module _ (joints : List TableId) (index n : ℕ) where
  pub kept_new_to : (p q other : Option LockPass) → IsNewAtTo joints index (n + 1) p → SplitsTo p q other → IsNewAtTo joints index n q
  kept_new_to None None None new s = tt
  kept_new_to (Some p) (Some q) (Some other) new s = kept_new joints index n p q other new s
  kept_new_to None None (Some other) new s = absurd s
  kept_new_to None (Some q) other new s = absurd s
  kept_new_to (Some p) None other new s = absurd s
  kept_new_to (Some p) (Some q) None new s = absurd s

  pub given_new_to : (p q other : Option LockPass) → IsNewAtTo joints index (n + 1) p → SplitsTo p q other → IsNewAtTo joints index 1 other
  given_new_to None None None new s = tt
  given_new_to (Some p) (Some q) (Some other) new s = given_new joints index n p q other new s
  given_new_to None None (Some other) new s = absurd s
  given_new_to None (Some q) other new s = absurd s
  given_new_to (Some p) None other new s = absurd s
  given_new_to (Some p) (Some q) None new s = absurd s

-- 3. The work of both

module _ (p other q : LockPass) (j : Joins number_of p other q) where
  pub weighs_both : (f : EntryMark → ℕ) → weighs f q ≡ weighs f p + weighs f other
  weighs_both f =
      let held_is : q.held ≡ held_both p.held other.held = ap (λ (z : LockPass). z.held) j.joined in
      let all = ap (λ (l : List Bool). sum_by f (own_of l q.seen)) held_is in
      let sum = sum_by-own_both f p.held other.held q.seen j.apart in
      let mine = ap (sum_by f) (own_of-sees p.held p.seen q.seen j.first) in
      let theirs = ap (sum_by f) (own_of-sees other.held other.seen q.seen j.second) in
      omega (arith, all, sum, mine, theirs)

  pub counts_both : (t : EntryMark → Bool) → counts t q ≡ counts t p + counts t other
  counts_both t = weighs_both (λ e. cond (t e) 1 0)

weighs_both_to : (p other q : Option LockPass) → JoinsTo p other q → (f : EntryMark → ℕ) → weighs_to f q ≡ weighs_to f p + weighs_to f other
weighs_both_to None None None j f = refl
weighs_both_to (Some p) (Some other) (Some q) j f = weighs_both p other q j f
weighs_both_to None None (Some q) j f = absurd j
weighs_both_to None (Some other) q j f = absurd j
weighs_both_to (Some p) None q j f = absurd j
weighs_both_to (Some p) (Some other) None j f = absurd j

counts_both_to : (p other q : Option LockPass) → JoinsTo p other q → (t : EntryMark → Bool) → counts_to t q ≡ counts_to t p + counts_to t other
counts_both_to None None None j t = refl
counts_both_to (Some p) (Some other) (Some q) j t = counts_both p other q j t
counts_both_to None None (Some q) j t = absurd j
counts_both_to None (Some other) q j t = absurd j
counts_both_to (Some p) None q j t = absurd j
counts_both_to (Some p) (Some other) None j t = absurd j

last_both : (p other q : Option LockPass) → JoinsTo p other q → (is_last p ≡ is_last q) × (is_last other ≡ is_last q)
last_both None None None j = (refl, refl)
last_both (Some p) (Some other) (Some q) j = (refl, refl)
last_both None None (Some q) j = absurd j
last_both None (Some other) q j = absurd j
last_both (Some p) None q j = absurd j
last_both (Some p) (Some other) None j = absurd j

both_none : (a b c : ℕ) → c ≡ a + b → a ≡ 0 → b ≡ 0 → c ≡ 0
both_none a b c is x y = omega (arith, is, x, y)

module _ (does : Mark → Outcome) (r r' r'' : LockPass) (w w' w'' : Option LockPass) (over over' : List Outcome) (lost lost' : List ℕ) (j : Joins number_of r r' r'') (k : JoinsTo w w' w'') where
  abbrev sum_r : (f : EntryMark → ℕ) → weighs f r'' ≡ weighs f r + weighs f r'
  sum_r = weighs_both r r' r'' j

  abbrev sum_w : (f : EntryMark → ℕ) → weighs_to f w'' ≡ weighs_to f w + weighs_to f w'
  sum_w = weighs_both_to w w' w'' k

  pub works_both : WorksOff does r w over lost → WorksOff does r' w' over' lost' → WorksOff does r'' w'' (over ++ over') (lost ++ lost')
  works_both f g =
      let last = last_both w w' w'' k in
      record {
        goes_on = λ h. (
            let weight_of = λ (z : Bool). weight (λ m. goes z h (does m)) taken_in in
            let a = subst (λ (z : Bool). weighs_to (weight h written_in) w ≡ weighs (weight_of z) r) last.0 (f.goes_on h) in
            let b = subst (λ (z : Bool). weighs_to (weight h written_in) w' ≡ weighs (weight_of z) r') last.1 (g.goes_on h) in
            let x = sum_w (weight h written_in) in let y = sum_r (weight_of (is_last w'')) in omega (arith, a, b, x, y));
        ends_here = λ e. (
            let weight_of = λ (z : Bool). weight (λ m. ends z e (does m)) taken_in in
            let a = subst (λ (z : Bool). sum_by e over ≡ weighs (weight_of z) r) last.0 (f.ends_here e) in
            let b = subst (λ (z : Bool). sum_by e over' ≡ weighs (weight_of z) r') last.1 (g.ends_here e) in
            let x = sum_by-append e over over' in let y = sum_r (weight_of (is_last w'')) in omega (arith, a, b, x, y));
        loses = λ e. (let a = f.loses e in let b = g.loses e in let x = sum_by-append e lost lost' in let y = sum_w (lost_by e) in omega (arith, a, b, x, y));
        settled = let a = f.settled in let b = g.settled in let x = counts_both r r' r'' j is_begun in let y = counts_both r r' r'' j is_finished in omega (arith, a, b, x, y);
        settled_to = let a = f.settled_to in let b = g.settled_to in let x = counts_both_to w w' w'' k is_begun in let y = counts_both_to w w' w'' k is_finished in omega (arith, a, b, x, y);
        quiet = λ h. (let a = f.quiet h in let b = g.quiet h in
            (both_none _ _ _ (sum_r _) a.0 b.0, both_none _ _ _ (sum_r _) a.1 b.1, both_none _ _ _ (sum_r _) a.2 b.2, both_none _ _ _ (sum_r _) a.3 b.3));
        uncompleting = both_none _ _ _ (counts_both r r' r'' j _) f.uncompleting g.uncompleting;
        quiet_to = λ h. (let a = f.quiet_to h in let b = g.quiet_to h in (both_none _ _ _ (sum_w _) a.0 b.0, both_none _ _ _ (sum_w _) a.1 b.1));
        uncompleting_to = both_none _ _ _ (counts_both_to w w' w'' k _) f.uncompleting_to g.uncompleting_to;
        untold_to = both_none _ _ _ (counts_both_to w w' w'' k _) f.untold_to g.untold_to;
        reads_alone = both_none _ _ _ (counts_both r r' r'' j _) f.reads_alone g.reads_alone;
        writes_alone = both_none _ _ _ (counts_both_to w w' w'' k _) f.writes_alone g.writes_alone;
      }

-- 4. One worker's seat, and those of the others

-- with some workers, there is a number for one of them, for each other one, and one more
pub one_more : (stages : ℕ) (joints : List TableId) (workers : ℕ) (s : Seat) → 0 < workers → IsSeat stages joints (workers + 1) s → IsSeat stages joints (workers - 1 + 1 + 1) s
one_more stages joints workers s some is = let same : workers + 1 ≡ workers - 1 + 1 + 1 = omega (arith, some) in subst (λ (k : ℕ). IsSeat stages joints k s) same is

module _ (stages : ℕ) (joints : List TableId) (n number : ℕ) (s t other : Seat) (is : IsSeat stages joints (n + 1) s) (parts : SplitsSeat number s t other) where
  pub kept_seat : IsSeat stages joints n t
  kept_seat = record {
    from = subst (λ (z : ℕ). 1 ≤ z) (sym parts.stage.0) is.from;
    to = subst (λ (z : ℕ). z ≤ stages) (sym parts.stage.0) is.to;
    reads = subst (λ (z : ℕ). IsNewAt joints (z - 1) n t.read) (sym parts.stage.0) (kept_new joints (s.stage - 1) n s.read t.read other.read is.reads parts.read);
    writes = subst (λ (z : ℕ). IsNewAtTo joints z n t.write) (sym parts.stage.0) (kept_new_to joints s.stage n s.write t.write other.write is.writes parts.write);
  }

  pub given_seat : IsSeat stages joints 1 other
  given_seat = record {
    from = subst (λ (z : ℕ). 1 ≤ z) (sym parts.stage.1) is.from;
    to = subst (λ (z : ℕ). z ≤ stages) (sym parts.stage.1) is.to;
    reads = subst (λ (z : ℕ). IsNewAt joints (z - 1) 1 other.read) (sym parts.stage.1) (given_new joints (s.stage - 1) n s.read t.read other.read is.reads parts.read);
    writes = subst (λ (z : ℕ). IsNewAtTo joints z 1 other.write) (sym parts.stage.1) (given_new_to joints s.stage n s.write t.write other.write is.writes parts.write);
  }

-- a pass that came back is of the same joint
back_at : (joints : List TableId) (index n : ℕ) (p q : LockPass) → IsNewAt joints index n p → ComesBack p q → slice_get joints index ≡ Some q.table
back_at joints index n p q new back = new.table ∙ ap Some (sym back.table)

back_at_to : (joints : List TableId) (index n m : ℕ) (p p' q q' : Option LockPass) → IsNewAtTo joints index n p → IsNewAtTo joints index m p' → (is_last p ≡ is_last p') → ComesBackTo p q → ComesBackTo p' q' → AreOfTo joints index q q'
back_at_to joints index n m None None None None a b last c d = tt
back_at_to joints index n m (Some p) (Some p') (Some q) (Some q') a b last c d = (back_at joints index n p q a c, back_at joints index m p' q' b d)
back_at_to joints index n m None p' (Some q) q' a b last c d = absurd c
back_at_to joints index n m (Some p) p' None q' a b last c d = absurd c
back_at_to joints index n m None None None (Some q') a b last c d = absurd d
back_at_to joints index n m None (Some p') None None a b last c d = absurd d
back_at_to joints index n m None (Some p') None (Some q') a b last c d = absurd (true≢false last)
back_at_to joints index n m (Some p) None (Some q) None a b last c d = absurd (true≢false (sym last))
back_at_to joints index n m (Some p) None (Some q) (Some q') a b last c d = absurd d
back_at_to joints index n m (Some p) (Some p') (Some q) None a b last c d = absurd d

split_last : (p q other : Option LockPass) → SplitsTo p q other → is_last q ≡ is_last other
split_last None None None s = refl
split_last (Some p) (Some q) (Some other) s = refl
split_last None None (Some other) s = absurd s
split_last None (Some q) other s = absurd s
split_last (Some p) None other s = absurd s
split_last (Some p) (Some q) None s = absurd s

both_back_to : (joints : List TableId) (index n : ℕ) (p q other q' other' all : Option LockPass) → IsNewAtTo joints index (n + 1) p → SplitsTo p q other → ComesBackTo q q' → ComesBackTo other other' → JoinsTo q' other' all → ComesBackTo p all
both_back_to joints index n None None None None None None new s a b j = tt
both_back_to joints index n (Some p) (Some q) (Some other) (Some q') (Some other') (Some all) new s a b j = both_come_back joints index n p q other new s q' other' all a b j
both_back_to joints index n None None None (Some q') other' all new s a b j = absurd a
both_back_to joints index n None None None None (Some other') all new s a b j = absurd b
both_back_to joints index n None None None None None (Some all) new s a b j = absurd j
both_back_to joints index n None None (Some other) q' other' all new s a b j = absurd s
both_back_to joints index n None (Some q) other q' other' all new s a b j = absurd s
both_back_to joints index n (Some p) None other q' other' all new s a b j = absurd s
both_back_to joints index n (Some p) (Some q) None q' other' all new s a b j = absurd s
both_back_to joints index n (Some p) (Some q) (Some other) None other' all new s a b j = absurd a
both_back_to joints index n (Some p) (Some q) (Some other) (Some q') None all new s a b j = absurd b
both_back_to joints index n (Some p) (Some q) (Some other) (Some q') (Some other') None new s a b j = absurd j

module _ (m : Meaning) (stages : ℕ) (joints : List TableId) (n number left : ℕ) (s t other : Seat) (is : IsSeat stages joints (n + 1) s) (parts : SplitsSeat number s t other) (rest end : SeatEnd) (a : SeatEnds m left t rest) (b : SeatEnds m 1 other end) where
  pub read_of : (slice_get joints (s.stage - 1) ≡ Some rest.read.table) × (slice_get joints (s.stage - 1) ≡ Some end.read.table)
  read_of = (
    back_at joints (s.stage - 1) n t.read rest.read (kept_new joints (s.stage - 1) n s.read t.read other.read is.reads parts.read) a.read,
    back_at joints (s.stage - 1) 1 other.read end.read (given_new joints (s.stage - 1) n s.read t.read other.read is.reads parts.read) b.read,
  )

  pub write_of : AreOfTo joints s.stage rest.write end.write
  write_of = back_at_to joints s.stage n 1 t.write other.write rest.write end.write
      (kept_new_to joints s.stage n s.write t.write other.write is.writes parts.write) (given_new_to joints s.stage n s.write t.write other.write is.writes parts.write)
      (split_last s.write t.write other.write parts.write) a.write b.write

  module _ (all : SeatEnd) (takes : TakesIn rest end all) where
    works : all.whole ≡ true → (what : Stage) → slice_get m.stages (s.stage - 1) ≡ Some what → WorksOff (says what s.stage) all.read all.write all.over.items all.lost.items
    works whole what at =
        let w = takes.whole whole in
        let mine = subst (λ (z : ℕ). (slice_get m.stages (z - 1) ≡ Some what) → WorksOff (says what z) rest.read rest.write rest.over.items rest.lost.items) parts.stage.0 (a.works w.0 what) at in
        let theirs = subst (λ (z : ℕ). (slice_get m.stages (z - 1) ≡ Some what) → WorksOff (says what z) end.read end.write end.over.items end.lost.items) parts.stage.1 (b.works w.1 what) at in
        let both = works_both (says what s.stage) rest.read end.read all.read rest.write end.write all.write rest.over.items end.over.items rest.lost.items end.lost.items takes.read takes.write mine theirs in
        subst (λ (z : List Outcome × List ℕ). WorksOff (says what s.stage) all.read all.write z.0 z.1) (λ i. (sym w.2 i, sym w.3 i)) both

    pub all_ends : (workers : ℕ) → workers ≡ left + 1 → SeatEnds m workers s all
    all_ends workers one_more = record {
      read = both_come_back joints (s.stage - 1) n s.read t.read other.read is.reads parts.read rest.read end.read all.read a.read b.read takes.read;
      write = both_back_to joints s.stage n s.write t.write other.write rest.write end.write all.write is.writes parts.write a.write b.write takes.write;
      works = works;
      closed = λ whole. (let w = takes.whole whole in let x = a.closed w.0 in let y = b.closed w.1 in let z = counts_both rest.read end.read all.read takes.read is_closed in omega (arith, one_more, x, y, z));
    }

    pub all_tell : IsToldFault end → IsToldFault all
    all_tell tells whole =
        let told = tells (takes.whole whole).1 in
        let sum = counts_both rest.read end.read all.read takes.read (is_closed_with (fault_number end.fault)) in
        subst (λ (f : Option ℕ). 0 < counts (is_closed_with (fault_number f)) all.read) (sym takes.fault) (omega (arith, told, sum))

-- 5. Passes by which no call was made

module _ (joints : List TableId) (index n : ℕ) where
  unused_back : (p : LockPass) → IsNewAt joints index n p → ComesBack p p
  unused_back p new = record { table = refl; object = refl; callers = refl; count = refl; below = new.below }

  unused_back_to : (p : Option LockPass) → IsNewAtTo joints index n p → ComesBackTo p p
  unused_back_to None new = tt
  unused_back_to (Some p) new = unused_back p new

  unused_to : (p : Option LockPass) → IsNewAtTo joints index n p → IsNewTo p
  unused_to None new = tt
  unused_to (Some p) new = new.unused

pub unused_ends : (m : Meaning) (stages : ℕ) (joints : List TableId) (n : ℕ) (s : Seat) (e : SeatEnd) → IsSeat stages joints n s → e.read ≡ s.read → e.write ≡ s.write → e.over.items ≡ [] → e.lost.items ≡ [] → SeatEnds m 0 s e
unused_ends m stages joints n s e is read write over lost =
    let unread = ap (λ (p : LockPass). p.seen) read ∙ is.reads.unused in
    let unwritten = subst IsNewTo (sym write) (unused_to joints s.stage n s.write is.writes) in record {
      read = subst (ComesBack s.read) (sym read) (unused_back joints (s.stage - 1) n s.read is.reads);
      write = subst (ComesBackTo s.write) (sym write) (unused_back_to joints s.stage n s.write is.writes);
      works = λ whole what at. subst (λ (z : List Outcome × List ℕ). WorksOff (says what s.stage) e.read e.write z.0 z.1) (λ i. (sym over i, sym lost i)) (works_start (says what s.stage) e.read e.write unread unwritten);
      closed = λ whole. new_counts is_closed e.read unread;
    }
