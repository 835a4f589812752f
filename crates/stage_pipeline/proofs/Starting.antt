-- How the passes of a joint are split between its two sides, and the joints of a run made one behind the other.
use Rattle.std.specs.Prelude.{ℕ, zero, suc, List, [], ◌∷◌, ◌++◌, Bool, false, Option, None, Some, nat_eq, length, slice_get, drop, All}
use Rattle.std.proofs.Common.{◌≡◌, ◌≢◌, refl, ap, sym, ◌∙◌, subst, ◌+◌, ◌-◌, ◌<◌, ◌≤◌, arith, append_assoc, append-nil, add-one, length-append}
use Rattle.std.proofs.lemmas.List.Elements.{All-cons, All-nil}
use Rattle.std.proofs.lemmas.Bool.{eq-eqb, eqb-true}
use Rattle.std.proofs.lemmas.Option.{slice_get_within, get_or_from_slice_get}
use Rattle.std.proofs.Math.Seq.{drop-cons, drop-length}
use Rattle.atomic_table.specs.Seated.{TableId}
use Rattle.ho_base.specs.Marks.{Mark}
use Rattle.ho_model.specs.declared.objects.Object.{Object}
use Rattle.ho_model.specs.declared.marks.EntryMark.{EntryMark}
use Rattle.ho_model.proofs.Lists.{slice_get_behind}
use Rattle.passes.specs.Numbers.{HasNumber, HoldsBelow, first_held, held_count, only}
use Rattle.passes.specs.Seen.{longer}
use Rattle.passes.specs.Calls.{Splits, Joins}
use Rattle.passes.specs.Views.{first_pass}
use Rattle.passes.proofs.Calls.{splits_give, joins_take, first_all}
use Rattle.passes.proofs.Flags.{by_flag, flag_else, only_has, both_left}
use Rattle.passes.proofs.Starts.{first_whole}
use Rattle.turn_lock.specs.Passes.{LockPass}
use Rattle.turn_lock.specs.declared.view.Obstacle.{Obstacle}
use Rattle.record_lang.specs.Pipelines.{HasJoints, Meaning}
use Rattle.record_lang.specs.declared.pipelines.Joint.{Joint}
use Rattle.stage_pipeline.specs.Crews.{IsKit, IsNewAt, IsNewAtTo}
use Rattle.stage_pipeline.specs.Runs.{channel_of}
use Rattle.stage_pipeline.specs.Works.{is_last}
use Rattle.stage_pipeline.specs.Starts.{AreSides, AreStarts, IsNewOf, StartJoints, StartsJoint, writers_at}
use Rattle.stage_pipeline.specs.declared.kits.Kit.{Kit}
use Rattle.stage_pipeline.specs.declared.starts.Starts.{Starts}

-- 1. One joint

module _ (t : TableId) (o : Object) (callers : ℕ) where
  pub first_new : 0 < callers → IsNewOf t o callers callers (first_pass t o callers)
  first_new some = record {
    table_is = refl;
    object_is = refl;
    callers_are = refl;
    unused = refl;
    count = (first_all callers).0;
    below = (first_all callers).1;
    own = first_whole callers 0 some;
  }

  kept_new : (m n : ℕ) (p q other : LockPass) → callers ≤ 64 → n + 1 ≡ m → Splits p q other → IsNewOf t o callers m p → IsNewOf t o callers n q
  kept_new m n p q other small is s new =
      let c = other.caller in
      let counts = splits_give Obstacle callers p q other small s new.below in
      let flip : p.caller ≢ c = λ e. s.spare.1 (sym e) in record {
        table_is = ap (λ (z : LockPass). z.table) s.kept ∙ new.table_is;
        object_is = ap (λ (z : LockPass). z.object) s.kept ∙ new.object_is;
        callers_are = ap (λ (z : LockPass). z.callers) s.kept ∙ new.callers_are;
        unused = ap (λ (z : LockPass). z.seen) s.kept ∙ new.unused;
        count = (let a = counts.0 in let b = new.count in omega (arith, a, b, is));
        below = counts.1;
        own = subst (λ (z : LockPass). HasNumber z.held z.caller) (sym s.kept) (flag_else p.held c p.caller flip false ∙ new.own);
      }

  given_new : (m : ℕ) (p q other : LockPass) → callers ≤ 64 → Splits p q other → IsNewOf t o callers m p → IsNewOf t o callers 1 other
  given_new m p q other small s new =
      let c = other.caller in
      let counts = splits_give Obstacle callers p q other small s new.below in
      let low : c < callers = new.below c s.spare.0 in
      let held : other.held ≡ only c = ap (λ (z : LockPass). z.held) s.given in record {
        table_is = ap (λ (z : LockPass). z.table) s.given ∙ new.table_is;
        object_is = ap (λ (z : LockPass). z.object) s.given ∙ new.object_is;
        callers_are = ap (λ (z : LockPass). z.callers) s.given ∙ new.callers_are;
        unused = ap (λ (z : LockPass). z.seen) s.given ∙ new.unused;
        count = counts.2;
        below = counts.3;
        own = subst (λ (h : List Bool). HasNumber h c) (sym held) (only_has c (omega (arith, low, small)));
      }

  pub splits_new : (m n : ℕ) (p q other : LockPass) → callers ≤ 64 → n + 1 ≡ m → Splits p q other → IsNewOf t o callers m p → IsNewOf t o callers n q × IsNewOf t o callers 1 other
  splits_new m n p q other small is s new = (kept_new m n p q other small is s new, given_new m p q other small s new)

  -- the first pass itself, as a split asks for it
  pub first_whole_new : (p : LockPass) → 0 < callers → p ≡ first_pass t o callers → IsNewOf t p.object p.callers (held_count p.held) p
  first_whole_new p some is =
      subst (λ (z : LockPass). IsNewOf t z.object z.callers (held_count z.held) z) (sym is)
      (subst (λ (n : ℕ). IsNewOf t o callers n (first_pass t o callers)) (sym (first_all callers).0) (first_new some))

  none_longer : (xs ys : List EntryMark) → xs ≡ [] → ys ≡ [] → longer xs ys ≡ []
  none_longer xs ys a b = subst (λ (l : List EntryMark). longer l ys ≡ []) (sym a) (subst (λ (l : List EntryMark). longer [] l ≡ []) (sym b) refl)

  pub joins_new : (priority : Mark → ℕ) (m n : ℕ) (p other q : LockPass) → Joins priority p other q → IsNewOf t o callers m p → IsNewOf t o callers n other → IsNewOf t o callers (m + n) q
  joins_new priority m n p other q j a b =
      let counts = joins_take Obstacle callers priority p other q j a.below b.below in record {
        table_is = ap (λ (z : LockPass). z.table) j.joined ∙ a.table_is;
        object_is = ap (λ (z : LockPass). z.object) j.joined ∙ a.object_is;
        callers_are = ap (λ (z : LockPass). z.callers) j.joined ∙ a.callers_are;
        unused = ap (λ (z : LockPass). z.seen) j.joined ∙ none_longer p.seen other.seen a.unused b.unused;
        count = (let s = counts.0 in let x = a.count in let y = b.count in omega (arith, s, x, y));
        below = counts.1;
        own = subst (λ (z : LockPass). HasNumber z.held z.caller) (sym j.joined) (both_left p.held other.held p.caller a.own);
      }

pub sides_of : (t : TableId) (line : Joint) (writers readers : ℕ) (p w r : LockPass) → p ≡ first_pass t (channel_of line) (writers + readers) → IsNewOf t p.object p.callers (held_count p.held - readers) w → IsNewOf t p.object p.callers readers r
    → AreSides t line writers readers w r
sides_of t line writers readers p w r is kept given =
    let kept' = subst (λ (z : LockPass). IsNewOf t z.object z.callers (held_count z.held - readers) w) is kept in
    let given' = subst (λ (z : LockPass). IsNewOf t z.object z.callers readers r) is given in
    let count : held_count (first_held (writers + readers)) - readers ≡ writers = (let c = (first_all (writers + readers)).0 in omega (arith, c)) in
    record { write = subst (λ (n : ℕ). IsNewOf t (channel_of line) (writers + readers) n w) count kept'; read = given' }

-- 2. All joints

-- those made so far, the last one read by this pass, begin what starts all
abbrev pub BeginsAll : ℕ → ℕ → LockPass → List TableId → LockPass → List Kit → List Joint → Type 0
BeginsAll workers stage read tables feeds kits all =
    (kit : Kit) (ts : List TableId) (ks : List Kit) → kit.read ≡ read → kit.stage ≡ stage → kit.workers ≡ workers → StartJoints workers stage ts (drop stage all) kit.write ks
    → StartJoints workers 0 (tables ++ ts) all (Some feeds) (kits ++ kit ∷ ks)

drop_at : {A : Type 0} (xs : List A) (n : ℕ) (x : A) → slice_get xs n ≡ Some x → drop n xs ≡ x ∷ drop (n + 1) xs
drop_at xs n x at =
    drop-cons xs n x (slice_get_within xs n x at) ∙ ap (λ y. y ∷ drop (suc n) xs) (get_or_from_slice_get xs n x x at) ∙ ap (λ k. x ∷ drop k xs) (sym (add-one n))

drop_none : {A : Type 0} (xs : List A) → drop 0 xs ≡ xs
drop_none [] = refl
drop_none (x ∷ xs) = refl

started : (workers index stage : ℕ) (table : TableId) (line : Joint) (write read : LockPass) (kit : Kit) → index + 1 ≡ stage → AreSides table line (writers_at workers index) (workers + 1) write read
    → kit.read ≡ read → kit.stage ≡ stage → kit.workers ≡ workers → StartsJoint workers index table line write kit
started workers index stage table line write read kit next sides r s w = record {
  sides = subst (λ (p : LockPass). AreSides table line (writers_at workers index) (workers + 1) write p) (sym r) sides;
  stage = s ∙ sym next;
  workers_are = w;
}

pub begins_first : (workers : ℕ) (table : TableId) (line : Joint) (feeds read : LockPass) (all : List Joint) → slice_get all 0 ≡ Some line → AreSides table line 1 (workers + 1) feeds read → BeginsAll workers 1 read (table ∷ []) feeds [] all
begins_first workers table line feeds read all at sides kit ts ks r s w rest =
    let is : all ≡ line ∷ drop 1 all = sym (drop_none all) ∙ drop_at all 0 line at in
    subst (λ (ls : List Joint). StartJoints workers 0 (table ∷ ts) ls (Some feeds) (kit ∷ ks)) (sym is) (started workers 0 1 table line feeds read kit refl sides r s w, rest)

writers_later : (workers index : ℕ) → 1 ≤ index → writers_at workers index ≡ workers + 1
writers_later workers zero some = absurd (omega arith)
writers_later workers (suc index) some = refl

pub begins_more : (workers stage : ℕ) (read : LockPass) (tables : List TableId) (feeds : LockPass) (kits : List Kit) (all : List Joint) (kit : Kit) (table : TableId) (line : Joint) (write read' : LockPass)
    → 1 ≤ stage → BeginsAll workers stage read tables feeds kits all → kit.read ≡ read → kit.stage ≡ stage → kit.workers ≡ workers → kit.write ≡ Some write → slice_get all stage ≡ Some line
    → AreSides table line (workers + 1) (workers + 1) write read' → BeginsAll workers (stage + 1) read' (tables ++ table ∷ []) feeds (kits ++ kit ∷ []) all
begins_more workers stage read tables feeds kits all kit table line write read' some begins r s w to at sides kit' ts ks r' s' w' rest =
    let sides' = subst (λ (n : ℕ). AreSides table line n (workers + 1) write read') (sym (writers_later workers stage some)) sides in
    let one : StartJoints workers stage (table ∷ ts) (line ∷ drop (stage + 1) all) (Some write) (kit' ∷ ks) = (started workers stage (stage + 1) table line write read' kit' refl sides' r' s' w', rest) in
    let two = subst (λ (o : Option LockPass). StartJoints workers stage (table ∷ ts) (line ∷ drop (stage + 1) all) o (kit' ∷ ks)) (sym to) one in
    let three = subst (λ (ls : List Joint). StartJoints workers stage (table ∷ ts) ls kit.write (kit' ∷ ks)) (sym (drop_at all stage line at)) two in
    let four = begins kit (table ∷ ts) (kit' ∷ ks) r s w three in
    let five = subst (λ (l : List TableId). StartJoints workers 0 l all (Some feeds) (kits ++ kit ∷ (kit' ∷ ks))) (sym (append_assoc tables (table ∷ []) ts)) four in
    subst (λ (l : List Kit). StartJoints workers 0 ((tables ++ table ∷ []) ++ ts) all (Some feeds) l) (sym (append_assoc kits (kit ∷ []) (kit' ∷ ks))) five

pub begins_whole : (workers stage : ℕ) (read : LockPass) (tables : List TableId) (feeds : LockPass) (kits : List Kit) (all : List Joint) (kit : Kit)
    → BeginsAll workers stage read tables feeds kits all → kit.read ≡ read → kit.stage ≡ stage → kit.workers ≡ workers → kit.write ≡ None → stage ≡ length all
    → StartJoints workers 0 tables all (Some feeds) (kits ++ kit ∷ [])
begins_whole workers stage read tables feeds kits all kit begins r s w to end =
    let none : drop stage all ≡ [] = ap (λ k. drop k all) end ∙ drop-length all in
    let base : StartJoints workers stage [] [] None [] = tt in
    let one = subst (λ (o : Option LockPass). StartJoints workers stage [] [] o []) (sym to) base in
    let two = subst (λ (ls : List Joint). StartJoints workers stage [] ls kit.write []) (sym none) one in
    subst (λ (l : List TableId). StartJoints workers 0 l all (Some feeds) (kits ++ kit ∷ [])) (append-nil tables) (begins kit [] [] r s w two)

-- 3. What each thread is given

new_at : (joints : List TableId) (table : TableId) (object : Object) (callers index numbers : ℕ) (p : LockPass) → callers ≤ 64 → slice_get joints index ≡ Some table → IsNewOf table object callers numbers p → IsNewAt joints index numbers p
new_at joints table object callers index numbers p few at new = record {
  table = at ∙ ap Some (sym new.table_is);
  unused = new.unused;
  count = new.count;
  below = subst (λ (n : ℕ). HoldsBelow n p.held) (sym new.callers_are) new.below;
  few = subst (λ (n : ℕ). n ≤ 64) (sym new.callers_are) few;
  own = new.own;
}

writers_most : (workers index : ℕ) → workers ≤ 16 → writers_at workers index ≤ workers + 1
writers_most workers zero few = omega arith
writers_most workers (suc index) few = omega arith

-- the place behind these
at_place : (front : List TableId) (index : ℕ) (table : TableId) (ts : List TableId) → length front ≡ index → slice_get (front ++ table ∷ ts) index ≡ Some table
at_place front index table ts is = subst (λ (n : ℕ). slice_get (front ++ table ∷ ts) n ≡ Some table) is (slice_get_behind front table ts)

module _ (workers : ℕ) (few : workers ≤ 16) where
  few_callers : (index : ℕ) → writers_at workers index + (workers + 1) ≤ 64
  few_callers index = let most = writers_most workers index few in omega (arith, most, few)

  write_new : (front ts : List TableId) (index : ℕ) (ls : List Joint) (w : Option LockPass) (ks : List Kit) → 1 ≤ index → length front ≡ index → StartJoints workers index ts ls w ks → IsNewAtTo (front ++ ts) index (workers + 1) w
  write_new front [] index [] None [] some is h = tt
  write_new front (t ∷ ts) index (l ∷ ls) (Some w) (k ∷ ks) some is h =
      let new = subst (λ (n : ℕ). IsNewOf t (channel_of l) (writers_at workers index + (workers + 1)) n w) (writers_later workers index some) h.0.sides.write in
      new_at (front ++ t ∷ ts) t (channel_of l) (writers_at workers index + (workers + 1)) index (workers + 1) w (few_callers index) (at_place front index t ts is) new
  write_new _ _ _ _ _ _ some is h = absurd h

  is_no_last : (a b : ℕ) → a < b → false ≡ nat_eq a b
  is_no_last a b less = by_flag (nat_eq a b) (λ yes. absurd (let e = eqb-true a b yes in omega (arith, e, less))) (λ no. sym no)

  last_is : (index n : ℕ) (ts : List TableId) (ls : List Joint) (w : Option LockPass) (ks : List Kit) → index + length ls ≡ n → StartJoints workers index ts ls w ks → is_last w ≡ nat_eq index n
  last_is index n [] [] None [] is h = sym (eq-eqb index n (omega (arith, is)))
  last_is index n (t ∷ ts) (l ∷ ls) (Some w) (k ∷ ks) is h = is_no_last index n (omega (arith, is))
  last_is _ _ _ _ _ _ is h = absurd h

  kit_of : (front ts : List TableId) (index n : ℕ) (t : TableId) (l : Joint) (ls : List Joint) (w : LockPass) (k : Kit) (ks : List Kit) → 1 ≤ workers → length front ≡ index → index + length (l ∷ ls) ≡ n
      → StartsJoint workers index t l w k → StartJoints workers (index + 1) ts ls k.write ks → IsKit n (front ++ t ∷ ts) k
  kit_of front ts index n t l ls w k ks some is count one rest =
      let same : workers ≡ k.workers = sym one.workers_are in
      let next : length (front ++ t ∷ []) ≡ index + 1 = length-append front (t ∷ []) ∙ ap (λ m. m + 1) is in
      let writes = write_new (front ++ t ∷ []) ts (index + 1) ls k.write ks (omega arith) next rest in
      let moved = subst (λ (l : List TableId). IsNewAtTo l (index + 1) (workers + 1) k.write) (append_assoc front (t ∷ []) ts) writes in
      let reads = new_at (front ++ t ∷ ts) t (channel_of l) (writers_at workers index + (workers + 1)) index (workers + 1) k.read (few_callers index) (at_place front index t ts is) one.sides.read in
      let stage = one.stage in
      let back : index ≡ k.stage - 1 = omega (arith, stage) in record {
        from = omega (arith, stage);
        to = omega (arith, stage, count);
        some = subst (λ (m : ℕ). 1 ≤ m) same some;
        most = subst (λ (m : ℕ). m ≤ 16) same few;
        reads = subst (λ (m : ℕ). IsNewAt (front ++ t ∷ ts) (k.stage - 1) (m + 1) k.read) same (subst (λ (m : ℕ). IsNewAt (front ++ t ∷ ts) m (workers + 1) k.read) back reads);
        writes = subst (λ (m : ℕ). IsNewAtTo (front ++ t ∷ ts) k.stage (m + 1) k.write) same (subst (λ (m : ℕ). IsNewAtTo (front ++ t ∷ ts) m (workers + 1) k.write) (sym stage) moved);
        last = subst (λ (m : ℕ). is_last k.write ≡ nat_eq m n) (sym stage) (last_is (index + 1) n ts ls k.write ks (omega (arith, count)) rest);
      }

  pub kits_of : (front ts : List TableId) (index n : ℕ) (ls : List Joint) (w : Option LockPass) (ks : List Kit) → 1 ≤ workers → length front ≡ index → index + length ls ≡ n
      → StartJoints workers index ts ls w ks → All (IsKit n (front ++ ts)) ks
  kits_of front [] index n [] None [] some is count h = All-nil (IsKit n (front ++ []))
  kits_of front (t ∷ ts) index n (l ∷ ls) (Some w) (k ∷ ks) some is count h =
      let next : length (front ++ t ∷ []) ≡ index + 1 = length-append front (t ∷ []) ∙ ap (λ m. m + 1) is in
      let others = kits_of (front ++ t ∷ []) ts (index + 1) n ls k.write ks some next (omega (arith, count)) h.1 in
      let moved = subst (λ (j : List TableId). All (IsKit n j) ks) (append_assoc front (t ∷ []) ts) others in
      All-cons (IsKit n (front ++ t ∷ ts)) k ks (kit_of front ts index n t l ls w k ks some is count h.0 h.1) moved
  kits_of _ _ _ _ _ _ _ some is count h = absurd h

  pub feeds_of : (ts : List TableId) (ls : List Joint) (feeds : LockPass) (ks : List Kit) → StartJoints workers 0 ts ls (Some feeds) ks → IsNewAt ts 0 1 feeds
  feeds_of (t ∷ ts) (l ∷ ls) feeds (k ∷ ks) h = new_at (t ∷ ts) t (channel_of l) (1 + (workers + 1)) 0 1 feeds (few_callers 0) refl h.0.sides.write
  feeds_of [] [] feeds ks h = absurd h
  feeds_of [] (l ∷ ls) feeds ks h = absurd h
  feeds_of (t ∷ ts) [] feeds ks h = absurd h
  feeds_of (t ∷ ts) (l ∷ ls) feeds [] h = absurd h

  pub count_of : (index : ℕ) (ts : List TableId) (ls : List Joint) (w : Option LockPass) (ks : List Kit) → StartJoints workers index ts ls w ks → (length ts ≡ length ls) × (length ks ≡ length ls)
  count_of index [] [] None [] h = (refl, refl)
  count_of index (t ∷ ts) (l ∷ ls) (Some w) (k ∷ ks) h = let rest = count_of (index + 1) ts ls k.write ks h.1 in (ap suc rest.0, ap suc rest.1)
  count_of _ _ _ _ _ h = absurd h

pub are_starts : (pipeline : Meaning) (workers : ℕ) (s : Starts) → 1 ≤ workers → workers ≤ 16 → HasJoints pipeline.stages pipeline.joints → StartJoints workers 0 s.joints.items pipeline.joints (Some s.feeds) s.kits.items → AreStarts pipeline workers s
are_starts pipeline workers s some most has start =
    let counts = count_of workers most 0 s.joints.items pipeline.joints (Some s.feeds) s.kits.items start in
    let tables = counts.0 in
    let few = has.few in
    let fed = has.fed in record {
      joints = start;
      kits = kits_of workers most [] s.joints.items 0 (length pipeline.stages) pipeline.joints (Some s.feeds) s.kits.items some refl (omega (arith, fed)) start;
      feeds = feeds_of workers most s.joints.items pipeline.joints s.feeds s.kits.items start;
      few = omega (arith, tables, few, fed);
    }
