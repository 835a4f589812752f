-- What a joint that was met tells of its whole pass.
use Rattle.std.specs.Prelude.{ℕ, ◌==◌, List, [], ◌∷◌, Bool, true, false, cond, min, All, length, count_by, Option, Some}
use Rattle.std.specs.List.{sum_by, flat_map}
use Rattle.std.proofs.Common.{◌≡◌, refl, ap, sym, ◌∙◌, subst, ◌+◌, ◌<◌, ◌≤◌, arith}
use Rattle.std.proofs.lemmas.List.Sums.{sum_by-cons, sum_by-le-sum_by}
use Rattle.ho_base.specs.Marks.{Mark, number_of}
use Rattle.ho_model.specs.declared.marks.EntryMark.{EntryMark}
use Rattle.ho_model.specs.declared.marks.ReplyMark.{ReplyMark}
use Rattle.ho_model.specs.declared.marks.ReplyMark.TheVariants.{ClosedWith, Flag}
use Rattle.ho_model.specs.declared.marks.CallMark.TheVariants.{CompleteWith}
use Rattle.ho_model.specs.Entries.{entry}
use Rattle.ho_model.specs.declared.objects.Object.{Object}
use Rattle.ho_model.specs.declared.objects.Object.TheVariants.{Bounded, Unbounded}
use Rattle.ho_model.specs.declared.objects.Mode.{Mode}
use Rattle.ho_model.specs.declared.objects.Mode.TheVariants as mode
use Rattle.passes.specs.Numbers.{HasAll, AreApart, held_both}
use Rattle.passes.specs.Seen.{SeesOthers, IsLawful, own_of}
use Rattle.turn_lock.specs.Passes.{LockPass}
use Rattle.ho_model.specs.Channel.{drops}
use Rattle.channel_laws.specs.Reached.{IsChannelObject, kind_in}
use Rattle.channel_flow.specs.Items.{written_in, taken_in, dropped_in, given_back_in, weight, one}
use Rattle.channel_flow.specs.Ends.{is_begun, is_finished, is_closed_reply, is_closed, is_closed_reply_with, is_closed_with, is_completing, first_fault}
use Rattle.channel_flow.proofs.Laws.{weight-flat_map}
use Rattle.record_lang.specs.Pipelines.{IsBuildable}
use Rattle.record_lang.specs.declared.outcomes.Outcome.{Outcome}
use Rattle.record_lang.specs.declared.pipelines.Joint.{Joint}
use Rattle.record_lang.specs.declared.pipelines.Joint.TheVariants as joint
use Rattle.joint_reports.proofs.Weights.{mapped_weight}
use Rattle.stage_pipeline.specs.Callers.{strays}
use Rattle.stage_pipeline.specs.Joints.{IsJoined, AreQuiet}
use Rattle.stage_pipeline.specs.Works.{weighs, counts, lost_by, WorksOff}
use Rattle.stage_pipeline.specs.Runs.{channel_of, dropped_numbers}
use Rattle.stage_pipeline.specs.Meetings.{JointEnd, MeetsJoint}
use Rattle.stage_pipeline.proofs.Joining.{IsSided, all_sided, total, fault_is_first, joints_add_up, fault_goes_on, joints_drop_nothing, few_are_dropped}

-- by this pass what arrives was written, with these numbers dropped, and nothing was taken, completed or told of the end
pub record WritesAll (arriving : (Mark → ℕ) → ℕ) (p : LockPass) (lost : List ℕ) : Type 0 where
  pub writes : (h : Mark → ℕ) → weighs (weight h written_in) p ≡ arriving h
  pub loses : (g : ℕ → ℕ) → sum_by g lost ≡ weighs (lost_by g) p
  pub settled : counts is_begun p ≡ counts is_finished p
  pub quiet : (h : Mark → ℕ) → (weighs (weight h taken_in) p ≡ 0) × (weighs (weight h given_back_in) p ≡ 0)
  pub uncompleting : counts is_completing p ≡ 0
  pub untold : counts is_closed p ≡ 0
  pub alone : counts (strays false) p ≡ 0

-- no items are dropped, or as many are taken as the joint has room for, or all
abbrev pub HasRoom : Joint → List Mark → List Mark → List Mark → Type 0
HasRoom (joint.Wait capacity) written taken lost = lost ≡ []
HasRoom (joint.DropNewest capacity) written taken lost = min (length written) capacity ≤ length taken
HasRoom (joint.DropOldest capacity) written taken lost = min (length written) capacity ≤ length taken
HasRoom (joint.DropWrite capacity) written taken lost = min (length written) capacity ≤ length taken
HasRoom joint.Unbounded written taken lost = lost ≡ []

-- What the whole pass of a joint has seen is what its writers wrote and dropped and its readers took. What was written was taken
-- or dropped, and its readers, and nobody else, were told the fault of its one completion. Each call is one of its caller's side.
pub record ShowsJoint (line : Joint) (fault : ℕ) (e : JointEnd) : Type 0 where
  pub written : (h : Mark → ℕ) → sum_by h (flat_map written_in e.whole.seen) ≡ weighs (weight h written_in) e.before
  pub taken : (h : Mark → ℕ) → sum_by h (flat_map taken_in e.whole.seen) ≡ weighs (weight h taken_in) e.read
  pub numbers : (g : ℕ → ℕ) → sum_by g e.lost ≡ sum_by g (dropped_numbers e.whole)
  pub adds_up : (h : Mark → ℕ) → sum_by h (flat_map written_in e.whole.seen) ≡ sum_by h (flat_map taken_in e.whole.seen) + sum_by h (flat_map dropped_in e.whole.seen)
  pub room : HasRoom line (flat_map written_in e.whole.seen) (flat_map taken_in e.whole.seen) (flat_map dropped_in e.whole.seen)
  pub told : (f : ℕ) → 0 < counts (is_closed_with f) e.read → f ≡ fault
  pub completed : (count_by is_completing e.whole.seen ≡ 1) × (first_fault e.whole.seen ≡ Some fault)
  pub closed : count_by is_closed e.whole.seen ≡ counts is_closed e.read
  pub sides : All (IsSided e.read.held) e.whole.seen
  pub settled : count_by is_begun e.whole.seen ≡ count_by is_finished e.whole.seen

-- 1. Plain lists

ones_count : (ms : List Mark) → sum_by one ms ≡ length ms
ones_count [] = omega arith
ones_count (m ∷ ms) = let a = sum_by-cons one m ms in let b = ones_count ms in omega arith

none_there : (ms : List Mark) → sum_by one ms ≡ 0 → ms ≡ []
none_there [] none = refl
none_there (m ∷ ms) none = absurd (let a = sum_by-cons one m ms in omega arith)

-- 2. One joint, of two passes that are joined to a whole one

one_at_most : (b : Bool) → cond b 1 0 ≤ 1
one_at_most true = omega arith
one_at_most false = omega arith

closed_le : (fault : ℕ) (r : ReplyMark) → cond (is_closed_reply_with fault r) 1 0 ≤ cond (is_closed_reply r) 1 0
closed_le fault (ClosedWith told) = one_at_most (told == fault)
closed_le fault _ = omega arith

told_some : (fault : ℕ) (p : LockPass) → 0 < counts (is_closed_with fault) p → 0 < counts is_closed p
told_some fault p some =
    let a = sum_by-le-sum_by (λ e. cond (is_closed_with fault e) 1 0) (λ e. cond (is_closed e) 1 0) (own_of p.held p.seen) (λ e. closed_le fault e.reply) in
    omega arith

room_of : (line : Joint) → IsBuildable line → IsChannelObject (channel_of line)
room_of (joint.Wait capacity) b = let a = b.least in omega arith
room_of (joint.DropNewest capacity) b = let a = b.least in omega arith
room_of (joint.DropOldest capacity) b = let a = b.least in omega arith
room_of (joint.DropWrite capacity) b = let a = b.least in omega arith
room_of joint.Unbounded b = tt

pub few_as : (written taken written' taken' capacity : ℕ) → written ≡ written' → taken ≡ taken' → min written capacity ≤ taken → min written' capacity ≤ taken'
few_as written taken written' taken' capacity w t few = omega arith

-- the joint e, of this object, was completed with this fault
module _ (fault : ℕ) (set : Bool) (e : JointEnd) where
  abbrev JoinedAs : Object → Type 0
  JoinedAs o = IsJoined number_of o e.whole.callers e.before.held e.before.seen e.read.held e.read.seen e.whole.seen e.before.caller fault set

  abbrev Quiet : Type 0
  Quiet = AreQuiet e.before.held e.before.seen e.read.held e.read.seen

  module _ (o : Object) (j : JoinedAs o) where
    all_weigh : (f : EntryMark → ℕ) → sum_by f e.whole.seen ≡ weighs f e.before + f (entry e.before.caller (CompleteWith fault) (Flag set)) + weighs f e.read
    all_weigh f = total number_of o e.whole.callers e.before.held e.before.seen e.read.held e.read.seen e.whole.seen e.before.caller fault set j f

    module _ (q : Quiet) where
      written_is : (h : Mark → ℕ) → sum_by h (flat_map written_in e.whole.seen) ≡ weighs (weight h written_in) e.before
      written_is h =
          let a = weight-flat_map h written_in e.whole.seen in
          let t = all_weigh (weight h written_in) in
          let r = q.readers_quiet h in
          omega arith

      taken_is : (h : Mark → ℕ) → sum_by h (flat_map taken_in e.whole.seen) ≡ weighs (weight h taken_in) e.read
      taken_is h =
          let a = weight-flat_map h taken_in e.whole.seen in
          let t = all_weigh (weight h taken_in) in
          let w = q.writers_quiet h in
          omega arith

      lost_is : (h : Mark → ℕ) → sum_by h (flat_map dropped_in e.whole.seen) ≡ weighs (weight h dropped_in) e.before
      lost_is h =
          let a = weight-flat_map h dropped_in e.whole.seen in
          let t = all_weigh (weight h dropped_in) in
          let r = q.readers_quiet h in
          omega arith

      all_add_up : (h : Mark → ℕ) → sum_by h (flat_map written_in e.whole.seen) ≡ sum_by h (flat_map taken_in e.whole.seen) + sum_by h (flat_map dropped_in e.whole.seen)
      all_add_up h =
          let a = joints_add_up number_of o e.whole.callers e.before.held e.before.seen e.read.held e.read.seen e.whole.seen e.before.caller fault set j q h in
          let w = written_is h in
          let t = taken_is h in
          let d = lost_is h in
          omega arith

      told_fault : (told : ℕ) → 0 < counts (is_closed_with told) e.read → told ≡ fault
      told_fault = fault_goes_on number_of o e.whole.callers e.before.held e.before.seen e.read.held e.read.seen e.whole.seen e.before.caller fault set j q

      completed_once : (count_by is_completing e.whole.seen ≡ 1) × (first_fault e.whole.seen ≡ Some fault)
      completed_once =
          let t = all_weigh (λ x. cond (is_completing x) 1 0) in
          let w = q.uncompleted in
          let r = q.uncompleting in
          (omega arith, fault_is_first number_of o e.whole.callers e.before.held e.before.seen e.read.held e.read.seen e.whole.seen e.before.caller fault set j q)

      nothing_lost : drops (kind_in number_of o).mode ≡ false → flat_map dropped_in e.whole.seen ≡ []
      nothing_lost mode =
          let none = joints_drop_nothing number_of o e.whole.callers e.before.held e.before.seen e.read.held e.read.seen e.whole.seen e.before.caller fault set j mode one in
          let d = lost_is one in
          none_there (flat_map dropped_in e.whole.seen) (omega arith)

  few_lost : (capacity : ℕ) (m : Mode) → JoinedAs (Bounded capacity m) → Quiet → min (length (flat_map written_in e.whole.seen)) capacity ≤ length (flat_map taken_in e.whole.seen)
  few_lost capacity m j q =
      let few = few_are_dropped number_of capacity m e.whole.callers e.before.held e.before.seen e.read.held e.read.seen e.whole.seen e.before.caller fault set j q in
      let w = written_is (Bounded capacity m) j q one in
      let t = taken_is (Bounded capacity m) j q one in
      let a = ones_count (flat_map written_in e.whole.seen) in
      let b = ones_count (flat_map taken_in e.whole.seen) in
      few_as (weighs (weight one written_in) e.before) (weighs (weight one taken_in) e.read) (length (flat_map written_in e.whole.seen)) (length (flat_map taken_in e.whole.seen)) capacity (sym w ∙ a) (sym t ∙ b) few

  has_room : (line : Joint) → JoinedAs (channel_of line) → Quiet → HasRoom line (flat_map written_in e.whole.seen) (flat_map taken_in e.whole.seen) (flat_map dropped_in e.whole.seen)
  has_room (joint.Wait capacity) j q = nothing_lost (Bounded capacity mode.Wait) j q refl
  has_room (joint.DropNewest capacity) j q = few_lost capacity mode.DropNewest j q
  has_room (joint.DropOldest capacity) j q = few_lost capacity mode.DropOldest j q
  has_room (joint.DropWrite capacity) j q = few_lost capacity mode.DropWrite j q
  has_room joint.Unbounded j q = nothing_lost Unbounded j q refl

-- 3. The joint of a run

module _ (line : Joint) (callers workers fault : ℕ) (e : JointEnd) (buildable : IsBuildable line) (m : MeetsJoint line callers workers fault e) where
  held_is : e.whole.held ≡ held_both e.before.held e.read.held
  held_is = ap (λ (p : LockPass). p.held) m.joined.joined ∙ ap (λ (h : List Bool). held_both h e.read.held) m.completes.same.held

  joined : JoinedAs fault m.completes.set e (channel_of line)
  joined = record {
    room = room_of line buildable;
    lawful = subst (λ (o : Object). IsLawful number_of o e.whole.callers e.whole.seen) m.object m.joined.lawful;
    apart = subst (λ (h : List Bool). AreApart h e.read.held) m.completes.same.held m.joined.apart;
    whole = subst (λ (h : List Bool). HasAll e.whole.callers h) held_is m.all;
    own = m.completes.own;
    front = m.completes.front;
    completed = e.after.seen;
    completes = m.completes.completes;
    first = subst (λ (h : List Bool). SeesOthers h e.after.seen e.whole.seen) m.completes.same.held m.joined.first;
    second = m.joined.second;
  }

  module _ (arriving : (Mark → ℕ) → ℕ) (does : Mark → Outcome) (w : Option LockPass) (lost : List ℕ) (a : WritesAll arriving e.before e.lost) (r : WorksOff does e.read w e.over lost) (told : ℕ) (some : 0 < counts (is_closed_with told) e.read) where
    quiet : Quiet fault m.completes.set e
    quiet = record {
      writers_settled = a.settled;
      readers_settled = r.settled;
      writers_quiet = a.quiet;
      uncompleted = a.uncompleting;
      readers_quiet = r.quiet;
      uncompleting = r.uncompleting;
      told = told_some told e.read some;
    }

    numbers_lost : (g : ℕ → ℕ) → sum_by g e.lost ≡ sum_by g (dropped_numbers e.whole)
    numbers_lost g =
        a.loses g
        ∙ (sym (lost_is fault m.completes.set e (channel_of line) joined quiet (λ x. g (number_of x)))
        ∙ sym (mapped_weight g number_of (flat_map dropped_in e.whole.seen)))

    readers_told : count_by is_closed e.whole.seen ≡ counts is_closed e.read
    readers_told =
        let t = all_weigh fault m.completes.set e (channel_of line) joined (λ x. cond (is_closed x) 1 0) in
        let w = a.untold in
        omega arith

    all_settled : count_by is_begun e.whole.seen ≡ count_by is_finished e.whole.seen
    all_settled =
        let b = all_weigh fault m.completes.set e (channel_of line) joined (λ x. cond (is_begun x) 1 0) in
        let f = all_weigh fault m.completes.set e (channel_of line) joined (λ x. cond (is_finished x) 1 0) in
        let w = a.settled in
        let s = r.settled in
        omega arith

    pub joint_shows : ShowsJoint line fault e
    joint_shows = record {
      written = written_is fault m.completes.set e (channel_of line) joined quiet;
      taken = taken_is fault m.completes.set e (channel_of line) joined quiet;
      numbers = numbers_lost;
      adds_up = all_add_up fault m.completes.set e (channel_of line) joined quiet;
      room = has_room fault m.completes.set e line joined quiet;
      told = told_fault fault m.completes.set e (channel_of line) joined quiet;
      completed = completed_once fault m.completes.set e (channel_of line) joined quiet;
      closed = readers_told;
      settled = all_settled;
      sides = all_sided number_of (channel_of line) e.whole.callers e.before.held e.before.seen e.read.held e.read.seen e.whole.seen e.before.caller fault m.completes.set joined a.alone r.reads_alone;
    }
