-- What is gathered of a run hands it on.
use Rattle.std.specs.Prelude.{ℕ, zero, suc, List, [], ◌∷◌, ◌++◌, Option, None, Some, true, length, map, slice_get}
use Rattle.std.specs.List.{sum_by}
use Rattle.std.proofs.Common.{◌≡◌, refl, ap, sym, ◌∙◌, subst, ◌+◌, ◌-◌, ◌≤◌, arith, append_assoc, length-append}
use Rattle.std.proofs.lemmas.List.Sums.{sum_by-cons}
use Rattle.atomic_table.specs.Seated.{TableId}
use Rattle.ho_base.specs.Marks.{Mark, number_of}
use Rattle.ho_model.proofs.Lists.{slice_get_behind}
use Rattle.passes.specs.Calls.{Joins}
use Rattle.passes.specs.Numbers.{HoldsBelow}
use Rattle.passes.specs.Views.{IsWhole}
use Rattle.passes.proofs.Calls.{all_whole, joins_take}
use Rattle.turn_lock.specs.Passes.{LockPass}
use Rattle.turn_lock.specs.declared.view.Obstacle.{Obstacle}
use Rattle.channel_core.specs.Marks.{fault_number}
use Rattle.channel_flow.specs.Ends.{is_closed}
use Rattle.record_lang.specs.Guards.{fed_rows, stop_code}
use Rattle.record_lang.specs.Pipelines.{HasJoints, Meaning}
use Rattle.record_lang.specs.Records.{Row}
use Rattle.record_lang.specs.declared.outcomes.Outcome.{Outcome}
use Rattle.record_lang.specs.declared.pipelines.Joint.{Joint}
use Rattle.record_lang.specs.declared.pipelines.Stage.{Stage}
use Rattle.record_lang.specs.declared.reports.Dropped.{Dropped}
use Rattle.record_lang.specs.declared.texts.FedRows.{FedRows}
use Rattle.joint_reports.specs.Through.{says}
use Rattle.stage_pipeline.specs.Crews.{AddsCrewEnds, ComesBack, ComesBackTo, Completes, CompletesTo, CrewEnds, CrewWorks, EachCrewEnds, FeederEnds, FeederWorks, Feeds}
use Rattle.stage_pipeline.specs.Gathered.{AreEndsOf, AreJoined, Gathers, dropped_by, weight_lost, weight_over}
use Rattle.stage_pipeline.specs.Meetings.{FeedsFirst, HandsOn, JointEnd, MeetJoints, MeetsJoint, WorkStages, lost_from}
use Rattle.stage_pipeline.specs.Runs.{callers_at, channel_of}
use Rattle.stage_pipeline.specs.Starts.{AreStarts, StartJoints, StartsJoint, writers_at}
use Rattle.stage_pipeline.specs.Tellings.{AreFed}
use Rattle.stage_pipeline.specs.Works.{WorksOff, counts}
use Rattle.stage_pipeline.specs.declared.flow.Flow.{Flow}
use Rattle.stage_pipeline.specs.declared.kits.CrewEnd.{CrewEnd}
use Rattle.stage_pipeline.specs.declared.kits.Feed.{Feed}
use Rattle.stage_pipeline.specs.declared.kits.Kit.{Kit}
use Rattle.stage_pipeline.specs.declared.runs.Done.{Done}
use Rattle.stage_pipeline.specs.declared.starts.Starts.{Starts}

-- 1. One joint's passes come back and make a whole one

callers_sum : (workers index : ℕ) → writers_at workers index + (workers + 1) ≡ callers_at workers index
callers_sum workers zero = omega arith
callers_sum workers (suc index) = omega arith

module _ (workers index : ℕ) (t : TableId) (line : Joint) (w0 w r p : LockPass) (kit : Kit) (start : StartsJoint workers index t line w0 kit) (back : ComesBack w0 w) (reads : ComesBack kit.read r) (j : Joins number_of w r p) where
  object_whole : p.object ≡ channel_of line
  object_whole = ap (λ (z : LockPass). z.object) j.joined ∙ back.object ∙ start.sides.write.object_is

  callers_write : w.callers ≡ callers_at workers index
  callers_write = back.callers ∙ start.sides.write.callers_are ∙ callers_sum workers index

  callers_read : r.callers ≡ callers_at workers index
  callers_read = reads.callers ∙ start.sides.read.callers_are ∙ callers_sum workers index

  callers_whole : p.callers ≡ callers_at workers index
  callers_whole = ap (λ (z : LockPass). z.callers) j.joined ∙ callers_write

  whole_pass : IsWhole p
  whole_pass =
      let n = callers_at workers index in
      let below = subst (λ (m : ℕ). HoldsBelow m w.held) callers_write back.below in
      let below' = subst (λ (m : ℕ). HoldsBelow m r.held) callers_read reads.below in
      let take = joins_take Obstacle n number_of w r p j below below' in
      let a = take.0 in
      let b = back.count in
      let c = start.sides.write.count in
      let d = reads.count in
      let e = start.sides.read.count in
      let f = callers_sum workers index in
      let g = callers_whole in
      all_whole Obstacle p (subst (λ (m : ℕ). HoldsBelow m p.held) (sym callers_whole) take.1) (omega (arith, a, b, c, d, e, f, g))

  meets_joint : (fault : ℕ) (before : LockPass) (lost : List ℕ) (over : List Outcome) → Completes fault before w → counts is_closed r ≡ workers
      → MeetsJoint line (callers_at workers index) workers fault (record { before = before; after = w; lost = lost; read = r; over = over; whole = p })
  meets_joint fault before lost over completes closed = record {
    object = object_whole;
    callers_are = callers_whole;
    completes = completes;
    joined = j;
    all = whole_pass;
    closed = closed;
    readers = reads.count ∙ start.sides.read.count;
    below = subst (λ (m : ℕ). HoldsBelow m r.held) callers_read reads.below;
  }

-- 2. All joints from one on

abbrev pub WorkRest : List Stage → ℕ → List JointEnd → Type 0
WorkRest [] stage list = Unit {0}
WorkRest (what ∷ stages) stage list = WorkStages (what ∷ stages) stage list

-- the first of these was written so
abbrev pub IsHead : Option LockPass → List ℕ → List JointEnd → Type 0
IsHead before lost [] = before ≡ None
IsHead before lost (f ∷ list) = (before ≡ Some f.before) × (f.lost ≡ lost)

pub record Meets (workers index : ℕ) (lines : List Joint) (stages : List Stage) (fault : ℕ) (before : Option LockPass) (lost : List ℕ) (ends : List CrewEnd) (passes : List LockPass) : Type 0 where
  pub list : List JointEnd
  pub meet : MeetJoints workers index lines fault list
  pub work : WorkRest stages (index + 1) list
  pub head : IsHead before lost list
  pub joints : passes ≡ map (λ e. e.whole) list
  pub outcomes : (k : Outcome → ℕ) → sum_by (λ e. sum_by k e.over) list ≡ weight_over ends k
  pub dropped : (g : Dropped → ℕ) → lost_from (index + 1) list g ≡ weight_lost (index + 1) lost ends g

-- the last stage writes to nothing, and loses nothing
last_works : (does : Mark → Outcome) (r : LockPass) (before : Option LockPass) (over : List Outcome) (lost : List ℕ) → before ≡ None → WorksOff does r before over lost → WorksOff does r None over []
last_works does r before over lost none works =
    let w = subst (λ (b : Option LockPass). WorksOff does r b over lost) none works in record {
      goes_on = w.goes_on;
      ends_here = w.ends_here;
      loses = λ g. omega arith;
      settled = w.settled;
      settled_to = w.settled_to;
      quiet = w.quiet;
      uncompleting = w.uncompleting;
      quiet_to = w.quiet_to;
      uncompleting_to = w.uncompleting_to;
      untold_to = w.untold_to;
      reads_alone = w.reads_alone;
      writes_alone = w.writes_alone;
    }

work_more : (workers index fault : ℕ) (what : Stage) (stages : List Stage) (lines : List Joint) (stage : ℕ) (e : JointEnd) (list : List JointEnd) (before : Option LockPass) (lost : List ℕ)
    → length lines ≡ length stages → MeetJoints workers index lines fault list → WorkRest stages (stage + 1) list → IsHead before lost list → WorksOff (says what stage) e.read before e.over lost → WorkStages (what ∷ stages) stage (e ∷ list)
work_more workers index fault what [] [] stage e [] before lost count meet rest head works = last_works (says what stage) e.read before e.over lost head works
work_more workers index fault what [] [] stage e (f ∷ list) before lost count meet rest head works = absurd meet
work_more workers index fault what [] (l ∷ lines) stage e list before lost count meet rest head works = absurd (omega (arith, count))
work_more workers index fault what (s ∷ stages) [] stage e list before lost count meet rest head works = absurd (omega (arith, count))
work_more workers index fault what (s ∷ stages) (l ∷ lines) stage e [] before lost count meet rest head works = absurd meet
work_more workers index fault what (s ∷ stages) (l ∷ lines) stage e (f ∷ list) before lost count meet rest head works =
    (subst (λ (n : List ℕ). WorksOff (says what stage) e.read (Some f.before) e.over n) (sym head.1) (subst (λ (b : Option LockPass). WorksOff (says what stage) e.read b e.over lost) head.0 works), rest)

weight_of : (g : Dropped → ℕ) (place : ℕ) (lost : List ℕ) → sum_by (λ n. g (record { number = n; joint = place })) lost ≡ sum_by g (dropped_by place lost)
weight_of g place [] = omega arith
weight_of g place (n ∷ lost) =
    let a = sum_by-cons (λ (m : ℕ). g (record { number = m; joint = place })) n lost in
    let b = sum_by-cons g (record { number = n; joint = place }) (dropped_by place lost) in
    let c = weight_of g place lost in
    omega (arith, a, b, c)

meets_none : (workers index fault : ℕ) (stages : List Stage) (pipeline : Meaning) (ends : List CrewEnd) (w before : Option LockPass) (lost : List ℕ) (passes : List LockPass) → 0 ≡ length stages → EachCrewEnds pipeline [] ends
    → ComesBackTo None w → CompletesTo fault before w → AreJoined w ends passes → Meets workers index [] stages fault before lost ends passes
meets_none workers index fault (what ∷ stages) pipeline ends w before lost passes count each back completes joined = absurd (omega (arith, count))
meets_none workers index fault [] pipeline (e ∷ ends) w before lost passes count each back completes joined = absurd each
meets_none workers index fault [] pipeline [] (Some w) before lost passes count each back completes joined = absurd back
meets_none workers index fault [] pipeline [] None (Some b) lost passes count each back completes joined = absurd completes
meets_none workers index fault [] pipeline [] None None lost (p ∷ passes) count each back completes joined = absurd joined
meets_none workers index fault [] pipeline [] None None lost [] count each back completes joined = record {
  list = [];
  meet = tt;
  work = tt;
  head = refl;
  joints = refl;
  outcomes = λ k. omega arith;
  dropped = λ g. refl;
}

module _ (workers index fault : ℕ) (t : TableId) (line : Joint) (w0 : LockPass) (kit : Kit) (pipeline : Meaning) (e : CrewEnd) (w b : LockPass) (lost : List ℕ) (p : LockPass) (what : Stage) where
  stage_here : StartsJoint workers index t line w0 kit → slice_get pipeline.stages index ≡ Some what → slice_get pipeline.stages (kit.stage - 1) ≡ Some what
  stage_here start at =
      let s = start.stage in
      let e : index ≡ kit.stage - 1 = omega (arith, s) in
      subst (λ (n : ℕ). slice_get pipeline.stages n ≡ Some what) e at

  works_here : StartsJoint workers index t line w0 kit → CrewEnds pipeline kit e → e.whole ≡ true → slice_get pipeline.stages index ≡ Some what → CrewWorks (says what (index + 1)) workers e
  works_here start crew is_whole at = subst (λ (z : ℕ × ℕ). CrewWorks (says what z.0) z.1 e) (λ i. (start.stage i, start.workers_are i)) (crew.works is_whole what (stage_here start at))

  pub meets_more : (lines : List Joint) (stages : List Stage) (ends : List CrewEnd) (passes : List LockPass) (works : CrewWorks (says what (index + 1)) workers e) → length lines ≡ length stages → StartsJoint workers index t line w0 kit
      → CrewEnds pipeline kit e → ComesBack w0 w → Completes fault b w → Joins number_of w e.read p → Meets workers (index + 1) lines stages works.fault works.before e.lost.items ends passes
      → Meets workers index (line ∷ lines) (what ∷ stages) fault (Some b) lost (e ∷ ends) (p ∷ passes)
  meets_more lines stages ends passes works count start crew back completes joins rest =
      let here : JointEnd = record { before = b; after = w; lost = lost; read = e.read; over = e.over.items; whole = p } in record {
        list = here ∷ rest.list;
        meet = (meets_joint workers index t line w0 w e.read p kit start back crew.read joins fault b lost e.over.items completes works.closed, (works.fault, works.told, rest.meet));
        work = work_more workers (index + 1) works.fault what stages lines (index + 1) here rest.list works.before e.lost.items count rest.meet rest.work rest.head works.works;
        head = (refl, refl);
        joints = ap (λ (l : List LockPass). p ∷ l) rest.joints;
        outcomes = λ k. (let x = sum_by-cons (λ (j : JointEnd). sum_by k j.over) here rest.list in let y = sum_by-cons (λ (c : CrewEnd). sum_by k c.over.items) e ends in let z = rest.outcomes k in omega (arith, x, y, z));
        dropped = λ g. (let x = weight_of g (index + 1) lost in let y = rest.dropped g in omega (arith, x, y));
      }

-- the stage behind these
stage_at : (all front : List Stage) (index : ℕ) (what : Stage) (stages : List Stage) → all ≡ front ++ what ∷ stages → length front ≡ index → slice_get all index ≡ Some what
stage_at all front index what stages is count =
    subst (λ (l : List Stage). slice_get l index ≡ Some what) (sym is) (subst (λ (n : ℕ). slice_get (front ++ what ∷ stages) n ≡ Some what) count (slice_get_behind front what stages))

front_more : (all front : List Stage) (what : Stage) (stages : List Stage) → all ≡ front ++ what ∷ stages → all ≡ (front ++ what ∷ []) ++ stages
front_more all front what stages is = is ∙ sym (append_assoc front (what ∷ []) stages)

module _ (workers : ℕ) (pipeline : Meaning) where
  pub meets_all : (front stages : List Stage) (index fault : ℕ) (ts : List TableId) (lines : List Joint) (w0 : Option LockPass) (kits : List Kit) (ends : List CrewEnd) (w before : Option LockPass) (lost : List ℕ) (passes : List LockPass)
      → pipeline.stages ≡ front ++ stages → length front ≡ index → length lines ≡ length stages → StartJoints workers index ts lines w0 kits → EachCrewEnds pipeline kits ends
      → ComesBackTo w0 w → CompletesTo fault before w → AreJoined w ends passes → Meets workers index lines stages fault before lost ends passes
  meets_all front stages index fault [] [] None [] ends w before lost passes is place count start each back completes joined =
      meets_none workers index fault stages pipeline ends w before lost passes count each back completes joined
  meets_all front [] index fault (t ∷ ts) (l ∷ lines) (Some w0) (kit ∷ kits) ends w before lost passes is place count start each back completes joined = absurd (omega (arith, count))
  meets_all front (what ∷ stages) index fault (t ∷ ts) (l ∷ lines) (Some w0) (kit ∷ kits) [] w before lost passes is place count start each back completes joined = absurd each
  meets_all front (what ∷ stages) index fault (t ∷ ts) (l ∷ lines) (Some w0) (kit ∷ kits) (e ∷ ends) None before lost passes is place count start each back completes joined = absurd back
  meets_all front (what ∷ stages) index fault (t ∷ ts) (l ∷ lines) (Some w0) (kit ∷ kits) (e ∷ ends) (Some w) None lost passes is place count start each back completes joined = absurd completes
  meets_all front (what ∷ stages) index fault (t ∷ ts) (l ∷ lines) (Some w0) (kit ∷ kits) (e ∷ ends) (Some w) (Some b) lost [] is place count start each back completes joined = absurd joined
  meets_all front (what ∷ stages) index fault (t ∷ ts) (l ∷ lines) (Some w0) (kit ∷ kits) (e ∷ ends) (Some w) (Some b) lost (p ∷ passes) is place count start each back completes joined =
      let at = stage_at pipeline.stages front index what stages is place in
      let works = works_here workers index fault t l w0 kit pipeline e w b lost p what start.0 each.0 joined.0 at in
      let less : length lines ≡ length stages = omega (arith, count) in
      let next : length (front ++ what ∷ []) ≡ index + 1 = length-append front (what ∷ []) ∙ ap (λ m. m + 1) place in
      let rest = meets_all (front ++ what ∷ []) stages (index + 1) works.fault ts lines kit.write kits ends e.write works.before e.lost.items passes (front_more pipeline.stages front what stages is) next less start.1 each.1 each.0.write works.completes joined.2 in
      meets_more workers index fault t l w0 kit pipeline e w b lost p what lines stages ends passes works less start.0 each.0 back completes joined.1 rest
  meets_all _ _ _ _ _ _ _ _ _ _ _ _ _ is place count start each back completes joined = absurd start

-- 3. A whole run

abbrev FeedsNone : Option LockPass → Type 0
FeedsNone None = ⊥
FeedsNone (Some p) = Unit {0}

abbrev FeedsTo : List Row → List ℕ → Option LockPass → Type 0
FeedsTo fed lost None = ⊥
FeedsTo fed lost (Some p) = Feeds fed p lost

feeds_first : (fed : List Row) (b : LockPass) (lost : List ℕ) (list : List JointEnd) → IsHead (Some b) lost list → Feeds fed b lost → FeedsFirst fed list
feeds_first fed b lost [] head feeds = absurd (subst FeedsNone head tt)
feeds_first fed b lost (f ∷ list) head feeds = subst (λ (n : List ℕ). Feeds fed f.before n) (sym head.1) (subst (FeedsTo fed lost) head.0 feeds)

work_whole : (stages : List Stage) (list : List JointEnd) → 1 ≤ length stages → WorkRest stages 1 list → WorkStages stages 1 list
work_whole [] list some work = absurd (omega (arith, some))
work_whole (what ∷ stages) list some work = work

pub hands_on : (pipeline : Meaning) (rows : List Row) (workers : ℕ) (ts : List TableId) (kits : List Kit) (feed : Feed) (flow : Flow) (done : Done) → HasJoints pipeline.stages pipeline.joints → AreFed pipeline rows feed.fed
    → StartJoints workers 0 ts pipeline.joints (Some feed.write) kits → AddsCrewEnds pipeline kits [] flow.ends.items → FeederEnds feed flow.fed → Gathers flow done → HandsOn pipeline rows workers done
hands_on pipeline rows workers ts kits feed flow done has same start adds fed gathers =
    let each : EachCrewEnds pipeline kits flow.ends.items = subst (λ (l : List CrewEnd). EachCrewEnds pipeline kits l) (sym adds.1) adds.2 in
    let was = fed.works gathers.fed in
    let works = subst (λ (z : List Row × Option ℕ). FeederWorks z.0 (fault_number z.1) flow.fed) (λ i. (same.rows_are i, same.code_is i)) was in
    let m = meets_all workers pipeline [] pipeline.stages 0 (fault_number (stop_code pipeline.guard rows)) ts pipeline.joints (Some feed.write) kits flow.ends.items (Some flow.fed.write) (Some works.before) flow.fed.lost.items done.joints.items
    refl refl has.fed start each fed.write works.completes gathers.joints in record {
      ends = m.list;
      met = record { meet = m.meet; work = work_whole pipeline.stages m.list has.some m.work; feeds = feeds_first (fed_rows pipeline.guard rows) works.before flow.fed.lost.items m.list m.head works.feeds };
      joints = m.joints;
      outcomes = λ k. (gathers.outcomes k ∙ sym (m.outcomes k));
      dropped = λ g. (gathers.dropped g ∙ sym (m.dropped g));
    }

-- 4. The passes that come back are of the joints' tables

pub ends_of : (workers index : ℕ) (pipeline : Meaning) (ts : List TableId) (lines : List Joint) (w0 : Option LockPass) (kits : List Kit) (w : Option LockPass) (ends : List CrewEnd)
    → StartJoints workers index ts lines w0 kits → ComesBackTo w0 w → EachCrewEnds pipeline kits ends → AreEndsOf ts w ends
ends_of workers index pipeline [] [] None [] None [] start back each = tt
ends_of workers index pipeline [] [] None [] None (e ∷ ends) start back each = absurd each
ends_of workers index pipeline [] [] None [] (Some w) ends start back each = absurd back
ends_of workers index pipeline (t ∷ ts) (l ∷ lines) (Some w0) (kit ∷ kits) None ends start back each = absurd back
ends_of workers index pipeline (t ∷ ts) (l ∷ lines) (Some w0) (kit ∷ kits) (Some w) [] start back each = absurd each
ends_of workers index pipeline (t ∷ ts) (l ∷ lines) (Some w0) (kit ∷ kits) (Some w) (e ∷ ends) start back each =
    (back.table ∙ start.0.sides.write.table_is, each.0.read.table ∙ start.0.sides.read.table_is, ends_of workers (index + 1) pipeline ts lines kit.write kits e.write ends start.1 each.0.write each.1)
ends_of _ _ _ _ _ _ _ _ _ start back each = absurd start

module _ (pipeline : Meaning) (given : FedRows) (workers : ℕ) (s : Starts) (old : List CrewEnd) (flow : Flow) (none : old ≡ []) (starts : AreStarts pipeline workers s) (adds : AddsCrewEnds pipeline s.kits.items old flow.ends.items)
    (fed : FeederEnds (record { fed = given; write = s.feeds }) flow.fed) where
  added : AddsCrewEnds pipeline s.kits.items [] flow.ends.items
  added = subst (λ (l : List CrewEnd). AddsCrewEnds pipeline s.kits.items l flow.ends.items) none adds

  pub run_gathers : AreEndsOf s.joints.items (Some flow.fed.write) flow.ends.items
  run_gathers =
      let each : EachCrewEnds pipeline s.kits.items flow.ends.items = subst (λ (l : List CrewEnd). EachCrewEnds pipeline s.kits.items l) (sym added.1) added.2 in
      ends_of workers 0 pipeline s.joints.items pipeline.joints (Some s.feeds) s.kits.items (Some flow.fed.write) flow.ends.items starts.joints fed.write each

  pub run_hands_on : (rows : List Row) (done : Done) → HasJoints pipeline.stages pipeline.joints → AreFed pipeline rows given → Gathers flow done → HandsOn pipeline rows workers done
  run_hands_on rows done has same gathers = hands_on pipeline rows workers s.joints.items s.kits.items (record { fed = given; write = s.feeds }) flow done has same starts.joints added fed gathers
