-- The turns of a worker.
use Rattle.std.specs.Prelude.{ℕ, List, [], ◌∷◌, ◌++◌, Bool, cond, Option, None, Some, IfSome}
use Rattle.std.specs.List.{sum_by}
use Rattle.std.proofs.Common.{◌≡◌, refl, ap, sym, ◌∙◌, subst, ◌+◌, ◌<◌, arith}
use Rattle.std.proofs.lemmas.Bool.{eq-eqb}
use Rattle.std.proofs.lemmas.List.Sums.{sum_by_push}
use Rattle.ho_base.specs.Marks.{Mark}
use Rattle.ho_model.specs.declared.marks.EntryMark.{EntryMark}
use Rattle.ho_model.specs.declared.marks.ReplyMark.TheVariants.{Item, ClosedWith}
use Rattle.passes.specs.Seen.{own_of}
use Rattle.passes.specs.Calls.{IsSamePass}
use Rattle.turn_lock.specs.Passes.{LockPass}
use Rattle.record_lang.specs.Marks.{mark_of}
use Rattle.record_lang.specs.Outcomes.{stage_outcome}
use Rattle.record_lang.specs.Records.{Row}
use Rattle.record_lang.specs.declared.outcomes.Outcome.{Outcome}
use Rattle.record_lang.specs.declared.outcomes.Outcome.TheVariants as to
use Rattle.record_lang.specs.declared.pipelines.Stage.{Stage}
use Rattle.record_lang.proofs.MarkLemmas.{marks_tell}
use Rattle.channel_flow.specs.Items.{written_in, taken_in, weight}
use Rattle.channel_flow.specs.Ends.{is_closed, is_closed_with}
use Rattle.stage_pipeline.specs.declared.workers.Turn.{Turn}
use Rattle.stage_pipeline.specs.declared.workers.Turn.TheVariants.{More, Ended, GaveUp}
use Rattle.joint_reports.specs.Through.{says, made_of_row, on_weight, off_weight, goes, ends}
use Rattle.stage_pipeline.specs.Works.{weighs, counts, weighs_to, counts_to, is_last, WorksOff, KeepsPlaceTo, Sends, PassesOn, Takes, IfMore, IsNewTo, KeepsPlace}

-- 1. The same place

pub keeps : (p q : LockPass) → IsSamePass p q → KeepsPlace p q
keeps p q s = record { table = s.table; object = s.object; callers = s.callers; caller = s.caller; held = s.held }

pub keeps_same : (p : LockPass) → KeepsPlace p p
keeps_same p = record { table = refl; object = refl; callers = refl; caller = refl; held = refl }

pub keeps_on : (p q r : LockPass) → KeepsPlace p q → KeepsPlace q r → KeepsPlace p r
keeps_on p q r a b = record { table = b.table ∙ a.table; object = b.object ∙ a.object; callers = b.callers ∙ a.callers; caller = b.caller ∙ a.caller; held = b.held ∙ a.held }

pub keeps_same_to : (w : Option LockPass) → KeepsPlaceTo w w
keeps_same_to None = tt
keeps_same_to (Some p) = keeps_same p

pub keeps_on_to : (u v w : Option LockPass) → KeepsPlaceTo u v → KeepsPlaceTo v w → KeepsPlaceTo u w
keeps_on_to None None None a b = tt
keeps_on_to None None (Some w) a b = absurd b
keeps_on_to None (Some v) w a b = absurd a
keeps_on_to (Some u) None w a b = absurd a
keeps_on_to (Some u) (Some v) None a b = absurd b
keeps_on_to (Some u) (Some v) (Some w) a b = keeps_on u v w a b

last_same : (w w' : Option LockPass) → KeepsPlaceTo w w' → is_last w' ≡ is_last w
last_same None None s = refl
last_same None (Some v) s = absurd s
last_same (Some v) None s = absurd s
last_same (Some v) (Some v') s = refl

-- 2. What becomes of one record

abbrev IsThere : Option LockPass → Type 0
IsThere None = ⊥
IsThere (Some v) = Unit {0}

abbrev pub StaysHere : Outcome → Type 0
StaysHere (to.Result row) = ⊥
StaysHere (to.Refused number stage cause) = Unit {0}
StaysHere (to.Filtered number) = Unit {0}

none_on : (o : Outcome) (h : Mark → ℕ) → StaysHere o → on_weight h o ≡ 0
none_on (to.Result row) h t = absurd t
none_on (to.Refused number stage cause) h t = refl
none_on (to.Filtered number) h t = refl

all_off : (o : Outcome) (k : Outcome → ℕ) → StaysHere o → off_weight k o ≡ k o
all_off (to.Result row) k t = absurd t
all_off (to.Refused number stage cause) k t = refl
all_off (to.Filtered number) k t = refl

-- it ends here: at the last stage, or with an outcome that does not go on
kept : (o : Outcome) (w : Option LockPass) (over over' : List Outcome) (lost : List ℕ) → over' ≡ over ++ o ∷ []
    → ((h : Mark → ℕ) → goes (is_last w) h o ≡ 0) → ((k : Outcome → ℕ) → ends (is_last w) k o ≡ k o) → PassesOn o w w over over' lost lost
kept o w over over' lost is none all = record {
  goes_on = λ h. (let z = none h in omega (arith, z));
  ends_here = λ k. (let z = all k in let a = ap (sum_by k) is in let b = sum_by_push k over o in omega (arith, z, a, b));
  loses = λ g. refl;
  settled = refl;
  quiet = λ h. (refl, refl);
  uncompleting = refl;
  untold = refl;
  alone = refl;
}

pub kept_last : (o : Outcome) (w : Option LockPass) (over over' : List Outcome) (lost : List ℕ) → w ≡ None → over' ≡ over ++ o ∷ [] → PassesOn o w w over over' lost lost
kept_last o None over over' lost none is = kept o None over over' lost is (λ h. refl) (λ k. refl)
kept_last o (Some v) over over' lost none is = absurd (subst IsThere none tt)

pub kept_off : (o o' : Outcome) (w w' : Option LockPass) (v : LockPass) (over over' : List Outcome) (lost : List ℕ) → o ≡ o' → StaysHere o' → w ≡ Some v → w' ≡ Some v → over' ≡ over ++ o' ∷ [] → PassesOn o w w' over over' lost lost
kept_off o o' w w' v over over' lost same off is is' list =
    let k = kept o' (Some v) over over' lost list (λ h. none_on o' h off) (λ k. all_off o' k off) in
    let a = subst (λ (z : Outcome). PassesOn z (Some v) (Some v) over over' lost lost) (sym same) k in
    let b = subst (λ (z : Option LockPass). PassesOn o z (Some v) over over' lost lost) (sym is) a in
    subst (λ (z : Option LockPass). PassesOn o w z over over' lost lost) (sym is') b

plus_none : (n : ℕ) → n ≡ n + 0
plus_none n = omega arith

sent_on : (row : Row) (v v' : LockPass) (over : List Outcome) (lost lost' : List ℕ) → Sends (mark_of row) v v' lost lost' → PassesOn (to.Result row) (Some v) (Some v') over over lost lost'
sent_on row v v' over lost lost' s = record {
  goes_on = s.writes;
  ends_here = λ k. plus_none _;
  loses = s.loses;
  settled = s.settled;
  quiet = s.quiet;
  uncompleting = s.uncompleting;
  untold = s.untold;
  alone = s.alone;
}

pub sent_as : (o : Outcome) (row : Row) (w : Option LockPass) (v v' : LockPass) (over : List Outcome) (lost lost' : List ℕ) → o ≡ to.Result row → w ≡ Some v → Sends (mark_of row) v v' lost lost' → PassesOn o w (Some v') over over lost lost'
sent_as o row w v v' over lost lost' same is s =
    let a = subst (λ (z : Outcome). PassesOn z (Some v) (Some v') over over lost lost') (sym same) (sent_on row v v' over lost lost' s) in
    subst (λ (z : Option LockPass). PassesOn o z (Some v') over over lost lost') (sym is) a

pub if_more : (t : Turn) (P Q : Type 0) → (P → Q) → IfMore t P → IfMore t Q
if_more More P Q f p = f p
if_more (Ended fault) P Q f p = tt
if_more GaveUp P Q f p = tt

pub if_more_all : (t : Turn) (Q : Type 0) → Q → IfMore t Q
if_more_all More Q q = q
if_more_all (Ended fault) Q q = tt
if_more_all GaveUp Q q = tt

-- 3. A turn

-- what a stage makes of the mark of a record is what it makes of the record
pub says_of : (what : Stage) (j : ℕ) (row : Row) → says what j (mark_of row) ≡ stage_outcome what j row
says_of what j row = ap (made_of_row what j) (marks_tell row)

pub done_says : (found : Option Stage) (what : Stage) (o : Outcome) (j : ℕ) (row : Row) → IfSome found (λ w. o ≡ stage_outcome w j row) → found ≡ Some what → o ≡ says what j (mark_of row)
done_says found what o j row done at = subst (λ (f : Option Stage). IfSome f (λ w. o ≡ stage_outcome w j row)) at done ∙ sym (says_of what j row)

-- a record more was read, and passed on
pub works_on : (does : Mark → Outcome) (r r' : LockPass) (w w' : Option LockPass) (over over' : List Outcome) (lost lost' : List ℕ) (m : Mark)
    → is_last w' ≡ is_last w → Takes (Item m) r r' → PassesOn (does m) w w' over over' lost lost' → WorksOff does r w over lost → WorksOff does r' w' over' lost'
works_on does r r' w w' over over' lost lost' m last t s f = record {
  goes_on = λ h. (let a = t.takes (λ x. goes (is_last w) h (does x)) in let n = sum_by_push (λ x. goes (is_last w) h (does x)) [] m in let b = s.goes_on h in let c = f.goes_on h in
      subst (λ (z : Bool). weighs_to (weight h written_in) w' ≡ weighs (weight (λ x. goes z h (does x)) taken_in) r') (sym last) (omega (arith, a, n, b, c)));
  ends_here = λ k. (let a = t.takes (λ x. ends (is_last w) k (does x)) in let n = sum_by_push (λ x. ends (is_last w) k (does x)) [] m in let b = s.ends_here k in let c = f.ends_here k in
      subst (λ (z : Bool). sum_by k over' ≡ weighs (weight (λ x. ends z k (does x)) taken_in) r') (sym last) (omega (arith, a, n, b, c)));
  loses = λ g. (let b = s.loses g in let c = f.loses g in omega (arith, b, c));
  settled = let a = t.settled in let c = f.settled in omega (arith, a, c);
  settled_to = let a = s.settled in let c = f.settled_to in omega (arith, a, c);
  quiet = λ h. (let a = t.quiet h in let c = f.quiet h in (a.0 ∙ c.0, a.1 ∙ c.1, a.2 ∙ c.2, a.3 ∙ c.3));
  uncompleting = t.uncompleting ∙ f.uncompleting;
  quiet_to = λ h. (let a = s.quiet h in let c = f.quiet_to h in (a.0 ∙ c.0, a.1 ∙ c.1));
  uncompleting_to = s.uncompleting ∙ f.uncompleting_to;
  untold_to = s.untold ∙ f.untold_to;
  reads_alone = t.alone ∙ f.reads_alone;
  writes_alone = s.alone ∙ f.writes_alone;
}

pub item_turn : (does : Mark → Outcome) (r r' : LockPass) (w w' : Option LockPass) (over over' : List Outcome) (lost lost' : List ℕ) (row : Row) (o : Outcome)
    → KeepsPlaceTo w w' → o ≡ does (mark_of row) → Takes (Item (mark_of row)) r r' → PassesOn o w w' over over' lost lost' → WorksOff does r w over lost → WorksOff does r' w' over' lost'
item_turn does r r' w w' over over' lost lost' row o same is t s f =
    works_on does r r' w w' over over' lost lost' (mark_of row) (last_same w w' same) t (subst (λ (z : Outcome). PassesOn z w w' over over' lost lost') is s) f

pub turns_on : (found : Option Stage) (j : ℕ) (r r' : LockPass) (w w' : Option LockPass) (over over' : List Outcome) (lost lost' : List ℕ) (row : Row) (o : Outcome) (t : Turn)
    → KeepsPlaceTo w w' → IfSome found (λ what. o ≡ stage_outcome what j row) → Takes (Item (mark_of row)) r r' → IfMore t (PassesOn o w w' over over' lost lost')
    → IfMore t ((what : Stage) → found ≡ Some what → WorksOff (says what j) r w over lost → WorksOff (says what j) r' w' over' lost')
turns_on found j r r' w w' over over' lost lost' row o More same done takes passed =
    λ what at worked. item_turn (says what j) r r' w w' over over' lost lost' row o same (done_says found what o j row done at) takes passed worked
turns_on found j r r' w w' over over' lost lost' row o (Ended fault) same done takes passed = tt
turns_on found j r r' w w' over over' lost lost' row o GaveUp same done takes passed = tt

-- the same work, handed over
pub works_as : (does : Mark → Outcome) (r r' : LockPass) (w w' : Option LockPass) (over over' : List Outcome) (lost lost' : List ℕ) → r' ≡ r → w' ≡ w → over' ≡ over → lost' ≡ lost → WorksOff does r w over lost → WorksOff does r' w' over' lost'
works_as does r r' w w' over over' lost lost' a b c d f =
    let x = subst (λ (z : LockPass). WorksOff does z w over lost) (sym a) f in
    let y = subst (λ (z : Option LockPass). WorksOff does r' z over lost) (sym b) x in
    let v = subst (λ (z : List Outcome). WorksOff does r' w' z lost) (sym c) y in
    subst (λ (z : List ℕ). WorksOff does r' w' over' z) (sym d) v

-- the end was read
pub end_turn : (does : Mark → Outcome) (r r' : LockPass) (w : Option LockPass) (over : List Outcome) (lost : List ℕ) (fault : ℕ)
    → Takes (ClosedWith fault) r r' → WorksOff does r w over lost → WorksOff does r' w over lost
end_turn does r r' w over lost fault t f = record {
  goes_on = λ h. (let a = t.takes (λ x. goes (is_last w) h (does x)) in let c = f.goes_on h in omega (arith, a, c));
  ends_here = λ k. (let a = t.takes (λ x. ends (is_last w) k (does x)) in let c = f.ends_here k in omega (arith, a, c));
  loses = f.loses;
  settled = let a = t.settled in let c = f.settled in omega (arith, a, c);
  settled_to = f.settled_to;
  quiet = λ h. (let a = t.quiet h in let c = f.quiet h in (a.0 ∙ c.0, a.1 ∙ c.1, a.2 ∙ c.2, a.3 ∙ c.3));
  uncompleting = t.uncompleting ∙ f.uncompleting;
  quiet_to = f.quiet_to;
  uncompleting_to = f.uncompleting_to;
  untold_to = f.untold_to;
  reads_alone = t.alone ∙ f.reads_alone;
  writes_alone = f.writes_alone;
}

pub item_untold : (m : Mark) (r r' : LockPass) → Takes (Item m) r r' → counts is_closed r' ≡ counts is_closed r
item_untold m r r' t = let a = t.told in omega (arith, a)

pub end_told : (fault : ℕ) (r r' : LockPass) → Takes (ClosedWith fault) r r' → counts is_closed r' ≡ counts is_closed r + 1
end_told fault r r' t = t.told

pub end_tells : (fault : ℕ) (r r' : LockPass) → Takes (ClosedWith fault) r r' → 0 < counts (is_closed_with fault) r'
end_tells fault r r' t = let a = t.told_fault fault in let b = ap {B = ℕ} (λ (b : Bool). cond b 1 0) (eq-eqb fault fault refl) in omega (arith, a, b)

-- 4. The start

new_weighs : (f : EntryMark → ℕ) (p : LockPass) → p.seen ≡ [] → weighs f p ≡ 0
new_weighs f p new = ap (λ (l : List EntryMark). sum_by f (own_of p.held l)) new

new_weighs_to : (f : EntryMark → ℕ) (w : Option LockPass) → IsNewTo w → weighs_to f w ≡ 0
new_weighs_to f None new = refl
new_weighs_to f (Some p) new = new_weighs f p new

new_counts_to : (p : EntryMark → Bool) (w : Option LockPass) → IsNewTo w → counts_to p w ≡ 0
new_counts_to p None new = refl
new_counts_to p (Some v) new = new_weighs (λ e. cond (p e) 1 0) v new

pub new_counts : (p : EntryMark → Bool) (r : LockPass) → r.seen ≡ [] → counts p r ≡ 0
new_counts p r new = new_weighs (λ e. cond (p e) 1 0) r new

pub works_start : (does : Mark → Outcome) (r : LockPass) (w : Option LockPass) → r.seen ≡ [] → IsNewTo w → WorksOff does r w [] []
works_start does r w a b = record {
  goes_on = λ h. new_weighs_to _ w b ∙ sym (new_weighs _ r a);
  ends_here = λ k. sym (new_weighs _ r a);
  loses = λ g. sym (new_weighs_to _ w b);
  settled = new_counts _ r a ∙ sym (new_counts _ r a);
  settled_to = new_counts_to _ w b ∙ sym (new_counts_to _ w b);
  quiet = λ h. (new_weighs _ r a, new_weighs _ r a, new_weighs _ r a, new_weighs _ r a);
  uncompleting = new_counts _ r a;
  quiet_to = λ h. (new_weighs_to _ w b, new_weighs_to _ w b);
  uncompleting_to = new_counts_to _ w b;
  untold_to = new_counts_to _ w b;
  reads_alone = new_counts _ r a;
  writes_alone = new_counts_to _ w b;
}
