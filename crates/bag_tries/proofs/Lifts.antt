-- What a call leaves, seen from an earlier point at which the seat had read less.
use Rattle.std.proofs.Common.{◌≡◌, ℕ, List, [], ◌∷◌, ◌++◌, length, ap, ◌∙◌, subst, append_assoc, Bool}
use Rattle.ho_base.specs.Marks.{Mark}
use Rattle.ho_model.specs.declared.marks.EntryMark.{EntryMark}
use Rattle.ho_model.specs.declared.objects.Object.TheVariants.{Bag}
use Rattle.passes.specs.Numbers.{raised}
use Rattle.passes.specs.Seen.{AreOthers, IsLawful}
use Rattle.bag_rule.specs.declared.view.View.{View}
use Rattle.bag_rule.specs.declared.view.Obstacle.{Obstacle}
use Rattle.bag_rule.specs.Plays.{Sits, SeesLaw}
use Rattle.bag_tries.specs.Seats.{IsBack, HasRead, MadeEntry, MadeNone}

module _ (pr : Mark → ℕ) (v w : View) (first : List Obstacle) (later : HasRead v w first) (m : Sits) where
  lift_back : IsBack w m → IsBack v m
  lift_back b = record { idle = b.idle; callers = b.callers ∙ later.callers; caller = b.caller ∙ later.caller; held = b.held ∙ later.held }

  lift_met : (read : List Obstacle) → m.0.met ≡ w.met ++ read → m.0.met ≡ v.met ++ (first ++ read)
  lift_met read is = is ∙ (ap (λ (z : List Obstacle). z ++ read) later.met ∙ append_assoc v.met first read)

  pub lift_law : SeesLaw pr w → SeesLaw pr v
  lift_law = subst (λ (z : ℕ × List EntryMark). IsLawful pr Bag z.0 z.1) (λ i. (later.callers i, later.seen i))

  pub lift_none : (read : List Obstacle) → MadeNone pr w read m → MadeNone pr v (first ++ read) m
  lift_none read n = record { back = lift_back n.back; seen = n.seen ∙ later.seen; made = n.made ∙ later.made; met = lift_met read n.met; lawful = lift_law n.lawful }

  pub lift_entry : (e : EntryMark) (place : ℕ) → MadeEntry pr w e place m → MadeEntry pr v e place m
  lift_entry e place n = record {
    back = lift_back n.back;
    others = n.others;
    makes = subst (λ (z : List Bool × (ℕ × List EntryMark)). AreOthers z.0 n.others × IsLawful pr Bag z.1.0 ((z.1.1 ++ n.others) ++ e ∷ []) × (place ≡ length (z.1.1 ++ n.others))) (λ i. (later.held i, (later.callers i, later.seen i))) n.makes;
    seen = n.seen ∙ ap (λ (z : List EntryMark). (z ++ n.others) ++ e ∷ []) later.seen;
    made = n.made ∙ (λ i. raised (later.made i) (later.caller i));
    read = first ++ n.read;
    met = lift_met n.read n.met;
  }

-- one reading after another
pub read_on : (v w u : View) (first second : List Obstacle) → HasRead v w first → HasRead w u second → HasRead v u (first ++ second)
read_on v w u first second a b = record {
  callers = b.callers ∙ a.callers;
  caller = b.caller ∙ a.caller;
  held = b.held ∙ a.held;
  seen = b.seen ∙ a.seen;
  made = b.made ∙ a.made;
  met = b.met ∙ (ap (λ (z : List Obstacle). z ++ second) a.met ∙ append_assoc v.met first second);
}
