-- How the search for a free place goes on.
use Rattle.std.proofs.Common.{◌≡◌, ◌≢◌, ℕ, ◌+◌, inl, inr, ⊎_elim, Bool, true, false, cond, not, eqb, ◌&&◌, List, [], ◌∷◌, ◌++◌, sym, refl, ap, ◌∙◌, subst, arith, append_assoc, append-nil, eq-eqb}
use Rattle.std.specs.Prelude.{Some, Contains}
use Rattle.std.proofs.lemmas.Bool.{cases_eq}
use Rattle.std.proofs.lemmas.List.Elements.{Contains-append_left, Contains-append_right, Contains-push}
use Rattle.seg_rule.specs.declared.word.QueueWord.TheVariants.{Observers}
use Rattle.seg_rule.specs.declared.view.View.{View}
use Rattle.seg_rule.specs.declared.view.Candidate.{Candidate}
use Rattle.seg_rule.specs.declared.view.Scan.{Scan}
use Rattle.seg_rule.specs.declared.view.Obstacle.{Obstacle}
use Rattle.seg_rule.specs.declared.view.Obstacle.TheVariants.{IsCurrent, Observed}
use Rattle.seg_rule.specs.declared.view.Hand.TheVariants.{Nothing}
use Rattle.seg_rule.specs.declared.view.Stage.TheVariants.{Closed, Found}
use Rattle.seg_rule.specs.Loads.{told, met_if}
use Rattle.seg_rule.specs.Plays.{Reads}
use Rattle.queue_tries.specs.Causes.{IsInUse}
use Rattle.queue_tries.specs.Walks.{scanned}
use Rattle.queue_tries.specs.Scans.{HasClosedFull, IsPastHead, PassesPlace, TriesPlace, HasScanned, candidate}

-- what was read first stays read
pub in_use_more : (read more : List Obstacle) (place : ℕ) → ((o : Obstacle) → Contains read o → Contains more o) → IsInUse read place → IsInUse more place
in_use_more read more place keeps (inl current) = inl (keeps (IsCurrent place) current)
in_use_more read more place keeps (inr (inl chain)) = inr (inl (chain.0, chain.1, chain.2, keeps _ chain.3))
in_use_more read more place keeps (inr (inr (inl unfinished))) = inr (inr (inl (unfinished.0, keeps _ unfinished.1)))
in_use_more read more place keeps (inr (inr (inr observed))) = inr (inr (inr (keeps (Observed place) observed)))

-- the current place is passed over
pub passes_current : (v : View) (current head place : ℕ) → IsPastHead v current head → place ≡ current → PassesPlace v current head place v
passes_current v current head place past same = record {
  read = [];
  scan = v.notes.scan;
  left = ap (λ (z : List Obstacle). record v { met = z }) (sym (append-nil v.met));
  current_is = past.current_is;
  past = past.past;
  in_use = λ other. absurd (other same);
}

-- The observers of a place whose takes are done.
module _ (p end start : ℕ) where
  abbrev spent : Candidate
  spent = candidate p end (Some start) true

  abbrev closed : View → ℕ → ℕ → View
  closed v q t = record v { hand = Nothing; stage = Closed q t true; notes = record v.notes { scan = record v.notes.scan { candidate = Some spent } } }

  -- what was read of the chain, with the observers
  abbrev counted : View → ℕ → ℕ → ℕ → Scan
  counted v q t x = record (closed v q t).notes.scan { observers = Some (p, x) }

  looked : (v w : View) (q t current head x : ℕ) → w ≡ told (Observers p) x (closed v q t) → IsPastHead (closed v q t) current head → (free : Bool) → eqb x 0 ≡ free → TriesPlace (closed v q t) current head p free w
  looked v w q t current head x is past true zero = record {
    read = [];
    scan = counted v q t x;
    left = is ∙ (λ i. record (closed v q t) { met = v.met ++ met_if (true && (eq-eqb p p refl i && not (zero i))) (Observed p); stage = cond (zero i && (eq-eqb p p refl i && true)) (Found q t p) (Closed q t true); notes = record v.notes { scan = counted v q t x } });
  }
  looked v w q t current head x is past false zero = record {
    read = Observed p ∷ [];
    scan = counted v q t x;
    left = is ∙ (λ i. record (closed v q t) { met = v.met ++ met_if (true && (eq-eqb p p refl i && not (zero i))) (Observed p); stage = cond (zero i && (eq-eqb p p refl i && true)) (Found q t p) (Closed q t true); notes = record v.notes { scan = counted v q t x } });
    current_is = past.current_is;
    past = past.past;
    in_use = λ other. inr (inr (inr (Contains-push [] (Observed p))));
  }

  pub looks : (v w : View) (current head x : ℕ) → v.hand ≡ Nothing → (stage : HasClosedFull v.stage) → IsPastHead v current head → v.notes.scan.candidate ≡ Some spent → Reads (Observers p) x v w → TriesPlace v current head p (eqb x 0) w
  looks v w current head x hand stage past cand r =
      subst (λ (z : View). w ≡ told (Observers p) x z → IsPastHead z current head → TriesPlace z current head p (eqb x 0) w)
      (λ i. record v { hand = sym hand i; stage = sym stage.2 i; notes = record v.notes { scan = record v.notes.scan { candidate = sym cand i } } })
      (λ is here. looked v w stage.0 stage.1 current head x is here (eqb x 0) refl)
      r.sees past

-- one place more was tried
pub scanned_on : (v w u : View) (current head count : ℕ) → HasScanned v current head count w → PassesPlace w current head count u → HasScanned v current head (count + 1) u
scanned_on v w u current head count a b = record {
  read = a.read ++ b.read;
  scan = b.scan;
  left = b.left ∙ (ap (λ (z : View). scanned z b.read b.scan) a.left ∙ ap (λ (z : List Obstacle). record v { met = z; notes = record v.notes { scan = b.scan } }) (append_assoc v.met a.read b.read));
  current_is = b.current_is;
  past = b.past;
  met = Contains-append_left a.read b.read (IsCurrent current) a.met;
  in_use = λ place below. ⊎_elim
      (λ (last : place ≡ count). ⊎_elim
      (λ (same : place ≡ current). inl (subst (λ (z : ℕ). Contains (a.read ++ b.read) (IsCurrent z)) (sym same) (Contains-append_left a.read b.read (IsCurrent current) a.met)))
      (λ (other : place ≢ current). in_use_more b.read (a.read ++ b.read) place (Contains-append_right a.read b.read) (subst (λ (z : ℕ). IsInUse b.read z) (sym last) (b.in_use (λ e. other (last ∙ e)))))
      (cases_eq place current))
      (λ (before : place ≢ count). in_use_more a.read (a.read ++ b.read) place (Contains-append_left a.read b.read) (a.in_use place (omega arith)))
      (cases_eq place count);
}
