-- How first is moved on.
use Rattle.std.proofs.Common.{◌≡◌, ◌≢◌, ℕ, ◌≤◌, cond, not, Bool, true, false, List, ◌++◌, sym, refl, ap, ◌∙◌, append_assoc, ne_eqb}
use Rattle.std.specs.Prelude.{Option, None, Some}
use Rattle.std.proofs.lemmas.List.Elements.{Contains-append_left}
use Rattle.seg_rule.specs.declared.view.View.{View}
use Rattle.seg_rule.specs.declared.view.Scan.{Scan}
use Rattle.seg_rule.specs.declared.view.Candidate.{Candidate}
use Rattle.seg_rule.specs.declared.view.Obstacle.{Obstacle}
use Rattle.seg_rule.specs.declared.view.Obstacle.TheVariants.{IsCurrent}
use Rattle.seg_rule.specs.Loads.{is_other}
use Rattle.queue_tries.specs.Walks.{scanned}
use Rattle.queue_tries.specs.Firsts.{MovesFirst, IsAtFirst, LooksAtEnd, HasEnded, StaysFirst, PassesFirst}

-- more was read
pub scanned_on : (v w u : View) (read more : List Obstacle) (scan next : Scan) → w ≡ scanned v read scan → u ≡ scanned w more next → u ≡ scanned v (read ++ more) next
scanned_on v w u read more scan next first then =
    then ∙ (ap (λ (z : View). scanned z more next) first ∙ ap (λ (met : List Obstacle). record v { met = met; notes = record v.notes { scan = next } }) (append_assoc v.met read more))

-- what the end of the first segment tells, which is not the current one
module _ (head first current : ℕ) (v : View) (known : v.notes.head ≡ Some head) (is_first : v.notes.scan.first ≡ Some first) (is_current : v.notes.scan.current ≡ Some current) (other : first ≢ current) (end : ℕ) (w : View) (look : LooksAtEnd v first end w) where
  not_current : is_other v.notes.scan.current first ≡ true
  not_current = ap (λ (z : Option ℕ). is_other z first) is_current ∙ ap not (ne_eqb current first (λ e. other (sym e)))

  abbrev closed : Candidate
  closed = record { place = first; end = end; start = None; spent = false }

  candidate : w.notes.scan.candidate ≡ Some closed
  candidate = ap (λ (z : View). z.notes.scan.candidate) look.left ∙ ap (λ (b : Bool). cond b (Some closed) v.notes.scan.candidate) not_current

  pub ended : end ≤ head → HasEnded w first
  ended below = (closed, head, candidate, ap (λ (z : View). z.notes.head) look.left ∙ known, refl, below)

-- one step on
pub at_next : (head first current next : ℕ) (v w u : View) → IsAtFirst v head first current w → PassesFirst w head next current u → IsAtFirst v head next current u
at_next head first current next v w u at step = record {
  read = at.read ++ step.read;
  scan = step.scan;
  left = scanned_on v w u at.read step.read at.scan step.scan at.left step.left;
  first_is = step.first_is;
  current_is = step.current_is;
  past = step.past;
  met = λ closed. Contains-append_left at.read step.read (IsCurrent current) (at.met closed);
}

-- the end of the walk
pub ends_before : (head first current : ℕ) (v w u : View) → IsAtFirst v head first current w → StaysFirst w head first current u → MovesFirst v head first u
ends_before head first current v w u at stay = record {
  read = at.read ++ stay.read;
  scan = stay.scan;
  current = current;
  left = scanned_on v w u at.read stay.read at.scan stay.scan at.left stay.left;
  first_is = stay.first_is;
  current_is = stay.current_is;
  past = stay.past;
  inside = λ _. stay.inside;
  met = λ closed. Contains-append_left at.read stay.read (IsCurrent current) (at.met closed);
}
