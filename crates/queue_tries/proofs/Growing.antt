-- How a place is prepared.
use Rattle.std.proofs.Common.{◌≡◌, ℕ, false, List, [], ◌++◌, sym, refl, ap, ◌∙◌, subst, append-nil}
use Rattle.std.specs.Prelude.{Option, None, Some}
use Rattle.seg_rule.specs.declared.word.QueueWord.TheVariants.{Observers}
use Rattle.seg_rule.specs.declared.view.View.{View}
use Rattle.seg_rule.specs.declared.view.Candidate.{Candidate}
use Rattle.seg_rule.specs.declared.view.Obstacle.{Obstacle}
use Rattle.seg_rule.specs.declared.view.Hand.TheVariants.{Nothing}
use Rattle.seg_rule.specs.declared.view.Stage.TheVariants.{Found, Preparing}
use Rattle.seg_rule.specs.Loads.{told, observers_obstacles}
use Rattle.seg_rule.specs.Steps.{blank_scan}
use Rattle.seg_rule.specs.Plays.{Reads}
use Rattle.queue_tries.specs.Growth.{observed_by, prepared}

-- the observers of the current place, once a free one was found
nothing_met : (p x : ℕ) (o : Option Candidate) → observers_obstacles false p x o ≡ []
nothing_met p x None = refl
nothing_met p x (Some o) = refl

pub observes : (v w : View) (current q t place x : ℕ) → v.hand ≡ Nothing → v.stage ≡ Found q t place → Reads (Observers current) x v w → w ≡ observed_by v current x
observes v w current q t place x hand stage r =
    subst (λ (z : View). w ≡ told (Observers current) x z → w ≡ observed_by z current x)
    (λ i. record v { hand = sym hand i; stage = sym stage i })
    (λ is. is ∙ ap (λ (z : List Obstacle). record (observed_by v current x) { hand = Nothing; stage = Found q t place; met = z }) (ap (λ (z : List Obstacle). v.met ++ z) (nothing_met current x v.notes.scan.candidate) ∙ append-nil v.met))
    r.sees

-- a view in which nothing is known of the chain is at its own stage
pub prepared_here : (v : View) (current place t length words : ℕ) → v.stage ≡ Preparing current place t length words → v.notes.scan ≡ blank_scan → v ≡ prepared v current place t length words
prepared_here v current place t length words stage scan i = record v { notes = record v.notes { scan = scan i }; stage = stage i }
