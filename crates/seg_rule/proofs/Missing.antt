-- What a lost exchange leaves and tells.
use Rattle.std.proofs.Common.{◌≡◌, ◌≢◌, ℕ, ◌*◌, ◌<◌, List, [], ◌∷◌, ◌++◌, set, sym, refl, ap, ◌∙◌, subst}
use mathlib.Core.Option.{some}
use lib.ListN.{get_elem?}
use Rattle.std.specs.Prelude.{Some, IfSome}
use Rattle.seg_rule.specs.declared.form.Form.{Form}
use Rattle.seg_rule.specs.declared.word.QueueWord.TheVariants.{Head, Turn, Tail}
use Rattle.seg_rule.specs.declared.view.View.{View}
use Rattle.seg_rule.specs.declared.view.OpenTail.{OpenTail}
use Rattle.seg_rule.specs.declared.view.Obstacle.TheVariants.{HeadMoved, Turned}
use Rattle.seg_rule.specs.declared.view.Stage.TheVariants.{Away}
use Rattle.seg_rule.specs.Words.{Memory}
use Rattle.seg_rule.specs.Rule.{Ghosts, IsWhole, HeadNote, TailSeen, TailFact, ViewOk, Kept}
use Rattle.seg_rule.specs.Steps.{MissesTail, MissesHead, MissesTurn}
use Rattle.seg_rule.specs.Steps as steps
use Rattle.seg_rule.proofs.Causes.{turn_lost, head_moved, tail_moved, place_near, tail_closed, tail_shut}
use Rattle.seg_rule.proofs.Lawful.{seen_lawful}
use Rattle.seg_rule.proofs.Looks.{look_kept}

module _ (f : Form) (m : Memory) (views : List View) (id : ℕ) (v : View) (k : Kept f m views) (at : get_elem? views id ≡ some v) where
  abbrev g : Ghosts
  g = k.g

  abbrev ok : ViewOk f g id v
  ok = k.seats.each id v at

  pub tail_missed : (o : OpenTail) (y : ℕ) → v.notes.tail ≡ Some o → m (Tail o.place) ≡ y → y ≢ 2 * o.position → (w : View) × Kept f m (set views id w) × MissesTail v o.place o.position y w
  tail_missed o y noted now miss =
      let s : TailSeen g (IsWhole v) o = subst (TailFact g (IsWhole v)) noted ok.notes.tail in (
        record v { met = v.met ++ steps.tail_moved o.place o.position y v.notes.scan.current },
        look_kept f m views id v k at v.notes (v.met ++ steps.tail_moved o.place o.position y v.notes.scan.current) ok.notes,
        record { above = λ u e. tail_moved f m views id v k at o o.place u s (place_near f m views id v k at o s) (now ∙ e) (λ z. miss (e ∙ ap (λ c. 2 * c) z)); closed = λ u e. (tail_closed f m views id v k at o u s (now ∙ e), tail_shut f m views id v k at o u s (λ w. subst (λ z. IfSome z (λ t. (g.segs g.last).place ≡ t.place)) noted (ok.notes.newest w)) (now ∙ e)); left = refl },
      )

  pub head_missed : (h y : ℕ) → v.notes.head ≡ Some h → m Head ≡ y → y ≢ h → (w : View) × Kept f m (set views id w) × MissesHead v h y w
  head_missed h y noted now miss =
      let n : HeadNote g (IsWhole v) (Some h) = subst (HeadNote g (IsWhole v)) noted ok.notes.head in
      let moved = head_moved f m views id v k at h n (λ z. miss (sym now ∙ z)) in (
        record v { met = v.met ++ HeadMoved h y ∷ [] },
        look_kept f m views id v k at v.notes (v.met ++ HeadMoved h y ∷ []) ok.notes,
        record { above = (subst (λ z. h < z) now moved.0, moved.1); left = refl },
      )

  pub turn_missed : (y : ℕ) → v.stage ≡ Away → m Turn ≡ y → y ≢ 0 → (w : View) × Kept f m (set views id w) × MissesTurn v y w
  turn_missed y away now miss =
      let t = turn_lost f m views id v k at away (λ z. miss (sym now ∙ z)) in (
        record v { met = v.met ++ Turned t.0 ∷ [] },
        look_kept f m views id v k at v.notes (v.met ++ Turned t.0 ∷ []) ok.notes,
        record { caller = t.0; is_caller = (sym now ∙ t.1, subst (λ z. t.0 < z) (sym ok.of_callers) t.2); not_held = t.3.not_held; not_whole = t.3.not_whole; lawful = seen_lawful f m views id v k at; left = refl },
      )
