-- The ends of crews, one more.
use Rattle.std.specs.Prelude.{List, [], ◌∷◌, ◌++◌, length}
use Rattle.std.proofs.Common.{◌≡◌, refl, ap, sym, ◌∙◌, subst, ◌+◌, append_assoc, arith, length-append}
use Rattle.record_lang.specs.Pipelines.{Meaning}
use Rattle.stage_pipeline.specs.Crews.{AddsCrewEnds, CrewEnds, EachCrewEnds}
use Rattle.stage_pipeline.specs.declared.kits.CrewEnd.{CrewEnd}
use Rattle.stage_pipeline.specs.declared.kits.Kit.{Kit}

module _ (m : Meaning) where
  each_push : (kits : List Kit) (ends : List CrewEnd) (kit : Kit) (end : CrewEnd) → EachCrewEnds m kits ends → CrewEnds m kit end → EachCrewEnds m (kits ++ kit ∷ []) (ends ++ end ∷ [])
  each_push [] [] kit end each last = (last, tt)
  each_push [] (x ∷ ends) kit end each last = absurd each
  each_push (k ∷ kits) [] kit end each last = absurd each
  each_push (k ∷ kits) (x ∷ ends) kit end each last = (each.0, each_push kits ends kit end each.1 last)

  each_length : (kits : List Kit) (ends : List CrewEnd) → EachCrewEnds m kits ends → length ends ≡ length kits
  each_length [] [] each = refl
  each_length [] (x ∷ ends) each = absurd each
  each_length (k ∷ kits) [] each = absurd each
  each_length (k ∷ kits) (x ∷ ends) each = let rest = each_length kits ends each.1 in omega arith

  pub adds_push : (kits kits' : List Kit) (old new new' : List CrewEnd) (kit : Kit) (end : CrewEnd) → kits' ≡ kits ++ kit ∷ [] → new' ≡ new ++ end ∷ []
      → AddsCrewEnds m kits old new → CrewEnds m kit end → AddsCrewEnds m kits' old new'
  adds_push kits kits' old new new' kit end one more adds last = (
    adds.0 ++ end ∷ [],
    more ∙ (ap (λ (l : List CrewEnd). l ++ end ∷ []) adds.1 ∙ append_assoc old adds.0 (end ∷ [])),
    subst (λ (l : List Kit). EachCrewEnds m l (adds.0 ++ end ∷ [])) (sym one) (each_push kits adds.0 kit end adds.2 last),
  )

  pub adds_length : (kits : List Kit) (old new : List CrewEnd) → AddsCrewEnds m kits old new → length new ≡ length old + length kits
  adds_length kits old new adds = let a = each_length kits adds.0 adds.2 in let b = ap length adds.1 in let c = length-append old adds.0 in omega (arith, a, b, c)
