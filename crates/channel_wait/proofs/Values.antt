-- How a walk by hand makes the values that a begin answers with. Assumes `Logic`.
use mathlib.Core.Path.{◌≡◌, refl}
use mathlib.Core.Bool.{Bool, true, false, ◌&&◌}
use mathlib.Core.List.{List, [], ◌∷◌}
use seplogic.Ra.Ura.{Ura}
use lib.Dec.{T}
use mir.Syntax.{Ty}
use mir.Val.{Val, WT, has_ty, of_list, vstruct, vcons, vunit}
use base.Logic.{ent}
use types.Logic.{Logic, sem}
use types.Kit.{‵, ◌$◌, ◌∵◌, !, qed, move, fjoin, fpack, feq_i, done}
use types.Match.{live}
use denote.Laws.{Typed}
use denote.RattleType.{RattleType, Valss, owns}
use denote.Steps.{nothing}
use denote.Enum.Row.{tagged_with}
use denote.Enum.Enum.{form_of, in_a_row}
use denote.Enum.Declared.{shape}
use Rattle.std.specs.Prelude.{Ok, Err}
use Rattle.std.specs.contracts.result.Result as RS
use Rattle.channel_wait.specs.declared.ends.Begun.TheVariants.{Ended, Waiting}
use Rattle.channel_wait.specs.contracts.ends.Begun as B

module _ {M : Type 1} {𝓤 : Ura M} (𝓛 : Logic 𝓤) (R R' : RattleType) where
  pub ok_of : (x : R.Denot) (v : Val) → ent 𝓤 (sem 𝓛 (R.own_val x (v ∷ []))) (sem 𝓛 ((RS.the_row R R').own_val (Ok x) (live 0 (of_list (v ∷ [])) ∷ [])))
  ok_of x v =
      qed 𝓛 (‵ (R.own_val x (v ∷ [])) ∷ []) ∵ nothing ! $ move ! (1 ∷ 0 ∷ []) $ fjoin ! $ feq_i ! (List Val) (v ∷ []) (v ∷ []) refl $ fjoin ! $
      fpack ! (Valss (R ∷ [])) (in_a_row (R ∷ []) (owns (R ∷ []) (x, tt)) (v ∷ [])) (v ∷ [], tt) $
      feq_i ! (List Val) (live 0 (of_list (v ∷ [])) ∷ []) (live 0 (of_list (v ∷ [])) ∷ []) refl $ fjoin ! $
      fpack ! (List Val) (tagged_with (form_of (shape (RS.the_type R R'))) (form_of (shape (RS.the_type R R'))).payload ((RS.the_type R R').to (Ok x)) (live 0 (of_list (v ∷ [])) ∷ [])) (v ∷ []) $ done !

  pub err_of : (x : R'.Denot) (v : Val) → ent 𝓤 (sem 𝓛 (R'.own_val x (v ∷ []))) (sem 𝓛 ((RS.the_row R R').own_val (Err x) (live 1 (of_list (v ∷ [])) ∷ [])))
  err_of x v =
      qed 𝓛 (‵ (R'.own_val x (v ∷ [])) ∷ []) ∵ nothing ! $ move ! (1 ∷ 0 ∷ []) $ fjoin ! $ feq_i ! (List Val) (v ∷ []) (v ∷ []) refl $ fjoin ! $
      fpack ! (Valss (R' ∷ [])) (in_a_row (R' ∷ []) (owns (R' ∷ []) (x, tt)) (v ∷ [])) (v ∷ [], tt) $
      feq_i ! (List Val) (live 1 (of_list (v ∷ [])) ∷ []) (live 1 (of_list (v ∷ [])) ∷ []) refl $ fjoin ! $
      fpack ! (List Val) (tagged_with (form_of (shape (RS.the_type R R'))) (form_of (shape (RS.the_type R R'))).payload ((RS.the_type R R').to (Err x)) (live 1 (of_list (v ∷ [])) ∷ [])) (v ∷ []) $ done !

  -- R is the wait's type, and R' the end's
  pub waiting_of : (x : R.Denot) (v : Val) → ent 𝓤 (sem 𝓛 (R.own_val x (v ∷ []))) (sem 𝓛 ((B.the_row R R').own_val (Waiting x) (live 1 (of_list (v ∷ [])) ∷ [])))
  waiting_of x v =
      qed 𝓛 (‵ (R.own_val x (v ∷ [])) ∷ []) ∵ nothing ! $ move ! (1 ∷ 0 ∷ []) $ fjoin ! $ feq_i ! (List Val) (v ∷ []) (v ∷ []) refl $ fjoin ! $
      fpack ! (Valss (R ∷ [])) (in_a_row (R ∷ []) (owns (R ∷ []) (x, tt)) (v ∷ [])) (v ∷ [], tt) $
      feq_i ! (List Val) (live 1 (of_list (v ∷ [])) ∷ []) (live 1 (of_list (v ∷ [])) ∷ []) refl $ fjoin ! $
      fpack ! (List Val) (tagged_with (form_of (shape (B.the_type R R'))) (form_of (shape (B.the_type R R'))).payload ((B.the_type R R').to (Waiting x)) (live 1 (of_list (v ∷ [])) ∷ [])) (v ∷ []) $ done !

  pub ended_of : (x : R'.Denot) (v : Val) → ent 𝓤 (sem 𝓛 (R'.own_val x (v ∷ []))) (sem 𝓛 ((B.the_row R R').own_val (Ended x) (live 0 (of_list (v ∷ [])) ∷ [])))
  ended_of x v =
      qed 𝓛 (‵ (R'.own_val x (v ∷ [])) ∷ []) ∵ nothing ! $ move ! (1 ∷ 0 ∷ []) $ fjoin ! $ feq_i ! (List Val) (v ∷ []) (v ∷ []) refl $ fjoin ! $
      fpack ! (Valss (R' ∷ [])) (in_a_row (R' ∷ []) (owns (R' ∷ []) (x, tt)) (v ∷ [])) (v ∷ [], tt) $
      feq_i ! (List Val) (live 0 (of_list (v ∷ [])) ∷ []) (live 0 (of_list (v ∷ [])) ∷ []) refl $ fjoin ! $
      fpack ! (List Val) (tagged_with (form_of (shape (B.the_type R R'))) (form_of (shape (B.the_type R R'))).payload ((B.the_type R R').to (Ended x)) (live 0 (of_list (v ∷ [])) ∷ [])) (v ∷ []) $ done !

-- one value of its type
pub alone : (τ : Ty) (vs : List Val) → Typed (τ ∷ []) vs → (u : Val) × (vs ≡ u ∷ []) × (T (has_ty τ u) × WT u)
alone τ [] t = absurd t
alone τ (v ∷ []) t = (v, refl, t.0)
alone τ (v ∷ (w ∷ vs)) t = absurd t.1

pub and_tt : (b : Bool) → T b → T (b && true)
and_tt true t = tt
and_tt false t = absurd t

-- the fields of a variant's value
abbrev pub first : List Val → Val
first (vstruct (vcons tag (vcons a vs)) ∷ ws) = a
first _ = vunit

abbrev pub second : List Val → Val
second (vstruct (vcons tag (vcons a (vcons b vs))) ∷ ws) = b
second _ = vunit
