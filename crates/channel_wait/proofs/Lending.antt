-- What a begin on a lent side makes of each answer of its inner begin: the value, the clause on the
-- lender, and the lender given up where no wait holds it. Assumes `Logic`.
use Rattle.std.proofs.Common.{List, [], ◌∷◌, ◌++◌, ap, ◌⊎◌, inl, inr}
use mathlib.Core.Path.{◌≡◌, refl, sym, subst, ◌∙◌}
use mathlib.Core.Option as maybe
use seplogic.Ra.Ura.{Ura}
use lib.Dec.{T as Tᵇ}
use base.Logic.{SProp, ent, sep, emp, via, ex_i}
use base.Fml.{Fml, GName, fres}
use mir.Val.{Val, WT, has_ty, vptr, of_list}
use types.Logic.{Logic, sem}
use types.Kit.{‵, raw, ◌$◌, ◌∵◌, !, qed, by, move, keep, use0, use1, fsplit, fsplit3, fpick, feq_l, rewrite}
use types.Match.{live}
use denote.Laws.{Is, Typed, shows}
use denote.Param.{layout}
use denote.Param.Laws.{Laws}
use denote.RattleType.{RattleType}
use denote.Ref.{NamedLft, MutBor, mut_Tells}
use denote.Follow.{follows_if, follows_so, follows_by, such_by}
use denote.Steps.{peeks, only}
use borrow.Follows.Kept.{follows_itself}
use Rattle.std.specs.Prelude.{Result, Ok, Err}
use Rattle.std.specs.contracts.result.Result as RS
use Rattle.channel_wait.specs.declared.lent.Lent.TheVariants.{Waits, Ends, Lacks}
use Rattle.channel_wait.specs.declared.ends.Begun.{Begun}
use Rattle.channel_wait.specs.declared.ends.Begun.TheVariants.{Ended, Waiting}
use Rattle.channel_wait.specs.contracts.lent.Lent as LR
use Rattle.channel_wait.specs.contracts.ends.Begun as B
use Rattle.channel_wait.specs.Begun.{Comes, name_in, EndsAsLeft, Rests, IsLent}
use Rattle.channel_wait.proofs.Values.{ok_of, err_of, waiting_of, ended_of, alone, first, second}

-- the clause on a lender of the type R
module _ (R : RattleType) {W E X : Type 0} (name : W → GName) (AfterEnd : E → R.Denot → Type 0) (AfterLack : X → R.Denot → Type 0) (r : MutBor R.Denot) where
  abbrev pub rests : Result (Begun W E) X → Fml
  rests b = follows_so R R r.ghost_name (name_in name b) (EndsAsLeft b) (Rests AfterEnd AfterLack b)

  -- what it rests on at this answer
  abbrev Shows : Result (Begun W E) X → Type 0
  Shows o = (p : (R.Denot → R.Denot) × R.Denot) × ((z : R.Denot) → EndsAsLeft o z (p.0 z)) × Rests AfterEnd AfterLack o p.1

  module _ {M : Type 1} {𝓤 : Ura M} (𝓛 : Logic 𝓤) where
    -- the wait holds the lender, which follows itself
    rests_waiting : (w : W) → name w ≡ r.ghost_name → ent 𝓤 (emp 𝓤) (sem 𝓛 (rests (Ok (Waiting w))))
    unfolding such_by follows_by
    rests_waiting w same =
        let o : Result (Begun W E) X = Ok (Waiting w) in
        subst (λ (γ : GName). ent 𝓤 (emp 𝓤) (sem 𝓛 (follows_so R R γ (name_in name o) (EndsAsLeft o) (Rests AfterEnd AfterLack o)))) same
        (via 𝓤 _ (follows_itself 𝓛 R (name w))
        (ex_i 𝓤 (λ (y : Shows o). sem 𝓛 (follows_if R R (name w) (maybe.some (name w)) y.0.0 y.0.1)) (((λ z. z), r.now), (λ z. refl), tt)))

    -- no wait holds it, and it is given up at the value v
    rests_ended : (e : E) (v : R.Denot) → AfterEnd e v → ent 𝓤 (sem 𝓛 (fres r.ghost_name (R.coded.code v))) (sem 𝓛 (rests (Ok (Ended e))))
    unfolding such_by follows_by
    rests_ended e v at =
        let o : Result (Begun W E) X = Ok (Ended e) in
        ex_i 𝓤 (λ (y : Shows o). sem 𝓛 (follows_if R R r.ghost_name maybe.none y.0.0 y.0.1)) (((λ z. z), v), (λ z. tt), at)

    rests_lacking : (x : X) (v : R.Denot) → AfterLack x v → ent 𝓤 (sem 𝓛 (fres r.ghost_name (R.coded.code v))) (sem 𝓛 (rests (Err x)))
    unfolding such_by follows_by
    rests_lacking x v at =
        let o : Result (Begun W E) X = Err x in
        ex_i 𝓤 (λ (y : Shows o). sem 𝓛 (follows_if R R r.ghost_name maybe.none y.0.0 y.0.1)) (((λ z. z), v), (λ z. tt), at)

-- The types of the lender, of its wait, of an end and of want of memory, the last three of one machine
-- value each.
module _ {M : Type 1} {𝓤 : Ura M} (𝓛 : Logic 𝓤) (κ : NamedLft) (R W E X : RattleType) (laws_w : Laws W) (laws_e : Laws E) (laws_x : Laws X) (one_w : W.mir ≡ layout W ∷ []) (one_e : E.mir ≡ layout E ∷ []) (one_x : X.mir ≡ layout X ∷ []) where
  abbrev pub Inner : RattleType
  Inner = LR.the_row κ R W E X

  abbrev pub Outer : RattleType
  Outer = RS.the_row (B.the_row W E) X

  abbrev ref_val : MutBor R.Denot → Val
  ref_val p = vptr p.ref_ptr.0 p.ref_ptr.1

  abbrev Typed_as : RattleType → Val → Type 0
  Typed_as S u = Tᵇ (has_ty (layout S) u) × WT u

  one_value : (S : RattleType) → Laws S → S.mir ≡ layout S ∷ [] → (x : S.Denot) (vs : List Val) → Is S x vs → (u : Val) × (vs ≡ u ∷ []) × Typed_as S u
  one_value S laws single x vs is = alone (layout S) vs (subst (λ m. Typed m vs) single ((laws.lawful 𝓛).typed x vs is))

  -- which answer it is, and the machine value v that it has
  abbrev pub Shape : Inner.Denot → Val → Type 0
  Shape d v =
      ((w : W.Denot) × (u : Val) × (d ≡ Waits w) × (v ≡ live 0 (of_list (u ∷ []))) × Typed_as W u)
      ⊎ (((p : MutBor R.Denot) × (e : E.Denot) × (u : Val) × (d ≡ Ends p e) × (v ≡ live 1 (of_list (ref_val p ∷ u ∷ []))) × Typed_as E u)
      ⊎ ((p : MutBor R.Denot) × (x : X.Denot) × (u : Val) × (d ≡ Lacks p x) × (v ≡ live 2 (of_list (ref_val p ∷ u ∷ []))) × Typed_as X u))

  pub shape : (d : Inner.Denot) (v : Val) → Is Inner d (v ∷ []) → Shape d v
  shape (Waits w) v is =
      let one = one_value W laws_w one_w w is.1.1.0.0 is.1.1.1.1.0 in
      inl (w, one.0, refl, ap only is.1.0 ∙ ap (λ (us : List Val). live 0 (of_list us)) (is.1.1.1.0 ∙ ap (λ (ws : List Val). ws ++ []) one.1), one.2)
  shape (Ends p e) v is =
      let one = one_value E laws_e one_e e is.1.1.0.1.0 is.1.1.1.1.1.0 in
      let told = mut_Tells κ.mir κ.lft R p is.1.1.0.0 is.1.1.1.1.0 in
      inr (inl (p, e, one.0, refl, ap only is.1.0 ∙ ap (λ (us : List Val). live 1 (of_list us)) (is.1.1.1.0 ∙ ap (λ (ws : List Val). ws ++ (is.1.1.0.1.0 ++ [])) told ∙ ap (λ (ws : List Val). ref_val p ∷ (ws ++ [])) one.1), one.2))
  shape (Lacks p x) v is =
      let one = one_value X laws_x one_x x is.1.1.0.1.0 is.1.1.1.1.1.0 in
      let told = mut_Tells κ.mir κ.lft R p is.1.1.0.0 is.1.1.1.1.0 in
      inr (inr (p, x, one.0, refl, ap only is.1.0 ∙ ap (λ (us : List Val). live 2 (of_list us)) (is.1.1.1.0 ∙ ap (λ (ws : List Val). ws ++ (is.1.1.0.1.0 ++ [])) told ∙ ap (λ (ws : List Val). ref_val p ∷ (ws ++ [])) one.1), one.2))

  module _ (name : W.Denot → GName) (AfterEnd : E.Denot → R.Denot → Type 0) (AfterLack : X.Denot → R.Denot → Type 0) (r : MutBor R.Denot)
      (OnWait : W.Denot → Type 0) (OnEnd : E.Denot → Type 0) (OnLack : X.Denot → Type 0)
      (named : (w : W.Denot) → OnWait w → name w ≡ r.ghost_name) (ended : (e : E.Denot) (v : R.Denot) → AfterEnd e v → OnEnd e) (lacking : (x : X.Denot) (v : R.Denot) → AfterLack x v → OnLack x)
      (tokens : SProp 𝓤) (Post : Val → SProp 𝓤)
      (answers : (o : Outer.Denot) (v : Val) → Comes OnWait OnEnd OnLack o → ent 𝓤 (sep 𝓤 (sem 𝓛 (Outer.own_val o (v ∷ []))) (sep 𝓤 (sem 𝓛 (rests R name AfterEnd AfterLack r o)) tokens)) (Post v)) where
    abbrev Clause : Outer.Denot → Fml
    Clause = rests R name AfterEnd AfterLack r

    abbrev IsInner : Inner.Denot → Type 0
    IsInner = IsLent AfterEnd AfterLack OnWait r

    -- what is left when the answer is made: what the inner answer d owns at its machine value, and the tokens
    abbrev pub Left : Inner.Denot → Val → SProp 𝓤
    Left d v = sep 𝓤 (sem 𝓛 (Inner.own_val d (v ∷ []))) tokens

    waits : (w : W.Denot) (u : Val) → IsInner (Waits w) → ent 𝓤 (Left (Waits w) (live 0 (of_list (u ∷ [])))) (Post (live 0 (of_list (live 1 (of_list (u ∷ [])) ∷ []))))
    waits w u lent =
        qed 𝓛 (‵ (Inner.own_val (Waits w) (live 0 (of_list (u ∷ [])) ∷ [])) ∷ raw tokens ∷ []) ∵
        fpick ! (λ us. fsplit ! $ feq_l ! (λ e₁. fpick ! (λ vss. fsplit ! $ feq_l ! (λ e₂. fsplit ! $
        -- [the wait; nothing; the tokens]
        peeks ! W (Is W) (shows 𝓛 W) w vss.0 (λ is.
        let one = one_value W laws_w one_w w vss.0 is in
        let same : u ≡ one.0 = ap first (e₁ ∙ ap (λ (ws : List Val). live 0 (of_list ws) ∷ []) (e₂ ∙ ap (λ (ws : List Val). ws ++ []) one.1)) in
        rewrite ! 0 (λ (ws : List Val). ‵ (W.own_val w ws)) (one.1 ∙ ap (λ (x : Val). x ∷ []) (sym same)) refl $
        keep ! (0 ∷ 2 ∷ []) $
        use1 𝓛 (‵ ((B.the_row W E).own_val (Waiting w) (live 1 (of_list (u ∷ [])) ∷ []))) (waiting_of 𝓛 W E w u) $
        use1 𝓛 (‵ (Outer.own_val (Ok (Waiting w)) (live 0 (of_list (live 1 (of_list (u ∷ [])) ∷ [])) ∷ []))) (ok_of 𝓛 (B.the_row W E) X (Waiting w) (live 1 (of_list (u ∷ [])))) $
        use0 𝓛 (‵ (Clause (Ok (Waiting w)))) (rests_waiting R name AfterEnd AfterLack r 𝓛 w (named w lent)) $ move ! (1 ∷ 0 ∷ []) $
        by ! (answers (Ok (Waiting w)) (live 0 (of_list (live 1 (of_list (u ∷ [])) ∷ []))) lent))))))

    ends : (p : MutBor R.Denot) (e : E.Denot) (u : Val) → IsInner (Ends p e) → ent 𝓤 (Left (Ends p e) (live 1 (of_list (ref_val p ∷ u ∷ [])))) (Post (live 0 (of_list (live 0 (of_list (u ∷ [])) ∷ []))))
    ends p e u lent =
        qed 𝓛 (‵ (Inner.own_val (Ends p e) (live 1 (of_list (ref_val p ∷ u ∷ [])) ∷ [])) ∷ raw tokens ∷ []) ∵
        fpick ! (λ us. fsplit ! $ feq_l ! (λ e₁. fpick ! (λ vss. fsplit ! $ feq_l ! (λ e₂. fsplit ! $ fsplit3 ! $ feq_l ! (λ e₃.
        -- [the name's observation; its borrow; the end, and nothing; the tokens]
        move ! (2 ∷ []) $ fsplit ! $ peeks ! E (Is E) (shows 𝓛 E) e vss.1.0 (λ is.
        let one = one_value E laws_e one_e e vss.1.0 is in
        let same : u ≡ one.0 = ap second (e₁ ∙ ap (λ (ws : List Val). live 1 (of_list ws) ∷ []) (e₂ ∙ ap (λ (ws : List Val). ws ++ (vss.1.0 ++ [])) e₃ ∙ ap (λ (ws : List Val). ref_val p ∷ (ws ++ [])) one.1)) in
        rewrite ! 0 (λ (ws : List Val). ‵ (E.own_val e ws)) (one.1 ∙ ap (λ (x : Val). x ∷ []) (sym same)) refl $
        keep ! (2 ∷ 0 ∷ 4 ∷ []) $
        use1 𝓛 (‵ (fres p.ghost_name (R.coded.code p.now))) (𝓛.names.obs-res p.ghost_name (R.coded.code p.now)) $
        rewrite ! 0 (λ (γ : GName). ‵ (fres γ (R.coded.code p.now))) lent.0 refl $
        use1 𝓛 (‵ (Clause (Ok (Ended e)))) (rests_ended R name AfterEnd AfterLack r 𝓛 e p.now lent.1) $ move ! (1 ∷ []) $
        use1 𝓛 (‵ ((B.the_row W E).own_val (Ended e) (live 0 (of_list (u ∷ [])) ∷ []))) (ended_of 𝓛 W E e u) $
        use1 𝓛 (‵ (Outer.own_val (Ok (Ended e)) (live 0 (of_list (live 0 (of_list (u ∷ [])) ∷ [])) ∷ []))) (ok_of 𝓛 (B.the_row W E) X (Ended e) (live 0 (of_list (u ∷ [])))) $
        by ! (answers (Ok (Ended e)) (live 0 (of_list (live 0 (of_list (u ∷ [])) ∷ []))) (ended e p.now lent.1))))))))

    lacks : (p : MutBor R.Denot) (x : X.Denot) (u : Val) → IsInner (Lacks p x) → ent 𝓤 (Left (Lacks p x) (live 2 (of_list (ref_val p ∷ u ∷ [])))) (Post (live 1 (of_list (u ∷ []))))
    lacks p x u lent =
        qed 𝓛 (‵ (Inner.own_val (Lacks p x) (live 2 (of_list (ref_val p ∷ u ∷ [])) ∷ [])) ∷ raw tokens ∷ []) ∵
        fpick ! (λ us. fsplit ! $ feq_l ! (λ e₁. fpick ! (λ vss. fsplit ! $ feq_l ! (λ e₂. fsplit ! $ fsplit3 ! $ feq_l ! (λ e₃.
        move ! (2 ∷ []) $ fsplit ! $ peeks ! X (Is X) (shows 𝓛 X) x vss.1.0 (λ is.
        let one = one_value X laws_x one_x x vss.1.0 is in
        let same : u ≡ one.0 = ap second (e₁ ∙ ap (λ (ws : List Val). live 2 (of_list ws) ∷ []) (e₂ ∙ ap (λ (ws : List Val). ws ++ (vss.1.0 ++ [])) e₃ ∙ ap (λ (ws : List Val). ref_val p ∷ (ws ++ [])) one.1)) in
        rewrite ! 0 (λ (ws : List Val). ‵ (X.own_val x ws)) (one.1 ∙ ap (λ (z : Val). z ∷ []) (sym same)) refl $
        keep ! (2 ∷ 0 ∷ 4 ∷ []) $
        use1 𝓛 (‵ (fres p.ghost_name (R.coded.code p.now))) (𝓛.names.obs-res p.ghost_name (R.coded.code p.now)) $
        rewrite ! 0 (λ (γ : GName). ‵ (fres γ (R.coded.code p.now))) lent.0 refl $
        use1 𝓛 (‵ (Clause (Err x))) (rests_lacking R name AfterEnd AfterLack r 𝓛 x p.now lent.1) $ move ! (1 ∷ []) $
        use1 𝓛 (‵ (Outer.own_val (Err x) (live 1 (of_list (u ∷ [])) ∷ []))) (err_of 𝓛 (B.the_row W E) X x u) $
        by ! (answers (Err x) (live 1 (of_list (u ∷ []))) (lacking x p.now lent.1))))))))

    -- the same at an answer that is known by equations
    along : (d d' : Inner.Denot) (v v' o : Val) → d ≡ d' → v ≡ v' → IsInner d → (IsInner d' → ent 𝓤 (Left d' v') (Post o)) → ent 𝓤 (Left d v) (Post o)
    along d d' v v' o e e' lent exits =
        subst (λ (x : Inner.Denot). IsInner x → ent 𝓤 (Left x v) (Post o)) (sym e) (subst (λ (w : Val). IsInner d' → ent 𝓤 (Left d' w) (Post o)) (sym e') exits) lent

    -- what comes next at each answer
    pub after_inner : (d : Inner.Denot) (v : Val) → IsInner d
        → ((w : W.Denot) (u : Val) → d ≡ Waits w → v ≡ live 0 (of_list (u ∷ [])) → ent 𝓤 (Left d v) (Post (live 0 (of_list (live 1 (of_list (u ∷ [])) ∷ [])))))
        × ((p : MutBor R.Denot) (e : E.Denot) (u : Val) → d ≡ Ends p e → v ≡ live 1 (of_list (ref_val p ∷ u ∷ [])) → ent 𝓤 (Left d v) (Post (live 0 (of_list (live 0 (of_list (u ∷ [])) ∷ [])))))
        × ((p : MutBor R.Denot) (x : X.Denot) (u : Val) → d ≡ Lacks p x → v ≡ live 2 (of_list (ref_val p ∷ u ∷ [])) → ent 𝓤 (Left d v) (Post (live 1 (of_list (u ∷ [])))))
    after_inner d v lent = (
      (λ w u is is'. along d (Waits w) v _ _ is is' lent (waits w u)),
      (λ p e u is is'. along d (Ends p e) v _ _ is is' lent (ends p e u)),
      (λ p x u is is'. along d (Lacks p x) v _ _ is is' lent (lacks p x u)),
    )
