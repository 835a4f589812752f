-- The begin hands the writer over to an inner begin that gives it back where no wait holds it, and gives
-- it up there. Assumes `Logic`.
use Rattle.std.proofs.Common.{◌≡◌, List, [], ◌∷◌, refl, sym, subst, lit<, inl, inr, arith}
use Rattle.std.proofs.raw_atomic.Walks.{proved_at}
use Rattle.std.proofs.VecSteps.Shapes.{after}
use seplogic.Ra.Ura.{Ura}
use base.Logic.{SProp, ent, sep, id⊢}
use base.Fml.{GName}
use mir.MapTy.{inst_fn}
use mir.Syntax.{named, Fn, Dict, a_type, dcons, dnil}
use mir.Val.{Val}
use prog.Model.{Model}
use prog.Wp.{WpFn}
use types.Logic.{Logic, sem}
use types.Kit.{‵, raw, ◌⊛◌, some, later, at_ret, ◌$◌, ◌∵◌, !, qed, by, done, move, keep, drop, use1, split, join, fjoin, frame, suffices, pick, await}
use types.Run.{enter, of_opd, addr, lit, stop, fld, no_more, and_then, first, exec, returns}
use types.Part.{whole, agg}
use types.Match.{vrt, in_variant, by_variants}
use types.ByLocal.{alloc_all, pass_all, free_all, look_at, get, get_in, get_tag, through, sets, sets_last, lands_as, env}
use denote.Exit.{yes, no}
use denote.Laws.{Is, shows}
use denote.Param.{param, layout, bounded}
use denote.Param.Laws.{Laws, param_laws}
use denote.RattleType.{RattleType}
use denote.Ref.{NamedLft, Bor, MutBor, mut_vals, mut_Tells, shr_vals, shr_Tells}
use denote.Signature.{plain, named_lft, shr_ref_to}
use denote.Steps.{nothing, heard, peeks}
use denote.Triple.Call.{calls_at}
use denote.Triple.Clauses.{Clauses, lasts, Ended as Contract}
use denote.Triple.Entry.{alive}
use denote.Triple.Spec.{triple_of}
use denote.Triple.Table.{framed}
use denote.Triple.Walked.{Stays, walk_of, says, ends_at, stay_dropped, Goes-dropped, Goes-spent_ref}
use contract.Lifetimes.{Lfts, Shares, AllOutlive}
use contract.Running.{Running, tables}
use contract.Monad.{fact}
use Rattle.std.specs.declared.sync.Wait as waiter
use Rattle.std.specs.contracts.result.Result as RS
use Rattle.ho_base.specs.declared.items.Item as item
use Rattle.ho_base.specs.declared.memory.Unpaid.{Unpaid}
use Rattle.ho_base.specs.contracts.memory.Unpaid as X
use Rattle.ho_base.proofs.memory.Unpaid.TheLaws as X'
use Rattle.ho_model.specs.declared.marks.CallMark.TheVariants.{BeginWrite}
use Rattle.channel_core.specs.Marks.{reply_mark}
use Rattle.turn_lock.specs.Passes.{LockPass}
use Rattle.channels.specs.contracts.writer.Writer as S
use Rattle.channel_wait.specs.declared.write_wait.WriteWait.{WriteWait}
use Rattle.channel_wait.specs.declared.ends.WriteEnd.{WriteEnd}
use Rattle.channel_wait.specs.contracts.write_wait.WriteWait as W
use Rattle.channel_wait.specs.contracts.ends.WriteEnd as E
use Rattle.channel_wait.specs.contracts.ends.Begun as B
use Rattle.channel_wait.specs.contracts.lent.Lent as LR
use Rattle.channel_wait.proofs.write_wait.WriteWait.TheLaws as W'
use Rattle.channel_wait.proofs.ends.WriteEnd.TheLaws as E'
use Rattle.channel_wait.specs.Ends.{HandsBack, write_reply}
use Rattle.channel_wait.specs.Open.{IsOpenWriteOf}
use Rattle.channel_wait.specs.Waits.{Answered, LeavesWait, Unbegun}
use Rattle.channel_wait.specs.Begun.{Comes, IsLent}
use Rattle.channel_wait.proofs.Lending.{rests, shape, after_inner}
use Rattle.channel_wait.proofs.Values.{alone, and_tt}
use Rattle.channel_wait.specs.contracts.write_wait.WriteWait.begin as f
use Rattle.channel_wait.proofs.write_wait.WriteWait.begin.Statement.{statement}
use Rattle.channel_wait.proofs.write_wait.WriteWait.begin.Code as code
use Rattle.channel_wait.specs.contracts.write_wait.WriteWait.begin_lent as g
use Rattle.channel_wait.proofs.write_wait.WriteWait.begin_lent.Met.{met}

-- what the contract says of each answer
module _ (T : RattleType) (gi : item.Ghosts T.Denot) (item : T.Denot) (r : MutBor LockPass) where
  abbrev name : WriteWait T.Denot → GName
  name = λ w. w.writer.ghost_name

  abbrev OnWait : WriteWait T.Denot → Type 0
  OnWait w = (w.writer.ghost_name ≡ r.ghost_name) × LeavesWait gi.priority_of (BeginWrite (gi.mark item)) r.now w.writer.now w.number × IsOpenWriteOf (gi.mark item) w

  abbrev AfterEnd : WriteEnd T.Denot → LockPass → Type 0
  AfterEnd e q = Answered gi.priority_of (BeginWrite (gi.mark item)) r.now q (reply_mark gi.mark (write_reply e)) × HandsBack gi.mark (gi.mark item) e

  abbrev AfterLack : Unpaid T.Denot → LockPass → Type 0
  AfterLack x q = Unbegun gi.priority_of (BeginWrite (gi.mark item)) r.now q × (x.back ≡ item)

module _ {M : Type 1} {𝓤 : Ura M} (𝓛 : Logic 𝓤) (𝓜 : Model 𝓤 𝓛.H) (𝓡 : Running 𝓤 𝓛.H 𝓜) (T R' : RattleType) (L : Laws T) (gi : item.Ghosts T.Denot) (di dd : Dict) (gw : waiter.Ghosts R'.Denot) (dw : Dict) where
  abbrev Sig : Contract
  Sig = f.ended T R' gi di dd gw dw

  abbrev stayed : Stays Sig.signature.params Sig.kept
  stayed = (stay_dropped _ yes, (stay_dropped _ no, (stay_dropped _ no, tt)))

  abbrev c : Clauses 𝓤 Sig
  c = f.clauses T R' gi di dd gw dw 𝓛 𝓜.mem 𝓡.returns

  module _ (κs : Lfts 5) (qs : Shares 5) (bounds : AllOutlive 5 Sig.signature.outlives κs) (rt : Bor R'.Denot) (r : MutBor LockPass) (item : T.Denot) (u₀ : Val) where
    abbrev κ : NamedLft
    κ = named_lft 5 1 tt κs

    abbrev κ' : NamedLft
    κ' = named_lft 5 2 tt κs

    abbrev A : RattleType
    A = param 0 T

    abbrev Lender : RattleType
    Lender = S.the_row κ' A gi

    abbrev WR : RattleType
    WR = W.the_row κ κ' A gi

    abbrev ER : RattleType
    ER = E.the_row A

    abbrev XR : RattleType
    XR = X.the_row A

    abbrev Out : RattleType
    Out = RS.the_row (B.the_row WR ER) XR

    abbrev y : (walk_of 𝓛 Sig stayed c).Ghost
    y = ((κs, qs, bounds, (rt, (r, (item, tt))), (shr_vals rt, (mut_vals r, (u₀ ∷ [], tt)))), tt)

    abbrev Post : Val → SProp 𝓤
    Post = (walk_of 𝓛 Sig stayed c).post y

    abbrev tokens : SProp 𝓤
    tokens = alive 𝓛 Sig.signature κs qs

    -- an answer with the clause on the writer, and the tokens
    answers : (o : Out.Denot) (v : Val) → Comes (OnWait T gi item r) (HandsBack gi.mark (gi.mark item)) (λ x. x.back ≡ item) o
        → ent 𝓤 (sep 𝓤 (sem 𝓛 (Out.own_val o (v ∷ []))) (sep 𝓤 (sem 𝓛 (rests Lender (name T gi item r) (AfterEnd T gi item r) (AfterLack T gi item r) r o)) tokens)) (Post v)
    answers o v begun =
        qed 𝓛 (‵ (Out.own_val o (v ∷ [])) ∷ ‵ (rests Lender (name T gi item r) (AfterEnd T gi item r) (AfterLack T gi item r) r o) ∷ raw tokens ∷ []) ∵ move ! (0 ∷ 2 ∷ 1 ∷ []) $
        suffices ! _ (ends_at 𝓛 Sig stayed c y v o (tt, (tt, (tt, tt))) (tt, (tt, (tt, tt)))) $
        nothing ! $ nothing ! $ fjoin ! $ nothing ! $ fjoin ! $ nothing ! $ fjoin ! $ join ! $ move ! (1 ∷ 0 ∷ []) $ join ! $ frame ! $ says ! begun $ done !

    laws_w : Laws WR
    laws_w = W'.the_row_laws κ κ' A gi (param_laws 0 T L)

    laws_e : Laws ER
    laws_e = (E'.the_row_laws A (param_laws 0 T L))

    laws_x : Laws XR
    laws_x = (X'.the_row_laws A (param_laws 0 T L))

abbrev Vss : Type 0
Vss = List Val × (List Val × (List Val × Unit {0}))

pub begin_spec : {M : Type 1} → statement M
begin_spec 𝓤 𝓛 𝓜 𝓡 wired T R' L LR' gi di dd gw dw mi md mw =
    let W' = walk_of 𝓛 (f.ended T R' gi di dd gw dw) (stayed 𝓛 𝓜 𝓡 T R' L gi di dd gw dw) (c 𝓛 𝓜 𝓡 T R' L gi di dd gw dw) in let 𝓣 = tables 𝓤 𝓛.H 𝓜 𝓡 𝓡.env in
    let function : Fn = inst_fn (bounded (a_type ∷ a_type ∷ []) (T, (R', tt)) (dcons di (dcons dd (dcons dw dnil)))) code.function in
    proved_at 𝓛 (f.ended T R' gi di dd gw dw) (stayed 𝓛 𝓜 𝓡 T R' L gi di dd gw dw) (c 𝓛 𝓜 𝓡 T R' L gi di dd gw dw) 𝓜 𝓡
    (Goes-dropped 𝓛 5 (shr_ref_to (0 ∷ []) tt (plain (λ _. param 1 R'))) yes (λ κs x w. refl), (Goes-spent_ref 𝓛 5 (1 ∷ []) tt (plain (λ κs. S.the_row (named_lft 5 2 tt κs) (param 0 T) gi)), (Goes-dropped 𝓛 5 (plain (λ _. param 0 T)) no (λ κs x w. refl), tt)))
    (f.Key.name (bounded (a_type ∷ a_type ∷ []) (T, (R', tt)) (dcons di (dcons dd (dcons dw dnil))))) function (code.unfolded 𝓤 𝓛.H 𝓜 𝓡 wired (T, (R', tt)) di dd dw) (λ y are.
    let κs = y.0.0 in let qs = y.0.1 in let bounds = y.0.2 in let a = y.0.3 in
    let one = alone (layout T) y.0.4.1.1.0 (((param_laws 0 T L).lawful 𝓛).typed a.1.1.0 y.0.4.1.1.0 are.1.1.0) in
    let u = one.0 in
    let At : Vss → W'.Ghost = λ vss. ((κs, qs, bounds, a, vss), y.1) in
    let Inner = LR.the_row (named_lft 5 1 tt κs) (Lender 𝓛 𝓜 𝓡 T R' L gi di dd gw dw κs qs bounds a.0 a.1.0 a.1.1.0 u) (WR 𝓛 𝓜 𝓡 T R' L gi di dd gw dw κs qs bounds a.0 a.1.0 a.1.1.0 u) (ER 𝓛 𝓜 𝓡 T R' L gi di dd gw dw κs qs bounds a.0 a.1.0 a.1.1.0 u) (XR 𝓛 𝓜 𝓡 T R' L gi di dd gw dw κs qs bounds a.0 a.1.0 a.1.1.0 u) in
    let G = triple_of 𝓛 (g.signature T R' gi di dd gw dw) (g.spec T R' gi di dd gw dw 𝓛 𝓜.mem 𝓡.returns) in
    let z : G.Ghost = ((κs, qs, bounds, a, (shr_vals a.0, (mut_vals a.1.0, (u ∷ [], tt)))), tt) in
    let shaped = shape 𝓛 (κ 𝓛 𝓜 𝓡 T R' L gi di dd gw dw κs qs bounds a.0 a.1.0 a.1.1.0 u) (Lender 𝓛 𝓜 𝓡 T R' L gi di dd gw dw κs qs bounds a.0 a.1.0 a.1.1.0 u) (WR 𝓛 𝓜 𝓡 T R' L gi di dd gw dw κs qs bounds a.0 a.1.0 a.1.1.0 u) (ER 𝓛 𝓜 𝓡 T R' L gi di dd gw dw κs qs bounds a.0 a.1.0 a.1.1.0 u) (XR 𝓛 𝓜 𝓡 T R' L gi di dd gw dw κs qs bounds a.0 a.1.0 a.1.1.0 u) (laws_w 𝓛 𝓜 𝓡 T R' L gi di dd gw dw κs qs bounds a.0 a.1.0 a.1.1.0 u) (laws_e 𝓛 𝓜 𝓡 T R' L gi di dd gw dw κs qs bounds a.0 a.1.0 a.1.1.0 u) (laws_x 𝓛 𝓜 𝓡 T R' L gi di dd gw dw κs qs bounds a.0 a.1.0 a.1.1.0 u) refl refl refl in
    let on = after_inner 𝓛 (κ 𝓛 𝓜 𝓡 T R' L gi di dd gw dw κs qs bounds a.0 a.1.0 a.1.1.0 u) (Lender 𝓛 𝓜 𝓡 T R' L gi di dd gw dw κs qs bounds a.0 a.1.0 a.1.1.0 u) (WR 𝓛 𝓜 𝓡 T R' L gi di dd gw dw κs qs bounds a.0 a.1.0 a.1.1.0 u) (ER 𝓛 𝓜 𝓡 T R' L gi di dd gw dw κs qs bounds a.0 a.1.0 a.1.1.0 u) (XR 𝓛 𝓜 𝓡 T R' L gi di dd gw dw κs qs bounds a.0 a.1.0 a.1.1.0 u) (laws_w 𝓛 𝓜 𝓡 T R' L gi di dd gw dw κs qs bounds a.0 a.1.0 a.1.1.0 u) (laws_e 𝓛 𝓜 𝓡 T R' L gi di dd gw dw κs qs bounds a.0 a.1.0 a.1.1.0 u) (laws_x 𝓛 𝓜 𝓡 T R' L gi di dd gw dw κs qs bounds a.0 a.1.0 a.1.1.0 u) refl refl refl (name T gi a.1.1.0 a.1.0) (AfterEnd T gi a.1.1.0 a.1.0) (AfterLack T gi a.1.1.0 a.1.0) a.1.0 (OnWait T gi a.1.1.0 a.1.0) (HandsBack gi.mark (gi.mark a.1.1.0)) (λ x. x.back ≡ a.1.1.0) (λ w on. on.0) (λ e v at. at.1) (λ x v at. at.1) (tokens 𝓛 𝓜 𝓡 T R' L gi di dd gw dw κs qs bounds a.0 a.1.0 a.1.1.0 u) (Post 𝓛 𝓜 𝓡 T R' L gi di dd gw dw κs qs bounds a.0 a.1.0 a.1.1.0 u) (answers 𝓛 𝓜 𝓡 T R' L gi di dd gw dw κs qs bounds a.0 a.1.0 a.1.1.0 u) in
    let Goes : Vss → Type 1 = λ vss. ent 𝓤 (W'.pre (At vss)) (WpFn 𝓤 𝓛.H 𝓣.C 𝓣.Λ function (W'.args (At vss)) (W'.post (At vss))) in
    subst Goes (λ i. (sym (shr_Tells (named 0) κs.0 (param 1 R') a.0 y.0.4.0 are.0) i, (sym (mut_Tells (named 1) κs.1.0 (S.the_row (named_lft 5 2 tt κs) (param 0 T) gi) a.1.0 y.0.4.1.0 are.1.0) i, (sym one.1 i, tt)))) (
    qed 𝓛 (raw (G.pre z) ∷ []) ∵ enter ! _ _ _ _ _ $
    alloc_all ! (λ l. pass_all ! refl ((tt, tt), ((tt, tt), (one.2, tt))) $
    sets ! (addr ! (through ! refl (stop !))) refl (tt, tt) $
    sets ! (of_opd ! (get ! refl)) refl one.2 $
    calls_at ! (framed 𝓤 𝓛.H 𝓜 (tables 𝓤 𝓛.H 𝓜 𝓡 𝓡.env)) G (met 𝓤 𝓛 𝓜 𝓡 (code.calls-channel_wait::write_wait::WriteWait::begin_lent 𝓡.env wired) T R' L LR' gi di dd gw dw mi md mw) z
    (and_then ! (get ! refl) (and_then ! (get ! refl) (and_then ! (get ! refl) (no_more !)))) (λ v.
    use1 𝓛 (later (some (λ (d : Inner.Denot). (raw (alive 𝓛 (f.signature T R' gi di dd gw dw) κs qs) ⊛ ‵ (Inner.own_val d (v ∷ []))) ⊛
    some (λ (ws : Unit {0} × (Unit {0} × (Unit {0} × Unit {0}))). ‵ (lasts (g.ended T R' gi di dd gw dw) κs a ws) ⊛ raw (fact 𝓤 (IsLent (AfterEnd T gi a.1.1.0 a.1.0) (AfterLack T gi a.1.1.0 a.1.0) (OnWait T gi a.1.1.0 a.1.0) a.1.0 d)))))) (id⊢ 𝓤 _) $
    await ! tt $ pick ! (λ d. split ! $ split ! $ move ! (2 ∷ []) $ pick ! (λ ws. split ! $ drop ! $ heard ! _ (λ lent.
    -- [the tokens; what the answer owns; the locals]
    move ! (1 ∷ []) $ peeks ! Inner (Is Inner) (shows 𝓛 Inner) d (v ∷ []) (λ is.
    elim (shaped d v is) [
      | inl s ↦
          lands_as ! s.3 refl (and_tt _ s.4.0, (record { fits = lit< tt }, (s.4.1, tt))) $
          first ! $ by_variants ! 18 (whole !) (get_tag ! (vrt ! refl (fld ! refl (stop !))) (whole !)) tt (
            (λ _. sets ! (of_opd ! (get_in ! (vrt ! refl (fld ! refl (stop !))) (in_variant ! 0 0 refl refl (whole !)))) refl s.4 $
                sets ! (of_opd ! (get ! refl)) refl s.4 $
                sets ! (agg ! (and_then ! (lit ! tt) (and_then ! (get ! refl) (no_more !)))) refl (and_tt _ s.4.0, (record { fits = lit< tt }, (s.4.1, tt))) $
                sets_last ! (agg ! (and_then ! (lit ! tt) (and_then ! (get ! refl) (no_more !)))) refl (and_tt _ (and_tt _ s.4.0), (record { fits = lit< tt }, ((record { fits = lit< tt }, (s.4.1, tt)), tt))) $
                exec ! 𝓣.C 𝓣.Λ (env function.locals l) (after 4 function.body) (at_ret _ (W'.post z)) $
                sets ! (of_opd ! (get ! refl)) refl (and_tt _ (and_tt _ s.4.0), (record { fits = lit< tt }, ((record { fits = lit< tt }, (s.4.1, tt)), tt))) $
                returns ! (look_at ! 0 refl) $ free_all ! refl $ keep ! (0 ∷ 1 ∷ []) $
                by ! ((on d v lent).0 s.0 s.1 s.2 s.3)),
            ((λ x. absurd (omega (arith, x))), ((λ x. absurd (omega (arith, x))), tt)),
          )
      | inr o ↦ elim o [
        | inl s ↦
            lands_as ! s.4 refl (and_tt _ s.5.0, (record { fits = lit< tt }, (tt, (s.5.1, tt)))) $
            first ! $ by_variants ! 18 (whole !) (get_tag ! (vrt ! refl (fld ! refl (stop !))) (whole !)) tt (
              (λ x. absurd (omega (arith, x))),
              (
                (λ _. sets ! (of_opd ! (get_in ! (vrt ! refl (fld ! refl (stop !))) (in_variant ! 1 0 refl refl (whole !)))) refl (tt, tt) $
                    sets ! (of_opd ! (get_in ! (vrt ! refl (fld ! refl (stop !))) (in_variant ! 1 1 refl refl (whole !)))) refl s.5 $
                    sets ! (of_opd ! (get ! refl)) refl s.5 $
                    sets ! (agg ! (and_then ! (lit ! tt) (and_then ! (get ! refl) (no_more !)))) refl (and_tt _ s.5.0, (record { fits = lit< tt }, (s.5.1, tt))) $
                    sets_last ! (agg ! (and_then ! (lit ! tt) (and_then ! (get ! refl) (no_more !)))) refl (and_tt _ (and_tt _ s.5.0), (record { fits = lit< tt }, ((record { fits = lit< tt }, (s.5.1, tt)), tt))) $
                    exec ! 𝓣.C 𝓣.Λ (env function.locals l) (after 4 function.body) (at_ret _ (W'.post z)) $
                    sets ! (of_opd ! (get ! refl)) refl (and_tt _ (and_tt _ s.5.0), (record { fits = lit< tt }, ((record { fits = lit< tt }, (s.5.1, tt)), tt))) $
                    returns ! (look_at ! 0 refl) $ free_all ! refl $ keep ! (0 ∷ 1 ∷ []) $
                    by ! ((on d v lent).1 s.0 s.1 s.2 s.3 s.4)),
                ((λ x. absurd (omega (arith, x))), tt),
              ),
            )
        | inr s ↦
            lands_as ! s.4 refl (and_tt _ s.5.0, (record { fits = lit< tt }, (tt, (s.5.1, tt)))) $
            first ! $ by_variants ! 18 (whole !) (get_tag ! (vrt ! refl (fld ! refl (stop !))) (whole !)) tt (
              (λ x. absurd (omega (arith, x))),
              (
                (λ x. absurd (omega (arith, x))),
                (
                  (λ _. sets ! (of_opd ! (get_in ! (vrt ! refl (fld ! refl (stop !))) (in_variant ! 2 0 refl refl (whole !)))) refl (tt, tt) $
                      sets ! (of_opd ! (get_in ! (vrt ! refl (fld ! refl (stop !))) (in_variant ! 2 1 refl refl (whole !)))) refl s.5 $
                      sets ! (of_opd ! (get ! refl)) refl s.5 $
                      sets_last ! (agg ! (and_then ! (lit ! tt) (and_then ! (get ! refl) (no_more !)))) refl (and_tt _ s.5.0, (record { fits = lit< tt }, (s.5.1, tt))) $
                      exec ! 𝓣.C 𝓣.Λ (env function.locals l) (after 4 function.body) (at_ret _ (W'.post z)) $
                      sets ! (of_opd ! (get ! refl)) refl (and_tt _ s.5.0, (record { fits = lit< tt }, (s.5.1, tt))) $
                      returns ! (look_at ! 0 refl) $ free_all ! refl $ keep ! (0 ∷ 1 ∷ []) $
                      by ! ((on d v lent).2 s.0 s.1 s.2 s.3 s.4)),
                  tt,
                ),
              ),
            )
      ]
    ]))))))))
