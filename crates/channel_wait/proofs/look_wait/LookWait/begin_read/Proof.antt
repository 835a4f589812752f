-- The begin hands the reader over to an inner begin that gives it back where no wait holds it, and gives
-- it up there. Assumes `Logic`.
use Rattle.std.proofs.Common.{[], ◌∷◌, refl, lit<, inl, inr, arith}
use Rattle.std.proofs.raw_atomic.Walks.{proved}
use Rattle.std.proofs.VecSteps.Shapes.{after}
use seplogic.Ra.Ura.{Ura}
use base.Logic.{SProp, ent, sep, id⊢}
use base.Fml.{GName}
use mir.MapTy.{inst_fn}
use mir.Syntax.{named, Fn, Dict, a_type, dcons, dnil}
use mir.Val.{Val}
use prog.Model.{Model}
use types.Logic.{Logic, sem}
use types.Kit.{‵, raw, ◌⊛◌, some, later, at_ret, ◌$◌, ◌∵◌, !, qed, by, done, move, keep, drop, use1, split, join, fjoin, frame, suffices, pick, await}
use types.Run.{enter, of_opd, addr, lit, stop, fld, no_more, and_then, first, exec, returns}
use types.Part.{whole, agg}
use types.Match.{vrt, in_variant, by_variants}
use types.ByLocal.{alloc_all, pass_all, free_all, look_at, get, get_in, get_tag, through, sets, sets_last, lands_as, env}
use denote.Exit.{yes, no}
use denote.Laws.{Is, shows}
use denote.Param.{param, bounded}
use denote.Param.Laws.{Laws, param_laws}
use denote.RattleType.{RattleType}
use denote.Ref.{NamedLft, Bor, MutBor, mut_vals, mut_Tells, shr_vals, shr_Tells}
use denote.Signature.{plain, named_lft, shr_ref_to}
use denote.Steps.{nothing, heard, peeks}
use denote.Triple.Call.{calls_at}
use denote.Triple.Clauses.{Clauses, lasts, Ended as Contract}
use denote.Triple.Entry.{alive}
use denote.Triple.Spec.{triple_of}
use denote.Triple.Table.{framed}
use denote.Triple.Walked.{Stays, walk_of, says, ends_at, stay_dropped, Goes-dropped, Goes-spent_ref}
use contract.Lifetimes.{Lfts, Shares, AllOutlive}
use contract.Running.{Running, tables}
use contract.Monad.{fact}
use Rattle.std.specs.Prelude.{⊤}
use Rattle.std.specs.declared.sync.Wait as waiter
use Rattle.std.specs.contracts.result.Result as RS
use Rattle.ho_base.specs.declared.items.Item as item
use Rattle.ho_base.specs.declared.memory.NoMemory.{NoMemory}
use Rattle.ho_base.specs.contracts.memory.NoMemory as X
use Rattle.ho_base.proofs.memory.NoMemory.TheLaws as X'
use Rattle.ho_model.specs.declared.marks.CallMark.TheVariants.{BeginLookRead}
use Rattle.turn_lock.specs.Passes.{LockPass}
use Rattle.channels.specs.contracts.reader.Reader as S
use Rattle.channel_wait.specs.declared.look_wait.LookWait.{LookWait}
use Rattle.channel_wait.specs.declared.ends.LookEnd.{LookEnd}
use Rattle.channel_wait.specs.contracts.look_wait.LookWait as W
use Rattle.channel_wait.specs.contracts.ends.LookEnd as E
use Rattle.channel_wait.specs.contracts.ends.Begun as B
use Rattle.channel_wait.specs.contracts.lent.Lent as LR
use Rattle.channel_wait.proofs.look_wait.LookWait.TheLaws as W'
use Rattle.channel_wait.proofs.ends.LookEnd.TheLaws as E'
use Rattle.channel_wait.specs.Ends.{look_mark}
use Rattle.channel_wait.specs.Open.{IsOpenLook}
use Rattle.channel_wait.specs.Waits.{Answered, LeavesWait, Unbegun}
use Rattle.channel_wait.specs.Begun.{Comes, IsLent}
use Rattle.channel_wait.proofs.Lending.{rests, shape, after_inner}
use Rattle.channel_wait.proofs.Values.{and_tt}
use Rattle.channel_wait.specs.contracts.look_wait.LookWait.begin_read as f
use Rattle.channel_wait.proofs.look_wait.LookWait.begin_read.Statement.{statement}
use Rattle.channel_wait.proofs.look_wait.LookWait.begin_read.Code as code
use Rattle.channel_wait.specs.contracts.look_wait.LookWait.begin_read_lent as g
use Rattle.channel_wait.proofs.look_wait.LookWait.begin_read_lent.Met.{met}

-- what the contract says of each answer
module _ (T : RattleType) (gi : item.Ghosts T.Denot) (r : MutBor LockPass) where
  abbrev name : LookWait T.Denot → GName
  name = λ _. r.ghost_name

  abbrev OnWait : LookWait T.Denot → Type 0
  OnWait w = LeavesWait gi.priority_of BeginLookRead r.now w.access.now w.number × IsOpenLook w

  abbrev AfterEnd : LookEnd → LockPass → Type 0
  AfterEnd e q = Answered gi.priority_of BeginLookRead r.now q (look_mark e)

  abbrev AfterLack : NoMemory → LockPass → Type 0
  AfterLack x q = Unbegun gi.priority_of BeginLookRead r.now q

module _ {M : Type 1} {𝓤 : Ura M} (𝓛 : Logic 𝓤) (𝓜 : Model 𝓤 𝓛.H) (𝓡 : Running 𝓤 𝓛.H 𝓜) (T R' : RattleType) (L : Laws T) (gi : item.Ghosts T.Denot) (di dd : Dict) (gw : waiter.Ghosts R'.Denot) (dw : Dict) where
  abbrev Sig : Contract
  Sig = f.ended T R' gi di dd gw dw

  abbrev stayed : Stays Sig.signature.params Sig.kept
  stayed = (stay_dropped _ yes, (stay_dropped _ no, tt))

  abbrev c : Clauses 𝓤 Sig
  c = f.clauses T R' gi di dd gw dw 𝓛 𝓜.mem 𝓡.returns

  module _ (κs : Lfts 5) (qs : Shares 5) (bounds : AllOutlive 5 Sig.signature.outlives κs) (rt : Bor R'.Denot) (r : MutBor LockPass) where
    abbrev κ : NamedLft
    κ = named_lft 5 1 tt κs

    abbrev κ' : NamedLft
    κ' = named_lft 5 2 tt κs

    abbrev A : RattleType
    A = param 0 T

    abbrev Lender : RattleType
    Lender = S.the_row κ' A gi

    abbrev WR : RattleType
    WR = W.the_row κ κ' A gi

    abbrev ER : RattleType
    ER = E.the_row

    abbrev XR : RattleType
    XR = X.the_row

    abbrev Out : RattleType
    Out = RS.the_row (B.the_row WR ER) XR

    abbrev y : (walk_of 𝓛 Sig stayed c).Ghost
    y = ((κs, qs, bounds, (rt, (r, tt)), (shr_vals rt, (mut_vals r, tt))), tt)

    abbrev Post : Val → SProp 𝓤
    Post = (walk_of 𝓛 Sig stayed c).post y

    abbrev tokens : SProp 𝓤
    tokens = alive 𝓛 Sig.signature κs qs

    -- an answer with the clause on the reader, and the tokens
    answers : (o : Out.Denot) (v : Val) → Comes (OnWait T gi r) (λ _. ⊤) (λ _. ⊤) o
        → ent 𝓤 (sep 𝓤 (sem 𝓛 (Out.own_val o (v ∷ []))) (sep 𝓤 (sem 𝓛 (rests Lender (name T gi r) (AfterEnd T gi r) (AfterLack T gi r) r o)) tokens)) (Post v)
    answers o v begun =
        qed 𝓛 (‵ (Out.own_val o (v ∷ [])) ∷ ‵ (rests Lender (name T gi r) (AfterEnd T gi r) (AfterLack T gi r) r o) ∷ raw tokens ∷ []) ∵ move ! (0 ∷ 2 ∷ 1 ∷ []) $
        suffices ! _ (ends_at 𝓛 Sig stayed c y v o (tt, (tt, tt)) (tt, (tt, tt))) $
        nothing ! $ nothing ! $ fjoin ! $ nothing ! $ fjoin ! $ join ! $ move ! (1 ∷ 0 ∷ []) $ join ! $ frame ! $ says ! begun $ done !

    laws_w : Laws WR
    laws_w = W'.the_row_laws κ κ' A gi (param_laws 0 T L)

    laws_e : Laws ER
    laws_e = E'.the_row_laws

    laws_x : Laws XR
    laws_x = X'.the_row_laws

pub begin_read_spec : {M : Type 1} → statement M
begin_read_spec 𝓤 𝓛 𝓜 𝓡 wired T R' L LR' gi di dd gw dw mi md mw =
    let W' = walk_of 𝓛 (f.ended T R' gi di dd gw dw) (stayed 𝓛 𝓜 𝓡 T R' L gi di dd gw dw) (c 𝓛 𝓜 𝓡 T R' L gi di dd gw dw) in let 𝓣 = tables 𝓤 𝓛.H 𝓜 𝓡 𝓡.env in
    let function : Fn = inst_fn (bounded (a_type ∷ a_type ∷ []) (T, (R', tt)) (dcons di (dcons dd (dcons dw dnil)))) code.function in
    proved 𝓛 (f.ended T R' gi di dd gw dw) (stayed 𝓛 𝓜 𝓡 T R' L gi di dd gw dw) (c 𝓛 𝓜 𝓡 T R' L gi di dd gw dw) 𝓜 𝓡
    (Goes-dropped 𝓛 5 (shr_ref_to (0 ∷ []) tt (plain (λ _. param 1 R'))) yes (λ κs x w. refl), (Goes-spent_ref 𝓛 5 (1 ∷ []) tt (plain (λ κs. S.the_row (named_lft 5 2 tt κs) (param 0 T) gi)), tt))
    (f.Key.name (bounded (a_type ∷ a_type ∷ []) (T, (R', tt)) (dcons di (dcons dd (dcons dw dnil))))) function (code.unfolded 𝓤 𝓛.H 𝓜 𝓡 wired (T, (R', tt)) di dd dw)
    (λ κs. (shr_vals, (mut_vals, tt))) (λ κs. (shr_Tells (named 0) κs.0 (param 1 R'), (mut_Tells (named 1) κs.1.0 (S.the_row (named_lft 5 2 tt κs) (param 0 T) gi), tt))) (λ κs qs bounds a n are.
    let Inner = LR.the_row (named_lft 5 1 tt κs) (Lender 𝓛 𝓜 𝓡 T R' L gi di dd gw dw κs qs bounds a.0 a.1.0) (WR 𝓛 𝓜 𝓡 T R' L gi di dd gw dw κs qs bounds a.0 a.1.0) (ER 𝓛 𝓜 𝓡 T R' L gi di dd gw dw κs qs bounds a.0 a.1.0) (XR 𝓛 𝓜 𝓡 T R' L gi di dd gw dw κs qs bounds a.0 a.1.0) in
    let G = triple_of 𝓛 (g.signature T R' gi di dd gw dw) (g.spec T R' gi di dd gw dw 𝓛 𝓜.mem 𝓡.returns) in
    let z : G.Ghost = ((κs, qs, bounds, a, (shr_vals a.0, (mut_vals a.1.0, tt))), tt) in
    let shaped = shape 𝓛 (κ 𝓛 𝓜 𝓡 T R' L gi di dd gw dw κs qs bounds a.0 a.1.0) (Lender 𝓛 𝓜 𝓡 T R' L gi di dd gw dw κs qs bounds a.0 a.1.0) (WR 𝓛 𝓜 𝓡 T R' L gi di dd gw dw κs qs bounds a.0 a.1.0) (ER 𝓛 𝓜 𝓡 T R' L gi di dd gw dw κs qs bounds a.0 a.1.0) (XR 𝓛 𝓜 𝓡 T R' L gi di dd gw dw κs qs bounds a.0 a.1.0) (laws_w 𝓛 𝓜 𝓡 T R' L gi di dd gw dw κs qs bounds a.0 a.1.0) (laws_e 𝓛 𝓜 𝓡 T R' L gi di dd gw dw κs qs bounds a.0 a.1.0) (laws_x 𝓛 𝓜 𝓡 T R' L gi di dd gw dw κs qs bounds a.0 a.1.0) refl refl refl in
    let on = after_inner 𝓛 (κ 𝓛 𝓜 𝓡 T R' L gi di dd gw dw κs qs bounds a.0 a.1.0) (Lender 𝓛 𝓜 𝓡 T R' L gi di dd gw dw κs qs bounds a.0 a.1.0) (WR 𝓛 𝓜 𝓡 T R' L gi di dd gw dw κs qs bounds a.0 a.1.0) (ER 𝓛 𝓜 𝓡 T R' L gi di dd gw dw κs qs bounds a.0 a.1.0) (XR 𝓛 𝓜 𝓡 T R' L gi di dd gw dw κs qs bounds a.0 a.1.0) (laws_w 𝓛 𝓜 𝓡 T R' L gi di dd gw dw κs qs bounds a.0 a.1.0) (laws_e 𝓛 𝓜 𝓡 T R' L gi di dd gw dw κs qs bounds a.0 a.1.0) (laws_x 𝓛 𝓜 𝓡 T R' L gi di dd gw dw κs qs bounds a.0 a.1.0) refl refl refl (name T gi a.1.0) (AfterEnd T gi a.1.0) (AfterLack T gi a.1.0) a.1.0 (OnWait T gi a.1.0) (λ _. ⊤) (λ _. ⊤) (λ w on. refl) (λ e v at. tt) (λ x v at. tt) (tokens 𝓛 𝓜 𝓡 T R' L gi di dd gw dw κs qs bounds a.0 a.1.0) (Post 𝓛 𝓜 𝓡 T R' L gi di dd gw dw κs qs bounds a.0 a.1.0) (answers 𝓛 𝓜 𝓡 T R' L gi di dd gw dw κs qs bounds a.0 a.1.0) in
    qed 𝓛 (raw (G.pre z) ∷ []) ∵ enter ! _ _ _ _ _ $
    alloc_all ! (λ l. pass_all ! refl ((tt, tt), ((tt, tt), tt)) $
    sets ! (addr ! (through ! refl (stop !))) refl (tt, tt) $
    calls_at ! (framed 𝓤 𝓛.H 𝓜 (tables 𝓤 𝓛.H 𝓜 𝓡 𝓡.env)) G (met 𝓤 𝓛 𝓜 𝓡 (code.calls-channel_wait::look_wait::LookWait::begin_read_lent 𝓡.env wired) T R' L LR' gi di dd gw dw mi md mw) z
    (and_then ! (get ! refl) (and_then ! (get ! refl) (no_more !))) (λ v.
    use1 𝓛 (later (some (λ (d : Inner.Denot). (raw (alive 𝓛 (f.signature T R' gi di dd gw dw) κs qs) ⊛ ‵ (Inner.own_val d (v ∷ []))) ⊛
    some (λ (ws : Unit {0} × (Unit {0} × Unit {0})). ‵ (lasts (g.ended T R' gi di dd gw dw) κs a ws) ⊛ raw (fact 𝓤 (IsLent (AfterEnd T gi a.1.0) (AfterLack T gi a.1.0) (OnWait T gi a.1.0) a.1.0 d)))))) (id⊢ 𝓤 _) $
    await ! tt $ pick ! (λ d. split ! $ split ! $ move ! (2 ∷ []) $ pick ! (λ ws. split ! $ drop ! $ heard ! _ (λ lent.
    -- [the tokens; what the answer owns; the locals]
    move ! (1 ∷ []) $ peeks ! Inner (Is Inner) (shows 𝓛 Inner) d (v ∷ []) (λ is.
    elim (shaped d v is) [
      | inl s ↦
          lands_as ! s.3 refl (and_tt _ s.4.0, (record { fits = lit< tt }, (s.4.1, tt))) $
          first ! $ by_variants ! 12 (whole !) (get_tag ! (vrt ! refl (fld ! refl (stop !))) (whole !)) tt (
            (λ _. sets ! (of_opd ! (get_in ! (vrt ! refl (fld ! refl (stop !))) (in_variant ! 0 0 refl refl (whole !)))) refl s.4 $
                sets ! (of_opd ! (get ! refl)) refl s.4 $
                sets ! (agg ! (and_then ! (lit ! tt) (and_then ! (get ! refl) (no_more !)))) refl (and_tt _ s.4.0, (record { fits = lit< tt }, (s.4.1, tt))) $
                sets_last ! (agg ! (and_then ! (lit ! tt) (and_then ! (get ! refl) (no_more !)))) refl (and_tt _ (and_tt _ s.4.0), (record { fits = lit< tt }, ((record { fits = lit< tt }, (s.4.1, tt)), tt))) $
                exec ! 𝓣.C 𝓣.Λ (env function.locals l) (after 3 function.body) (at_ret _ (W'.post z)) $
                sets ! (of_opd ! (get ! refl)) refl (and_tt _ (and_tt _ s.4.0), (record { fits = lit< tt }, ((record { fits = lit< tt }, (s.4.1, tt)), tt))) $
                returns ! (look_at ! 0 refl) $ free_all ! refl $ keep ! (0 ∷ 1 ∷ []) $
                by ! ((on d v lent).0 s.0 s.1 s.2 s.3)),
            ((λ x. absurd (omega (arith, x))), ((λ x. absurd (omega (arith, x))), tt)),
          )
      | inr o ↦ elim o [
        | inl s ↦
            lands_as ! s.4 refl (and_tt _ s.5.0, (record { fits = lit< tt }, (tt, (s.5.1, tt)))) $
            first ! $ by_variants ! 12 (whole !) (get_tag ! (vrt ! refl (fld ! refl (stop !))) (whole !)) tt (
              (λ x. absurd (omega (arith, x))),
              (
                (λ _. sets ! (of_opd ! (get_in ! (vrt ! refl (fld ! refl (stop !))) (in_variant ! 1 0 refl refl (whole !)))) refl (tt, tt) $
                    sets ! (of_opd ! (get_in ! (vrt ! refl (fld ! refl (stop !))) (in_variant ! 1 1 refl refl (whole !)))) refl s.5 $
                    sets ! (agg ! (and_then ! (lit ! tt) (and_then ! (get ! refl) (no_more !)))) refl (and_tt _ s.5.0, (record { fits = lit< tt }, (s.5.1, tt))) $
                    sets_last ! (agg ! (and_then ! (lit ! tt) (and_then ! (get ! refl) (no_more !)))) refl (and_tt _ (and_tt _ s.5.0), (record { fits = lit< tt }, ((record { fits = lit< tt }, (s.5.1, tt)), tt))) $
                    exec ! 𝓣.C 𝓣.Λ (env function.locals l) (after 3 function.body) (at_ret _ (W'.post z)) $
                    sets ! (of_opd ! (get ! refl)) refl (and_tt _ (and_tt _ s.5.0), (record { fits = lit< tt }, ((record { fits = lit< tt }, (s.5.1, tt)), tt))) $
                    returns ! (look_at ! 0 refl) $ free_all ! refl $ keep ! (0 ∷ 1 ∷ []) $
                    by ! ((on d v lent).1 s.0 s.1 s.2 s.3 s.4)),
                ((λ x. absurd (omega (arith, x))), tt),
              ),
            )
        | inr s ↦
            lands_as ! s.4 refl (and_tt _ s.5.0, (record { fits = lit< tt }, (tt, (s.5.1, tt)))) $
            first ! $ by_variants ! 12 (whole !) (get_tag ! (vrt ! refl (fld ! refl (stop !))) (whole !)) tt (
              (λ x. absurd (omega (arith, x))),
              (
                (λ x. absurd (omega (arith, x))),
                (
                  (λ _. sets ! (of_opd ! (get_in ! (vrt ! refl (fld ! refl (stop !))) (in_variant ! 2 0 refl refl (whole !)))) refl (tt, tt) $
                      sets ! (of_opd ! (get_in ! (vrt ! refl (fld ! refl (stop !))) (in_variant ! 2 1 refl refl (whole !)))) refl s.5 $
                      sets_last ! (agg ! (and_then ! (lit ! tt) (and_then ! (get ! refl) (no_more !)))) refl (and_tt _ s.5.0, (record { fits = lit< tt }, (s.5.1, tt))) $
                      exec ! 𝓣.C 𝓣.Λ (env function.locals l) (after 3 function.body) (at_ret _ (W'.post z)) $
                      sets ! (of_opd ! (get ! refl)) refl (and_tt _ s.5.0, (record { fits = lit< tt }, (s.5.1, tt))) $
                      returns ! (look_at ! 0 refl) $ free_all ! refl $ keep ! (0 ∷ 1 ∷ []) $
                      by ! ((on d v lent).2 s.0 s.1 s.2 s.3 s.4)),
                  tt,
                ),
              ),
            )
      ]
    ])))))))
