-- Splits and joins, as the table asks for them, and the load after a join.
use Rattle.std.proofs.Common.{◌≡◌, ℕ, List, set, sym, refl, ◌∙◌}
use mathlib.Core.Option.{some, none}
use lib.ListN.{get_elem?}
use Rattle.std.specs.Prelude.{None}
use Rattle.atomic_table.specs.Table.{State, Me, Splits, Joins, Allows, step}
use Rattle.atomic_table.proofs.Lists.{set_else}
use Rattle.passes.specs.Numbers.{IsSpare}
use Rattle.seg_rule.specs.declared.form.Form.{Form}
use Rattle.seg_rule.specs.declared.word.QueueWord.TheVariants.{Head}
use Rattle.seg_rule.specs.declared.view.View.{View}
use Rattle.seg_rule.specs.Words.{Memory, memory, index_of}
use Rattle.seg_rule.specs.Rule.{ViewOk, Kept, Rule}
use Rattle.seg_rule.specs.Steps.{IsAtRest, without, alone, joined, gone}
use Rattle.seg_rule.specs.Plays.{tells}
use Rattle.seg_rule.proofs.Allowed.{at_index, head_word}
use Rattle.seg_rule.proofs.Lawful.{seen_lawful}
use Rattle.seg_rule.proofs.Looks.{own_kept}
use Rattle.seg_rule.proofs.Reading.{loads_allowed}
use Rattle.seg_rule.proofs.Splits.{split_kept, join_kept}

module _ (f : Form) (id : ℕ) (v : View) (rest : IsAtRest v) where
  abbrev m : State ℕ View → Memory
  m s = memory f.places f.slots s.words

  pub splits : (c : ℕ) → IsSpare v.held v.caller c → Splits (Rule f) id v (without v c) (alone v c)
  splits c spare s r at = record { wide = r.wide; shape = r.shape; kept = split_kept f (m s) s.views id v r.kept at rest c spare }

  pub joins : (other : ℕ) (w : View) → IsAtRest w → Joins (Rule f) id v other w (joined v w) (gone w)
  joins other w rest' s r at not_me at' = record { wide = r.wide; shape = r.shape; kept = (join_kept f (m s) s.views id v r.kept at rest other w not_me (sym (set_else s.views id other (joined v w) not_me) ∙ at') rest').0 }

module _ (f : Form) (memory' : Memory) (views : List View) (id : ℕ) (v : View) (k : Kept f memory' views) (at : get_elem? views id ≡ some v) where
  abbrev ok : ViewOk f k.g id v
  ok = k.seats.each id v at

  told_kept : Kept f memory' (set views id (record v { joint = None }))
  told_kept = own_kept f memory' views id v k at (record v { joint = None })
      record { of_object = ok.of_object; of_callers = ok.of_callers; holds = ok.holds; joint = tt; notes = ok.notes; hand = ok.hand; ties = ok.ties; stage = ok.stage; window = ok.window; owned = ok.owned }
      refl (λ q. refl) (λ n. refl) refl

pub tells_at : (f : Form) (n i slots id : ℕ) (me : Me ℕ View) → f.slots ≡ n → i ≡ index_of n Head → Allows (Rule f) slots id me i (λ x. x) (tells (step slots i 0 0 none) me)
tells_at f n i slots id me wide e = at_index (λ z. Allows (Rule f) slots id me z (λ x. x) (tells (step slots z 0 0 none) me)) f n i Head wide e there
  where
    there : Allows (Rule f) slots id me (index_of f.slots Head) (λ x. x) (tells (step slots (index_of f.slots Head) 0 0 none) me)
    there s r wide' at small =
        let k = r.kept in
        let a = loads_allowed f slots id me Head (λ x w. w ≡ record me.0 { joint = None }) (head_word f) (λ s shape k at x now. (record me.0 { joint = None }, told_kept f (memory f.places f.slots s.words) s.views id me.0 k at, refl)) s r wide' at small in
        (a.0, a.1, a.2, a.3, ((λ j. (a.4.0 j, a.4.1 j)), (k.seats.each id me.0 at).joint, seen_lawful f (memory f.places f.slots s.words) s.views id me.0 k at))
