-- What a pass sees is legal, and the counts before an entry are those of the rule.
use Rattle.std.proofs.Common.{◌≡◌, ℕ, ◌<◌, List, [], ◌∷◌, ◌++◌, sym, ap, ◌∙◌, subst}
use mathlib.Core.Option.{some}
use lib.ListN.{get_elem?}
use Rattle.ho_base.specs.Marks.{Mark, number_priority}
use Rattle.ho_model.specs.declared.marks.EntryMark.{EntryMark}
use Rattle.ho_model.specs.declared.marks.Tally.{Tally}
use Rattle.ho_model.specs.declared.objects.Object.{Object}
use Rattle.ho_model.specs.Objects.{QueueState}
use Rattle.ho_model.specs.QueueReplies.{items_left}
use Rattle.ho_model.specs.Tallies.{tally_of}
use Rattle.passes.specs.Seen.{AreBelow, IsLawful}
use Rattle.passes.proofs.Seen.{lawful_seen, below_more}
use Rattle.seg_rule.specs.declared.form.Form.{Form}
use Rattle.seg_rule.specs.declared.view.View.{View}
use Rattle.seg_rule.specs.Words.{Memory}
use Rattle.seg_rule.specs.Object.{Stands}
use Rattle.seg_rule.specs.Rule.{Ghosts, ViewOk, Kept}

module _ (f : Form) (m : Memory) (views : List View) (id : ℕ) (v : View) (k : Kept f m views) (at : get_elem? views id ≡ some v) where
  abbrev g : Ghosts
  g = k.g

  abbrev ok : ViewOk f g id v
  ok = k.seats.each id v at

  -- a history that the rule's counts stand for
  lawful : (log : List EntryMark) (xs : List Mark) (cs : List ℕ) (taken : ℕ) → Stands f.room f.first_len log xs cs taken → AreBelow f.callers log → IsLawful number_priority v.object v.callers log
  lawful log xs cs taken s below = subst (λ (z : Object × ℕ). IsLawful number_priority z.0 z.1 log) (λ i. (sym ok.of_object i, sym ok.of_callers i)) ((QueueState (items_left log), s.0), below)

  pub whole_lawful : IsLawful number_priority v.object v.callers g.log
  whole_lawful = lawful g.log g.values g.putters g.taken k.words.counts.stands k.words.calls.below

  pub seen_lawful : IsLawful number_priority v.object v.callers v.seen
  seen_lawful = lawful_seen number_priority v.object v.callers v.held v.seen g.log whole_lawful ok.holds.behind

  pub entry_lawful : (e : EntryMark) → e.caller < f.callers → (xs : List Mark) (cs : List ℕ) (taken : ℕ) → Stands f.room f.first_len (g.log ++ e ∷ []) xs cs taken → IsLawful number_priority v.object v.callers (g.log ++ e ∷ [])
  entry_lawful e low xs cs taken s = lawful (g.log ++ e ∷ []) xs cs taken s (below_more f.callers g.log e k.words.calls.below low)

  pub put_counted : (tally_of g.log).enqueued ≡ g.put
  put_counted = ap (λ (t : Tally). t.enqueued) k.words.counts.stands.3 ∙ k.words.counts.sized

  pub taken_counted : (tally_of g.log).taken ≡ g.taken
  taken_counted = ap (λ (t : Tally). t.taken) k.words.counts.stands.3
