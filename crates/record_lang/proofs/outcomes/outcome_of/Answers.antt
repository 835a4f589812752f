use Rattle.std.proofs.Common.{◌+◌, ◌∙◌, sym, drop}
use Rattle.record_lang.specs.Outcomes.{record_outcome}
use Rattle.record_lang.proofs.OutcomeLemmas.{goes_on, is_all, outcome_stays}
use Rattle.record_lang.proofs.outcomes.outcome_of.Goals as goal

pub returns-in_default : goal.returns-in_default
returns-in_default c =
    sym (outcome_stays (drop (c.loop-i.i + 1) c.args.stages.now) (c.loop-i.i + 1 + 1) c.in_ok-outcome.outcome c.in_default.not-Result)
    ∙ goes_on c.args.stages.now c.loop-i.i c.index-stages-i.result c.loop-i.row c.in_ok-outcome.outcome (record_outcome c.args.stages.now c.args.given) c.loop-i-test.true c.index-stages-i.is c.in_ok-outcome.ensures.done c.loop-i.invariant

pub loop-i-preserved : goal.loop-i-preserved
loop-i-preserved c =
    goes_on c.args.stages.now c.loop-i.i c.index-stages-i.result c.loop-i.row _ (record_outcome c.args.stages.now c.args.given) c.loop-i-test.true c.index-stages-i.is (sym c.in-Result.is ∙ c.in_ok-outcome.ensures.done) c.loop-i.invariant

pub returns : goal.returns
returns c = is_all c.args.stages.now c.loop-i.i c.loop-i.row _ c.loop-i-test.false c.loop-i.invariant
