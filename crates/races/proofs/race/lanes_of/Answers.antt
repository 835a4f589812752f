use Rattle.std.proofs.Common.{All, sym, subst}
use Rattle.std.proofs.lemmas.List.Elements.{All-push}
use Rattle.races.specs.Lanes.{IsReady}
use Rattle.races.proofs.race.lanes_of.Goals as goal

pub loop-task-preserved : goal.loop-task-preserved
loop-task-preserved g c =
    let Ready = IsReady (g.X.Race.is_of c.args.race.now) in (
      _,
      _,
      c.split.ensures.kept,
      subst (All Ready) (sym c.in_ok-push.ensures.items)
          (All-push Ready _ _ c.loop-task.invariant.3 c.in-Some-split.ensures.split),
    )

pub returns : goal.returns
returns g c =
    let Ready = IsReady (g.X.Race.is_of c.args.race.now) in
    subst (All Ready) (sym c.in_ok-push-2.ensures.items)
    (All-push Ready _ _ c.loop-task.invariant.3 c.loop-task.invariant.2)
