-- What a command leaves that waits.
use Rattle.record_cli.specs.Commands.{command_of}
use Rattle.record_cli.proofs.Leavings.{leaves}
use Rattle.record_cli.proofs.run.run.Goals as goal

pub returns-clause-leaves : goal.returns-clause-leaves
returns-clause-leaves g c =
    leaves (command_of c.args.words.now) _ _ c.compute_waiting-computed.result _ _ c.finish.result.status c.finish.result.shown c.compute_waiting-computed.ensures.computed c.finish.ensures.ends
