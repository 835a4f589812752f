-- What a command leaves that does not wait.
use Rattle.record_cli.specs.Commands.{command_of}
use Rattle.record_cli.proofs.Leavings.{leaves, plain_leaves}
use Rattle.record_cli.proofs.top.run_plain.Goals as goal

pub returns-clause-leaves : goal.returns-clause-leaves
returns-clause-leaves g c =
    let task = command_of c.args.words.now in
    let status = c.finish.result.status in
    let shown = c.finish.result.shown in
    plain_leaves task _ _ _ _ status shown c.requires (leaves task _ _ c.compute-computed.result _ _ status shown c.compute-computed.ensures.computed c.finish.ensures.ends)
