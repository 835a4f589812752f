use Rattle.drive_kit.specs.Playing.{pass_of}
use Rattle.drive_kit.proofs.PlayLemmas.{own_played}
use Rattle.drive_kit.proofs.callers.play_own.Goals as goal

pub returns : goal.returns
returns g c =
    own_played c.args.stand.now c.args.rows.now (pass_of c.args.pass) _ c.play_rows-own.result c.requires.ready.own c.requires.one c.play_rows-own.ensures.of c.play_rows-own.ensures.same c.play_rows-own.ensures.played c.alone.ensures
