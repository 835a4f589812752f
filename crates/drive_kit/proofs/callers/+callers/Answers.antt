use Rattle.std.proofs.Common.{rules, ◌<◌, arith}
use Rattle.passes.specs.Numbers.{held_count}
use Rattle.drive_kit.specs.Playing.{pass_of}
use Rattle.drive_kit.proofs.PlayLemmas.{all_played, fewer_left, given_one, none_to_spare, other_may, rest_may}
use Rattle.drive_kit.proofs.callers.+callers.Goals as goal

pub play_own-requires-clause-one : goal.play_own-requires-clause-one
play_own-requires-clause-one g t c κs within =
    let none : ¬ (1 < held_count (pass_of c.args.pass).held) = search rules in
    none_to_spare (pass_of c.args.pass) c.requires.own none

pub join-first-requires-after_bounds : goal.join-first-requires-after_bounds
join-first-requires-after_bounds g t c κs within =
    let s = c.split-other.ensures in
    let other = other_may c.args.stand.now c.args.rows.now c.args.pass c.requires (pass_of c.split-other.new.pass) c.split-other.result s.given s.inside s.splits in
    let one = given_one (pass_of c.args.pass) (pass_of c.split-other.new.pass) (pass_of c.split-other.result) s.splits s.inside in
    let rest = rest_may c.args.stand.now c.args.rows.now c.args.pass c.requires (pass_of c.split-other.result) c.split-other.new.pass s.kept s.inside s.splits in
    let fewer = fewer_left (pass_of c.args.pass) (pass_of c.split-other.new.pass) (pass_of c.split-other.result) s.splits s.inside in
    (((search rules, search rules, other, one), (search rules, search rules)), (omega (arith, fewer), (λ a m. m, (λ a m. m, ((search rules, search rules, rest), (search rules, search rules))))))

pub returns : goal.returns
returns g t c =
    let s = c.split-other.ensures in
    all_played c.args.stand.now c.args.rows.now (pass_of c.args.pass) (pass_of c.split-other.new.pass) (pass_of c.split-other.result) s.splits s.inside _ _ c.gather.result
    c.join-first.ensures.first c.join-first.ensures.second c.gather.ensures.of c.gather.ensures.joins c.gather.ensures.made
