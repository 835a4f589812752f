use Rattle.std.proofs.Common.{rules, ◌≡◌, refl}
use Rattle.drive_kit.specs.Playing.{pass_of}
use Rattle.drive_kit.proofs.PlayLemmas.{begun_by_made, one_still, row_of_another, row_of_own, row_unpaid, row_wanting, same_at_start}
use Rattle.drive_kit.proofs.callers.play_row.Goals as goal

pub returns-then-not-is_own-clause-same : goal.returns-then-not-is_own-clause-same
returns-then-not-is_own-clause-same g c = same_at_start _ c.requires.own

pub returns-then-not-is_own-clause-played : goal.returns-then-not-is_own-clause-played
returns-then-not-is_own-clause-played g c rows h = row_of_another c.args.stand.now rows c.args.row (pass_of c.args.pass.now) c.args.own.now h (λ is. search rules)

pub returns-in_err-made-clause-played : goal.returns-in_err-made-clause-played
returns-in_err-made-clause-played g c =
    let mine : c.args.row.caller ≡ (pass_of c.args.pass.now).caller = search rules in
    row_unpaid _ _ _ _ _ _ c.from_residual.result c.from_residual.ensures.0
    (λ rows h. row_wanting c.args.stand.now rows c.args.row (pass_of c.args.pass.now) c.args.own.now h (pass_of c.play_call.new.pass) c.in_err-made.ensures.same mine c.requires.one c.in_err-made.ensures.adds_none)

pub returns-in_err-push-clause-played : goal.returns-in_err-push-clause-played
returns-in_err-push-clause-played g c =
    let mine : c.args.row.caller ≡ (pass_of c.args.pass.now).caller = search rules in
    let same = c.in_ok-made.ensures.same in
    row_unpaid _ _ _ _ _ _ c.from_residual-in_err-push.result c.from_residual-in_err-push.ensures.0
    (λ rows h. begun_by_made c.args.stand.now _ (pass_of c.play_call.new.pass) _ (one_still (pass_of c.args.pass.now) (pass_of c.play_call.new.pass) same c.requires.one)
    (row_of_own c.args.stand.now rows c.args.row (pass_of c.args.pass.now) c.args.own.now h (pass_of c.play_call.new.pass) same c.in_ok-made.made mine c.in_ok-made.ensures.adds _ refl))

pub returns-clause-played : goal.returns-clause-played
returns-clause-played g c rows h =
    let mine : c.args.row.caller ≡ (pass_of c.args.pass.now).caller = search rules in
    row_of_own c.args.stand.now rows c.args.row (pass_of c.args.pass.now) c.args.own.now h (pass_of c.play_call.new.pass) c.in_ok-made.ensures.same c.in_ok-made.made mine c.in_ok-made.ensures.adds c.push.new.self c.in_ok-push.ensures.ok
