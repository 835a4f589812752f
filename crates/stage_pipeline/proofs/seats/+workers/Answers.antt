-- One worker's seat is split off, and what it leaves is taken in.
use Rattle.std.proofs.Common.{rules, arith, ℕ, ◌≡◌, ◌+◌, ◌-◌, ◌<◌, ◌≤◌, length, subst}
use Rattle.stage_pipeline.specs.Seats.{IsSeat}
use Rattle.stage_pipeline.proofs.Seating.{all_ends, all_tell, given_seat, kept_seat, one_more, read_of, write_of}
use Rattle.stage_pipeline.proofs.seats.+workers.Goals as goal

pub split-other-requires : goal.split-other-requires
split-other-requires g t c =
    let some : 0 < c.args.workers = c.requires.some in
    let same : c.args.workers + 1 ≡ c.args.workers - 1 + 2 = omega (arith, some) in
    (c.args.workers - 1, length c.args.pipeline.now.stages, subst (λ (k : ℕ). IsSeat (length c.args.pipeline.now.stages) c.args.joints.now k c.args.seat) same c.requires.seat)

pub join-end-requires-after_bounds : goal.join-end-requires-after_bounds
join-end-requires-after_bounds g t c κs within =
    let stages = length c.args.pipeline.now.stages in
    let joints = c.args.joints.now in
    let some : 0 < c.args.workers = c.requires.some in
    let mine = one_more stages joints c.args.workers c.args.seat some c.requires.seat in
    let other : IsSeat stages joints 1 c.split-other.result = given_seat _ _ _ _ c.args.seat c.split-other.new.seat c.split-other.result mine c.split-other.ensures in
    let rest : IsSeat stages joints (c.args.workers - 1 + 1) c.split-other.new.seat = kept_seat _ _ _ _ c.args.seat c.split-other.new.seat c.split-other.result mine c.split-other.ensures in
    let more : 1 ≤ c.args.workers - 1 = search (rules, some) in
    search (rules, other, rest, more)

pub take_in-requires-clause-read : goal.take_in-requires-clause-read
take_in-requires-clause-read g t c =
    let some : 0 < c.args.workers = c.requires.some in
    read_of c.args.pipeline.now _ _ _ _ _ c.args.seat c.split-other.new.seat c.split-other.result (one_more _ _ c.args.workers c.args.seat some c.requires.seat) c.split-other.ensures
    c.join-end.result.1 c.join-end.result.0 c.join-end.ensures.second c.join-end.ensures.first.0

pub take_in-requires-clause-write : goal.take_in-requires-clause-write
take_in-requires-clause-write g t c =
    let some : 0 < c.args.workers = c.requires.some in
    write_of c.args.pipeline.now _ _ _ _ _ c.args.seat c.split-other.new.seat c.split-other.result (one_more _ _ c.args.workers c.args.seat some c.requires.seat) c.split-other.ensures
    c.join-end.result.1 c.join-end.result.0 c.join-end.ensures.second c.join-end.ensures.first.0

pub returns-clause-ends : goal.returns-clause-ends
returns-clause-ends g t c =
    let some : 0 < c.args.workers = c.requires.some in
    all_ends c.args.pipeline.now _ _ _ _ _ c.args.seat c.split-other.new.seat c.split-other.result (one_more _ _ c.args.workers c.args.seat some c.requires.seat) c.split-other.ensures
    c.join-end.result.1 c.join-end.result.0 c.join-end.ensures.second c.join-end.ensures.first.0 c.take_in.result c.take_in.ensures c.args.workers (omega (arith, some))

pub returns-clause-told : goal.returns-clause-told
returns-clause-told g t c =
    let some : 0 < c.args.workers = c.requires.some in
    all_tell c.args.pipeline.now _ _ _ _ _ c.args.seat c.split-other.new.seat c.split-other.result (one_more _ _ c.args.workers c.args.seat some c.requires.seat) c.split-other.ensures
    c.join-end.result.1 c.join-end.result.0 c.join-end.ensures.second c.join-end.ensures.first.0 c.take_in.result c.take_in.ensures c.join-end.ensures.first.1
