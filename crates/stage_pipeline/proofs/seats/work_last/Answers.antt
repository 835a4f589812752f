-- The seat is split off, and what it leaves is joined to passes by which no call was made.
use Rattle.std.proofs.Common.{length, refl}
use Rattle.stage_pipeline.proofs.Seating.{all_ends, all_tell, given_seat, kept_seat, unused_ends}
use Rattle.stage_pipeline.proofs.seats.work_last.Goals as goal

pub work_at-end-requires-after_bounds : goal.work_at-end-requires-after_bounds
work_at-end-requires-after_bounds g c κs within = given_seat _ _ 1 _ c.args.seat c.split-other.new.seat c.split-other.result c.requires c.split-other.ensures

pub returns-clause-ends : goal.returns-clause-ends
returns-clause-ends g c =
    let left = c.split-other.new.seat in
    let kept = kept_seat (length c.args.pipeline.now.stages) c.args.joints.now 1 _ c.args.seat left c.split-other.result c.requires c.split-other.ensures in
    let rest = unused_ends c.args.pipeline.now _ _ 1 left c.unused.result kept c.unused.ensures.read c.unused.ensures.write c.unused.ensures.over c.unused.ensures.lost in
    all_ends c.args.pipeline.now _ _ 1 _ _ c.args.seat left c.split-other.result c.requires c.split-other.ensures c.unused.result c.work_at-end.result rest c.work_at-end.ensures.ends c.take_in.result c.take_in.ensures 1 refl

pub returns-clause-told : goal.returns-clause-told
returns-clause-told g c =
    let left = c.split-other.new.seat in
    let kept = kept_seat (length c.args.pipeline.now.stages) c.args.joints.now 1 _ c.args.seat left c.split-other.result c.requires c.split-other.ensures in
    let rest = unused_ends c.args.pipeline.now _ _ 1 left c.unused.result kept c.unused.ensures.read c.unused.ensures.write c.unused.ensures.over c.unused.ensures.lost in
    all_tell c.args.pipeline.now _ _ 1 _ _ c.args.seat left c.split-other.result c.requires c.split-other.ensures c.unused.result c.work_at-end.result rest c.work_at-end.ensures.ends c.take_in.result c.take_in.ensures c.work_at-end.ensures.told
