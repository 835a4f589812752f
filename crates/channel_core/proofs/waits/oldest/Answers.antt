use Rattle.std.proofs.Common.{◌∙◌, sym}
use Rattle.channel_core.specs.Marks.{kind_of, waiter_mark}
use Rattle.channel_core.proofs.Places.{position_map}
use Rattle.channel_core.proofs.waits.oldest.Goals as goal

pub returns : goal.returns
returns g c =
    c.place_of.ensures ∙ sym (position_map (waiter_mark g.T.Marked.mark) (λ w. kind_of c.args.want w.standing) c.args.waits.now)
