use Rattle.std.proofs.Common.{◌≡◌, false, sym, ◌∙◌}
use Rattle.ho_model.specs.Queue.{has_item}
use Rattle.ho_model.specs.Written.{mark_of}
use Rattle.ho_model.proofs.Waiting.{drops_no_last}
use Rattle.ho_model.proofs.replays.channel.Channel.replace_newest.Goals as goal

pub returns-then-not-has_item-clause-tried : goal.returns-then-not-has_item-clause-tried
returns-then-not-has_item-clause-tried c =
    let inside = sym c.has_item.ensures ∙ c.if-not-has_item.true in
    let none : has_item c.args.self.now.buffer ≡ false = rw (← c.self.view_is) inside in
    drops_no_last c.args.self.now (mark_of c.args.item) none
