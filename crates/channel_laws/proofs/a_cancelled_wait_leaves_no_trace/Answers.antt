use Rattle.channel_laws.proofs.Following.{cancel_leaves_twin, others_follow}
use Rattle.channel_laws.proofs.Naming.{named_of}
use Rattle.channel_laws.proofs.Histories.{ordered_by}
use Rattle.channel_laws.proofs.Cancelled.{done_without_the_wait, cancelled_at_once}
use Rattle.channel_laws.specs.Reached.{kind_in}
use Rattle.channel_laws.proofs.a_cancelled_wait_leaves_no_trace.Goals as goal

pub returns-clause-cancel : goal.returns-clause-cancel
returns-clause-cancel g = λ priority o history s c n leaves so. cancel_leaves_twin c n s (named_of s (ordered_by priority o history s leaves)) so

pub returns-clause-others : goal.returns-clause-others
returns-clause-others g = λ priority o history s c n caller call leaves so other.
    others_follow (kind_in priority o) c n s caller call (named_of s (ordered_by priority o history s leaves)) so other

pub returns-clause-without : goal.returns-clause-without
returns-clause-without g = done_without_the_wait

pub returns-clause-at_once : goal.returns-clause-at_once
returns-clause-at_once g = cancelled_at_once
