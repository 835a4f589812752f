use Rattle.std.proofs.Common.{rules, arith, subst, ℕ}
use Rattle.bag_rule.specs.Plays.{GotList, MissedList}
use Rattle.bag_rule.proofs.Taking.{list_takes}
use Rattle.bag_rule.proofs.steps.list_take.Goals as goal

pub compare_exchange-requires : goal.compare_exchange-requires
compare_exchange-requires g c = (search rules, search (rules, arith), rw (c.list_word.ensures, c.requires.list.0) (list_takes _ _ _ _ _ _ _ c.requires.list.1 c.requires.caller.0 c.requires.caller.1 c.requires.list.2))

pub returns-clause-got : goal.returns-clause-got
returns-clause-got g c e = subst (λ (z : ℕ). GotList g.T.Item.priority_of c.args.seat.now.me.0 c.args.seat.now.me.1 z c.compare_exchange.new.seat.me) c.requires.list.0 (c.compare_exchange.ensures.2.0 e)

pub returns-clause-held : goal.returns-clause-held
returns-clause-held g c e = subst (λ (z : ℕ). MissedList g.T.Item.priority_of c.args.seat.now.me.0 c.args.seat.now.me.1 z c.compare_exchange.result c.compare_exchange.new.seat.me) c.requires.list.0 (c.compare_exchange.ensures.2.1 e)
