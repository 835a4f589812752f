use Rattle.passes.proofs.Calls.{splits_give, joins_take, all_whole, first_all}
use Rattle.passes.proofs.laws.numbers_come_home.Goals as goal

pub returns-clause-first : goal.returns-clause-first
returns-clause-first g c = first_all

pub returns-clause-splits : goal.returns-clause-splits
returns-clause-splits g c = splits_give _

pub returns-clause-joins : goal.returns-clause-joins
returns-clause-joins g c = joins_take _

pub returns-clause-whole : goal.returns-clause-whole
returns-clause-whole g c = all_whole _
