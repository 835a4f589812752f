use Rattle.std.proofs.Common.{rules, []}
use Rattle.blocking_collection.proofs.Trying.{tried}
use Rattle.blocking_collection.proofs.Still.{add_still}
use Rattle.blocking_collection.proofs.any_add.try_add_any.Goals as goal

pub returns-clause-tried : goal.returns-clause-tried
returns-clause-tried g c = tried g.T.Item.priority_of g.T.Item.mark c.args.item c.args.passes.now _ _ _ (search rules) c.in_default.ensures c.add_first.ensures

pub returns-clause-still : goal.returns-clause-still
returns-clause-still g c = add_still g.T.Item.priority_of g.T.Item.mark c.args.collections.now c.args.item [] c.args.passes.now _ c.add_first.result c.requires (returns-clause-tried g c)
