use Rattle.std.proofs.Common.{rules, sym, ◌∙◌, [], arith}
use Rattle.std.proofs.lemmas.List.Quantifiers.{position-Some}
use Rattle.ho_model.specs.Queue.{has_item}
use Rattle.item_lists.proofs.Counts.{none_found}
use Rattle.item_lists.proofs.caller_lists.place_of_first.Goals as goal

pub unreachable-requires : goal.unreachable-requires
unreachable-requires g c =
    let none = none_found c.args.lists.now (sym c.place_with_item.ensures ∙ c.in-None.is) in
    let some = c.requires in
    omega arith

pub returns-clause-some : goal.returns-clause-some
returns-clause-some g c =
    (position-Some has_item c.args.lists.now c.in-Some.place [] (sym c.place_with_item.ensures ∙ c.in-Some.is)).1
