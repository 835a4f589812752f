use Rattle.std.proofs.Common.{◌≡◌, ◌++◌, ◌∷◌, [], map, take, codes, decimal}
use Rattle.csv.specs.Records.{fields_of, partial_of}
use Rattle.drive_kit.proofs.replies.push_items.Given as goal

abbrev pub invariant-loop-number : goal.invariant-loop-number
invariant-loop-number l = record {
  fields : fields_of l.row ≡ fields_of l.fn.row ++ codes "items" ∷ map decimal (take l.number-index l.fn.items);
  partial : partial_of l.row ≡ [];
}
