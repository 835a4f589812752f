use Rattle.std.proofs.Common.{◌≡◌, subst, rules}
use Rattle.seg_layout.specs.Lengths.{IsSegmentLength, longest_of}
use Rattle.seg_layout.proofs.Powers.{longest_is_length}
use Rattle.seg_layout.proofs.lengths.longest.Goals as goal

pub returns-clause-length : goal.returns-clause-length
returns-clause-length c =
    let is : longest_of c.args.first_len ≡ c.min.result = search rules in
    subst (IsSegmentLength c.args.first_len) is (longest_is_length c.args.first_len c.requires)
