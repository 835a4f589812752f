use Rattle.std.proofs.Common.{◌≡◌, subst, rules, false}
use Rattle.seg_layout.specs.Lengths.{IsSegmentLength, next_len_of}
use Rattle.seg_layout.proofs.Powers.{next_is_length}
use Rattle.seg_layout.proofs.lengths.next_len.Goals as goal

pub returns-else-observed-clause-length : goal.returns-else-observed-clause-length
returns-else-observed-clause-length c =
    let is : next_len_of c.args.first_len c.args.len false ≡ c.min.result = search rules in
    subst (IsSegmentLength c.args.first_len) is (next_is_length c.args.first_len c.args.len false c.requires.first_len c.requires.len)
