use Rattle.std.proofs.Common.{◌≡◌, ◌++◌, map, drop, option_map}
use Rattle.drive_kit.specs.Replies.{numbers_of}
use Rattle.drive_kit.proofs.replies.items_in.Given as goal

abbrev pub invariant-loop-field : goal.invariant-loop-field
invariant-loop-field l = option_map (λ rest. l.numbers.items ++ rest) (numbers_of (map (λ f. f.now) (drop l.field-index l.fields))) ≡ numbers_of (map (λ f. f.now) l.fn.fields)
