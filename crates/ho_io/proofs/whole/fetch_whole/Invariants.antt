use Rattle.std.proofs.Common.{◌≡◌, ◌≤◌, ◌-◌, ◌+◌, length, IfSome}
use Rattle.ho_io.specs.Whole.{IsReadSoFar}
use Rattle.ho_io.proofs.whole.fetch_whole.Given as goal

abbrev pub invariant-pieces : goal.invariant-pieces
invariant-pieces g l = record {
  files : g.S.Shelf.files l.shelf ≡ g.S.Shelf.files l.fn.shelf;
  within : length l.bytes.items ≤ l.fn.limit + 1;
  so_far : IfSome (g.S.Shelf.files l.fn.shelf) (λ files. IsReadSoFar (files l.fn.name) l.bytes.items);
  given : g.S.Shelf.given l.shelf ≤ g.S.Shelf.given l.fn.shelf + length l.bytes.items;
  idle : g.S.Shelf.idle l.shelf ≡ g.S.Shelf.idle l.fn.shelf;
  faults : g.S.Shelf.faults l.shelf ≡ g.S.Shelf.faults l.fn.shelf;
  failing : g.S.Shelf.failing l.shelf ≡ g.S.Shelf.failing l.fn.shelf;
}

abbrev pub decreases-pieces : goal.decreases-pieces
decreases-pieces g l = l.fn.limit + 1 - length l.bytes.items
