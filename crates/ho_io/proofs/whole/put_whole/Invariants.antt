use Rattle.std.proofs.Common.{◌≡◌, ◌≤◌, ◌+◌, ◌-◌, length}
use Rattle.ho_io.specs.Whole.{TookFirst}
use Rattle.ho_io.proofs.whole.put_whole.Given as goal

abbrev pub invariant-pieces : goal.invariant-pieces
invariant-pieces g l = record {
  within : l.done ≤ length l.text;
  room : length l.text - l.done ≤ g.K.Sink.spare l.out;
  spare : g.K.Sink.spare l.out + l.done ≡ g.K.Sink.spare l.fn.out;
  taken : TookFirst (g.K.Sink.taken l.fn.out) (g.K.Sink.taken l.out) l.text l.done;
  puts : g.K.Sink.puts l.out ≤ g.K.Sink.puts l.fn.out + l.done;
  reserves : g.K.Sink.reserves l.out ≡ g.K.Sink.reserves l.fn.out;
  asked : g.K.Sink.asked l.out ≡ g.K.Sink.asked l.fn.out;
  faults : g.K.Sink.faults l.out ≡ g.K.Sink.faults l.fn.out;
}

abbrev pub decreases-pieces : goal.decreases-pieces
decreases-pieces g l = length l.text - l.done
