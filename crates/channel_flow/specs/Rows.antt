-- Worked histories: what the laws count in them.
use Rattle.std.specs.Prelude.{ℕ, List, [], ◌∷◌, Option, Bool, true, false, ◌&&◌, ◌==◌, nat_lt, map, count_by, sum_by}
use Rattle.ho_base.specs.Marks.{Mark}
use Rattle.ho_model.specs.declared.marks.CallMark.TheVariants.{Write, Read, BeginWrite, BeginRead, BeginLookRead, BeginLookWrite, Poll, Cancel, CompleteWith}
use Rattle.ho_model.specs.declared.marks.ReplyMark.TheVariants.{Done, Dropped, Full, Refused, Item, ClosedWith, Faulted, Waiting, CancelledWrite, Flag}
use Rattle.ho_model.specs.declared.marks.EntryMark.{EntryMark}
use Rattle.ho_model.specs.Rows.{n, Row, by_0}
use Rattle.channel_flow.specs.Items.{written_in, taken_in, dropped_in, refused_in, given_back_in, weight, one}
use Rattle.channel_flow.specs.Ends.{is_begun, is_finished, is_closed, is_closed_with, is_told, is_completing, first_fault}

-- as many waits are finished as begun, and a read is told of the end
abbrev pub is_drained : Row → Bool
is_drained row = (count_by is_begun (map by_0 row) == count_by is_finished (map by_0 row)) && nat_lt 0 (count_by is_closed (map by_0 row))

-- how many items are written, taken, dropped, refused and given back
abbrev pub many : (EntryMark → List Mark) → Row → ℕ
many items row = sum_by (weight one items) (map by_0 row)

abbrev pub moved : Row → List ℕ
moved row = many written_in row ∷ many taken_in row ∷ many dropped_in row ∷ many refused_in row ∷ many given_back_in row ∷ []

-- how many calls complete the channel, how many are told of that, and how many reads with the fault 9
abbrev pub ended : Row → List ℕ
ended row = count_by is_completing (map by_0 row) ∷ count_by is_told (map by_0 row) ∷ count_by (is_closed_with 9) (map by_0 row) ∷ []

abbrev pub fault_in : Row → Option ℕ
fault_in row = first_fault (map by_0 row)

-- a full channel of two drops its first item
abbrev pub drop_row : Row
drop_row = (Write (n 1), Done) ∷ (Write (n 2), Done) ∷ (Write (n 3), Dropped (n 1)) ∷ (CompleteWith 9, Flag true) ∷ (Read, Item (n 2)) ∷ (BeginRead, Item (n 3)) ∷ (Read, ClosedWith 9) ∷ []

-- a write waits for room, and a read for the end, in a channel of one
abbrev pub wait_row : Row
wait_row = (Write (n 1), Done) ∷ (BeginWrite (n 2), Waiting 0) ∷ (Read, Item (n 1)) ∷ (Poll 0, Done) ∷ (BeginRead, Item (n 2)) ∷ (BeginRead, Waiting 2) ∷ (Poll 2, Waiting 2) ∷ (CompleteWith 0, Flag true) ∷ (Poll 2, ClosedWith 0) ∷ []

-- a write that waits is refused, and so is one that comes later
abbrev pub refused_row : Row
refused_row = (Write (n 1), Done) ∷ (BeginWrite (n 2), Waiting 0) ∷ (CompleteWith 9, Flag true) ∷ (Poll 0, Refused 9 (n 2)) ∷ (Write (n 3), Refused 9 (n 3)) ∷ (Read, Item (n 1)) ∷ (Read, ClosedWith 9) ∷ []

-- a write that waits is given up, and one does not wait
abbrev pub given_back_row : Row
given_back_row = (Write (n 1), Done) ∷ (BeginWrite (n 2), Waiting 0) ∷ (Cancel 0, CancelledWrite (n 2)) ∷ (Write (n 3), Full) ∷ (Read, Item (n 1)) ∷ (CompleteWith 0, Flag true) ∷ (Read, ClosedWith 0) ∷ []

-- a read's answer is not fetched, so its item is neither taken nor there
abbrev pub unfetched_row : Row
unfetched_row = (BeginRead, Waiting 0) ∷ (Write (n 1), Done) ∷ (CompleteWith 0, Flag true) ∷ (Read, ClosedWith 0) ∷ []

-- a second completion does nothing; a look that waited is told of the fault, and a later one too
abbrev pub faulted_row : Row
faulted_row = (BeginLookRead, Waiting 0) ∷ (CompleteWith 9, Flag true) ∷ (CompleteWith 7, Flag false) ∷ (Poll 0, Faulted 9) ∷ (BeginLookWrite, Faulted 9) ∷ (Read, ClosedWith 9) ∷ []

-- no read is told of the end, and an item is left
abbrev pub unread_row : Row
unread_row = (Write (n 1), Done) ∷ (CompleteWith 0, Flag true) ∷ []
