use Rattle.std.proofs.Common.{◌≡◌, drop}
use Rattle.ho_io.specs.Memory.{file_named}
use Rattle.ho_io.specs.Stored.{files_in}
use Rattle.ho_io.proofs.free.find.Given as goal

-- the files from here on give what all of them give
abbrev pub invariant-loop-place : goal.invariant-loop-place
invariant-loop-place l = file_named (files_in (drop l.place l.files)) l.name ≡ file_named (files_in l.files) l.name
