-- The files that a shelf in memory stores.
use Rattle.std.specs.Prelude.{List, map}
use Rattle.ho_io.specs.Memory.{Files}
use Rattle.ho_io.specs.declared.free.StoredFile.{StoredFile}

-- the name and the bytes of each
abbrev pub files_in : List StoredFile → Files
files_in = map (λ file. (file.name, file.bytes.items))
