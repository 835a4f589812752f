-- What stands at a place among the files of a shelf in memory.
use Rattle.std.proofs.Common.{◌≡◌, ◌<◌, ◌∙◌, ℕ, List, length, get_or, Some, true, option_map, refl, ap}
use Rattle.std.specs.Str.{bytes_eq}
use Rattle.std.proofs.lemmas.Option.{slice_get-map, slice_get_read}
use Rattle.std.proofs.lemmas.Slice.Eq.{bytes_eq-Decides}
use Rattle.ho_io.specs.Memory.{name_at}
use Rattle.ho_io.specs.Stored.{files_in}
use Rattle.ho_io.specs.declared.free.StoredFile.{StoredFile}

-- where the file at a place has this name, it is the name there
pub is_name_at : (files : List StoredFile) (place : ℕ) (file : StoredFile) (name : List ℕ) → place < length files → file ≡ get_or files place file → bytes_eq file.name name ≡ true → name_at (files_in files) (Some place) ≡ Some name
is_name_at files place file name within here same =
    let stored = slice_get_read files (length files) place file refl within here in
    let seen = slice_get-map (λ (f : StoredFile). (f.name, f.bytes.items)) files place ∙ ap (option_map (λ (f : StoredFile). (f.name, f.bytes.items))) stored in
    ap (option_map (λ (f : List ℕ × List ℕ). f.0)) seen ∙ ap Some ((bytes_eq-Decides file.name name).0 same)
