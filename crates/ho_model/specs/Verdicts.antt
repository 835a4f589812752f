-- What a verdict on a history says.
use Rattle.std.specs.Prelude.{◌≡◌, ◌+◌, ◌<◌, List, length, take, None}
use Rattle.ho_base.specs.Marks.{number_priority}
use Rattle.ho_model.specs.declared.objects.Object.{Object}
use Rattle.ho_model.specs.declared.histories.Verdict.{Verdict}
use Rattle.ho_model.specs.declared.histories.Verdict.TheVariants.{Legal, IllegalAt}
use Rattle.ho_model.specs.Entries.{EntryMark}
use Rattle.ho_model.specs.Histories.{state_after, IsLegal}

-- the whole history is legal; or it is up to an entry, which the object then refuses
abbrev pub IsVerdict : Object → List EntryMark → Verdict → Type 0
IsVerdict o history Legal = IsLegal number_priority o history
IsVerdict o history (IllegalAt k) =
    (k < length history) × IsLegal number_priority o (take k history) × (state_after number_priority o (take (k + 1) history) ≡ None)
