-- What goes into a channel and what comes out, each over all legal histories.
use Rattle.std.specs.Prelude.{◌≡◌, ◌⊎◌, ℕ, ◌+◌, ◌<◌, ◌≤◌, List, false, Some, sum_by, count_by}
use Rattle.ho_base.specs.Marks.{Mark}
use Rattle.ho_model.specs.declared.marks.EntryMark.{EntryMark}
use Rattle.ho_model.specs.declared.objects.Mode.{Mode}
use Rattle.ho_model.specs.declared.objects.Object.{Object}
use Rattle.ho_model.specs.declared.objects.Object.TheVariants.{Bounded}
use Rattle.ho_model.specs.Channel.{drops}
use Rattle.ho_model.specs.Histories.{IsLegal}
use Rattle.channel_laws.specs.Reached.{IsChannelObject, kind_in}
use Rattle.channel_flow.specs.Items.{written_in, taken_in, dropped_in, refused_in, given_back_in, weight, one}
use Rattle.channel_flow.specs.Ends.{is_closed_with, is_told, is_completing, first_fault, IsDrained}

-- a legal history of a channel object with room for an item
abbrev pub IsFlow : (Mark → ℕ) → Object → List EntryMark → Type 0
IsFlow priority o es = IsChannelObject o × IsLegal priority o es

-- once it is drained, what was written was taken, dropped, refused or given back, each item once
abbrev pub WhatGoesInComesOut : Type 0
WhatGoesInComesOut =
    (priority : Mark → ℕ) (o : Object) (es : List EntryMark) → IsFlow priority o es → IsDrained es →
    (h : Mark → ℕ) → sum_by (weight h written_in) es ≡ sum_by (weight h taken_in) es + sum_by (weight h dropped_in) es + sum_by (weight h refused_in) es + sum_by (weight h given_back_in) es

-- where no call completes the channel no reply tells of a completion
abbrev pub NoneIsToldBeforeTheEnd : Type 0
NoneIsToldBeforeTheEnd =
    (priority : Mark → ℕ) (o : Object) (es : List EntryMark) → IsFlow priority o es → count_by is_completing es ≡ 0 → count_by is_told es ≡ 0

-- and nothing is refused
abbrev pub NoneIsRefusedBeforeTheEnd : Type 0
NoneIsRefusedBeforeTheEnd =
    (priority : Mark → ℕ) (o : Object) (es : List EntryMark) → IsFlow priority o es → count_by is_completing es ≡ 0 →
    (h : Mark → ℕ) → sum_by (weight h refused_in) es ≡ 0

-- without a drop mode nothing is dropped; so too without a capacity, where the mode is Wait
abbrev pub NoneIsDroppedWithoutMode : Type 0
NoneIsDroppedWithoutMode =
    (priority : Mark → ℕ) (o : Object) (es : List EntryMark) → IsFlow priority o es → drops (kind_in priority o).mode ≡ false →
    (h : Mark → ℕ) → sum_by (weight h dropped_in) es ≡ 0

-- once it is drained, nothing was dropped, or at least as many items were taken as there is room for
abbrev pub OnlyFullChannelsDrop : Type 0
OnlyFullChannelsDrop =
    (priority : Mark → ℕ) (capacity : ℕ) (mode : Mode) (es : List EntryMark) → IsFlow priority (Bounded capacity mode) es → IsDrained es →
    ((h : Mark → ℕ) → sum_by (weight h dropped_in) es ≡ 0) ⊎ (capacity ≤ sum_by (weight one taken_in) es)

-- every read that is told of the end is told the fault of the first completion
abbrev pub OneFaultIsTold : Type 0
OneFaultIsTold =
    (priority : Mark → ℕ) (o : Object) (es : List EntryMark) (fault : ℕ) → IsFlow priority o es → 0 < count_by (is_closed_with fault) es → first_fault es ≡ Some fault
