-- What a call leaves of its pass that repeats its tries until one of them ends it: p before, and q after.
use Rattle.std.specs.Prelude.{◌≡◌, ℕ, ◌+◌, ◌<◌, ◌++◌, List, slice_index, slice_set}
use Rattle.ho_base.specs.Marks.{Mark}
use Rattle.ho_model.specs.declared.marks.EntryMark.{EntryMark}
use Rattle.passes.specs.Seen.{SeesEntry, IsLawful}
use Rattle.passes.specs.Views.{PassView}
use Rattle.passes.specs.Calls.{IsSamePass, AddsNoEntry}

module _ {O : Type 0} where
  -- so many calls more of the caller are counted, and of no other
  abbrev pub Counts : ℕ → PassView O → PassView O → Type 0
  Counts n p q = q.made ≡ slice_set p.made p.caller (slice_index p.made p.caller + n)

  -- the pass has met the same obstacles, and maybe more
  abbrev pub MeetsMore : PassView O → PassView O → Type 0
  MeetsMore p q = (more : List O) × (q.met ≡ p.met ++ more)

-- One of the tries made the entry, which stands last: what was seen goes on with entries of other callers,
-- which makes `before`, and then with this one. All that is seen is legal. That try is counted, and
-- others may be; each may have met obstacles.
pub record EndsByEntry {O : Type 0} (priority : Mark → ℕ) (p : PassView O) (before : List EntryMark) (e : EntryMark) (q : PassView O) : Type 0 where
  pub same : IsSamePass p q
  pub seen : SeesEntry p.held p.seen before e q.seen
  pub lawful : IsLawful priority p.object p.callers q.seen
  pub counted : (n : ℕ) × (0 < n) × Counts n p q
  pub met : MeetsMore p q

-- No try made an entry. Some may be counted, and each may have met obstacles.
pub record EndsWithoutEntry {O : Type 0} (priority : Mark → ℕ) (p q : PassView O) : Type 0 where
  pub same : IsSamePass p q
  pub no_entry : AddsNoEntry priority p q
  pub counted : (n : ℕ) × Counts n p q
  pub met : MeetsMore p q
