-- What contracts see of a ring.
use Rattle.std.specs.Prelude.{ℕ, List}
use Rattle.ho_base.specs.Marks.{Mark}

pub record Ring : Type 0 where
  pub items : List Mark
  pub capacity : ℕ
