-- A writer of rows into memory.
use Rattle.std.specs.Prelude.{◌≡◌, ℕ, List, Option, Some, true, false, Vec}
use Rattle.std.specs.declared.alloc.Global.{Global}
use Rattle.csv.specs.Writing.{default_writer, fields_written, has_written, text_written, with_flexible, writer_setup}
use Rattle.csv.specs.declared.writer.Writer.{Writer}
use Rattle.csv.specs.declared.writer.WriterBuilder.{WriterBuilder}

-- rows are written as `csv` does by its defaults, and may be of any length
abbrev pub row_writer : WriterBuilder
row_writer = with_flexible default_writer true

-- it stands between two rows
pub record IsReady (w : Writer (Vec ℕ Global)) : Type 0 where
  pub setup : writer_setup w ≡ row_writer
  pub fields : fields_written w ≡ 0
  pub wrote : has_written w ≡ false

-- what it has written
abbrev pub lines_written : Writer (Vec ℕ Global) → Option (List ℕ)
lines_written w = text_written (λ v. Some v.items) w
