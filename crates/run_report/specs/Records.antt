-- Records of rows: what `csv` writes for the fields with its default settings (RFC 4180), of whatever width, without the
-- line feed.
use Rattle.std.specs.Prelude.{◌-◌, ℕ, List, [], length, take, map}
use Rattle.std.specs.Prelude.{◌≡◌, false, true}
use Rattle.csv.specs.declared.writer.WriterBuilder.{WriterBuilder}
use Rattle.csv.specs.declared.writer.Writer.{Writer}
use Rattle.csv.specs.Writing.{default_writer, with_flexible, row_text, writer_setup, writer_pending, fields_written, has_written}
use Rattle.row_values.specs.declared.value.Value.{Value}
use Rattle.plain_types.specs.ByteOrder.{in_byte_order}
use Rattle.run_report.specs.Texts.{field_of}

-- a text without its last byte
abbrev pub without_last : List ℕ → List ℕ
without_last text = take (length text - 1) text

-- Records may differ in width.
abbrev pub settings : WriterBuilder
settings = with_flexible default_writer true

abbrev pub line_of : List Value → List ℕ
line_of row = row_text settings (map field_of row)

abbrev pub record_of : List Value → List ℕ
record_of row = without_last (line_of row)

-- the records of rows, sorted by their bytes, repeated ones repeated
abbrev pub records_of : List (List Value) → List (List ℕ)
records_of rows = in_byte_order (map record_of rows)

-- a writer between two records, which holds nothing back
pub record IsReady {W : Type 0} (w : Writer W) : Type 0 where
  pub setup : writer_setup w ≡ settings
  pub pending : writer_pending w ≡ []
  pub fields : fields_written w ≡ 0
  pub wrote : has_written w ≡ false
