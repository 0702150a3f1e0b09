-- The texts of partition transforms (Iceberg specification, Appendix C, "Partition Specs"). The four of time are also
-- read in the plural, as older writers spell them.
use Rattle.std.specs.Prelude.{ℕ, ◌-◌, ◌^◌, ◌&&◌, ◌||◌, not, nat_eq, nat_le, codes, List, length, Bool, Result, Ok, Err, if◌then◌else◌}
use Rattle.std.specs.Cmp.Lexicographic.{pointwise}
use Rattle.row_values.specs.declared.partition.Transform.{Transform}
use Rattle.row_values.specs.declared.partition.Transform.TheVariants as transform
use Rattle.iceberg_schema.specs.declared.spec_fault.TransformFault.{TransformFault}
use Rattle.iceberg_schema.specs.declared.spec_fault.TransformFault.TheVariants as fault
use Rattle.plain_types.specs.Digits.{number_at, after_text}
use Rattle.plain_types.specs.Steps.{◌>>=◌, or_fault, fault_if, by_option}

abbrev pub is_text : List ℕ → List ℕ → Bool
is_text = pointwise nat_eq

-- the number of a bucket or truncate transform, before the closing bracket that ends the text
unfoldable pub width_of : List ℕ → Result ℕ TransformFault
width_of bytes = do
  number ← or_fault fault.Name (number_at bytes)
  rest ← or_fault fault.Name (after_text (codes "]") number.1)
  _ ← fault_if fault.Name (not (nat_eq (length rest) 0))
  _ ← fault_if fault.Width (not (nat_le 1 number.0 && nat_le number.0 (2 ^ 31 - 1)))
  Ok number.0

-- `bucket[N]` or `truncate[W]`
unfoldable pub numbered_of : List ℕ → Result Transform TransformFault
numbered_of text = by_option (after_text (codes "bucket[") text) (λ bytes. width_of bytes >>= λ n. Ok (transform.Bucket n)) (by_option (after_text (codes "truncate[") text) (λ bytes. width_of bytes >>= λ n. Ok (transform.Truncate n)) (Err fault.Name))

unfoldable pub transform_of : List ℕ → Result Transform TransformFault
transform_of text = if is_text text (codes "identity") then Ok transform.Identity
    else (if is_text text (codes "void") then Ok transform.Void
    else (if is_text text (codes "year") || is_text text (codes "years") then Ok transform.Year
    else (if is_text text (codes "month") || is_text text (codes "months") then Ok transform.Month
    else (if is_text text (codes "day") || is_text text (codes "days") then Ok transform.Day
    else (if is_text text (codes "hour") || is_text text (codes "hours") then Ok transform.Hour else numbered_of text)))))
