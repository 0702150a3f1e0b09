use Rattle.std.proofs.Common.{◌≡◌, ◌-◌, ◌^◌, ℕ, ℤ, pos, negsuc, true, nat_le, List, to_z, of_z, to_z-of_z, w32, refl, ap, ◌∙◌, rules, arith}
use Rattle.std.proofs.lemmas.Bool.Decides.{nat_tests}
use Rattle.std.specs.Int.RustNames.{FitsSigned}
use Rattle.serde_json.specs.Data.{Data}
use Rattle.iceberg_schema.specs.Widths.{IsInt}
use Rattle.metadata_writer.specs.NewTable.{Made}
use Rattle.table_definition.specs.LastIds.{last_column, last_partition}
use Rattle.table_definition.proofs.new_table.new_table.Goals as goal

abbrev of_parts : List ℕ → List ℕ → Data → ℤ → ℤ → Data → ℤ → Data → ℤ → Made
of_parts l u s i c f q p n = record { location = l; uuid = u; schema = s; schema_id = i; last_column = c; fields = f; last_partition = q; properties = p; created_ms = n }

same_made : (l u l' u' : List ℕ) (s f p s' f' p' : Data) (i c q n i' c' q' n' : ℤ) → l ≡ l' → u ≡ u' → s ≡ s' → i ≡ i' → c ≡ c'
    → f ≡ f' → q ≡ q' → p ≡ p' → n ≡ n' → of_parts l u s i c f q p n ≡ of_parts l' u' s' i' c' f' q' p' n'
same_made l u l' u' s f p s' f' p' i c q n i' c' q' n' e1 e2 e3 e4 e5 e6 e7 e8 e9 = rw (e1, e2, e3, e4, e5, e6, e7, e8, e9) refl

pub returns-clause-made : goal.returns-clause-made
returns-clause-made c =
    let id : FitsSigned w32 c.args.definition.now.schema.id = search rules in
    let column : FitsSigned w32 c.last_column.result = search rules in
    let field : FitsSigned w32 c.last_partition.result = search rules in
    same_made _ _ _ _ _ _ _ _ _ _ _ _ _ _ _ _ _ _
    c.in_ok-copy_of.ensures
    (simp (to_z-of_z, c.ranges.now_ms) at c.in_ok-identifier_text.ensures.text)
    c.in_ok-schema_json.ensures
    (to_z-of_z id)
    (to_z-of_z column ∙ c.last_column.ensures ∙ ap last_column c.as_slice.ensures)
    c.in_ok-fields_in.ensures
    (to_z-of_z field ∙ c.last_partition.ensures ∙ ap last_partition c.as_slice-2.ensures)
    c.in_ok-properties_json.ensures
    (to_z-of_z c.ranges.now_ms)

int_fits : (n : ℤ) → FitsSigned w32 n → IsInt n
int_fits (pos m) f = let e : nat_le m (2 ^ 31 - 1) ≡ true = grind (arith, nat_tests, f.sfits) in rw e refl
int_fits (negsuc m) f = let e : nat_le m (2 ^ 31 - 1) ≡ true = grind (arith, nat_tests, f.sfits) in rw e refl

passed_on : (n : ℤ) → FitsSigned w32 n → IsInt (to_z w32 (of_z w32 n))
passed_on n f = rw (to_z-of_z f) (int_fits n f)

pub returns-clause-uuid : goal.returns-clause-uuid
returns-clause-uuid c = c.in_ok-identifier_text.ensures.uuid

pub returns-clause-last_column : goal.returns-clause-last_column
returns-clause-last_column c = passed_on c.last_column.result (search rules)

pub returns-clause-last_partition : goal.returns-clause-last_partition
returns-clause-last_partition c = passed_on c.last_partition.result (search rules)
