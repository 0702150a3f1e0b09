-- The ids of a sound schema fit each other.
use Rattle.std.proofs.Common.{◌≡◌, ℤ, List, [], ◌∷◌, ◌||◌, Bool, true, false, Ok, refl, ap, ◌∙◌}
use Rattle.std.specs.Bool.{beq}
use Rattle.std.specs.Ordering.{int_eq}
use Rattle.std.specs.List.{list_any}
use Rattle.std.proofs.lemmas.Cmp.{int_eq_equiv, nat_eq_equiv}
use Rattle.plain_types.specs.Bags.{Apart, has}
use Rattle.row_values.specs.declared.kind.Kind.{Kind}
use Rattle.row_values.specs.declared.kind.Kind.TheVariants as kind
use Rattle.row_values.specs.declared.partition.Spec.{Spec}
use Rattle.row_values.specs.declared.schema.Column.{Column}
use Rattle.row_values.specs.declared.schema.TableSchema.{TableSchema}
use Rattle.table_metadata.specs.FieldIds.{clash, field_ids_fit, has_column_above, has_field_above, may_be_one}
use Rattle.iceberg_schema.specs.SoundSchema.{IsSoundSchema, same_id}

beq_itself : (b : Bool) → beq b b ≡ true
beq_itself true = refl
beq_itself false = refl

one_kind : (k : Kind) → may_be_one k k ≡ true
one_kind kind.Bool = refl
one_kind kind.Int = refl
one_kind kind.Long = refl
one_kind kind.Date = refl
one_kind (kind.Timestamp utc) = beq_itself utc
one_kind (kind.Decimal precision scale) = nat_eq_equiv.refl scale
one_kind kind.Text = refl
one_kind kind.Bytes = refl

not_itself : (c : Column) → clash c c ≡ false
not_itself c = rw (int_eq_equiv.refl c.id, one_kind c.kind) refl

other_id : (a b : Column) → int_eq a.id b.id ≡ false → clash a b ≡ false
other_id a b h = rw h refl

neither : (a b : Bool) → (a || b) ≡ false → (a ≡ false) × (b ≡ false)
neither false b h = (refl, h)
neither true b h = cc

no_other : (x : Column) (xs : List Column) → has same_id x xs ≡ false → list_any (λ o. clash x o) xs ≡ false
no_other x [] h = refl
no_other x (y ∷ ys) h =
    let p = neither (int_eq x.id y.id) (has same_id x ys) h in rw (other_id x y p.0) (no_other x ys p.1)

-- a column with another id changes nothing for these
past_one : (x : Column) (xs ys : List Column) → has same_id x ys ≡ false
    → list_any (λ c. list_any (λ o. clash c o) (x ∷ xs) || false) ys ≡ list_any (λ c. list_any (λ o. clash c o) xs || false) ys
past_one x xs [] h = refl
past_one x xs (y ∷ ys) h =
    let p = neither (int_eq x.id y.id) (has same_id x ys) h in
    rw (other_id y x (int_eq_equiv.symm y.id x.id ∙ p.0)) (ap (λ b. (list_any (λ o. clash y o) xs || false) || b) (past_one x xs ys p.1))

none_clash : (cs : List Column) → Apart same_id cs → list_any (λ c. list_any (λ o. clash c o) cs || false) cs ≡ false
none_clash [] a = refl
none_clash (x ∷ xs) a = rw (not_itself x, no_other x xs a.0) (past_one x xs xs a.0 ∙ none_clash xs a.1)

pub sound_schema-fits : (last_column last_partition : ℤ) (schema : TableSchema) (spec : Spec) → IsSoundSchema schema
    → has_column_above last_column (schema ∷ []) ≡ false → has_field_above last_partition (spec ∷ []) ≡ false
    → field_ids_fit last_column last_partition (schema ∷ []) (spec ∷ []) ≡ Ok tt
unfolding field_ids_fit
sound_schema-fits last_column last_partition schema spec sound c f =
    rw c (rw (none_clash schema.columns sound.ids) (rw f refl))
