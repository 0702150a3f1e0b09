-- Metadata that is read is coherent.
use Rattle.std.proofs.Common.{◌≡◌, ℤ, List, Option, Some, None, Ok, IsSome, refl, ap, subst}
use Rattle.std.specs.Result.{IsOk, is_ok}
use Rattle.serde_json.specs.Data.{Data}
use Rattle.row_values.specs.declared.schema.TableSchema.{TableSchema}
use Rattle.row_values.specs.declared.partition.Spec.{Spec}
use Rattle.table_metadata.specs.declared.references.RefItem.{RefItem}
use Rattle.table_metadata.specs.declared.snapshots.Snapshot.{Snapshot}
use Rattle.table_metadata.specs.Coherent.{IsCoherent}
use Rattle.table_metadata.specs.FieldIds.{field_ids_fit}
use Rattle.table_metadata.specs.Metadata.{Parts, parts_of}
use Rattle.table_metadata.specs.MissingKeys.{keys_stand}
use Rattle.table_metadata.specs.Properties.{properties_of}
use Rattle.table_metadata.specs.References.{listed_refs_of, refs_of, all_refs, all_hold}
use Rattle.table_metadata.specs.SchemaList.{schemas_of, specs_of, columns_with}
use Rattle.table_metadata.specs.Snapshots.{snapshots_of}
use Rattle.table_metadata.specs.TableKeys.{plain_keys_of, current_ids_of, optional_keys_of}
use Rattle.plain_types.specs.Steps.{or_fault}
use Rattle.plain_types.proofs.CallerLemmas.{one_value, two_steps}

is_there : {A E : Type 0} → (e : E) (o : Option A) (a : A) → or_fault e o ≡ Ok a → IsSome o
is_there e (Some x) a h = refl
is_there e None a h = cc

current_schema_stands : (id : ℤ) (schemas : List TableSchema) (d : Data) (specs : List Spec) → specs_of id schemas d ≡ Ok specs
    → IsSome (columns_with id schemas)
unfolding specs_of
current_schema_stands id schemas d specs h =
    let s = two_steps _ _ specs h in is_there _ (columns_with id schemas) s.0 s.1

refs_hold : (current : Option ℤ) (snapshots : List Snapshot) (listed refs : List RefItem)
    → refs_of current snapshots listed ≡ Ok refs → IsOk (all_hold current snapshots refs)
unfolding refs_of
refs_hold current snapshots listed refs h =
    let s = two_steps (all_hold current snapshots (all_refs current listed)) _ refs h in
    let e : all_refs current listed ≡ refs = cc in
    subst (λ rs. IsOk (all_hold current snapshots rs)) e (ap is_ok s.1)

pub coherent_parts : (d : Data) (p : Parts) → parts_of d ≡ Ok p → IsCoherent p
unfolding parts_of
coherent_parts d p h =
    let s1 = two_steps (keys_stand d) _ p h in
    let s2 = two_steps (plain_keys_of d) _ p s1.2 in
    let s3 = two_steps (current_ids_of d) _ p s2.2 in
    let s4 = two_steps (optional_keys_of d) _ p s3.2 in
    let s5 = two_steps (snapshots_of d) _ p s4.2 in
    let s6 = two_steps (listed_refs_of d) _ p s5.2 in
    let s7 = two_steps (schemas_of d) _ p s6.2 in
    let s8 = two_steps (specs_of s3.0.schema s7.0 d) _ p s7.2 in
    let s9 = two_steps (field_ids_fit s2.0.last_column s3.0.last_partition s7.0 s8.0) _ p s8.2 in
    let s10 = two_steps (properties_of d) _ p s9.2 in
    let s11 = two_steps (refs_of s4.0 s5.0 s6.0) _ p s10.2 in
    subst IsCoherent (one_value _ p _ refl s11.2) (record {
      version = refl;
      schema = current_schema_stands s3.0.schema s7.0 d s8.0 s8.1;
      ids = ap is_ok s9.1;
      refs = refs_hold s4.0 s5.0 s6.0 s11.0 s11.1;
    })
