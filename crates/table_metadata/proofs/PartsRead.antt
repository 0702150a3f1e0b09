-- The readings that metadata is made of, each with what it gives.
use Rattle.std.proofs.Common.{◌≡◌, List, Result, Ok, refl, subst}
use Rattle.serde_json.specs.Data.{Data}
use Rattle.table_metadata.specs.declared.references.RefItem.{RefItem}
use Rattle.table_metadata.specs.FieldIds.{field_ids_fit}
use Rattle.table_metadata.specs.Metadata.{Parts, parts_of}
use Rattle.table_metadata.specs.MissingKeys.{keys_stand}
use Rattle.table_metadata.specs.Properties.{properties_of}
use Rattle.table_metadata.specs.References.{listed_refs_of, refs_of}
use Rattle.table_metadata.specs.SchemaList.{schemas_of, specs_of}
use Rattle.table_metadata.specs.Snapshots.{snapshots_of}
use Rattle.table_metadata.specs.TableKeys.{plain_keys_of, current_ids_of, optional_keys_of}
use Rattle.plain_types.specs.Steps.{◌>>=◌}
use Rattle.plain_types.proofs.CallerLemmas.{one_value, two_steps}

pub record IsReadAs (d : Data) (p : Parts) : Type 0 where
  pub version : p.format_version ≡ 2
  pub stand : keys_stand d ≡ Ok tt
  pub plain : plain_keys_of d ≡ Ok (record { location = p.location; last_sequence = p.last_sequence; last_updated_ms = p.last_updated_ms; last_column = p.last_column })
  pub ids : current_ids_of d ≡ Ok (record { schema = p.current_schema; spec = p.default_spec; last_partition = p.last_partition })
  pub current : optional_keys_of d ≡ Ok p.current_snapshot
  pub snapshots : snapshots_of d ≡ Ok p.snapshots
  pub listed : List RefItem
  pub lists : listed_refs_of d ≡ Ok listed
  pub schemas : schemas_of d ≡ Ok p.schemas
  pub specs : specs_of p.current_schema p.schemas d ≡ Ok p.specs
  pub fit : field_ids_fit p.last_column p.last_partition p.schemas p.specs ≡ Ok tt
  pub properties : properties_of d ≡ Ok p.properties
  pub refs : refs_of p.current_snapshot p.snapshots listed ≡ Ok p.refs

pub readings_of : (d : Data) (p : Parts) → parts_of d ≡ Ok p → IsReadAs d p
unfolding parts_of
readings_of d p h =
    let s1 = two_steps (keys_stand d) _ p h in
    let s2 = two_steps (plain_keys_of d) _ p s1.2 in
    let s3 = two_steps (current_ids_of d) _ p s2.2 in
    let s4 = two_steps (optional_keys_of d) _ p s3.2 in
    let s5 = two_steps (snapshots_of d) _ p s4.2 in
    let s6 = two_steps (listed_refs_of d) _ p s5.2 in
    let s7 = two_steps (schemas_of d) _ p s6.2 in
    let s8 = two_steps (specs_of s3.0.schema s7.0 d) _ p s7.2 in
    let s9 = two_steps (field_ids_fit s2.0.last_column s3.0.last_partition s7.0 s8.0) _ p s8.2 in
    let s10 = two_steps (properties_of d) _ p s9.2 in
    let s11 = two_steps (refs_of s4.0 s5.0 s6.0) _ p s10.2 in
    subst (IsReadAs d) (one_value _ p _ refl s11.2) (record {
      version = refl;
      stand = s1.1;
      plain = s2.1;
      ids = s3.1;
      current = s4.1;
      snapshots = s5.1;
      listed = s6.0;
      lists = s6.1;
      schemas = s7.1;
      specs = s8.1;
      fit = s9.1;
      properties = s10.1;
      refs = s11.1;
    })

pub then_ok : {A B E : Type 0} → (r : Result A E) (f : A → Result B E) (a : A) (b : Result B E) → r ≡ Ok a → f a ≡ b → (r >>= f) ≡ b
then_ok r f a b h k = rw h k

pub parts_read : (d : Data) (p : Parts) → IsReadAs d p → parts_of d ≡ Ok p
unfolding parts_of
parts_read d p r =
    then_ok _ _ _ _ r.stand
    (then_ok _ _ _ _ r.plain
    (then_ok _ _ _ _ r.ids
    (then_ok _ _ _ _ r.current
    (then_ok _ _ _ _ r.snapshots
    (then_ok _ _ _ _ r.lists
    (then_ok _ _ _ _ r.schemas
    (then_ok _ _ _ _ r.specs
    (then_ok _ _ _ _ r.fit
    (then_ok _ _ _ _ r.properties
    (then_ok _ _ _ _ r.refs (rw r.version refl)))))))))))
