-- The first version of a table can be written.
use Rattle.std.proofs.Common.{◌≡◌, ◌≤◌, ℕ, suc, pos, false, codes, IsSome, refl}
use Rattle.serde_json.specs.Data.{Data, no_items, depth}
use Rattle.serde_json.specs.Find.{as_object}
use Rattle.serde_json.specs.Written.{has_float}
use Rattle.serde_json.specs.View.{view}
use Rattle.metadata_writer.specs.NewTable.{Made, first_version, name_keys, one_item, order_data, order_keys, schema_keys, schema_list, spec_data, spec_keys, spec_list, time_keys, version_keys}
use Rattle.metadata_writer.specs.Writable.{IsWritable}
use Rattle.metadata_writer.proofs.Kept.{object-with_key}
use Rattle.metadata_writer.proofs.Within.{Within, and_item-within, array-within, empty-within, long-within, no_items-within, string-within, with_key-within}

one_item-within : (n : ℕ) (d : Data) → Within n d → Within (suc n) (one_item d)
one_item-within n d w = array-within n _ (and_item-within n d no_items w (no_items-within n))

name_keys-within : (n : ℕ) (t : Made) → Within (suc n) (name_keys t)
unfolding name_keys version_keys
name_keys-within n t =
    with_key-within n (codes "location") _ _ (string-within n t.location)
    (with_key-within n (codes "table-uuid") _ _ (string-within n t.uuid)
    (with_key-within n (codes "format-version") _ _ (long-within n (pos 2)) (empty-within n)))

time_keys-within : (n : ℕ) (t : Made) → Within (suc n) (time_keys t)
unfolding time_keys
time_keys-within n t =
    with_key-within n (codes "last-updated-ms") _ _ (long-within n t.created_ms)
    (with_key-within n (codes "last-sequence-number") _ _ (long-within n (pos 0)) (name_keys-within n t))

schema_keys-within : (n : ℕ) (t : Made) → Within n (t.schema) → Within (suc (suc n)) (schema_keys t)
unfolding schema_keys schema_list
schema_keys-within n t w =
    with_key-within (suc n) (codes "last-column-id") _ _ (long-within (suc n) t.last_column)
    (with_key-within (suc n) (codes "current-schema-id") _ _ (long-within (suc n) t.schema_id)
    (with_key-within (suc n) (codes "schemas") _ _ (one_item-within n (t.schema) w) (time_keys-within (suc n) t)))

spec_data-within : (n : ℕ) (fields : Data) → Within n fields → Within (suc n) (spec_data fields)
unfolding spec_data
spec_data-within n fields w =
    with_key-within n (codes "fields") fields _ w (with_key-within n (codes "spec-id") _ _ (long-within n (pos 0)) (empty-within n))

spec_keys-within : (n : ℕ) (t : Made) → Within (suc n) (t.schema) → Within n (t.fields) → Within (suc (suc (suc n))) (spec_keys t)
unfolding spec_keys spec_list
spec_keys-within n t ws wf =
    with_key-within (suc (suc n)) (codes "last-partition-id") _ _ (long-within (suc (suc n)) t.last_partition)
    (with_key-within (suc (suc n)) (codes "default-spec-id") _ _ (long-within (suc (suc n)) (pos 0))
    (with_key-within (suc (suc n)) (codes "partition-specs") _ _ (one_item-within (suc n) _ (spec_data-within n _ wf)) (schema_keys-within (suc n) t ws)))

order_data-within : (n : ℕ) → Within (suc (suc n)) order_data
unfolding order_data
order_data-within n =
    with_key-within (suc n) (codes "fields") _ _ (array-within n no_items (no_items-within n)) (with_key-within (suc n) (codes "order-id") _ _ (long-within (suc n) (pos 0)) (empty-within (suc n)))

order_keys-within : (n : ℕ) (t : Made) → Within (suc (suc n)) (t.schema) → Within (suc n) (t.fields) → Within (suc (suc (suc (suc n)))) (order_keys t)
unfolding order_keys
order_keys-within n t ws wf =
    with_key-within (suc (suc (suc n))) (codes "default-sort-order-id") _ _ (long-within (suc (suc (suc n))) (pos 0))
    (with_key-within (suc (suc (suc n))) (codes "sort-orders") _ _ (one_item-within (suc (suc n)) _ (order_data-within n)) (spec_keys-within (suc n) t ws wf))

first_version-within : (n : ℕ) (t : Made) → Within (suc (suc n)) (t.schema) → Within (suc n) (t.fields)
    → Within (suc (suc (suc n))) (t.properties) → Within (suc (suc (suc (suc n)))) (first_version t)
unfolding first_version
first_version-within n t ws wf wp = with_key-within (suc (suc (suc n))) (codes "properties") _ _ wp (order_keys-within n t ws wf)

first_version-object : (t : Made) → IsSome (as_object (first_version t))
unfolding first_version order_keys spec_keys spec_list schema_keys schema_list time_keys name_keys version_keys
first_version-object t =
    object-with_key (codes "properties") _ _
    (object-with_key (codes "default-sort-order-id") _ _ (object-with_key (codes "sort-orders") _ _
    (object-with_key (codes "last-partition-id") _ _ (object-with_key (codes "default-spec-id") _ _ (object-with_key (codes "partition-specs") _ _
    (object-with_key (codes "last-column-id") _ _ (object-with_key (codes "current-schema-id") _ _ (object-with_key (codes "schemas") _ _
    (object-with_key (codes "last-updated-ms") _ _ (object-with_key (codes "last-sequence-number") _ _
    (object-with_key (codes "location") _ _ (object-with_key (codes "table-uuid") _ _ (object-with_key (codes "format-version") _ _ refl)))))))))))))

pub writable-first_version : (t : Made) → has_float (t.schema) ≡ false → depth (t.schema) ≤ 125 → has_float (t.fields) ≡ false
    → depth (t.fields) ≤ 124 → has_float (t.properties) ≡ false → depth (t.properties) ≤ 126 → IsWritable (first_version t)
writable-first_version t a b c d e f =
    let all = first_version-within 123 t (record { whole = a; nests = b }) (record { whole = c; nests = d }) (record { whole = e; nests = f }) in
    record { object = first_version-object t; whole = all.whole; nests = all.nests }
