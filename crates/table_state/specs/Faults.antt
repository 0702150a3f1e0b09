-- The fault of a part as one of the whole, of which want of memory is the same.
use Rattle.std.specs.Prelude.{ℕ, List}
use Rattle.store_core.specs.declared.store.StoreFault.{StoreFault}
use Rattle.store_core.specs.declared.store.StoreFault.TheVariants as store
use Rattle.avro_container.specs.declared.fault.ContainerFault.{ContainerFault}
use Rattle.avro_container.specs.declared.fault.ContainerFault.TheVariants as container
use Rattle.avro_rows.specs.declared.row_fault.RowFault.{RowFault}
use Rattle.avro_rows.specs.declared.row_fault.RowFault.TheVariants as rows
use Rattle.manifest_files.specs.declared.manifest_fault.ManifestFault.{ManifestFault}
use Rattle.manifest_files.specs.declared.manifest_fault.ManifestFault.TheVariants as manifest
use Rattle.table_state.specs.declared.load_fault.LoadFault.{LoadFault}
use Rattle.table_state.specs.declared.load_fault.LoadFault.TheVariants as fault

abbrev pub store_fault : StoreFault → LoadFault
store_fault store.Failed = fault.Store
store_fault store.Memory = fault.Memory

abbrev pub manifest_fault : List ℕ → ManifestFault → LoadFault
manifest_fault path manifest.Memory = fault.Memory
manifest_fault path other = fault.Manifest path other

abbrev pub container_fault : List ℕ → ContainerFault → LoadFault
container_fault path container.Memory = fault.Memory
container_fault path other = fault.Container path other

abbrev pub rows_fault : List ℕ → RowFault → LoadFault
rows_fault path rows.Memory = fault.Memory
rows_fault path other = fault.Rows path other
