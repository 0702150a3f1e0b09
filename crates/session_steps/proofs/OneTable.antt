-- The version that a statement was planned on has the metadata of the open table, and so has the one that it was validated on.
use Rattle.std.proofs.Common.{◌≡◌, ℕ, true, List, Option, Some, Ok, sym, ap, ◌∙◌}
use Rattle.plain_types.specs.Steps.{◌>>=◌, fault_as, or_fault}
use Rattle.row_values.specs.declared.schema.TableSchema.{TableSchema}
use Rattle.sql_statements.specs.declared.statement.Source.{Source}
use Rattle.sql_statements.specs.declared.statement.Statement.{Statement}
use Rattle.store_core.specs.Files.{Files, KeepsFiles}
use Rattle.table_names.specs.Versions.{version_name}
use Rattle.plain_types.proofs.CallerLemmas.{one_value}
use Rattle.table_metadata.specs.declared.metadata.Metadata.{Metadata}
use Rattle.table_metadata.specs.Metadata.{Parts, metadata_of, parts}
use Rattle.table_state.specs.Form.{table_in_form}
use Rattle.table_state.proofs.CallerLemmas.{version_stands}
use Rattle.table_state.specs.declared.load_fault.LoadFault.TheVariants as fault
use Rattle.table_state.specs.Files.{version_at}
use Rattle.table_state.specs.States.{IsVersionOf}
use Rattle.commit_builder.specs.declared.commit.Prepared.{Prepared}
use Rattle.commit_builder.specs.OneTable.{HasSchemasOf}
use Rattle.branch_commit.specs.declared.outcome.Pending.{Pending}
use Rattle.session_steps.specs.Open.{IsOpen}
use Rattle.session_steps.specs.Work.{IsSwapping}
use Rattle.session_steps.proofs.OneVersion.{base_version, head_version}

version_read : (table : List ℕ) (version : ℕ) (files : Files) (metadata : Metadata) → IsVersionOf table version files metadata
    → version_at table version files ≡ Ok (parts metadata)
unfolding version_at
version_read table version files metadata is =
    ap (λ (found : Option (List ℕ)). or_fault (fault.Missing (version_name table version)) found >>= λ bytes. fault_as fault.Metadata (metadata_of bytes)) is.stands
    ∙ ap (fault_as fault.Metadata) is.read.read

module _ (table : List ℕ) (schema : TableSchema) (sources : List Source) (s : Statement) (files : Files) (current : ℕ) (pending : Pending) (prepared : Prepared) (was : IsOpen table schema files current) (is : IsSwapping table schema sources s files pending prepared) where
  pub validated_stays : KeepsFiles (Some is.old) (Some files)
  validated_stays = λ name bytes there. is.stays name bytes (is.kept name bytes there)

  pub planned_stays : KeepsFiles (Some is.pends.old) (Some files)
  planned_stays = λ name bytes there. validated_stays name bytes (is.pends.stays name bytes (is.pends.kept name bytes there))

  pub base_read : version_at table current files ≡ Ok (parts pending.base.metadata)
  base_read =
      ap (λ (version : ℕ). version_at table version files) (sym (base_version table schema sources s files current pending prepared was is))
      ∙ version_stands is.pends.old files planned_stays table pending.base.version (parts pending.base.metadata) (version_read table pending.base.version is.pends.old pending.base.metadata is.pends.loaded.state.metadata)

  head_read : version_at table current files ≡ Ok (parts is.head.metadata)
  head_read =
      ap (λ (version : ℕ). version_at table version files) (sym (head_version table schema sources s files current pending prepared was is))
      ∙ version_stands is.old files validated_stays table is.head.version (parts is.head.metadata) (version_read table is.head.version is.old is.head.metadata is.loaded.state.metadata)

  base_held : parts pending.base.metadata ≡ was.held
  base_held = one_value (parts pending.base.metadata) was.held (version_at table current files) base_read was.read

  pub head_held : parts is.head.metadata ≡ was.held
  head_held = one_value (parts is.head.metadata) was.held (version_at table current files) head_read was.read

  pub base_form : table_in_form (parts pending.base.metadata) ≡ true
  base_form = ap table_in_form base_held ∙ was.form

  pub head_form : table_in_form (parts is.head.metadata) ≡ true
  head_form = ap table_in_form head_held ∙ was.form

  same_parts : parts is.head.metadata ≡ parts pending.base.metadata
  same_parts = head_held ∙ sym base_held

  pub one_table : HasSchemasOf pending.base is.head
  one_table = record {
    schemas = ap (λ (p : Parts). p.schemas) same_parts;
    current = ap (λ (p : Parts). p.current_schema) same_parts;
    specs = ap (λ (p : Parts). p.specs) same_parts;
  }
