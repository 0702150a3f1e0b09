-- What a plan decides on a branch of this schema is of its columns.
use Rattle.std.proofs.Common.{◌≡◌, codes, List, [], Option, Some, None, Result, Ok, Err, IfErr, IfOk, length, option_map, ap, sym, subst, ◌∙◌}
use Rattle.std.specs.Prelude.{IsTrue}
use Rattle.plain_types.specs.Steps.{by_option, or_fault}
use Rattle.row_values.specs.declared.schema.Column.{Column}
use Rattle.row_values.specs.declared.schema.TableSchema.{TableSchema}
use Rattle.row_values.specs.Rows.{AreRows}
use Rattle.sql_statements.specs.declared.statement.Source.{Source}
use Rattle.sql_statements.specs.declared.statement.Statement.{Statement}
use Rattle.sql_statements.specs.Effects.{refusal}
use Rattle.sql_statements.specs.Fits.{are_wide}
use Rattle.sql_statements.proofs.CallerLemmas.{rows_are_wide}
use Rattle.store_core.specs.Files.{Files}
use Rattle.table_names.specs.declared.names.Names.{Names}
use Rattle.table_metadata.specs.declared.metadata.Metadata.{Metadata}
use Rattle.table_metadata.specs.declared.metadata_fault.MetadataFault.TheVariants as metadata
use Rattle.table_metadata.specs.Metadata.{parts}
use Rattle.table_state.specs.declared.load_fault.LoadFault.{LoadFault}
use Rattle.table_state.specs.declared.load_fault.LoadFault.TheVariants as fault
use Rattle.table_state.specs.Files.{current_schema}
use Rattle.table_metadata.specs.ById.{schema_with}
use Rattle.table_state.specs.declared.state.State.{State}
use Rattle.change_sets.specs.declared.scanned.Decisions.{Decisions}
use Rattle.change_sets.specs.declared.scanned.ScannedFile.{ScannedFile}
use Rattle.table_scan.specs.Scanning.{AreCurrentFiles}
use Rattle.cow_writer.specs.Copies.{behind, files_after, pieces_in, schema_of}
use Rattle.change_sets.specs.Deciding.{made_of, written_of}
use Rattle.cow_writer.specs.Reading.{AreShort}
use Rattle.cow_writer.proofs.CallerLemmas.{written_are}
use Rattle.table_scan.specs.Decisions.{decisions_of, hit_rows}
use Rattle.branch_commit.specs.Committing.{IsPlanned, change_by, columns_of, decided_by}
use Rattle.table_scan.proofs.CallerLemmas.{hits_are_rows, made_are_rows}
use Rattle.branch_commit.specs.declared.outcome.Pending.{Pending}
use Rattle.branch_commit.specs.Plans.{plan_of}
use Rattle.branch_commit.specs.Planning.{HasSchema, IsOfColumns, IsReady}

abbrev pub no_schema : LoadFault
no_schema = fault.Metadata (metadata.Shape (codes "current-schema-id"))

pub found_some : (e : LoadFault) (o : Option TableSchema) (s : TableSchema) → or_fault e o ≡ Ok s → o ≡ Some s
found_some e (Some a) s h = cc
found_some e None s h = absurd cc

schema_is : (m : Metadata) (s : TableSchema) → current_schema (parts m) ≡ Ok s → schema_of m ≡ s
schema_is m s h =
    ap (λ (o : Option TableSchema). by_option o (λ (schema : TableSchema). schema) (record { id = m.current_schema; columns = [] })) (found_some no_schema (schema_with m.current_schema m.schemas) s h)

pub columns_are : (base : State) (s : TableSchema) → HasSchema base s → columns_of base ≡ s.columns
columns_are base s has = ap (λ (schema : TableSchema). schema.columns) (schema_is base.metadata s has)

pub hits_are_wide : (base : State) (s : TableSchema) (scanned : List ScannedFile) → HasSchema base s
    → AreCurrentFiles (parts base.metadata) scanned → IsTrue (are_wide (length s.columns) (hit_rows scanned))
hits_are_wide base s scanned has are = rows_are_wide s.columns (hit_rows scanned) (hits_are_rows s.columns scanned (are s has))

pub written_fit : (base : State) (s : TableSchema) (sources : List Source) (statement : Statement) (scanned : List ScannedFile)
    (decisions : Decisions) → HasSchema base s → IsOfColumns s.columns sources statement
    → AreCurrentFiles (parts base.metadata) scanned
    → decisions ≡ decisions_of sources statement (length s.columns) scanned (hit_rows scanned) → refusal s.columns sources statement (hit_rows scanned) ≡ None → AreRows (columns_of base) (written_of scanned decisions)
written_fit base s sources statement scanned decisions has fits are is none =
    let made = subst (λ (d : Decisions). AreRows s.columns (made_of d)) (sym is) (made_are_rows s.columns sources statement scanned fits.rows fits.fits (are s has) none) in
    subst (λ (cs : List Column). AreRows cs (written_of scanned decisions)) (sym (columns_are base s has)) (written_are s.columns scanned decisions (are s has) made)

-- what holds of each value or fault holds of the one that it is
pub err_is : {X E : Type 0} (r : Result X E) (e : E) (P : E → Type 0) → r ≡ Err e → IfErr r P → P e
err_is (Ok x) e P is holds = absurd cc
err_is (Err f) e P is holds = let same : f ≡ e = cc in subst P same holds

pub ok_is : {X E : Type 0} (r : Result X E) (x : X) (P : X → Type 0) → r ≡ Ok x → IfOk r P → P x
ok_is (Ok y) x P is holds = let same : y ≡ x = cc in subst P same holds
ok_is (Err f) x P is holds = absurd cc

-- ---- what is ready

pub two : (P : List ScannedFile → Decisions → Type 0) (a b : List ScannedFile) (d e : Decisions) → a ≡ b → d ≡ e → P a d → P b e
two P a b d e x y p = subst (P b) y (subst (λ (scanned : List ScannedFile). P scanned d) x p)

told : (given new : Option Files) (f : Files → Files) (old : Files) → given ≡ Some old → new ≡ option_map f given → new ≡ Some (f old)
told given new f old is e = e ∙ ap (option_map f) is

pub is_ready : (sources : List Source) (s : Statement) (names : Names) (base : State) (old : Files) (given new : Option Files)
    (after : Names) (pending : Pending) (scanned : List ScannedFile) → given ≡ Some old → pending.base ≡ base
    → pending.plan ≡ plan_of base s → IsPlanned base sources s scanned old
    → pending.change ≡ change_by base scanned sources s names → AreRows (columns_of base) (written_of scanned (decided_by base scanned sources s)) → AreShort (columns_of base) (pieces_in base scanned (decided_by base scanned sources s))
    → new ≡ option_map (files_after base scanned (decided_by base scanned sources s) names) given → after ≡ behind (length (pieces_in base scanned (decided_by base scanned sources s))) names → IsReady sources s names base old new after pending
is_ready sources s names base old given new after pending scanned is read fixed planned change rows short files rest = record {
  read = read;
  fixed = fixed;
  scanned = scanned;
  planned = planned;
  change = change;
  rows = rows;
  short = short;
  files = told given new (files_after base scanned (decided_by base scanned sources s) names) old is files;
  rest = rest;
}
