-- A run begins on an open table.
use Rattle.std.proofs.Common.{◌≡◌, ℕ, List, Bool, true, false, ◌&&◌, Option, Some, None, Result, Ok, Err, IfOk, codes, refl, sym, ap, subst, ◌∙◌}
use Rattle.std.specs.Option.{ForSome}
use Rattle.plain_types.specs.Steps.{◌>>=◌, or_fault, fault_as}
use Rattle.row_values.specs.declared.schema.TableSchema.{TableSchema}
use Rattle.row_values.specs.declared.value.Value.{Value}
use Rattle.store_core.specs.Files.{Files}
use Rattle.dml_parser.specs.declared.script.Script.{Script}
use Rattle.table_metadata.specs.Metadata.{Parts}
use Rattle.table_metadata.specs.declared.metadata_fault.MetadataFault.TheVariants as metadata
use Rattle.table_names.specs.Versions.{version_name, version_of}
use Rattle.table_state.specs.Form.{has_form, table_in_form, is_within_limits}
use Rattle.table_state.specs.declared.load_fault.LoadFault.{LoadFault}
use Rattle.table_state.specs.declared.load_fault.LoadFault.TheVariants as load
use Rattle.table_state.specs.Files.{current_schema, version_at}
use Rattle.table_metadata.specs.ById.{schema_with}
use Rattle.table_state.proofs.CallerLemmas.{two_steps}
use Rattle.session_steps.specs.Open.{IsOpen}
use Rattle.dml_program.specs.declared.begin.Begun.{Begun}
use Rattle.dml_program.specs.declared.status.TableKind.TheVariants.{NoVersion, Later}
use Rattle.dml_program.specs.declared.status.Status.{Status}
use Rattle.dml_program.specs.declared.status.Status.TheVariants as status
use Rattle.dml_program.specs.Beginning.{bad_table, begun_of, opened_at, script_by}
use Rattle.dml_program.specs.Creating.{StopsAt, file_given}
use Rattle.dml_program.specs.Opening.{Fault, RefusesTable, table_rows}
use Rattle.dml_program.specs.TableInForm.{version_in_form}
use Rattle.dml_program.proofs.Openings.{of_version}
use Rattle.dml_program.proofs.MainRows.{form_is, read_version, unfault, version_of_rows}

-- ---- the steps of an opening

module _ (table : List ℕ) (files : Files) where
  pub opened_is : (rows : List (List Value)) (version : ℕ) (p : Parts) → table_rows table files ≡ Ok rows
      → version_of table files ≡ Some version → version_at table version files ≡ Ok p → opened_at table files ≡ Ok (version, p)
  unfolding opened_at
  opened_is rows version p readable newest read =
      ap (λ (r : Result (List (List Value)) Fault). r >>= λ _. or_fault (NoVersion, table) (version_of table files) >>= λ v. fault_as (λ _. (Later, version_name table v)) (version_at table v files) >>= λ parts. Ok (v, parts)) readable
      ∙ ap (λ (o : Option ℕ). or_fault {E = Fault} (NoVersion, table) o >>= λ v. fault_as (λ _. (Later, version_name table v)) (version_at table v files) >>= λ parts. Ok (v, parts)) newest
      ∙ ap (λ (r : Result Parts LoadFault). fault_as {F = Fault} (λ _. (Later, version_name table version)) r >>= λ parts. Ok (version, parts)) read

  -- what is wrong with the table is wrong with its opening
  pub not_opened : (fault : Fault) → table_rows table files ≡ Err fault → opened_at table files ≡ Err fault
  unfolding opened_at
  not_opened fault e = ap (λ (r : Result (List (List Value)) Fault). r >>= λ _. or_fault (NoVersion, table) (version_of table files) >>= λ v. fault_as (λ _. (Later, version_name table v)) (version_at table v files) >>= λ parts. Ok (v, parts)) e

-- the same of a call that gives it
pub opened_rows : {X : Type 0} (rows : X → List (List Value)) (p : X → Parts) (v : X → ℕ) (r : Result X Status)
    (told later : Option Files) → later ≡ told → (table : List ℕ) (version : ℕ) (found : Option ℕ) → found ≡ Some version
    → ForSome told (λ files. found ≡ version_of table files)
    → IfOk r (λ x. ForSome later (λ files. version_in_form table version files ≡ Ok (rows x)))
    → IfOk r (λ x. ForSome later (λ files. version_at table version files ≡ Ok (p x))) → IfOk r (λ x. v x ≡ version)
    → IfOk r (λ x. ForSome told (λ files. opened_at table files ≡ Ok (v x, p x)))
opened_rows rows p v (Err s) told later same table version found some newest readable held at = tt
opened_rows rows p v (Ok x) told later same table version found some newest readable held at = λ files e.
    let is : version_of table files ≡ Some version = sym (newest files e) ∙ some in
    let read : table_rows table files ≡ Ok (rows x) = of_version table version files (sym is) ∙ ap (fault_as {F = Fault} (λ path. (Later, path))) (readable files (same ∙ e)) in
    opened_is table files (rows x) version (p x) read is (held files (same ∙ e)) ∙ ap (λ (n : ℕ). Ok (n, p x)) (sym at)

-- ---- an open table

second_true : (a b : Bool) → a && b ≡ true → b ≡ true
second_true true b both = both
second_true false b both = absurd cc

one_parts : (p q : Parts) (r : Result Parts LoadFault) → r ≡ Ok p → r ≡ Ok q → p ≡ q
one_parts p q r e h = cc

one_version : (a b : ℕ) (o : Option ℕ) → o ≡ Some a → o ≡ Some b → a ≡ b
one_version a b o e h = cc

schema_is : (p : Parts) (schema : TableSchema) → schema_with p.current_schema p.schemas ≡ Some schema → current_schema p ≡ Ok schema
schema_is p schema e = ap (λ (o : Option TableSchema). or_fault (load.Metadata (metadata.Shape (codes "current-schema-id"))) o) e

some_of : {A E : Type 0} (f : E) (o : Option A) (a : A) → or_fault f o ≡ Ok a → o ≡ Some a
some_of f (Some b) a e = cc
some_of f None a e = cc

abbrev pair_of : ℕ → Parts → Result (ℕ × Parts) Fault
pair_of version parts = Ok (version, parts)

-- the steps of an opening, from its end
module _ (table : List ℕ) (at : ℕ → Result Parts LoadFault) (v : ℕ) (p : Parts) where
  version_behind : (version : ℕ) (r : Result Parts LoadFault) → at version ≡ r
      → (fault_as {F = Fault} (λ _. (Later, version_name table version)) r >>= λ parts. pair_of version parts) ≡ pair_of v p
      → (version ≡ v) × (at version ≡ Ok p)
  version_behind version (Ok q) is e =
      let pair : ◌≡◌ {A = ℕ × Parts} (version, q) (v, p) = cc in
      (ap (λ (x : ℕ × Parts). x.0) pair, is ∙ ap (λ (x : ℕ × Parts). Ok x.1) pair)
  version_behind version (Err f) is e = absurd cc

  opened_behind : (readable : Result (List (List Value)) Fault) (newest : Option ℕ)
      → (readable >>= λ _. or_fault {E = Fault}
      (NoVersion, table) newest >>= λ version. fault_as (λ _. (Later, version_name table version))
      (at version) >>= λ parts. pair_of version parts) ≡ pair_of v p
      → (rows : List (List Value)) × (readable ≡ Ok rows) × (newest ≡ Some v) × (at v ≡ Ok p)
  opened_behind (Err f) newest e = absurd cc
  opened_behind (Ok rows) None e = absurd cc
  opened_behind (Ok rows) (Some version) e =
      let found = version_behind version (at version) refl e in
      (rows, refl, ap Some found.0, subst (λ (n : ℕ). at n ≡ Ok p) found.0 found.1)

abbrev begins : ℕ → TableSchema → Script → Result Begun Status
begins version schema script = Ok (record { version = version; schema = schema; script = script })

-- what follows the reading of the script's bytes
abbrev behind : List ℕ → Files → Option (List ℕ) → Result Begun Status
behind table files bytes = fault_as bad_table (opened_at table files) >>= λ o. or_fault (status.TableBad Later (version_name table o.0)) (schema_with o.1.current_schema o.1.schemas) >>= λ s. script_by s bytes >>= λ t. begins o.0 s t

module _ (table : List ℕ) (files : Files) where
  pub opens : (version : ℕ) (p : Parts) (schema : TableSchema) → opened_at table files ≡ Ok (version, p)
      → schema_with p.current_schema p.schemas ≡ Some schema → IsOpen table schema files version
  unfolding opened_at
  opens version p schema opened by_id =
      let behind = opened_behind table (λ v. version_at table v files) version p (table_rows table files) (version_of table files) opened in
      let found = version_of_rows table files behind.0 behind.1 in
      let same : found.0 ≡ version = one_version found.0 version (version_of table files) found.1 behind.2 in
      let plain : version_in_form table version files ≡ Ok behind.0 = subst (λ (v : ℕ). version_in_form table v files ≡ Ok behind.0) same found.2 in
      let form = form_is table version files behind.0 plain in
      record {
        newest = behind.2;
        held = p;
        read = behind.3;
        by_schema = schema_is p schema by_id;
        form = second_true (is_within_limits version p) (table_in_form p) (subst (λ (q : Parts). has_form version q ≡ true) (one_parts form.0 p (version_at table version files) form.1 behind.3) form.2);
        rows = behind.0;
        told = read_version table version files behind.0 plain;
      }

  module _ (name : List ℕ) (inputs : Files) where
    -- what a run begins with
    pub begun_is : (bytes : Option (List ℕ)) (version : ℕ) (p : Parts) (schema : TableSchema) (script : Script)
        → file_given name inputs ≡ Ok bytes → opened_at table files ≡ Ok (version, p)
        → schema_with p.current_schema p.schemas ≡ Some schema → script_by schema bytes ≡ Ok script
        → begun_of table name files inputs ≡ Ok (record { version = version; schema = schema; script = script })
    unfolding begun_of
    begun_is bytes version p schema script given opened by_id read =
        ap (λ (r : Result (Option (List ℕ)) Status). r >>= behind table files) given
        ∙ ap (λ (r : Result (ℕ × Parts) Fault). fault_as bad_table r >>= λ o. or_fault (status.TableBad Later (version_name table o.0))
        (schema_with o.1.current_schema o.1.schemas) >>= λ s. script_by s bytes >>= λ t. begins o.0 s t) opened
        ∙ ap (λ (o : Option TableSchema). or_fault (status.TableBad Later (version_name table version)) o >>= λ s. script_by s bytes >>= λ t. begins version s t) by_id ∙ ap (λ (r : Result Script Status). r >>= λ t. begins version schema t) read

    -- or the fault of the table
    begun_fault : (bytes : Option (List ℕ)) (fault : Fault) → file_given name inputs ≡ Ok bytes
        → opened_at table files ≡ Err fault → begun_of table name files inputs ≡ Err (bad_table fault)
    unfolding begun_of
    begun_fault bytes fault given e =
        ap (λ (r : Result (Option (List ℕ)) Status). r >>= behind table files) given
        ∙ ap (λ (r : Result (ℕ × Parts) Fault). fault_as bad_table r >>= λ o. or_fault (status.TableBad Later (version_name table o.0)) (schema_with o.1.current_schema o.1.schemas) >>= λ s. script_by s bytes >>= λ t. begins o.0 s t) e

    pub table_stops : (failed : Type 0) (bytes : Option (List ℕ)) (s : Status) → file_given name inputs ≡ Ok bytes
        → RefusesTable (table_rows table files) s → StopsAt failed (begun_of table name files inputs) s
    table_stops failed bytes (status.TableBad kind path) given refuses = begun_fault bytes (kind, path) given (not_opened table files (kind, path) refuses)
    table_stops failed bytes status.StoreFailed given refuses = tt
    table_stops failed bytes status.Memory given refuses = tt
    table_stops failed bytes status.Done given refuses = absurd refuses
    table_stops failed bytes status.Refused given refuses = absurd refuses
    table_stops failed bytes status.Usage given refuses = absurd refuses
    table_stops failed bytes (status.ScriptBad line sort) given refuses = absurd refuses
    table_stops failed bytes (status.InputFailed input) given refuses = absurd refuses
    table_stops failed bytes status.OutputFailed given refuses = absurd refuses
    table_stops failed bytes (status.StateUnknown session number) given refuses = absurd refuses

    -- it begins on an open table
    pub begins_open : (begun : Begun) → begun_of table name files inputs ≡ Ok begun → IsOpen table begun.schema files begun.version
    unfolding begun_of
    begins_open begun e =
        let given = two_steps (file_given name inputs) (λ b. fault_as bad_table (opened_at table files) >>= λ o. or_fault
        (status.TableBad Later (version_name table o.0)) (schema_with o.1.current_schema o.1.schemas) >>= λ s. script_by s b >>= λ t. Ok
        (record { version = o.0; schema = s; script = t })) begun e in
        let opened = two_steps (fault_as bad_table (opened_at table files)) (λ o. or_fault (status.TableBad Later (version_name table o.0)) (schema_with o.1.current_schema o.1.schemas) >>= λ s. script_by s given.0 >>= λ t. Ok (record { version = o.0; schema = s; script = t })) begun given.2 in
        let by_id = two_steps (or_fault (status.TableBad Later (version_name table opened.0.0)) (schema_with opened.0.1.current_schema opened.0.1.schemas)) (λ s. script_by s given.0 >>= λ t. Ok (record { version = opened.0.0; schema = s; script = t })) begun opened.2 in
        let read = two_steps (script_by by_id.0 given.0) (λ t. Ok (record { version = opened.0.0; schema = by_id.0; script = t })) begun by_id.2 in
        let is : ◌≡◌ {A = Begun} (record { version = opened.0.0; schema = by_id.0; script = read.0 }) begun = cc in
        subst (λ (b : Begun). IsOpen table b.schema files b.version) is
        (opens opened.0.0 opened.0.1 by_id.0 (unfault bad_table (opened_at table files) opened.0 opened.1) (some_of (status.TableBad Later (version_name table opened.0.0)) (schema_with opened.0.1.current_schema opened.0.1.schemas) by_id.0 by_id.1))
