-- A file of a version out of form is a fault of the table.
use Rattle.std.proofs.Common.{◌≡◌, ℕ, List, Option, Some, Result, Ok, Err, IfErr, refl, ap, sym, subst, ◌∙◌}
use Rattle.std.specs.Option.{ForSome}
use Rattle.plain_types.specs.Steps.{by_option, fault_as}
use Rattle.store_core.specs.Files.{Files}
use Rattle.table_names.specs.Versions.{version_of}
use Rattle.dml_program.specs.declared.status.TableKind.TheVariants.{NoVersion, Later}
use Rattle.dml_program.specs.declared.status.Status.{Status}
use Rattle.dml_program.specs.declared.status.Status.TheVariants as status
use Rattle.dml_program.specs.Opening.{Fault, Refuses, RefusesTable, table_rows}
use Rattle.dml_program.specs.TableInForm.{version_in_form}

abbrev as_fault : List ℕ → Fault
as_fault path = (Later, path)

pub refused_table : {A : Type 0} (wanted : Result A (List ℕ)) (s : Status) → Refuses wanted s → RefusesTable (fault_as as_fault wanted) s
refused_table wanted (status.TableBad kind path) r = rw (r.0, r.1) refl
refused_table wanted status.StoreFailed r = tt
refused_table wanted status.Memory r = tt
refused_table wanted status.Done r = r
refused_table wanted status.Refused r = r
refused_table wanted status.Usage r = r
refused_table wanted (status.ScriptBad line sort) r = r
refused_table wanted (status.InputFailed name) r = r
refused_table wanted status.OutputFailed r = r
refused_table wanted (status.StateUnknown session number) r = r

-- the rows of a table are those of its current version
pub of_version : (table : List ℕ) (version : ℕ) (files : Files) → Some version ≡ version_of table files
    → table_rows table files ≡ fault_as as_fault (version_in_form table version files)
of_version table version files is = unfold table_rows in ap (λ v. by_option v (λ n. fault_as as_fault (version_in_form table n files)) (Err (NoVersion, table))) (sym is)

pub refused_rows : {X : Type 0} (r : Result X Status) (told later : Option Files) → later ≡ told
    → (table : List ℕ) (version : ℕ) (found : Option ℕ) → found ≡ Some version
    → ForSome told (λ files. found ≡ version_of table files)
    → IfErr r (λ s. ForSome later (λ files. Refuses (version_in_form table version files) s)) → IfErr r (λ s. ForSome told (λ files. RefusesTable (table_rows table files) s))
refused_rows (Ok x) told later same table version found some is refused = tt
refused_rows (Err s) told later same table version found some is refused = λ files e. subst (λ rows. RefusesTable rows s) (sym (of_version table version files (sym some ∙ is files e))) (refused_table (version_in_form table version files) s (refused files (same ∙ e)))
