-- A script that was read meets what a run asks of its statements and of its session's name.
use Rattle.std.proofs.Common.{◌≡◌, ◌≤◌, ◌<◌, ◌^◌, ℕ, codes, true, List, [], ◌∷◌, length, refl, rules, arith}
use Rattle.std.specs.List.{AllByRecursion}
use Rattle.std.specs.Str.{IsUtf8}
use Rattle.row_values.specs.declared.schema.Column.{Column}
use Rattle.row_values.specs.declared.schema.TableSchema.{TableSchema}
use Rattle.sql_statements.specs.declared.statement.Statement.{Statement}
use Rattle.sql_statements.specs.Tables.{branch_of, is_dml}
use Rattle.dml_parser.specs.declared.script.Script.{Script}
use Rattle.dml_parser.specs.declared.script.SessionItem.{SessionItem}
use Rattle.dml_parser.specs.Read.{HasNo, IsRead}
use Rattle.dml_parser.proofs.CallerLemmas.{are_read, are_short, are_utf8, have_no_slash}
use Rattle.table_names.specs.Sessions.{HasNoSlash}
use Rattle.branch_commit.specs.Planning.{IsOfColumns}
use Rattle.session_steps.specs.Steps.{AreWorkable}
use Rattle.schedule_runner.specs.Scripts.{WasRead, name_in, statements_in}

all_weaker : {X : Type 0} (P Q : X → Type 0) → ((x : X) → P x → Q x) → (xs : List X) → AllByRecursion P xs → AllByRecursion Q xs
all_weaker P Q each [] all = tt
all_weaker P Q each (x ∷ xs) all = (each x all.0, all_weaker P Q each xs all.1)

of_columns : (columns : List Column) (s : Statement) → IsRead columns s → IsOfColumns columns [] s
of_columns columns s is = record { within = is.within; filters = is.filters; fits = is.fits; wide = refl; rows = refl }

in_session : (columns : List Column) (items : List SessionItem)
    → AllByRecursion (λ (item : SessionItem). AllByRecursion (IsRead columns) item.statements) items
    → AllByRecursion (IsRead columns) (statements_in (record { sessions = items }))
in_session columns [] all = tt
in_session columns (item ∷ items) all = all.0

count_in : (items : List SessionItem) → AllByRecursion (λ (item : SessionItem). length item.statements ≤ 4096) items
    → length (statements_in (record { sessions = items })) ≤ 4096
count_in [] all = omega arith
count_in (item ∷ items) all = all.0

slash_in : (items : List SessionItem) → AllByRecursion (λ (item : SessionItem). HasNo 47 item.name) items → HasNoSlash (name_in (record { sessions = items }))
slash_in [] all = tt
slash_in (item ∷ items) all = all.0

text_in : (items : List SessionItem) → AllByRecursion (λ (item : SessionItem). IsUtf8 item.name) items → IsUtf8 (name_in (record { sessions = items }))
text_in [] all = search rules
text_in (item ∷ items) all = all.0

module _ (schema : TableSchema) (script : Script) (was : WasRead schema script) where
  each_read : AllByRecursion (IsRead schema.columns) (statements_in script)
  each_read = in_session schema.columns script.sessions (are_read was.0 schema script was.1)

  few : length (statements_in script) ≤ 4096
  few = count_in script.sessions (are_short was.0 schema script was.1).statements_count

  below : length (statements_in script) ≤ 4096 → length (statements_in script) < 2 ^ 63
  below short = omega arith

  pub at_most : (n : ℕ) → n < length (statements_in script) → n < 4096
  at_most n within = let short = few in omega arith

  pub are_workable : AreWorkable schema [] (statements_in script)
  are_workable = record {
    columns = all_weaker (IsRead schema.columns) (IsOfColumns schema.columns []) (of_columns schema.columns) (statements_in script) each_read;
    main = all_weaker (IsRead schema.columns) (λ (s : Statement). branch_of s ≡ codes "main") (λ s is. is.branch) (statements_in script) each_read;
    few = below few;
  }

  pub are_changes : AllByRecursion (λ (s : Statement). is_dml s ≡ true) (statements_in script)
  are_changes = all_weaker (IsRead schema.columns) (λ (s : Statement). is_dml s ≡ true) (λ s is. is.changes) (statements_in script) each_read

  pub is_text : IsUtf8 (name_in script)
  is_text = text_in script.sessions (are_utf8 was.0 schema script was.1)

  pub has_no_slash : HasNoSlash (name_in script)
  has_no_slash = slash_in script.sessions (have_no_slash was.0 schema script was.1)
