-- A statement that keeps each row and inserts none leaves the rows as they are.
use Rattle.std.proofs.Common.{◌≡◌, Bool, true, List, [], ◌∷◌, ◌++◌, append-nil, length, map, flat_map, Option, None, Ok, refl, ap, ◌∙◌}
use Rattle.std.specs.List.{list_all}
use Rattle.std.proofs.lemmas.Bool.{and_parts}
use Rattle.row_values.specs.declared.schema.Column.{Column}
use Rattle.row_values.specs.declared.value.Value.{Value}
use Rattle.sql_statements.specs.declared.effect.Effect.{Effect}
use Rattle.sql_statements.specs.declared.effect.Effect.TheVariants as effects
use Rattle.sql_statements.specs.declared.effect.SqlRefusal.{SqlRefusal}
use Rattle.sql_statements.specs.declared.statement.Source.{Source}
use Rattle.sql_statements.specs.declared.statement.Statement.{Statement}
use Rattle.sql_statements.specs.Effects.{effect, insertions, refusal, remaining, remains, result_of, rows_after, unless_refused}
use Rattle.sql_statements.specs.NewRows.{NewRow, row_of}
use Rattle.session_machine.specs.Sights.{inserts_none, is_keep, keeps_all}

none_inserted : (made : List NewRow) → inserts_none made ≡ true → made ≡ []
none_inserted [] e = refl
none_inserted (row ∷ made) e = absurd cc

module _ (sources : List Source) (s : Statement) where
  abbrev keeps : List Value → Bool
  keeps row = is_keep (effect sources s row)

  row_stays : (row : List Value) → keeps row ≡ true → remains sources s row ≡ row ∷ []
  unfolding remains
  row_stays row e = by (effect sources s row) e
    where
      by : (x : Effect) → is_keep x ≡ true → remaining x row ≡ row ∷ []
      by effects.Keep h = refl
      by effects.Remove h = absurd cc
      by (effects.Replace new) h = absurd cc

  rows_stay : (rows : List (List Value)) → list_all keeps rows ≡ true → flat_map (remains sources s) rows ≡ rows
  rows_stay [] e = refl
  rows_stay (row ∷ rows) e =
      let both = and_parts (keeps row) (list_all keeps rows) e in
      ap (λ (own : List (List Value)). own ++ flat_map (remains sources s) rows) (row_stays row both.0) ∙ ap (λ (more : List (List Value)). row ∷ more) (rows_stay rows both.1)

  pub leaves_all : (columns : List Column) (rows : List (List Value)) → keeps_all sources s columns rows ≡ true
      → refusal columns sources s rows ≡ None → result_of columns sources s rows ≡ Ok rows
  leaves_all columns rows e accepted =
      let made = insertions (length columns) sources s rows in
      let both = and_parts (list_all keeps rows) (inserts_none made) e in
      ap (λ (why : Option SqlRefusal). unless_refused why (rows_after (length columns) sources s rows)) accepted
      ∙ ap (λ (more : List NewRow). Ok (flat_map (remains sources s) rows ++ map row_of more)) (none_inserted made both.1)
      ∙ ap Ok (append-nil (flat_map (remains sources s) rows) ∙ rows_stay rows both.0)
