-- The words with a meaning of their own, in capitals or not.
use Rattle.std.specs.Prelude.{ℕ, List, [], ◌∷◌, Option, Some, None, codes, if◌then◌else◌}
use Rattle.std.specs.Str.{str_eq_ignore_ascii_case}
use Rattle.script_words.specs.declared.keyword.Keyword.{Keyword}
use Rattle.script_words.specs.declared.keyword.Keyword.TheVariants as key

abbrev pub keywords : List (List ℕ × Keyword)
keywords =
    (codes "SOURCE", key.Source) ∷
    (codes "FROM", key.From) ∷
    (codes "SESSION", key.Session) ∷
    (codes "SCHEDULE", key.Schedule) ∷
    (codes "BOOLEAN", key.Boolean) ∷
    (codes "INT", key.Int) ∷
    (codes "BIGINT", key.Bigint) ∷
    (codes "DATE", key.Date) ∷
    (codes "TIMESTAMP", key.Timestamp) ∷
    (codes "DECIMAL", key.Decimal) ∷
    (codes "STRING", key.String) ∷
    (codes "BINARY", key.Binary) ∷
    (codes "INSERT", key.Insert) ∷
    (codes "INTO", key.Into) ∷
    (codes "VALUES", key.Values) ∷
    (codes "DELETE", key.Delete) ∷
    (codes "WHERE", key.Where) ∷
    (codes "UPDATE", key.Update) ∷
    (codes "SET", key.Set) ∷
    (codes "MERGE", key.Merge) ∷
    (codes "USING", key.Using) ∷
    (codes "ON", key.On) ∷
    (codes "ALTER", key.Alter) ∷
    (codes "TABLE", key.Table) ∷
    (codes "CREATE", key.Create) ∷
    (codes "DROP", key.Drop) ∷
    (codes "BRANCH", key.Branch) ∷
    (codes "SELECT", key.Select) ∷
    (codes "WHEN", key.When) ∷
    (codes "MATCHED", key.Matched) ∷
    (codes "AND", key.And) ∷
    (codes "THEN", key.Then) ∷
    (codes "NOT", key.Not) ∷
    (codes "BY", key.By) ∷
    (codes "TARGET", key.Target) ∷
    (codes "OR", key.Or) ∷
    (codes "TRUE", key.True) ∷
    (codes "FALSE", key.False) ∷
    (codes "IS", key.Is) ∷
    (codes "NULL", key.Null) ∷
    (codes "IN", key.In) ∷
    (codes "BETWEEN", key.Between) ∷
    (codes "X", key.X) ∷
    []

abbrev pub find_keyword : List (List ℕ × Keyword) → List ℕ → Option Keyword
find_keyword [] word = None
find_keyword (entry ∷ entries) word = if str_eq_ignore_ascii_case entry.0 word then Some entry.1 else find_keyword entries word

-- the keyword that the word is
unfoldable pub keyword_of : List ℕ → Option Keyword
keyword_of word = find_keyword keywords word
