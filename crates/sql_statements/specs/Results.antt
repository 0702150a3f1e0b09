-- When two results are alike: of a statement, refused for one reason or the same bag of rows; of a serial run, the same
-- branches with the same bags of rows.
use Rattle.std.specs.Prelude.{◌≡◌, List, [], ◌∷◌, ◌++◌, Option, Some, None, Result, Ok, Err}
use Rattle.plain_types.specs.Bags.{SameBag}
use Rattle.row_values.specs.declared.value.Value.{Value}
use Rattle.sql_statements.specs.declared.effect.SqlRefusal.{SqlRefusal}
use Rattle.sql_statements.specs.Serial.{Branch, State}

abbrev pub SameResult : Result (List (List Value)) SqlRefusal → Result (List (List Value)) SqlRefusal → Type 0
SameResult (Ok xs) (Ok ys) = SameBag xs ys
SameResult (Err why) (Err other) = why ≡ other
SameResult (Ok xs) (Err other) = ⊥
SameResult (Err why) (Ok ys) = ⊥

-- rows that stay as they are, beside a result
abbrev pub beside : List (List Value) → Result (List (List Value)) SqlRefusal → Result (List (List Value)) SqlRefusal
beside kept (Ok rows) = Ok (kept ++ rows)
beside kept (Err why) = Err why

abbrev pub SameRows : Option (List (List Value)) → Option (List (List Value)) → Type 0
SameRows (Some xs) (Some ys) = SameBag xs ys
SameRows None None = Unit {0}
SameRows (Some xs) None = ⊥
SameRows None (Some ys) = ⊥

-- branches of the same names in the same order, each with the same bag of rows
abbrev pub SameBranches : List Branch → List Branch → Type 0
SameBranches [] [] = Unit {0}
SameBranches (b ∷ bs) (c ∷ cs) = (b.name ≡ c.name) × SameBag b.rows c.rows × SameBranches bs cs
SameBranches [] (c ∷ cs) = ⊥
SameBranches (b ∷ bs) [] = ⊥

pub record SameState (a b : State) : Type 0 where
  pub schema : a.schema ≡ b.schema
  pub branches : SameBranches a.branches b.branches

-- the same tables, or nothing in both cases
abbrev pub SameOutcome : Option State → Option State → Type 0
SameOutcome (Some a) (Some b) = SameState a b
SameOutcome None None = Unit {0}
SameOutcome (Some a) None = ⊥
SameOutcome None (Some b) = ⊥
