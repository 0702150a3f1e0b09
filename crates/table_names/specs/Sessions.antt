-- A session's name is of letters, digits and underscores, so it is within one part of a path.
use Rattle.std.specs.Prelude.{◌≢◌, ℕ, List}
use Rattle.std.specs.List.{AllByRecursion}

abbrev pub HasNoSlash : List ℕ → Type 0
HasNoSlash name = AllByRecursion (λ byte. byte ≢ 47) name
