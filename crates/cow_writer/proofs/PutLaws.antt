-- Puts under the names of data files: under other names all is as it was.
use Rattle.std.proofs.Common.{◌≡◌, ◌≤◌, ℕ, List, Option, ◌∙◌, arith}
use Rattle.store_core.specs.Files.{Files}
use Rattle.table_names.specs.declared.names.Names.{Names}
use Rattle.table_names.specs.Drawing.{Draws, data_of}
use Rattle.table_names.specs.declared.puts.Folder.TheVariants as folder
use Rattle.table_names.proofs.CallerLemmas.{same_names}
use Rattle.cow_writer.specs.PutNames.{PutsDataFiles}

pub puts_drawn : (most : ℕ) (table : List ℕ) (names after : Names) (old new : Option Files)
    → Draws most (data_of table names) table names after old new → PutsDataFiles table names old new
puts_drawn most table names after old new draws = λ name other. draws.others name (λ n from below. other n from)

-- and under the names that are left, after it
pub others_then : (table : List ℕ) (names later : Names) (old middle new : Option Files)
    → later.run ≡ names.run → later.session ≡ names.session → names.next ≤ later.next
    → PutsDataFiles table names old middle → PutsDataFiles table later middle new → PutsDataFiles table names old new
others_then table names later old middle new run session above first second = λ name other.
    let same_name : (n : ℕ) → data_of table later n ≡ data_of table names n = same_names folder.Data table names later run session in
    second name (λ n from e. other n (omega arith) (e ∙ same_name n)) ∙ first name other
