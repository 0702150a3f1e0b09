-- Puts under the names of manifests and lists: under other names all is as it was.
use Rattle.std.proofs.Common.{◌≡◌, ◌≤◌, ℕ, List, Option, ◌∙◌, arith}
use Rattle.store_core.specs.Files.{Files}
use Rattle.table_names.specs.declared.names.Names.{Names}
use Rattle.table_names.specs.Drawing.{Draws, metadata_of}
use Rattle.table_names.specs.declared.puts.Folder.TheVariants as folder
use Rattle.table_names.proofs.CallerLemmas.{same_names}
use Rattle.commit_builder.specs.Puts.{PutsManifests}

pub puts_drawn : (most : ℕ) (table : List ℕ) (names after : Names) (old new : Option Files)
    → Draws most (metadata_of table names) table names after old new → PutsManifests table names old new
puts_drawn most table names after old new draws = λ name other. draws.others name (λ n from below. other n from)

-- and under the names that are left, after it
pub others_then : (table : List ℕ) (names later : Names) (old middle new : Option Files)
    → later.run ≡ names.run → later.session ≡ names.session → names.next ≤ later.next
    → PutsManifests table names old middle → PutsManifests table later middle new → PutsManifests table names old new
others_then table names later old middle new run session above first second = λ name other.
    let same_name : (n : ℕ) → metadata_of table later n ≡ metadata_of table names n = same_names folder.Metadata table names later run session in
    second name (λ n from e. other n (omega arith) (e ∙ same_name n)) ∙ first name other
