-- Entries of one file: each entry is of its own file, and two of one file have one path.
use Rattle.std.proofs.Common.{◌≡◌, nat_eq, ◌&&◌, Bool, true, false, List, [], ◌∷◌, Option, Some, None, refl, sym, ◌∙◌}
use Rattle.std.specs.Cmp.Lexicographic.{pointwise}
use Rattle.std.specs.Option.{option_eq}
use Rattle.std.specs.Ordering.{int_eq}
use Rattle.std.proofs.lemmas.Bool.{and_parts}
use Rattle.std.proofs.lemmas.Cmp.{int_eq_equiv, nat_eq_equiv}
use Rattle.plain_types.proofs.CallerLemmas.{Tells-texts}
use Rattle.row_values.specs.declared.value.Value.{Value}
use Rattle.row_values.specs.declared.value.Value.TheVariants as value
use Rattle.row_values.specs.contracts.value.ValuePartialEq.TheImpl as values
use Rattle.kind_values.specs.declared.stats.ColumnStats.{ColumnStats}
use Rattle.kind_values.specs.declared.stats.Stats.{Stats}
use Rattle.kind_values.specs.contracts.stats.ColumnStatsPartialEq.TheImpl as columns
use Rattle.kind_values.specs.contracts.stats.StatsPartialEq.TheImpl as statistics
use Rattle.manifest_files.specs.declared.entry.Content.{Content}
use Rattle.manifest_files.specs.declared.entry.Content.TheVariants as content
use Rattle.manifest_files.specs.declared.entry.Entry.{Entry}
use Rattle.manifest_files.specs.contracts.entry.ContentPartialEq.TheImpl as contents
use Rattle.change_sets.specs.Same.{same_file}

-- ---- each value is the same as itself

both : (a b : Bool) → a ≡ true → b ≡ true → (a && b) ≡ true
both a b h k = rw (h, k) refl

each_itself : {X : Type 0} (same : X → X → Bool) → ((x : X) → same x x ≡ true) → (xs : List X) → pointwise same xs xs ≡ true
each_itself same itself [] = refl
each_itself same itself (x ∷ xs) = both (same x x) (pointwise same xs xs) (itself x) (each_itself same itself xs)

option_itself : {X : Type 0} (same : X → X → Bool) → ((x : X) → same x x ≡ true) → (x : Option X) → option_eq same x x ≡ true
option_itself same itself None = refl
option_itself same itself (Some x) = itself x

bool_itself : (b : Bool) → values.ghosts.eq (value.Bool b) (value.Bool b) ≡ true
bool_itself true = refl
bool_itself false = refl

value_itself : (v : Value) → values.ghosts.eq v v ≡ true
value_itself value.Null = refl
value_itself (value.Bool b) = bool_itself b
value_itself (value.Int n) = int_eq_equiv.refl n
value_itself (value.Long n) = int_eq_equiv.refl n
value_itself (value.Date n) = int_eq_equiv.refl n
value_itself (value.Timestamp n) = int_eq_equiv.refl n
value_itself (value.Decimal n scale) = both (int_eq n n) (nat_eq scale scale) (int_eq_equiv.refl n) (nat_eq_equiv.refl scale)
value_itself (value.Text text) = Tells-texts.itself text
value_itself (value.Bytes bytes) = Tells-texts.itself bytes

content_itself : (c : Content) → contents.ghosts.eq c c ≡ true
content_itself content.Data = refl
content_itself content.PositionDeletes = refl
content_itself content.EqualityDeletes = refl

abbrev same_value : Value → Value → Bool
same_value = values.ghosts.eq

column_itself : (c : ColumnStats) → columns.ghosts.eq c c ≡ true
column_itself c =
    both (int_eq c.id c.id) _ (int_eq_equiv.refl c.id)
    (both (option_eq nat_eq c.values c.values) _ (option_itself nat_eq nat_eq_equiv.refl c.values)
    (both (option_eq nat_eq c.nulls c.nulls) _ (option_itself nat_eq nat_eq_equiv.refl c.nulls)
    (both (option_eq same_value c.lower c.lower) _ (option_itself same_value value_itself c.lower) (option_itself same_value value_itself c.upper))))

stats_itself : (s : Stats) → statistics.ghosts.eq s s ≡ true
stats_itself s = each_itself columns.ghosts.eq column_itself s.columns

-- ---- the same, field by field

abbrev amounts_agree : Entry → Entry → Bool
amounts_agree one other = nat_eq one.count other.count && (nat_eq one.size other.size && (statistics.ghosts.eq one.stats other.stats && (pointwise int_eq one.equality_ids other.equality_ids && option_eq (pointwise nat_eq) one.referenced other.referenced)))

abbrev later_agree : Entry → Entry → Bool
later_agree one other = int_eq one.spec other.spec && (pointwise same_value one.partition other.partition && amounts_agree one other)

abbrev place_agrees : Entry → Entry → Bool
place_agrees one other = contents.ghosts.eq one.content other.content && (pointwise nat_eq one.path other.path && later_agree one other)

abbrev numbers_agree : Entry → Entry → Bool
numbers_agree one other = int_eq one.seq other.seq && (int_eq one.file_seq other.file_seq && place_agrees one other)

abbrev all_agree : Entry → Entry → Bool
all_agree one other = int_eq one.snapshot other.snapshot && numbers_agree one other

by_fields : (one other : Entry) → same_file one other ≡ all_agree one other
by_fields one other = refl

amounts_itself : (entry : Entry) → amounts_agree entry entry ≡ true
amounts_itself entry =
    both (nat_eq entry.count entry.count) _ (nat_eq_equiv.refl entry.count)
    (both (nat_eq entry.size entry.size) _ (nat_eq_equiv.refl entry.size)
    (both (statistics.ghosts.eq entry.stats entry.stats) _ (stats_itself entry.stats)
    (both (pointwise int_eq entry.equality_ids entry.equality_ids) _ (each_itself int_eq int_eq_equiv.refl entry.equality_ids) (option_itself (pointwise nat_eq) Tells-texts.itself entry.referenced))))

later_itself : (entry : Entry) → later_agree entry entry ≡ true
later_itself entry = both (int_eq entry.spec entry.spec) _ (int_eq_equiv.refl entry.spec) (both (pointwise same_value entry.partition entry.partition) _ (each_itself same_value value_itself entry.partition) (amounts_itself entry))

-- an entry is of its own file
pub itself : (entry : Entry) → same_file entry entry ≡ true
itself entry =
    by_fields entry entry
    ∙ both (int_eq entry.snapshot entry.snapshot) _ (int_eq_equiv.refl entry.snapshot)
    (both (int_eq entry.seq entry.seq) _ (int_eq_equiv.refl entry.seq)
    (both (int_eq entry.file_seq entry.file_seq) _ (int_eq_equiv.refl entry.file_seq)
    (both (contents.ghosts.eq entry.content entry.content) _ (content_itself entry.content)
    (both (pointwise nat_eq entry.path entry.path) _ (Tells-texts.itself entry.path) (later_itself entry)))))

-- entries of one file have one path
pub same_path : (one other : Entry) → same_file one other ≡ true → one.path ≡ other.path
same_path one other same =
    let numbers = and_parts (int_eq one.snapshot other.snapshot) (numbers_agree one other) (sym (by_fields one other) ∙ same) in
    let later = and_parts (int_eq one.seq other.seq) (int_eq one.file_seq other.file_seq && place_agrees one other) numbers.1 in
    let place = and_parts (int_eq one.file_seq other.file_seq) (place_agrees one other) later.1 in
    let path = and_parts (contents.ghosts.eq one.content other.content) (pointwise nat_eq one.path other.path && later_agree one other) place.1 in
    Tells-texts.means one.path other.path (and_parts (pointwise nat_eq one.path other.path) (later_agree one other) path.1).0
