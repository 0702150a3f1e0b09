-- The entries that are read of a manifest can be written again.
use Rattle.std.proofs.Common.{◌≡◌, ◌<◌, ◌^◌, ℕ, ℤ, pos, nat_lt, Bool, true, false, ◌&&◌, ◌||◌, List, [], ◌∷◌, ◌++◌, Option, Some, None, option_and_then, Result, Ok, Err, refl, sym, ap, subst, ◌∙◌, append_assoc, arith}
use Rattle.std.specs.Prelude.{⊤, int_lt, if◌then◌else◌}
use Rattle.std.specs.List.{AllByRecursion, list_all}
use Rattle.std.specs.Ordering.{int_eq}
use Rattle.std.proofs.lemmas.Bool.Decides.{nat_tests}
use Rattle.std.proofs.lemmas.Int.{ints}
use Rattle.std.proofs.lemmas.List.Folds.{list_all-append}
use Rattle.plain_types.specs.Steps.{◌>>=◌, fault_as, or_fault}
use Rattle.row_values.specs.declared.kind.Kind.{Kind}
use Rattle.row_values.specs.declared.partition.Spec.{Spec}
use Rattle.row_values.specs.declared.schema.TableSchema.{TableSchema}
use Rattle.row_values.specs.declared.value.Value.{Value}
use Rattle.row_values.specs.Rows.{is_value}
use Rattle.kind_values.specs.declared.stats.ColumnStats.{ColumnStats}
use Rattle.kind_values.specs.Bounds.{bound_of, content_of}
use Rattle.kind_values.specs.KindValues.{of_kind}
use Rattle.avro_binary.specs.declared.datum.Datum.{Datum}
use Rattle.avro_container.specs.declared.container.Container.{Container}
use Rattle.avro_container.specs.declared.fault.ContainerFault.{ContainerFault}
use Rattle.avro_container.specs.Container.{container_of}
use Rattle.plain_types.proofs.CallerLemmas.{two_steps}
use Rattle.avro_rows.specs.Rows.{values_of}
use Rattle.avro_rows.specs.Sources.{fields_of}
use Rattle.manifest_files.specs.declared.entry.Content.{Content}
use Rattle.manifest_files.specs.declared.entry.Entry.{Entry}
use Rattle.manifest_files.specs.declared.entry.FileParts.{FileParts}
use Rattle.manifest_files.specs.declared.known_column.KnownColumn.{KnownColumn}
use Rattle.manifest_files.specs.declared.manifest_fault.ManifestFault.{ManifestFault}
use Rattle.manifest_files.specs.declared.manifest_fault.ManifestFault.TheVariants as fault
use Rattle.manifest_files.specs.declared.manifest_row.ManifestRow.{ManifestRow}
use Rattle.manifest_files.specs.declared.places.EntryPlaces.{EntryPlaces}
use Rattle.manifest_files.specs.declared.places.FilePlaces.{FilePlaces}
use Rattle.manifest_files.specs.declared.places.PairPlaces.{PairPlaces}
use Rattle.manifest_files.proofs.CallerLemmas.{entries_are, known_rising, rising}
use Rattle.manifest_files.specs.Datums.{as_text, bytes_in, items_at, long_in, natural_of, present, present_at, text_in}
use Rattle.manifest_files.specs.Entries.{allowed, content_at, entries_from, entries_of, entry_of, file_parts, format_at, ids_from, partition_at, raw_numbers, status_at, whole_entry, whole_maps}
use Rattle.manifest_files.specs.Inheritance.{numbered}
use Rattle.manifest_files.specs.Needed.{needed_count, needed_text}
use Rattle.manifest_files.specs.Places.{entry_places}
use Rattle.manifest_files.specs.Sound.{is_entry}
use Rattle.manifest_files.specs.Statistics.{bound_in, count_of, facts_of, is_key, known_columns, stats_from, tells, value_under}
use Rattle.row_writer.proofs.CallerLemmas.{both, first, second}
use Rattle.manifest_writer.specs.Readable.{are_told, fits_count, has_counts, is_bounded, is_known, is_of, is_written}
use Rattle.manifest_writer.proofs.ContainerFits.{container_fits}
use Rattle.manifest_writer.proofs.Fitting.{AreFitting, Fitting, IsFitting, count_fits, items_fit, present_fits, values_fit}

small : (n : ℕ) → n < 2 ^ 63 → nat_lt n (2 ^ 63) ≡ true
small n h = grind (arith, nat_tests, h)

-- ---- the statistics of a column

-- the first pair with the key is one of the items
under_fits : (places : PairPlaces) (id : ℤ) (items : List Datum) → AreFitting items → IsFitting (value_under places id items)
unfolding value_under
under_fits places id [] h = tt
under_fits places id (pair ∷ items) h = pair_by (is_key places id pair) (present_fits (values_of pair) places.value (values_fit pair h.0)) (under_fits places id items h.1)
  where
    pair_by : (b : Bool) → IsFitting (present (values_of pair) places.value) → IsFitting (value_under places id items)
        → IsFitting (if b then present (values_of pair) places.value else value_under places id items)
    pair_by true own others = own
    pair_by false own others = others

count_by : (o : Option ℕ) → ((n : ℕ) → o ≡ Some n → n < 2 ^ 63) → fits_count o ≡ true
count_by None h = refl
count_by (Some n) h = small n (h n refl)

counts_fit : (places : PairPlaces) (column : KnownColumn) (file : List Datum) → AreFitting file → fits_count (count_of places column file) ≡ true
counts_fit places column file h =
    count_by (count_of places column file) (λ n e. count_fits (value_under places column.id (items_at file places.place)) n (under_fits places column.id (items_at file places.place) (items_fit file places.place h)) e)

-- a bound is a value of the kind
of_kind_by : (k : Kind) (v : Value) (b : Bool) → is_value k v ≡ b → is_of k (if b then Some v else None) ≡ true
of_kind_by k v true is = is
of_kind_by k v false is = refl

kind_by : (k : Kind) (o : Option Value) → is_of k (option_and_then (of_kind k) o) ≡ true
kind_by k None = refl
kind_by k (Some v) = of_kind_by k v (is_value k v) refl

bytes_by : (k : Kind) (o : Option (List ℕ)) → is_of k (option_and_then (bound_of k) o) ≡ true
bytes_by k None = refl
bytes_by k (Some bytes) = kind_by k (content_of k bytes)

bound_fits : (places : PairPlaces) (column : KnownColumn) (file : List Datum) → is_of column.kind (bound_in places column file) ≡ true
bound_fits places column file = bytes_by column.kind (option_and_then bytes_in (value_under places column.id (items_at file places.place)))

facts_bounded : (places : FilePlaces) (file : List Datum) (column : KnownColumn)
    → (is_of column.kind (facts_of places file column).lower && is_of column.kind (facts_of places file column).upper) ≡ true
facts_bounded places file column = both _ _ (bound_fits places.lower column file) (bound_fits places.upper column file)

-- ---- statistics of known columns

-- what holds of the facts of each column holds of the statistics
module _ (places : FilePlaces) (file : List Datum) (test : ColumnStats → Bool) where
  stand_by : (b : Bool) (earlier : List ColumnStats) (facts : ColumnStats) → list_all test earlier ≡ true → test facts ≡ true
      → list_all test (if b then earlier ++ facts ∷ [] else earlier) ≡ true
  stand_by true earlier facts so_far own = list_all-append test earlier (facts ∷ []) ∙ both _ _ so_far (both _ _ own refl)
  stand_by false earlier facts so_far own = so_far

  abbrev Each : List KnownColumn → Type 0
  Each columns = AllByRecursion (λ (column : KnownColumn). test (facts_of places file column) ≡ true) columns

  stats_stand : (earlier : List ColumnStats) (columns : List KnownColumn) → list_all test earlier ≡ true → Each columns
      → list_all test (stats_from places file earlier columns) ≡ true
  unfolding stats_from
  stats_stand earlier [] so_far each = so_far
  stats_stand earlier (column ∷ columns) so_far each =
      stats_stand (if tells (facts_of places file column) then earlier ++ facts_of places file column ∷ [] else earlier) columns
      (stand_by (tells (facts_of places file column)) earlier (facts_of places file column) so_far each.0) each.1

every : (P : KnownColumn → Type 0) → ((column : KnownColumn) → P column) → (columns : List KnownColumn) → AllByRecursion P columns
every P h [] = tt
every P h (column ∷ columns) = (h column, every P h columns)

-- a column is among those that are known
itself : (id : ℤ) → int_eq id id ≡ true
itself id = grind (arith, ints)

or_right : (a b : Bool) → b ≡ true → (a || b) ≡ true
or_right true b h = refl
or_right false b h = h

or_left : (a b : Bool) → a ≡ true → (a || b) ≡ true
or_left true b h = refl
or_left false b h = absurd cc

among : (places : FilePlaces) (file : List Datum) (front columns : List KnownColumn)
    → AllByRecursion (λ (column : KnownColumn). is_known (front ++ columns) (facts_of places file column) ≡ true) columns
among places file front [] = tt
among places file front (column ∷ columns) =
    (known_by front, subst (λ (all : List KnownColumn). AllByRecursion (λ (c : KnownColumn). is_known all (facts_of places file c) ≡ true) columns) (append_assoc front (column ∷ []) columns) (among places file (front ++ column ∷ []) columns))
  where
    known_by : (xs : List KnownColumn) → is_known (xs ++ column ∷ columns) (facts_of places file column) ≡ true
    known_by [] = or_left (int_eq column.id column.id) (is_known columns (facts_of places file column)) (itself column.id)
    known_by (x ∷ xs) = or_right (int_eq x.id column.id) (is_known (xs ++ column ∷ columns) (facts_of places file column)) (known_by xs)

-- and another column has another id
apart : (a b : ℤ) → int_lt a b ≡ true → int_eq a b ≡ false
apart a b h = grind (arith, ints, h)

turned : (a b : ℤ) → int_lt a b ≡ true → int_eq b a ≡ false
turned a b h = grind (arith, ints, h)

bounded_by : (b : Bool) (column : KnownColumn) (facts : ColumnStats) → int_eq column.id facts.id ≡ b → b ≡ false → is_bounded column facts ≡ true
bounded_by true column facts is none = absurd cc
bounded_by false column facts is none = ap (λ t. if t then is_of column.kind facts.lower && is_of column.kind facts.upper else true) is

own_bounded : (places : FilePlaces) (file : List Datum) (column : KnownColumn) → is_bounded column (facts_of places file column) ≡ true
own_bounded places file column = ap (λ t. if t then is_of column.kind (facts_of places file column).lower && is_of column.kind (facts_of places file column).upper else true) (itself column.id) ∙ facts_bounded places file column

-- of a column before all of these
all_after : (places : FilePlaces) (file : List Datum) (column : KnownColumn) (columns : List KnownColumn)
    → list_all (λ other. int_lt column.id other.id) columns ≡ true
    → AllByRecursion (λ (other : KnownColumn). is_bounded column (facts_of places file other) ≡ true) columns
all_after places file column [] h = tt
all_after places file column (other ∷ columns) h =
    let low : int_lt column.id other.id ≡ true = first (int_lt column.id other.id) (list_all (λ o. int_lt column.id o.id) columns) h in
    (bounded_by (int_eq column.id other.id) column (facts_of places file other) refl (apart column.id other.id low), all_after places file column columns (second (int_lt column.id other.id) (list_all (λ o. int_lt column.id o.id) columns) h))

-- each column in turn, of the facts of all
module _ (places : FilePlaces) (file : List Datum) where
  abbrev Bounded : KnownColumn → List KnownColumn → Type 0
  Bounded column all = AllByRecursion (λ (other : KnownColumn). is_bounded column (facts_of places file other) ≡ true) all

  -- the first column before the facts of each, and then the others
  with_first : (first_one : KnownColumn) (columns rest : List KnownColumn)
      → list_all (λ other. int_lt first_one.id other.id) columns ≡ true
      → AllByRecursion (λ (column : KnownColumn). Bounded column rest) columns
      → AllByRecursion (λ (column : KnownColumn). Bounded column (first_one ∷ rest)) columns
  with_first first_one [] rest h all = tt
  with_first first_one (column ∷ columns) rest h all =
      let low : int_lt first_one.id column.id ≡ true = first (int_lt first_one.id column.id) (list_all (λ o. int_lt first_one.id o.id) columns) h in (
        (bounded_by (int_eq column.id first_one.id) column (facts_of places file first_one) refl (turned first_one.id column.id low), all.0),
        with_first first_one columns rest (second (int_lt first_one.id column.id) (list_all (λ o. int_lt first_one.id o.id) columns) h) all.1,
      )

  all_bounded : (columns : List KnownColumn) → rising columns ≡ true → AllByRecursion (λ (column : KnownColumn). Bounded column columns) columns
  all_bounded [] up = tt
  all_bounded (column ∷ columns) up =
      let low : list_all (λ other. int_lt column.id other.id) columns ≡ true = first (list_all (λ other. int_lt column.id other.id) columns) (rising columns) up in
      ((own_bounded places file column, all_after places file column columns low), with_first column columns columns low (all_bounded columns (second (list_all (λ other. int_lt column.id other.id) columns) (rising columns) up)))

  each_bounded : (all columns : List KnownColumn) → AllByRecursion (λ (column : KnownColumn). Bounded column all) columns
      → list_all (λ column. list_all (is_bounded column) (stats_from places file [] all)) columns ≡ true
  each_bounded all [] h = refl
  each_bounded all (column ∷ columns) h = both (list_all (is_bounded column) (stats_from places file [] all)) (list_all (λ c. list_all (is_bounded c) (stats_from places file [] all)) columns) (stats_stand places file (is_bounded column) [] all refl h.0) (each_bounded all columns h.1)

  pub told : (known : List KnownColumn) → rising known ≡ true → AreFitting file → are_told known (stats_from places file [] known) ≡ true
  told known up fits =
      both (list_all has_counts (stats_from places file [] known)) (list_all (is_known known) (stats_from places file [] known) && list_all (λ column. list_all (is_bounded column) (stats_from places file [] known)) known)
      (stats_stand places file has_counts [] known refl (every (λ column. has_counts (facts_of places file column) ≡ true) (λ column. both _ _ (counts_fit places.values column file fits) (counts_fit places.nulls column file fits)) known))
      (both (list_all (is_known known) (stats_from places file [] known)) (list_all (λ column. list_all (is_bounded column) (stats_from places file [] known)) known)
      (stats_stand places file (is_known known) [] known refl (among places file [] known))
      (each_bounded known known (all_bounded known up)))

-- ---- an entry

-- the counts are those of the steps that read them
counts_rest : (partitions : Result (List Value) ManifestFault) (counts sizes : Result ℕ ManifestFault)
    (whole : Result ⊤ ManifestFault) (all_ids : Result (List ℤ) ManifestFault) (content : Content) (path : List ℕ)
    (is_avro : Bool) (referenced : Option (List ℕ)) (parts : FileParts)
    → (partitions >>= λ partition. counts >>= λ count. sizes >>= λ size. whole >>= λ done. all_ids >>= λ equality_ids. Ok
    (record {
      content = content;
      path = path;
      is_avro = is_avro;
      partition = partition;
      count = count;
      size = size;
      equality_ids = equality_ids;
      referenced = referenced;
    })) ≡ Ok parts → (counts ≡ Ok parts.count) × (sizes ≡ Ok parts.size)
counts_rest (Ok partition) (Ok count) (Ok size) (Ok done) (Ok ids) content path is_avro referenced parts h = (cc, cc)
counts_rest (Err e) counts sizes whole all_ids content path is_avro referenced parts h = absurd cc
counts_rest (Ok partition) (Err e) sizes whole all_ids content path is_avro referenced parts h = absurd cc
counts_rest (Ok partition) (Ok count) (Err e) whole all_ids content path is_avro referenced parts h = absurd cc
counts_rest (Ok partition) (Ok count) (Ok size) (Err e) all_ids content path is_avro referenced parts h = absurd cc
counts_rest (Ok partition) (Ok count) (Ok size) (Ok done) (Err e) content path is_avro referenced parts h = absurd cc

file_counts : (places : FilePlaces) (values : List Datum) (parts : FileParts) → file_parts places values ≡ Ok parts
    → (needed_count (pos 103) places.count values ≡ Ok parts.count) × (needed_count (pos 104) places.size values ≡ Ok parts.size)
unfolding file_parts
file_counts places values parts h =
    let content = two_steps (content_at places.content values) _ parts h in
    let path = two_steps (needed_text (pos 100) places.path values) _ parts content.2 in
    let format = two_steps (format_at places.format values) _ parts path.2 in
    counts_rest (partition_at places values) (needed_count (pos 103) places.count values) (needed_count (pos 104) places.size values)
    (whole_maps places values) (ids_from [] (items_at values places.equality_ids)) content.0 path.0 format.0
    (option_and_then as_text (option_and_then text_in (present_at values places.referenced))) parts format.2

some_of : {X : Type 0} (e : ManifestFault) (o : Option X) (x : X) → or_fault e o ≡ Ok x → o ≡ Some x
some_of e (Some y) x h = cc
some_of e None x h = absurd cc

needed_fits : (id : ℤ) (place : ℕ) (values : List Datum) (n : ℕ) → AreFitting values → needed_count id place values ≡ Ok n → nat_lt n (2 ^ 63) ≡ true
needed_fits id place values n fits h = small n (count_fits (present values place) n (present_fits values place fits) (some_of (fault.Kind id) (option_and_then natural_of (option_and_then long_in (present values place))) n h))

there_fits : (o : Option Datum) (d : Datum) → IsFitting o → o ≡ Some d → Fitting d
there_fits o d h is = subst IsFitting is h

last_step : (allow : Result ⊤ ManifestFault) (written entry : Entry) → (allow >>= λ done. Ok written) ≡ Ok entry → entry ≡ written
last_step (Ok done) written entry h = cc
last_step (Err e) written entry h = absurd cc

-- what stands beside the tests of its spec
abbrev is_counted : TableSchema → Entry → Bool
is_counted schema entry = nat_lt entry.count (2 ^ 63) && (nat_lt entry.size (2 ^ 63) && are_told (known_columns schema.columns) entry.stats.columns)

entry_counted : (spec : Spec) (schema : TableSchema) (places : EntryPlaces) (row : ManifestRow) (datum : Datum) (entry : Entry)
    → Fitting datum → entry_of places row spec.id (known_columns schema.columns) datum ≡ Ok entry → is_counted schema entry ≡ true
unfolding entry_of
entry_counted spec schema places row datum entry fits h =
    let status = two_steps (status_at places.status (values_of datum)) _ entry h in
    let numbers = two_steps (numbered row (raw_numbers places status.0 (values_of datum))) _ entry status.2 in
    let file = two_steps (or_fault (fault.Kind (pos 2)) (present (values_of datum) places.data_file)) _ entry numbers.2 in
    let parts = two_steps (file_parts places.file (values_of file.0)) _ entry file.2 in
    let same = last_step (allowed status.0 places.file parts.0 (values_of file.0)) (whole_entry status.0 numbers.0 spec.id parts.0 (record { columns = stats_from places.file (values_of file.0) [] (known_columns schema.columns) })) entry parts.2 in
    let own : AreFitting (values_of file.0) = values_fit file.0 (there_fits (present (values_of datum) places.data_file) file.0 (present_fits (values_of datum) places.data_file (values_fit datum fits)) (some_of (fault.Kind (pos 2)) (present (values_of datum) places.data_file) file.0 file.1)) in
    let counted = file_counts places.file (values_of file.0) parts.0 parts.1 in
    ap (is_counted schema) same ∙
    both (nat_lt parts.0.count (2 ^ 63)) _ (needed_fits (pos 103) places.file.count (values_of file.0) parts.0.count own counted.0)
    (both (nat_lt parts.0.size (2 ^ 63)) _ (needed_fits (pos 104) places.file.size (values_of file.0) parts.0.size own counted.1)
    (told places.file (values_of file.0) (known_columns schema.columns) (known_rising schema.columns) own))

one_value : {X : Type 0} (a b : X) → (let r : Result X ManifestFault = Ok a in r) ≡ Ok b → a ≡ b
one_value a b h = cc

entries_counted : (spec : Spec) (schema : TableSchema) (places : EntryPlaces) (row : ManifestRow) (earlier : List Entry)
    (datums : List Datum) (entries : List Entry) → AreFitting datums → list_all (is_counted schema) earlier ≡ true
    → entries_from places row spec.id (known_columns schema.columns) earlier datums ≡ Ok entries
    → list_all (is_counted schema) entries ≡ true
unfolding entries_from
entries_counted spec schema places row earlier [] entries fits so_far h = ap (list_all (is_counted schema)) (sym (one_value earlier entries h)) ∙ so_far
entries_counted spec schema places row earlier (datum ∷ datums) entries fits so_far h =
    let s = two_steps (entry_of places row spec.id (known_columns schema.columns) datum) (λ entry. entries_from places row spec.id (known_columns schema.columns) (earlier ++ entry ∷ []) datums) entries h in
    let more : list_all (is_counted schema) (earlier ++ s.0 ∷ []) ≡ true = list_all-append (is_counted schema) earlier (s.0 ∷ []) ∙ both _ _ so_far (both _ _ (entry_counted spec schema places row datum s.0 fits.0 s.1) refl) in
    entries_counted spec schema places row (earlier ++ s.0 ∷ []) datums entries fits.1 more s.2

-- ---- the whole

joint : (spec : Spec) (schema : TableSchema) (entries : List Entry) → list_all (is_entry spec schema) entries ≡ true
    → list_all (is_counted schema) entries ≡ true → list_all (is_written spec schema) entries ≡ true
joint spec schema [] h k = refl
joint spec schema (entry ∷ entries) h k =
    both (is_written spec schema entry) (list_all (is_written spec schema) entries)
    (both (is_entry spec schema entry) (is_counted schema entry) (first (is_entry spec schema entry) (list_all (is_entry spec schema) entries) h) (first (is_counted schema entry) (list_all (is_counted schema) entries) k))
    (joint spec schema entries (second (is_entry spec schema entry) (list_all (is_entry spec schema) entries) h) (second (is_counted schema entry) (list_all (is_counted schema) entries) k))

read_container : (r : Result Container ContainerFault) (c : Container) → fault_as fault.Container r ≡ Ok c → r ≡ Ok c
read_container (Ok x) c h = cc
read_container (Err e) c h = absurd cc

pub entries_are_written : (bytes : List ℕ) (row : ManifestRow) (spec : Spec) (schema : TableSchema) (entries : List Entry)
    → entries_of bytes row spec schema ≡ Ok entries → list_all (is_written spec schema) entries ≡ true
unfolding entries_of
entries_are_written bytes row spec schema entries h =
    let container = two_steps (fault_as fault.Container (container_of bytes)) _ entries h in
    let places = two_steps (entry_places schema.columns spec.fields (fields_of container.0.schema)) _ entries container.2 in
    joint spec schema entries (entries_are bytes row spec schema entries h)
    (entries_counted spec schema places.0 row [] container.0.datums entries (container_fits bytes container.0 (read_container (container_of bytes) container.0 container.1)) refl places.2)
