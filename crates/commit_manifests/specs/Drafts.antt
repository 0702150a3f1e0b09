-- The manifests that a commit writes (Iceberg specification, "Manifests"): each has entries of one partition spec, and is
-- closed where they reach 16 MiB.
use Rattle.std.specs.Prelude.{ℕ, ◌-◌, ◌^◌, nat_le, ℤ, pos, if◌then◌else◌, List, [], ◌∷◌, ◌++◌}
use Rattle.plain_types.specs.Steps.{by_option}
use Rattle.row_values.specs.declared.partition.Spec.{Spec}
use Rattle.row_values.specs.declared.schema.TableSchema.{TableSchema}
use Rattle.manifest_files.specs.declared.entry.Entry.{Entry}
use Rattle.manifest_files.specs.declared.manifest_row.ManifestContent.{ManifestContent}
use Rattle.manifest_files.specs.declared.manifest_row.ManifestContent.TheVariants as content
use Rattle.manifest_writer.specs.EntryDatum.{entry_size}
use Rattle.table_metadata.specs.ById.{spec_with}
use Rattle.commit_manifests.specs.declared.drafts.Draft.{Draft}
use Rattle.commit_manifests.specs.declared.drafts.Drafts as code

-- the spec with an id, which all entries of a table have
abbrev pub spec_in : List Spec → ℤ → Spec
spec_in specs id = by_option (spec_with id specs) (λ spec. spec) (record { id = id; fields = [] })

abbrev pub manifest_bytes : ℕ
manifest_bytes = 2 ^ 24

-- the manifests that are closed, and the entries of the next one, of this spec, with how many bytes they may still take
pub record Drafts : Type 0 where
  pub closed : List Draft
  pub spec : ℤ
  pub content : ManifestContent
  pub piece : List Entry
  pub left : ℕ

abbrev pub seen : code.Drafts → Drafts
seen d = record { closed = d.closed.items; spec = d.spec; content = d.content; piece = d.piece.items; left = d.left }

abbrev pub nothing : Drafts
nothing = record { closed = []; spec = pos 0; content = content.Data; piece = []; left = manifest_bytes }

abbrev pub begun : ℤ → ManifestContent → Drafts → Drafts
begun spec content d = record d { spec = spec; content = content }

abbrev pub with_piece : Drafts → Drafts
with_piece d = record { closed = d.closed ++ record { spec = d.spec; content = d.content; entries = d.piece } ∷ []; spec = d.spec; content = d.content; piece = []; left = manifest_bytes }

abbrev pub finished_by : List Entry → Drafts → Drafts
finished_by [] d = d
finished_by (entry ∷ entries) d = with_piece d

-- the next manifest is closed, where it has an entry
abbrev pub finished : Drafts → Drafts
finished d = finished_by d.piece d

-- one entry more in the next manifest, which it may close
unfoldable pub and_entry : List Spec → TableSchema → Drafts → Entry → Drafts
and_entry specs schema d entry =
    if nat_le d.left (entry_size (spec_in specs d.spec) schema entry)
    then with_piece (record d { piece = d.piece ++ entry ∷ [] })
    else record d { piece = d.piece ++ entry ∷ []; left = d.left - entry_size (spec_in specs d.spec) schema entry }
