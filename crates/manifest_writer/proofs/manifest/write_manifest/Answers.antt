use Rattle.std.proofs.Common.{sym, subst, ◌∙◌, List}
use Rattle.std.specs.List.{AllByRecursion}
use Rattle.avro_binary.specs.declared.datum.Datum.{Datum}
use Rattle.avro_binary.specs.declared.schema.Schema.{Schema}
use Rattle.avro_binary.specs.Shape.{shape}
use Rattle.avro_binary.specs.Spelling.{Fits}
use Rattle.manifest_writer.specs.EntryTypes.{entry_types}
use Rattle.avro_container.specs.ContainerText.{AreMeta}
use Rattle.manifest_writer.proofs.EntryFits.{entries_fit}
use Rattle.manifest_writer.proofs.ManifestMetas.{are_meta}
use Rattle.manifest_writer.proofs.manifest.write_manifest.Goals as goal

pub write_container-requires-clause-datums : goal.write_container-requires-clause-datums
write_container-requires-clause-datums c =
    subst (λ (s : Schema). AllByRecursion (Fits (shape s)) c.from_vec-2.result) (sym c.in_ok-entry_schema.ensures)
    (subst (λ (ds : List Datum). AllByRecursion (Fits (shape (entry_types c.args.spec.now c.args.schema.now))) ds) (sym (c.from_vec-2.ensures ∙ c.in_ok-datums.ensures.same)) (entries_fit c.args.spec.now c.args.schema.now _ c.in_ok-datums.ensures.range))

pub write_container-requires-clause-meta : goal.write_container-requires-clause-meta
write_container-requires-clause-meta c = subst AreMeta (sym (c.from_vec.ensures ∙ c.in_ok-manifest_meta.ensures)) (are_meta c.args.entries.now c.args.spec.now c.args.schema.now)
