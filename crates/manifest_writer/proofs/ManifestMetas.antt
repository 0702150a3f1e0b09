-- The metadata of a manifest's file is metadata that a container may have.
use Rattle.std.proofs.Common.{◌≡◌, ℕ, List, [], ◌∷◌, Bool, true, false, ◌&&◌, nat_eq, refl, sym, ap, ◌∙◌, arith}
use Rattle.std.specs.Prelude.{codes}
use Rattle.std.specs.Str.{bytes_eq}
use Rattle.std.proofs.lemmas.Bool.Decides.{nat_tests}
use Rattle.row_values.specs.declared.schema.TableSchema.{TableSchema}
use Rattle.row_values.specs.declared.partition.Spec.{Spec}
use Rattle.avro_binary.proofs.CallerLemmas.{is_text}
use Rattle.avro_container.specs.ContainerText.{AreMeta}
use Rattle.manifest_files.specs.declared.entry.Entry.{Entry}
use Rattle.manifest_writer.specs.ManifestMeta.{manifest_meta}

same_byte : (b : ℕ) → nat_eq b b ≡ true
same_byte b = grind (arith, nat_tests)

same : (bytes : List ℕ) → bytes_eq bytes bytes ≡ true
same [] = refl
same (b ∷ bs) = ap (λ (x : Bool). x && bytes_eq bs bs) (same_byte b) ∙ same bs

differ : (a b : List ℕ) → bytes_eq a b ≡ false → a ≡ b → ⊥
differ a b h e = let t : bytes_eq a b ≡ true = sym (ap (bytes_eq a) e) ∙ same a in cc

pub are_meta : (entries : List Entry) (spec : Spec) (schema : TableSchema) → AreMeta (manifest_meta entries spec schema)
are_meta entries spec schema = record {
  texts = (is_text (codes "schema") refl, (is_text (codes "schema-id") refl, (is_text (codes "partition-spec") refl, (is_text (codes "partition-spec-id") refl, (is_text (codes "format-version") refl, (is_text (codes "content") refl, tt))))));
  distinct = (
    (differ _ _ refl, (differ _ _ refl, (differ _ _ refl, (differ _ _ refl, (differ _ _ refl, tt))))),
    ((differ _ _ refl, (differ _ _ refl, (differ _ _ refl, (differ _ _ refl, tt)))), ((differ _ _ refl, (differ _ _ refl, (differ _ _ refl, tt))), ((differ _ _ refl, (differ _ _ refl, tt)), ((differ _ _ refl, tt), (tt, tt))))),
  );
  no_schema = (differ _ _ refl, (differ _ _ refl, (differ _ _ refl, (differ _ _ refl, (differ _ _ refl, (differ _ _ refl, tt))))));
  no_codec = (differ _ _ refl, (differ _ _ refl, (differ _ _ refl, (differ _ _ refl, (differ _ _ refl, (differ _ _ refl, tt))))));
}
