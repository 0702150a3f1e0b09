-- The datums of a container are those of its blocks.
use Rattle.std.proofs.Common.{◌≡◌, ℕ, List, [], length, IfSome, Option, Some, None, Ok, sym, ap, subst, ◌∙◌}
use Rattle.plain_types.specs.Steps.{◌>>=◌}
use Rattle.avro_binary.specs.declared.datum.Datum.{Datum}
use Rattle.avro_binary.specs.Shape.{Shape, shape}
use Rattle.avro_container.specs.declared.container.Container.{Container}
use Rattle.avro_container.specs.declared.header.Header.{Header}
use Rattle.avro_container.specs.Container.{blocks_at, container_of}
use Rattle.avro_container.specs.Grammar.{AreBlocks}
use Rattle.avro_container.specs.Header.{header_of}
use Rattle.avro_container.proofs.CallerLemmas.{bind_ok, same_ok, all_found, file}

pub all_are : (bytes : List ℕ) (header : Header) (rest : List ℕ) (c : Container) → header_of bytes ≡ Ok (header, rest)
    → container_of bytes ≡ Ok c → AreBlocks (shape header.schema) header.sync rest c.datums
unfolding container_of
all_are bytes header rest c read whole =
    let h = bind_ok (header_of bytes) (λ header. blocks_at (shape header.0.schema) header.0.sync (length bytes) (length header.1) 0 [] header.1 >>= λ xs. Ok (file header.0.schema header.0.meta xs)) c whole in
    let d = bind_ok (blocks_at (shape h.0.0.schema) h.0.0.sync (length bytes) (length h.0.1) 0 [] h.0.1) (λ xs. Ok (file h.0.0.schema h.0.0.meta xs)) c h.2 in
    let found = all_found (shape h.0.0.schema) h.0.0.sync (length bytes) h.0.1 d.0 d.1 in
    let same : h.0 ≡ (header, rest) = same_ok h.0 (header, rest) (sym h.1 ∙ read) in
    let datums : d.0 ≡ c.datums = ap (λ (x : Container). x.datums) (same_ok (file h.0.0.schema h.0.0.meta d.0) c d.2) in
    subst (λ (y : Header × List ℕ). AreBlocks (shape y.0.schema) y.0.sync y.1 c.datums) same (subst (λ (ds : List Datum). AreBlocks (shape h.0.0.schema) h.0.0.sync h.0.1 ds) datums found)

pub of_blocks : (bytes : List ℕ) (header : Header) (rest : List ℕ) → header_of bytes ≡ Ok (header, rest)
    → (sync : ℕ) (found : Option ℕ) → IfSome found (λ n. (form : Shape) (marker : List ℕ) (datums : List Datum)
    → length marker ≡ sync → AreBlocks form marker rest datums → n ≡ length datums) → sync ≡ length header.sync
    → IfSome found (λ n. (c : Container) → container_of bytes ≡ Ok c → n ≡ length c.datums)
of_blocks bytes header rest read sync None counted sized = tt
of_blocks bytes header rest read sync (Some n) counted sized = λ c whole. counted (shape header.schema) header.sync c.datums (sym sized) (all_are bytes header rest c read whole)
