-- A container that is written is read again.
use Rattle.std.proofs.Common.{◌≡◌, ℕ, zero, suc, pos, ltb, ◌+◌, ◌*◌, ◌^◌, ◌<◌, ◌≤◌, true, List, [], ◌∷◌, ◌++◌, map, length, Ok, codes, refl, sym, subst, append_assoc, inl, inr, arith}
use Rattle.std.specs.List.{concat, AllByRecursion, list_all}
use Rattle.std.specs.Str.{IsUtf8, IsAscii}
use Rattle.std.proofs.lemmas.Bool.{ltb-true}
use Rattle.std.proofs.lemmas.Str.{IsUtf8-from_ascii}
use Rattle.std.proofs.lemmas.List.{append-nil, length-append}
use Rattle.avro_binary.specs.declared.datum.Datum as datums
use Rattle.avro_binary.specs.declared.schema.Schema as schemas
use Rattle.avro_binary.specs.Shape as shapes
use Rattle.avro_binary.specs.Number.{signed}
use Rattle.avro_binary.specs.Grammar.{ReadsLong, ReadsLength, ReadsEach, Reads}
use Rattle.avro_binary.specs.Spelling.{natural, counted, block, spelling, Fits, takes_bytes, items_take_bytes}
use Rattle.avro_binary.specs.SchemaText.{schema_from}
use Rattle.avro_binary.specs.SchemaData.{schema_text}
use Rattle.avro_binary.proofs.CallerLemmas.{ReadAgain, half, even, number_again, length_again, bytes_again, text_again, each_again, items_count, block_again, after_natural, takes, datum_again, both}
use Rattle.avro_container.specs.declared.pairs.MetaPair.{MetaPair}
use Rattle.avro_container.specs.declared.container.Container.{Container}
use Rattle.avro_container.specs.Header.{magic}
use Rattle.avro_container.specs.Container.{container_of}
use Rattle.avro_container.specs.Grammar.{ReadsMetaPair, Lacks, AreOthers, ReadsBlock, AreBlocks, ContainerOf}
use Rattle.avro_container.specs.ContainerText.{sync, pair_text, schema_pair, codec_pair, header_text, block_text, pieces, blocks_text, container_text, AreMeta}
use Rattle.avro_container.proofs.FileLaws.{container_only}
use Rattle.avro_container.proofs.Pieces.{joined_pieces, all_pieces}

-- ---- the metadata

abbrev HasText : MetaPair → Type 0
HasText p = IsUtf8 p.key

pair_again : ReadAgain HasText ReadsMetaPair pair_text
pair_again p rest utf8 short =
    let len : length (pair_text p) ≡ length (counted p.key) + length (counted p.value) = length-append (counted p.key) (counted p.value) in
    let key : length (counted p.key) < 2 ^ 63 = omega arith in
    let value : length (counted p.value) < 2 ^ 63 = omega arith in
    subst (λ (t : List ℕ). ReadsMetaPair t p rest) (sym (append_assoc (counted p.key) (counted p.value) rest))
    (p.key, counted p.value ++ rest, text_again p.key (counted p.value ++ rest) utf8 key, (p.value, bytes_again p.value rest value, refl))

pair_some : (p : MetaPair) → HasText p → 0 < length (pair_text p)
pair_some p utf8 =
    let len : length (pair_text p) ≡ length (counted p.key) + length (counted p.value) = length-append (counted p.key) (counted p.value) in
    let some : 0 < length (counted p.key) = after_natural (length p.key) p.key in
    omega arith

abbrev own : schemas.Schema → List MetaPair → List MetaPair
own schema meta = schema_pair schema ∷ codec_pair ∷ meta

others_are : (meta : List MetaPair) → Lacks (codes "avro.schema") meta → Lacks (codes "avro.codec") meta → AreOthers meta meta
others_are [] s c = refl
others_are (p ∷ ps) s c = inr (λ is. elim is [ inl a ↦ s.0 a | inr b ↦ c.0 b ], (ps, refl, others_are ps s.1 c.1))

are_ascii : (bs : List ℕ) → list_all (λ b. ltb b 128) bs ≡ true → IsAscii bs
are_ascii [] h i = omega arith
are_ascii (b ∷ bs) h zero = ltb-true b 128 (both (ltb b 128) (list_all (λ b. ltb b 128) bs) h).0
are_ascii (b ∷ bs) h (suc i) = are_ascii bs (both (ltb b 128) (list_all (λ b. ltb b 128) bs) h).1 i

own_texts : IsUtf8 (codes "avro.schema")
own_texts = IsUtf8-from_ascii (codes "avro.schema") (are_ascii (codes "avro.schema") refl)

own_codec : IsUtf8 (codes "avro.codec")
own_codec = IsUtf8-from_ascii (codes "avro.codec") (are_ascii (codes "avro.codec") refl)

-- ---- blocks

block_parts : (number stored ends rest : List ℕ) → ((number ++ stored) ++ ends) ++ rest ≡ number ++ (stored ++ (ends ++ rest))
block_parts number stored ends rest = simp append_assoc

signed_natural : (n : ℕ) → pos n ≡ signed (2 * n)
signed_natural n = rw (even n, half n) refl

abbrev BlockOf : shapes.Shape → List ℕ → List datums.Datum → List ℕ → Type 0
BlockOf shape from ds rest = ReadsBlock shape sync from ds rest

block_reads : (shape : shapes.Shape) → takes_bytes shape ≡ true → items_take_bytes shape ≡ true
    → ReadAgain (λ ds. AllByRecursion (Fits shape) ds) (BlockOf shape) block_text
block_reads shape some room ds rest fits short =
    let stored : List ℕ = concat (map spelling ds) in
    let number : List ℕ = natural (length ds) in
    let whole : length (block_text ds) ≡ length (number ++ counted stored) + length sync = length-append (number ++ counted stored) sync in
    let front : length (number ++ counted stored) ≡ length number + length (counted stored) = length-append number (counted stored) in
    let inner : length (counted stored) ≡ length (natural (length stored)) + length stored = length-append (natural (length stored)) stored in
    let few : length ds ≤ length stored = items_count (Fits shape) spelling (λ d fit. takes shape d some fit) ds fits in
    let small : length stored < 2 ^ 63 = omega arith in
    let after : List ℕ = sync ++ rest in
    let counts : ReadsLong (number ++ (counted stored ++ after)) (pos (length ds)) (counted stored ++ after) = (2 * length ds, number_again (2 * length ds) (counted stored ++ after) (omega arith), signed_natural (length ds)) in
    let sizes : ReadsLength (natural (length stored) ++ (stored ++ after)) (length stored) (stored ++ after) = length_again (length stored) (stored ++ after) small in
    record {
      sized = counted stored ++ after;
      stored = stored;
      count = subst (λ (t : List ℕ). ReadsLong t (pos (length ds)) (counted stored ++ after)) (sym (block_parts number (counted stored) sync rest)) counts;
      size = subst (λ (t : List ℕ). ReadsLength t (length stored) (stored ++ after)) (sym (append_assoc (natural (length stored)) stored after)) sizes;
      few = few;
      all = subst (λ (t : List ℕ). ReadsEach (Reads shape) ds t []) (append-nil stored) (each_again (Fits shape) (Reads shape) spelling (datum_again shape room) ds [] fits small);
    }

blocks_read : (shape : shapes.Shape) (limit : ℕ) (ds : List datums.Datum) → 0 < limit → takes_bytes shape ≡ true
    → items_take_bytes shape ≡ true → AllByRecursion (Fits shape) ds → length (blocks_text limit ds) < 2 ^ 63
    → AreBlocks shape sync (blocks_text limit ds) ds
blocks_read shape limit ds positive some room fits short =
    let ps : List (List datums.Datum) = pieces limit (length ds) ds in (
      ps,
      subst (λ (t : List ℕ). ReadsEach (BlockOf shape) ps t []) (append-nil (blocks_text limit ds))
          (each_again (λ (piece : List datums.Datum). AllByRecursion (Fits shape) piece) (BlockOf shape) block_text (block_reads shape some room) ps [] (all_pieces (Fits shape) limit (length ds) ds fits) short),
      joined_pieces limit (length ds) ds positive (omega arith),
    )

-- ---- the file

file_parts : (start pairs ends blocks : List ℕ) → ((start ++ pairs) ++ ends) ++ blocks ≡ start ++ (pairs ++ (ends ++ blocks))
file_parts start pairs ends blocks = simp append_assoc

sync_length : length sync ≡ 16
sync_length = refl

own_differ : codes "avro.codec" ≡ codes "avro.schema" → ⊥
own_differ e = cc

text_is_of : (c : Container) → AllByRecursion (Fits (shapes.shape c.schema)) c.datums → AreMeta c.meta
    → schema_from (schema_text c.schema) ≡ Ok c.schema → takes_bytes (shapes.shape c.schema) ≡ true
    → items_take_bytes (shapes.shape c.schema) ≡ true
    → length (container_text c) < 2 ^ 63 → ContainerOf (container_text c) c.schema c.meta c.datums
text_is_of c fits meta reads some room short =
    let pairs : List MetaPair = own c.schema c.meta in
    let head : List ℕ = block (map pair_text pairs) in
    let blocks : List ℕ = blocks_text 1000 c.datums in
    let whole : length (container_text c) ≡ length (header_text c.schema c.meta) + length blocks = length-append (header_text c.schema c.meta) blocks in
    let front : length (header_text c.schema c.meta) ≡ length (magic ++ head) + length sync = length-append (magic ++ head) sync in
    let start : length (magic ++ head) ≡ length magic + length head = length-append magic head in
    let head_small : length head < 2 ^ 63 = omega arith in
    let blocks_small : length blocks < 2 ^ 63 = omega arith in
    record {
      header = head ++ (sync ++ blocks);
      pairs = pairs;
      sync = sync;
      blocks = blocks;
      starts = file_parts magic head sync blocks;
      metadata = block_again HasText ReadsMetaPair pair_text pair_again pair_some pairs (sync ++ blocks) (own_texts, (own_codec, meta.texts)) head_small;
      keys = ((own_differ, meta.no_schema), (meta.no_codec, meta.distinct));
      plain = inr (inr (inl (refl, refl)));
      schema_text = (schema_text c.schema, inl (refl, refl), reads);
      others = inl (inl refl, inl (inr refl, others_are c.meta meta.no_schema meta.no_codec));
      sixteen = sync_length;
      all = blocks_read (shapes.shape c.schema) 1000 c.datums (omega arith) some room fits blocks_small;
    }

pub text_read_again : (c : Container) → AllByRecursion (Fits (shapes.shape c.schema)) c.datums → AreMeta c.meta
    → schema_from (schema_text c.schema) ≡ Ok c.schema → takes_bytes (shapes.shape c.schema) ≡ true
    → items_take_bytes (shapes.shape c.schema) ≡ true
    → length (container_text c) < 2 ^ 63 → container_of (container_text c) ≡ Ok c
text_read_again c fits meta reads some room short = container_only (container_text c) c.schema c.meta c.datums (text_is_of c fits meta reads some room short)
