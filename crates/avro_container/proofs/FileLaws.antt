-- A file is read by its grammar.
use Rattle.std.proofs.Common.{◌≡◌, ◌⊎◌, ℕ, Bool, true, false, cond, List, [], ◌++◌, length, take, drop, Option, Some, None, Result, Ok, Err, refl, sym, ap, subst, ◌∙◌, inl, inr}
use Rattle.std.specs.Prelude.{codes}
use Rattle.std.specs.Str.{bytes_eq}
use Rattle.std.proofs.lemmas.List.{take_at, drop_at, take-append-drop}
use Rattle.std.proofs.lemmas.Slice.Eq.{bytes_eq-Decides}
use Rattle.plain_types.specs.Steps.{◌>>=◌}
use Rattle.avro_binary.specs.declared.datum.Datum as datums
use Rattle.avro_binary.specs.declared.schema.Schema as schemas
use Rattle.avro_binary.specs.declared.schema_fault.SchemaFault as schema_faults
use Rattle.avro_binary.specs.Number.{front_at}
use Rattle.avro_binary.specs.Shape.{shape}
use Rattle.avro_binary.specs.Grammar.{ReadsAll}
use Rattle.avro_binary.specs.SchemaText.{schema_from}
use Rattle.avro_binary.proofs.CallerLemmas.{front_law}
use Rattle.avro_container.specs.declared.fault.ContainerFault.{ContainerFault}
use Rattle.avro_container.specs.declared.fault.ContainerFault.TheVariants.{Magic, NoSchema, Codec, Schema}
use Rattle.avro_container.specs.declared.pairs.MetaPair.{MetaPair}
use Rattle.avro_container.specs.declared.header.Header.{Header}
use Rattle.avro_container.specs.declared.container.Container.{Container}
use Rattle.avro_container.specs.Answer.{as_fault, head_fault}
use Rattle.avro_container.specs.Pairs.{value_of, map_at, others}
use Rattle.avro_container.specs.Header.{magic, schema_text, plain_data, schema_in, schema_by, header_from, header_of}
use Rattle.avro_container.specs.Container.{blocks_at, container_of}
use Rattle.avro_container.specs.Grammar.{ReadsMetaPair, Distinct, IsUncompressed, HasWrittenSchema, AreBlocks, ContainerOf}
use Rattle.avro_container.proofs.KeyLaws.{NewKeys, none_lacks, lacks_none, some_has, has_some, new_distinct, distinct_new, are_others, only_others}
use Rattle.avro_container.proofs.Binds.{ok, bind_ok, bind_part, same_ok, err_no_ok}
use Rattle.avro_container.proofs.MetaLaws.{meta_found, meta_only}
use Rattle.avro_container.proofs.BlockLaws.{all_found, all_only}

-- ---- the schema

named_found : {A : Type 0} (b : Bool) (name : List ℕ) (wanted : Result A ContainerFault) (x : A)
    → bytes_eq name (codes "null") ≡ b → cond b wanted (Err (Codec name)) ≡ Ok x
    → ((Some name ≡ None) ⊎ (Some name ≡ Some (codes "null"))) × (wanted ≡ Ok x)
named_found true name wanted x is e = (inr (ap (λ (t : List ℕ). Some t) ((bytes_eq-Decides name (codes "null")).0 is)), e)
named_found false name wanted x is e = absurd (err_no_ok (Codec name) x e)

plain_found : {A : Type 0} (codec : Option (List ℕ)) (wanted : Result A ContainerFault) (x : A) → plain_data codec wanted ≡ Ok x
    → ((codec ≡ None) ⊎ (codec ≡ Some (codes "null"))) × (wanted ≡ Ok x)
plain_found None wanted x e = (inl refl, e)
plain_found (Some name) wanted x e = named_found (bytes_eq name (codes "null")) name wanted x refl e

plain_only : {A : Type 0} (codec : Option (List ℕ)) (wanted : Result A ContainerFault)
    → (codec ≡ None) ⊎ (codec ≡ Some (codes "null")) → plain_data codec wanted ≡ wanted
plain_only codec wanted (inl none) = ap (λ (c : Option (List ℕ)). plain_data c wanted) none
plain_only codec wanted (inr null) = ap (λ (c : Option (List ℕ)). plain_data c wanted) null

read_found : (r : Result schemas.Schema schema_faults.SchemaFault) (schema : schemas.Schema) → schema_in r ≡ Ok schema → r ≡ Ok schema
read_found (Ok s) schema e = ap (λ (x : schemas.Schema). Ok x) (same_ok s schema e)
read_found (Err f) schema e = absurd (err_no_ok (Schema f) schema e)

text_found : (found : Option (List ℕ)) (text : List ℕ) → schema_text found ≡ Ok text → found ≡ Some text
text_found None text e = absurd (err_no_ok NoSchema text e)
text_found (Some t) text e = ap (λ (x : List ℕ). Some x) (same_ok t text e)

plain_to : (pairs : List MetaPair) → (value_of (codes "avro.codec") pairs ≡ None) ⊎ (value_of (codes "avro.codec") pairs ≡ Some (codes "null")) → IsUncompressed pairs
plain_to pairs (inl none) = inl (none_lacks (codes "avro.codec") pairs none)
plain_to pairs (inr null) = inr (some_has (codes "avro.codec") (codes "null") pairs null)

plain_back : (pairs : List MetaPair) → Distinct pairs → IsUncompressed pairs
    → (value_of (codes "avro.codec") pairs ≡ None) ⊎ (value_of (codes "avro.codec") pairs ≡ Some (codes "null"))
plain_back pairs d (inl none) = inl (lacks_none (codes "avro.codec") pairs none)
plain_back pairs d (inr null) = inr (has_some (codes "avro.codec") (codes "null") pairs d null)

schema_found : (pairs : List MetaPair) (schema : schemas.Schema) → schema_by pairs ≡ Ok schema → IsUncompressed pairs × HasWrittenSchema pairs schema
unfolding schema_by
schema_found pairs schema e =
    let t = bind_ok (schema_text (value_of (codes "avro.schema") pairs)) (λ text. plain_data (value_of (codes "avro.codec") pairs) (schema_in (schema_from text))) schema e in
    let p = plain_found (value_of (codes "avro.codec") pairs) (schema_in (schema_from t.0)) schema t.2 in
    (plain_to pairs p.0, (t.0, some_has (codes "avro.schema") t.0 pairs (text_found (value_of (codes "avro.schema") pairs) t.0 t.1), read_found (schema_from t.0) schema p.1))

schema_only : (pairs : List MetaPair) (schema : schemas.Schema) → Distinct pairs → IsUncompressed pairs → HasWrittenSchema pairs schema → schema_by pairs ≡ Ok schema
unfolding schema_by
schema_only pairs schema d plain (text, is, reads) =
    ap (λ (found : Option (List ℕ)). schema_text found >>= λ text. plain_data (value_of (codes "avro.codec") pairs) (schema_in (schema_from text))) (has_some (codes "avro.schema") text pairs d is)
    ∙ plain_only (value_of (codes "avro.codec") pairs) (schema_in (schema_from text)) (plain_back pairs d plain) ∙ ap schema_in reads

-- ---- the header

abbrev head : schemas.Schema → List MetaPair → List ℕ → Header
head schema meta sync = record { schema = schema; meta = meta; sync = sync }

abbrev after_pairs : ℕ → List MetaPair × List ℕ → Result (Header × List ℕ) ContainerFault
after_pairs whole pairs = as_fault (head_fault whole) (front_at 16 pairs.1) >>= λ sync. schema_by pairs.0 >>= λ schema. Ok (head schema (others pairs.0) sync.0, sync.1)

header_again : (whole : ℕ) (bytes : List ℕ) (pairs : List MetaPair) (synced sync rest : List ℕ) (schema : schemas.Schema)
    → map_at whole (length bytes) [] bytes ≡ Ok (pairs, synced) → front_at 16 synced ≡ Ok (sync, rest)
    → schema_by pairs ≡ Ok schema → header_from whole bytes ≡ Ok (head schema (others pairs) sync, rest)
unfolding header_from
header_again whole bytes pairs synced sync rest schema a b c =
    ap (λ r. r >>= after_pairs whole) a ∙ ap (λ r. as_fault (head_fault whole) r >>= λ s. schema_by pairs >>= λ t. Ok (head t (others pairs) s.0, s.1)) b ∙ ap (λ r. r >>= λ t. Ok (head t (others pairs) sync, rest)) c

magic_again : (bytes header : List ℕ) → bytes ≡ magic ++ header → header_of bytes ≡ header_from (length bytes) header
unfolding header_of
magic_again bytes header starts =
    let same : take 4 bytes ≡ magic = ap (λ (t : List ℕ). take 4 t) starts ∙ take_at magic header 4 refl in
    let rest : drop 4 bytes ≡ header = ap (λ (t : List ℕ). drop 4 t) starts ∙ drop_at magic header 4 refl in
    ap (λ b. cond b (header_from (length bytes) (drop 4 bytes)) (Err Magic)) ((bytes_eq-Decides (take 4 bytes) magic).1 same) ∙ ap (λ (t : List ℕ). header_from (length bytes) t) rest

tested_magic : (b : Bool) (bytes : List ℕ) (x : Header × List ℕ) → bytes_eq (take 4 bytes) magic ≡ b
    → cond b (header_from (length bytes) (drop 4 bytes)) (Err Magic) ≡ Ok x → (bytes ≡ magic ++ drop 4 bytes)
    × (header_from (length bytes) (drop 4 bytes) ≡ Ok x)
tested_magic true bytes x is e = (sym (take-append-drop 4 bytes) ∙ ap (λ (t : List ℕ). t ++ drop 4 bytes) ((bytes_eq-Decides (take 4 bytes) magic).0 is), e)
tested_magic false bytes x is e = absurd (err_no_ok Magic x e)

magic_found : (bytes : List ℕ) (x : Header × List ℕ) → header_of bytes ≡ Ok x → (bytes ≡ magic ++ drop 4 bytes)
    × (header_from (length bytes) (drop 4 bytes) ≡ Ok x)
unfolding header_of
magic_found bytes x e = tested_magic (bytes_eq (take 4 bytes) magic) bytes x refl e

-- ---- the file

abbrev pub file : schemas.Schema → List MetaPair → List datums.Datum → Container
file schema meta ds = record { schema = schema; meta = meta; datums = ds }

put_together : (bytes header : List ℕ) (pairs : List MetaPair) (synced : List ℕ) (schema : schemas.Schema) (sync blocks : List ℕ)
    (x : Header × List ℕ) (ds : List datums.Datum) → bytes ≡ magic ++ header → ReadsAll ReadsMetaPair header pairs synced
    → NewKeys [] pairs → IsUncompressed pairs → HasWrittenSchema pairs schema → length sync ≡ 16 → synced ≡ sync ++ blocks
    → (head schema (others pairs) sync, blocks) ≡ x → AreBlocks (shape x.0.schema) x.0.sync x.1 ds → ContainerOf bytes x.0.schema x.0.meta ds
put_together bytes header pairs synced schema sync blocks x ds starts metadata keys plain has sixteen parts same all =
    let is : AreBlocks (shape schema) sync blocks ds = subst (λ (y : Header × List ℕ). AreBlocks (shape y.0.schema) y.0.sync y.1 ds) (sym same) all in
    subst (λ (y : Header × List ℕ). ContainerOf bytes y.0.schema y.0.meta ds) same (record {
      header = header;
      pairs = pairs;
      sync = sync;
      blocks = blocks;
      starts = starts;
      metadata = subst (λ (t : List ℕ). ReadsAll ReadsMetaPair header pairs t) parts metadata;
      keys = new_distinct pairs keys;
      plain = plain;
      schema_text = has;
      others = are_others pairs;
      sixteen = sixteen;
      all = is;
    })

pub container_found : (bytes : List ℕ) (schema : schemas.Schema) (meta : List MetaPair) (ds : List datums.Datum)
    → container_of bytes ≡ Ok (file schema meta ds) → ContainerOf bytes schema meta ds
unfolding container_of header_from
container_found bytes schema meta ds e =
    let h = bind_ok (header_of bytes) (λ header. blocks_at (shape header.0.schema) header.0.sync (length bytes) (length header.1) 0 [] header.1 >>= λ xs. Ok (file header.0.schema header.0.meta xs)) (file schema meta ds) e in
    let d = bind_ok (blocks_at (shape h.0.0.schema) h.0.0.sync (length bytes) (length h.0.1) 0 [] h.0.1) (λ xs. Ok (file h.0.0.schema h.0.0.meta xs)) (file schema meta ds) h.2 in
    let m = magic_found bytes h.0 h.1 in
    let p = bind_ok (map_at (length bytes) (length (drop 4 bytes)) [] (drop 4 bytes)) (after_pairs (length bytes)) h.0 m.1 in
    let s = bind_part (head_fault (length bytes)) (front_at 16 p.0.1) (λ sync. schema_by p.0.0 >>= λ t. Ok (head t (others p.0.0) sync.0, sync.1)) h.0 p.2 in
    let t = bind_ok (schema_by p.0.0) (λ t. Ok (head t (others p.0.0) s.0.0, s.0.1)) h.0 s.2 in
    let read = meta_found (length bytes) (drop 4 bytes) p.0 p.1 in
    let front = (front_law 16 p.0.1).found s.0.0 s.0.1 s.1 in
    let blocks = all_found (shape h.0.0.schema) h.0.0.sync (length bytes) h.0.1 d.0 d.1 in
    let same_head : (head t.0 (others p.0.0) s.0.0, s.0.1) ≡ h.0 = same_ok (head t.0 (others p.0.0) s.0.0, s.0.1) h.0 t.2 in
    let same_file : file h.0.0.schema h.0.0.meta d.0 ≡ file schema meta ds = same_ok (file h.0.0.schema h.0.0.meta d.0) (file schema meta ds) d.2 in
    subst (λ (c : Container). ContainerOf bytes c.schema c.meta c.datums) same_file
    (put_together bytes (drop 4 bytes) p.0.0 p.0.1 t.0 s.0.0 s.0.1 h.0 d.0 m.0 read.0 read.1 (schema_found p.0.0 t.0 t.1).0 (schema_found p.0.0 t.0 t.1).1 front.0 front.1 same_head blocks)

pub container_only : (bytes : List ℕ) (schema : schemas.Schema) (meta : List MetaPair) (ds : List datums.Datum)
    → ContainerOf bytes schema meta ds → container_of bytes ≡ Ok (file schema meta ds)
unfolding container_of
container_only bytes schema meta ds c =
    let map_read = meta_only (length bytes) c.header c.pairs (c.sync ++ c.blocks) c.metadata (distinct_new c.pairs c.keys) in
    let sync_read = (front_law 16 (c.sync ++ c.blocks)).only c.sync c.blocks (c.sixteen, refl) in
    let schema_read = schema_only c.pairs schema c.keys c.plain c.schema_text in
    let header_read = magic_again bytes c.header c.starts ∙ header_again (length bytes) c.header c.pairs (c.sync ++ c.blocks) c.sync c.blocks schema map_read sync_read schema_read in
    let blocks_read = all_only (shape schema) c.sync (length bytes) c.blocks ds c.sixteen c.all in
    ap (λ r. r >>= λ header. blocks_at (shape header.0.schema) header.0.sync (length bytes) (length header.1) 0 [] header.1 >>= λ xs. Ok (file header.0.schema header.0.meta xs)) header_read
    ∙ ap (λ r. r >>= λ xs. Ok (file schema (others c.pairs) xs)) blocks_read ∙ ap (λ (ms : List MetaPair). ok (file schema ms ds)) (sym (only_others c.pairs meta c.others))
