-- From the law of a file to the clauses of a call.
use Rattle.std.proofs.Common.{◌≡◌, ◌≢◌, ℕ, List, Result, Ok, Err, refl, sym, ap, ◌∙◌}
use Rattle.std.specs.Prelude.{IfOk, MatchResult}
use Rattle.avro_binary.specs.declared.datum.Datum as datums
use Rattle.avro_binary.specs.declared.schema.Schema as schemas
use Rattle.avro_container.specs.declared.fault.ContainerFault.{ContainerFault}
use Rattle.avro_container.specs.declared.fault.ContainerFault.TheVariants.{Magic, Short, Meta, NoSchema, Codec, Schema, Count, Datum, Sync, Memory}
use Rattle.avro_container.specs.declared.pairs.MetaPair.{MetaPair}
use Rattle.avro_container.specs.declared.container.Container.{Container}
use Rattle.plain_types.specs.Answers.{Answers}
use Rattle.avro_container.specs.Container.{container_of}
use Rattle.avro_container.specs.Grammar.{ContainerOf}
use Rattle.avro_container.proofs.Binds.{same_ok, err_no_ok}
use Rattle.avro_container.proofs.FileLaws.{file, container_found, container_only}

-- a fault that is not another one
is_memory : (f : ContainerFault) → (f ≢ Memory → ⊥) → f ≡ Memory
is_memory Memory only = refl
is_memory Magic only = absurd (only (λ e. cc))
is_memory (Short place) only = absurd (only (λ e. cc))
is_memory (Meta place) only = absurd (only (λ e. cc))
is_memory NoSchema only = absurd (only (λ e. cc))
is_memory (Codec name) only = absurd (only (λ e. cc))
is_memory (Schema f) only = absurd (only (λ e. cc))
is_memory (Count block) only = absurd (only (λ e. cc))
is_memory (Datum block f) only = absurd (only (λ e. cc))
is_memory (Sync block) only = absurd (only (λ e. cc))

pub is_found : (bytes : List ℕ) (r : Result Container ContainerFault) → Answers Memory (λ x. x) r (container_of bytes)
    → IfOk r (λ c. ContainerOf bytes c.schema c.meta c.datums)
is_found bytes (Ok c) h = container_found bytes c.schema c.meta c.datums h
is_found bytes (Err f) h = tt

pub is_only : (bytes : List ℕ) (r : Result Container ContainerFault) → Answers Memory (λ x. x) r (container_of bytes)
    → (schema : schemas.Schema) (meta : List MetaPair) (ds : List datums.Datum) → ContainerOf bytes schema meta ds
    → MatchResult r (λ c. (c.schema ≡ schema) × (c.meta ≡ meta) × (c.datums ≡ ds)) (λ f. f ≡ Memory)
is_only bytes (Ok c) h schema meta ds is =
    let same : c ≡ file schema meta ds = same_ok c (file schema meta ds) (sym h ∙ container_only bytes schema meta ds is) in
    (ap (λ (x : Container). x.schema) same, ap (λ (x : Container). x.meta) same, ap (λ (x : Container). x.datums) same)
is_only bytes (Err f) h schema meta ds is = is_memory f (λ other. err_no_ok f (file schema meta ds) (sym (h other) ∙ container_only bytes schema meta ds is))
