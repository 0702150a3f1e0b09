-- Each datum of a container that is read is of its schema.
use Rattle.std.proofs.Common.{◌≡◌, ℕ, List, [], ◌∷◌, ◌++◌, Ok, sym, subst}
use Rattle.std.specs.List.{AllByRecursion}
use Rattle.avro_binary.proofs.CallerLemmas.{read_fits}
use Rattle.avro_binary.specs.declared.datum.Datum.{Datum}
use Rattle.avro_binary.specs.Grammar.{Reads, ReadsEach, joined}
use Rattle.avro_binary.specs.Shape.{Shape, shape}
use Rattle.avro_container.proofs.CallerLemmas.{container_found}
use Rattle.avro_container.specs.declared.container.Container.{Container}
use Rattle.avro_container.specs.Container.{container_of}
use Rattle.avro_container.specs.Grammar.{ReadsBlock}
use Rattle.manifest_writer.proofs.Fitting.{AreFitting, Fitting}

all_joined : (xs ys : List Datum) → AreFitting xs → AreFitting ys → AreFitting (xs ++ ys)
all_joined [] ys h k = k
all_joined (x ∷ xs) ys h k = (h.0, all_joined xs ys h.1 k)

each_fits : (s : Shape) (ds : List Datum) (bytes rest : List ℕ) → ReadsEach (Reads s) ds bytes rest → AreFitting ds
each_fits s [] bytes rest h = tt
each_fits s (d ∷ ds) bytes rest (after, read, more) = ((s, read_fits s bytes d after read), each_fits s ds after rest more)

blocks_fit : (s : Shape) (sync : List ℕ) (blocks : List (List Datum)) (bytes rest : List ℕ)
    → ReadsEach (λ from block after. ReadsBlock s sync from block after) blocks bytes rest → AreFitting (joined blocks)
blocks_fit s sync [] bytes rest h = tt
blocks_fit s sync (block ∷ blocks) bytes rest (after, read, more) = all_joined block (joined blocks) (each_fits s block read.stored [] read.all) (blocks_fit s sync blocks after rest more)

pub container_fits : (bytes : List ℕ) (c : Container) → container_of bytes ≡ Ok c → AreFitting c.datums
container_fits bytes c e =
    let h = container_found bytes c.schema c.meta c.datums e in
    subst AreFitting (sym h.all.2) (blocks_fit (shape c.schema) h.sync h.all.0 h.blocks [] h.all.1)
