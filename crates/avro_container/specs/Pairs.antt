-- The metadata of a header: a map from text to bytes, whose keys are distinct (Avro 1.11.1, 'Object Container Files').
use Rattle.std.specs.Prelude.{ℕ, zero, suc, ◌-◌, Bool, List, [], ◌∷◌, ◌++◌, length, Option, Some, None, is_some, Result, Ok, Err, ◌==◌, ◌||◌, codes, if◌then◌else◌}
use Rattle.std.specs.Str.{bytes_eq}
use Rattle.plain_types.specs.Steps.{◌>>=◌}
use Rattle.avro_binary.specs.Number.{text_at, bytes_at, count_at}
use Rattle.avro_container.specs.declared.fault.ContainerFault.{ContainerFault}
use Rattle.avro_container.specs.declared.fault.ContainerFault.TheVariants.{Short, Meta}
use Rattle.avro_container.specs.declared.pairs.MetaPair.{MetaPair}
use Rattle.avro_container.specs.Answer.{as_fault, head_fault}

-- the value of a key
unfoldable pub value_of : List ℕ → List MetaPair → Option (List ℕ)
value_of key [] = None
value_of key (p ∷ ps) = if bytes_eq p.key key then Some p.value else value_of key ps

-- A key after the pairs before it, in a file of length `whole`. One that stood before is a fault where its length begins.
unfoldable pub key_at : ℕ → List MetaPair → List ℕ → Result (List ℕ × List ℕ) ContainerFault
key_at whole before bytes = do
  key ← as_fault (head_fault whole) (text_at bytes)
  if is_some (value_of key.0 before) then Err (Meta (whole - length bytes)) else Ok key

-- a key and its value
unfoldable pub pair_at : ℕ → List MetaPair → List ℕ → Result (MetaPair × List ℕ) ContainerFault
pair_at whole before bytes = do
  key ← key_at whole before bytes
  value ← as_fault (head_fault whole) (bytes_at key.1)
  Ok (record { key = key.0; value = value.0 }, value.1)

-- so many pairs after those before them
unfoldable pub pairs_at : ℕ → ℕ → List MetaPair → List ℕ → Result (List MetaPair × List ℕ) ContainerFault
pairs_at whole zero before bytes = Ok (before, bytes)
pairs_at whole (suc count) before bytes = pair_at whole before bytes >>= λ p. pairs_at whole count (before ++ p.0 ∷ []) p.1

-- blocks of pairs, of which the last has none; at most `more` blocks, which are all where that many bytes are left
unfoldable pub map_at : ℕ → ℕ → List MetaPair → List ℕ → Result (List MetaPair × List ℕ) ContainerFault
map_at whole zero before bytes = Err (Short whole)
map_at whole (suc more) before bytes = as_fault (head_fault whole) (count_at bytes) >>= λ count. if count.0 == 0 then Ok (before, count.1) else (pairs_at whole count.0 before count.1 >>= λ x. map_at whole more x.0 x.1)

-- the keys that a container itself has
abbrev pub is_own : MetaPair → Bool
is_own p = bytes_eq p.key (codes "avro.schema") || bytes_eq p.key (codes "avro.codec")

-- the pairs found so far, and this one if it isn't the container's own
abbrev pub kept : List MetaPair → MetaPair → List MetaPair
kept found p = if is_own p then found else found ++ p ∷ []

-- the other pairs, in order
unfoldable pub others : List MetaPair → List MetaPair
others [] = []
others (p ∷ ps) = if is_own p then others ps else p ∷ others ps
