-- The type names that Avro has itself (Avro 1.11.1, 'Schema Declaration'), float and double aside.
use Rattle.std.specs.Prelude.{ℕ, List, codes, if◌then◌else◌}
use Rattle.std.specs.Str.{bytes_eq}
use Rattle.avro_binary.specs.declared.word.Word as words
use Rattle.avro_binary.specs.declared.word.Word.TheVariants.{Null, Boolean, Int, Long, Bytes, Text, Record, Enum, Array, Map, Fixed, Name}

abbrev pub complex_word : List ℕ → words.Word
complex_word name = if bytes_eq name (codes "record") then Record else (if bytes_eq name (codes "enum") then Enum else (if bytes_eq name (codes "array") then Array else (if bytes_eq name (codes "map") then Map else (if bytes_eq name (codes "fixed") then Fixed else Name))))

abbrev pub word_of : List ℕ → words.Word
word_of name = if bytes_eq name (codes "null") then Null
    else (if bytes_eq name (codes "boolean") then Boolean
    else (if bytes_eq name (codes "int") then Int
    else (if bytes_eq name (codes "long") then Long
    else (if bytes_eq name (codes "bytes") then Bytes
    else (if bytes_eq name (codes "string") then Text
    else complex_word name)))))
