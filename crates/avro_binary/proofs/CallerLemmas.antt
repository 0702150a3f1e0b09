-- What other crates cite of the proofs here, by topic.

-- Datums of every shape are read by their grammar.
pub use Rattle.avro_binary.proofs.DatumLaws.{blocks_law, datum_law, items_law}
-- What is read is of the schema.
pub use Rattle.avro_binary.proofs.FittingLaws.{read_fits}
-- JSON is read from its own text.
pub use Rattle.avro_binary.proofs.JsonTexts.{are_ascii, is_text}
-- That a reading function and a grammar agree, and that they go on agreeing as parts are put together.
pub use Rattle.avro_binary.proofs.Laws.{Law, bind_ok, done, err_no_ok, law_then, law_under, same_rest, same_value}
-- Lengths, indexes, bytes, texts, counts and blocks are read by their grammar.
pub use Rattle.avro_binary.proofs.PartLaws.{bytes_law, front_law, length_law, long_law, text_law}
-- A schema that was read is read again from its JSON, where named types stand again too: the writer begins the names that the
-- reader began, and a name stands again only where the reader found the finished type under it.
pub use Rattle.avro_binary.proofs.ReadAgain.{read_text_again}
-- The text of a schema is read as the schema.
pub use Rattle.avro_binary.proofs.SchemaTexts.{schema_read}
-- The groups of a number are a spelling of it, and none is shorter.
pub use Rattle.avro_binary.proofs.ShortestLaws.{groups_few}
-- The spelling of each kind of datum.
pub use Rattle.avro_binary.proofs.Spelled.{spells_boolean, spells_bytes, spells_fixed, spells_int, spells_long, spells_null, spells_record, spells_text, spells_union}
-- What is written is read again.
pub use Rattle.avro_binary.proofs.SpellingLaws.{ReadAgain, after_natural, block_again, both, bytes_again, datum_again, each_again, even, half, items_count, length_again, number_again, takes, text_again}
