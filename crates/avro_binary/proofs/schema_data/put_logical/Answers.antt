use Rattle.avro_binary.proofs.schema_data.put_logical.Goals as goal

pub returns-in-Other : goal.returns-in-Other
returns-in-Other c = let a = c.as_slice.ensures in let b = c.put_name.ensures in let d = c.in-Other.is in rw (c.in-Other.is, ← c.as_slice.ensures) c.put_name.ensures
