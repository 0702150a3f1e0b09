use Rattle.metadata_writer.specs.Commit.{number_keys}
use Rattle.metadata_writer.proofs.commit.number_keys.Goals as goal

pub returns : goal.returns
unfolding number_keys
returns c = let h = c.with_number-3.ensures in rw (c.in_ok-json-2.ensures, c.in_ok-json.ensures, c.empty_object.ensures) at h
