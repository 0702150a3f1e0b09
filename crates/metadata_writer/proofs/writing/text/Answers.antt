use Rattle.serde_json.specs.View.{view}
use Rattle.metadata_writer.proofs.Texts.{json_of-written}
use Rattle.metadata_writer.proofs.writing.text.Goals as goal

pub returns-clause-reads_back : goal.returns-clause-reads_back
returns-clause-reads_back c = λ w.
    rw c.from_vec.ensures (json_of-written _ (view c.args.json.now) c.in_ok-to_vec.ensures.utf8 w (c.in_ok-to_vec.ensures.reads_back w.nests))
