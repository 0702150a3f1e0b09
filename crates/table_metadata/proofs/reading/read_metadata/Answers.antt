use Rattle.std.proofs.lemmas.Result.{IfOk-weaker}
use Rattle.plain_types.proofs.CallerLemmas.{ok_of}
use Rattle.serde_json.specs.View.{view}
use Rattle.table_metadata.specs.Metadata.{parts}
use Rattle.table_metadata.proofs.Coherence.{coherent_parts}
use Rattle.table_metadata.proofs.reading.read_metadata.Goals as goal

pub returns-clause-coherent : goal.returns-clause-coherent
returns-clause-coherent c =
    IfOk-weaker c.read_parts.result _ _ (λ m h. coherent_parts (view c.in_ok-json.json) (parts m) h) (ok_of _ _ c.read_parts.result _ c.read_parts.ensures.answers)
