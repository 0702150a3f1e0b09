use Rattle.std.proofs.lemmas.Result.{IfOk-weaker}
use Rattle.metadata_writer.proofs.Texts.{metadata-written}
use Rattle.metadata_writer.proofs.writing.metadata_text.Goals as goal

pub returns-clause-reads_back : goal.returns-clause-reads_back
returns-clause-reads_back c =
    IfOk-weaker c.text.result _ _ (λ text back bytes is. metadata-written bytes text c.args.metadata.now is back) c.text.ensures.reads_back
