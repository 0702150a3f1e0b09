use Rattle.std.proofs.Common.{to_z-of_z}
use Rattle.std.proofs.lemmas.Result.{IfOk-weaker}
use Rattle.metadata_writer.proofs.CommitRead.{committed_json, committed_parts, committed_text}
use Rattle.metadata_writer.proofs.commit.text_with_snapshot.Goals as goal

pub returns-clause-json : goal.returns-clause-json
returns-clause-json c =
    IfOk-weaker c.text.result _ _ (λ text back bytes is. committed_json bytes text c.args.branch.now c.args.snapshot.now c.args.writer.now c.args.now_ms c.args.metadata.now _ (simp (to_z-of_z, c.ranges.now_ms) at c.in_ok-json.ensures) back is) c.text.ensures.reads_back

pub returns-clause-read : goal.returns-clause-read
returns-clause-read c =
    IfOk-weaker c.text.result _ _ (λ text back bytes is can. committed_parts bytes text c.args.branch.now c.args.snapshot.now c.args.writer.now c.args.now_ms c.args.metadata.now _ (simp (to_z-of_z, c.ranges.now_ms) at c.in_ok-json.ensures) back is can) c.text.ensures.reads_back

pub returns-clause-compact : goal.returns-clause-compact
returns-clause-compact c =
    IfOk-weaker c.text.result _ _ (λ text exact bytes is. committed_text bytes text c.args.branch.now c.args.snapshot.now c.args.writer.now c.args.now_ms c.args.metadata.now _ (simp (to_z-of_z, c.ranges.now_ms) at c.in_ok-json.ensures) exact is) c.text.ensures.exact
