use Rattle.std.proofs.Common.{◌≡◌, ℕ, length, rules, ap, ◌∙◌}
use Rattle.row_values.specs.declared.partition.Spec.{Spec}
use Rattle.commit_manifests.specs.Rows.{row_of}
use Rattle.table_names.specs.Paths.{folder_of}
use Rattle.commit_builder.specs.Commits.{next_name, row_in, text_in}
use Rattle.commit_manifests.specs.Drafts.{spec_in}
use Rattle.commit_builder.proofs.writing.manifest_of.Goals as goal

pub returns-clause-row : goal.returns-clause-row
unfolding row_in
returns-clause-row c =
    let size : c.len.result ≡ length c.in_ok-bytes.bytes.items = search rules in
    let spec_is : c.spec_or-spec.result.now ≡ spec_in c.args.head.now.metadata.specs c.args.draft.now.spec = search rules in
    c.in_ok-row.ensures
    ∙ ap (λ (n : ℕ). row_of (next_name (folder_of c.args.head.now.metadata.location) c.args.names.now) n c.spec_or-spec.result.now c.args.draft.now.content c.args.numbers c.args.draft.now.entries) (size ∙ ap length c.in_ok-bytes.ensures.text)
    ∙ ap (λ (s : Spec). row_of (next_name (folder_of c.args.head.now.metadata.location) c.args.names.now) (length (text_in c.args.head.now c.args.schema.now c.args.draft.now)) s c.args.draft.now.content c.args.numbers c.args.draft.now.entries) spec_is
