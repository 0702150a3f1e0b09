use Rattle.std.proofs.Common.{sym, ap, ◌∙◌, arith}
use Rattle.std.proofs.Math.Seq.{drop-length}
use Rattle.std.specs.FinMap as finite
use Rattle.store_core.specs.Memory.{files_of}
use Rattle.store_core.specs.declared.memory_store.File.{File}
use Rattle.store_core.specs.Names.{with_name}
use Rattle.store_core.proofs.FilesLemmas.{keys-none, keys-drop}
use Rattle.store_core.proofs.names.names_of.Goals as goal

pub loop-left-init : goal.loop-left-init
loop-left-init c =
    let files = c.args.files.now in
    c.new-names.ensures.items ∙ sym (ap (λ rest. finite.keys (files_of rest)) (drop-length files) ∙ keys-none)

pub loop-left-preserved : goal.loop-left-preserved
loop-left-preserved c =
    let files = c.args.files.now in
    let file = c.index-files-left.result in
    c.in_ok-add_name.ensures ∙ ap (λ name. with_name name c.loop-left.names.items) c.as_str.ensures
    ∙ ap (λ (held : File). with_name held.name c.loop-left.names.items) (sym c.index-files-left.is)
    ∙ ap (with_name file.name) c.loop-left.invariant
    ∙ sym (keys-drop files c.loop-left.left file (omega arith) (omega arith) c.index-files-left.is)
