use Rattle.std.proofs.Common.{sym, ◌∙◌}
use Rattle.store_core.proofs.FilesLemmas.{get-files_of}
use Rattle.store_core.proofs.memory_store.find.Goals as goal

pub returns : goal.returns
returns c = c.first_named.ensures ∙ sym (get-files_of c.args.files.now c.args.name.now)
