use Rattle.std.proofs.Common.{rules}
use Rattle.store_core.proofs.FilesLemmas.{files_of-push}
use Rattle.store_core.proofs.memory_store.MemoryStore.add.Goals as goal

pub returns-clause-ok : goal.returns-clause-ok
returns-clause-ok c = search (rules, files_of-push)
