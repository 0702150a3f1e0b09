use Rattle.table_names.proofs.Folders.{stands}
use Rattle.table_names.proofs.paths.folder_of.Goals as goal

-- src/head.rt:59:1
pub returns-in-None : goal.returns-in-None
returns-in-None c = stands c.args.location.now c.in-None.ensures.cases
